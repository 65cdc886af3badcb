use Rattle.std.proofs.Common.{◌≡◌}
use Rattle.schedule_text.proofs.Parts.{schedule_text_parts}
use Rattle.schedule_text.proofs.printers.print.Goals as goal

pub returns : goal.returns
returns g c =
    let items : c.deref.result.now ≡ c.args.schedule.now.events = cc in
    rw (schedule_text_parts c.args.schedule.now) (rw (c.header_lines.ensures, items) at c.print_lines.ensures)
