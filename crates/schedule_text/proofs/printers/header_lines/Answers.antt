use Rattle.std.proofs.Common.{◌≡◌, length, ap, ◌∙◌}
use Rattle.schedule_text.specs.Texts.{header_text}
use Rattle.schedule_text.proofs.Parts.{header_text_parts}
use Rattle.schedule_text.proofs.printers.header_lines.Goals as goal

pub returns : goal.returns
returns c =
    let count : c.len.result ≡ length c.schedule.inside.events.items = search in
    (rw (c.push_bits.ensures.text, c.push_opening.ensures.text, c.new-lines.ensures) at c.push_sizes.ensures)
    ∙ header_text_parts _ _ count ∙ ap header_text c.schedule.view_is
