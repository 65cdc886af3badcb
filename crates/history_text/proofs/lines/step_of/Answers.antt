use Rattle.std.proofs.Common.{rules, Some}
use Rattle.history_text.proofs.lines.step_of.Goals as goal

pub returns : goal.returns
returns c =
    let found = c.in_ok-number_in.ensures in
    (Some found.0, search rules, c.taken_step.ensures found.0 found.2)
