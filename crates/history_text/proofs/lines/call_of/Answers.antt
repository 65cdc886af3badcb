use Rattle.std.proofs.Common.{rules}
use Rattle.history.specs.declared.operations.Op.TheVariants.{Enq}
use Rattle.history_text.proofs.lines.call_of.Goals as goal

pub returns : goal.returns
returns c =
    let found = c.in_ok-body.ensures in
    (Enq found.0, search rules, c.enqueue.ensures found.0 found.2)
