use Rattle.std.proofs.Common.{refl}
use Rattle.history.specs.declared.operations.Op.TheVariants.{Enq}
use Rattle.schedule_text.proofs.events.enqueue_in.Goals as goal

pub returns : goal.returns
returns c =
    let n = c.in_ok-number.ensures in
    λ v. (Enq n.0, (tt, rw (n.1, c.in_ok-expect_end.ensures.ok) refl), c.enqueue_of.ensures n.0 n.2)
