-- The number is lowered by the next one.
use Rattle.std.proofs.Common.{◌+◌, take, sym, subst}
use Rattle.std.specs.List.{AllByRecursion}
use Rattle.waiting_orders.specs.Alone.{BeginsLater}
use Rattle.waiting_orders.proofs.GoingAlone.{first_next}
use Rattle.waiting_orders.proofs.alone.first_empty.Goals as goal

pub loop-at-preserved : goal.loop-at-preserved
loop-at-preserved c =
    subst (λ first. AllByRecursion (BeginsLater first) (take (c.loop-at.at + 1) c.args.ways.now)) (sym c.first_of-first.ensures) (first_next c.loop-at.first c.loop-at.at c.args.ways.now c.loop-at.invariant)
