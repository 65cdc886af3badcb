use Rattle.std.proofs.Common.{reverse, take}
use Rattle.waiting_orders.specs.Nodes.{AreCalls, state_of, view}
use Rattle.waiting_orders.specs.Orders.{AreWent}
use Rattle.waiting_orders.specs.Walked.{IsFrom}
use Rattle.waiting_orders.proofs.walks.walk_to.Given as goal

abbrev pub invariant-loop-below : goal.invariant-loop-below
invariant-loop-below l =
    IsFrom l.board (take l.below l.done) l.to × (AreCalls l.board → AreWent (reverse l.walk.items) (state_of l.board (view l.to)) (state_of l.board (view l.end)))

abbrev pub decreases-loop-below : goal.decreases-loop-below
decreases-loop-below l = l.below
