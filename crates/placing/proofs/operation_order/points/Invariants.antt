use Rattle.placing.proofs.Putting.{IsPut}
use Rattle.placing.proofs.operation_order.points.Given as goal

abbrev pub invariant-loop-before : goal.invariant-loop-before
invariant-loop-before l =
    IsPut l.history l.spread.numbers.items l.spread.width l.lined l.before l.begun l.points.items
