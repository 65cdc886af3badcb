use Rattle.std.proofs.Common.{◌≡◌, map}
use Rattle.history.specs.Queue.{empty}
use Rattle.history.specs.History as rule
use Rattle.history.specs.Tables.{listed, queue_of}
use Rattle.history.proofs.checks.first_wrong.Given as goal

abbrev pub invariant-loop-operation : goal.invariant-loop-operation
invariant-loop-operation l =
    (goal.iterator-loop-operation).can_next l.operation-iterator ×
    (goal.iterator-loop-operation).is_finite l.operation-iterator ×
    (rule.first_wrong empty (listed l.places) ≡
    rule.first_wrong (queue_of l.queue) (map (λ o. o.now) l.operation-iterator))
