-- What a sort by first numbers says.
use Rattle.std.proofs.Common.{rules}
use Rattle.std.proofs.lemmas.List.Sorted.{IsNonDecreasingBy-from_sort_by_key}
use Rattle.history.specs.declared.operations.Stamped.{Stamped}
use Rattle.waiting_orders.proofs.boards.by_first.Goals as goal

pub returns-in-Ok-clause-rising : goal.returns-in-Ok-clause-rising
returns-in-Ok-clause-rising c = IsNonDecreasingBy-from_sort_by_key (λ (o : Stamped). o.first) _ c.in-Ok.ensures.sorted (λ a r q k. search rules)
