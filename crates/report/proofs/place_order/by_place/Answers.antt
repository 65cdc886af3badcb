use Rattle.std.proofs.Common.{◌≡◌, rules}
use Rattle.std.proofs.lemmas.Fn.{always_returns_same}
use Rattle.std.proofs.lemmas.List.Sorted.{IsNonDecreasingBy-from_sort_by_key}
use Rattle.report.proofs.ByPlace.{sorted_rising}
use Rattle.report.proofs.place_order.by_place.Goals as goal

pub returns-in-Ok-clause-ok : goal.returns-in-Ok-clause-ok
returns-in-Ok-clause-ok c =
    sorted_rising c.args.history.now _ _ c.in_ok-placed.ensures.ok
    (IsNonDecreasingBy-from_sort_by_key (λ e. e.0) _ c.in-Ok.ensures.sorted (λ a r q k. search rules))
    (c.in-Ok.ensures.stable (λ e. e.0) (always_returns_same _ (λ a r. r ≡ a.0.now.0) _ (λ a r q k. search rules)))
