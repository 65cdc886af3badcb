-- What was sent through a queue of values that was closed.
use Rattle.std.specs.Prelude.{◌≡◌, List, ◌++◌}
use Rattle.std.specs.List.{All}
use mathlib.Core.List.{Sublist}
use Rattle.carriers.specs.declared.items.ItemOf.{ItemOf}
use Rattle.carriers.specs.Knowledge.{KnownOf}
use Rattle.carriers.specs.Deliveries.{sent, taken_of, values_of}

-- what a giver pushed is what was taken of it by all together, and then what is left of it; what each taker took of it is, in
-- order, a subsequence of what all took
pub record DeliversOf {A : Type 0} (giver : KnownOf A) (takers : List (KnownOf A)) (left : List (ItemOf A)) : Type 0 where
  pub taken : List A
  pub split : sent giver.mine ≡ taken ++ values_of giver.number left
  pub each : All (λ taker. Sublist (taken_of giver.number taker.mine) taken) takers
