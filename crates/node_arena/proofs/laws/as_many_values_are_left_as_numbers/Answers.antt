use Rattle.std.proofs.Common.{Bool, subst}
use Rattle.std.proofs.Math.Logic.{∥∥₁_map}
use Rattle.node_arena.specs.Beside.{KnowsValues, KnowsBy}
use Rattle.node_arena.specs.Seats.{deeds_of, view}
use Rattle.node_arena.proofs.AsMany.{as_many, left_no_value}
use Rattle.node_arena.proofs.laws.as_many_values_are_left_as_numbers.Goals as goal

pub returns-clause-left : goal.returns-clause-left
returns-clause-left g c = as_many

pub returns-clause-empty : goal.returns-clause-empty
returns-clause-empty g c r s es shut is carries p h =
    ∥∥₁_map (subst (λ (b : Bool). ∥ KnowsBy b r.plan (view s).seen s.token.me.0 ∥₁) carries is.sits.valued)
    (λ (k : KnowsValues r.plan (view s).seen s.token.me.0). left_no_value (deeds_of s) (view s).seen es shut k.values k.shut k.matches k.runs p h)
