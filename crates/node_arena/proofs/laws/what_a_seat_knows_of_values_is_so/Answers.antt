use Rattle.std.proofs.Common.{Bool, subst}
use Rattle.node_arena.specs.Beside.{KnowsBy}
use Rattle.node_arena.specs.Seats.{view}
use Rattle.node_arena.proofs.laws.what_a_seat_knows_of_values_is_so.Goals as goal

pub returns : goal.returns
returns g c r s is carries = subst (λ (b : Bool). ∥ KnowsBy b r.plan (view s).seen s.token.me.0 ∥₁) carries is.sits.valued
