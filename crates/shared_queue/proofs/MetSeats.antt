-- A taker that met a giver got what it took of it in order.
use Rattle.std.proofs.Common.{◌≡◌, ◌∙◌, ap, subst, List}
use mathlib.Core.List.{Sublist}
use Rattle.history.specs.Seats.{Permit}
use Rattle.carriers.specs.Deeds.{own_deeds}
use Rattle.carriers.specs.Knowledge.{KnownOf, IsSoundOf}
use Rattle.carriers.specs.Deliveries.{sent, taken_of}
use Rattle.carriers.proofs.Delivering.{taken-in_order}

-- by what both know, which is sound, and of one history
pub met_in_order : {A : Type 0} (permits : List Permit) (giver taker : KnownOf A) → IsSoundOf permits giver → IsSoundOf permits taker
    → giver.seen ≡ taker.seen → Sublist (taken_of giver.number taker.mine) (sent giver.mine)
met_in_order permits giver taker gave took same =
    subst (λ es. Sublist (taken_of giver.number es) (sent giver.mine)) (ap (own_deeds taker.number) same ∙ took.own)
    (subst (λ es. Sublist (taken_of giver.number (own_deeds taker.number giver.seen)) (sent es)) gave.own (taken-in_order giver.seen gave.run giver.number taker.number))
