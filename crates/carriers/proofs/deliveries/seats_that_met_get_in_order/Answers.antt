-- What each of them knows is sound.
use Rattle.std.proofs.Common.{◌∙◌, ap, subst}
use mathlib.Core.List.{Sublist}
use Rattle.carriers.specs.Deeds.{own_deeds}
use Rattle.carriers.specs.Deliveries.{sent, taken_of}
use Rattle.carriers.proofs.Delivering.{taken-in_order}
use Rattle.carriers.proofs.deliveries.seats_that_met_get_in_order.Goals as goal

pub returns : goal.returns
returns g c =
    λ queue giver taker one other same.
    let k = g.C.Carrier.known giver in
    let t = g.C.Carrier.known taker in
    let gave = g.met.C.Carrier.sound queue giver one in
    let took = g.met.C.Carrier.sound queue taker other in
    subst (λ es. Sublist (taken_of k.number es) (sent k.mine)) (ap (own_deeds t.number) same ∙ took.own)
    (subst (λ es. Sublist (taken_of k.number (own_deeds t.number k.seen)) (sent es)) gave.own (taken-in_order k.seen gave.run k.number t.number))
