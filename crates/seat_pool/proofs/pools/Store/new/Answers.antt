use Rattle.std.proofs.Common.{map, Some, ap, sym, subst, ◌∙◌}
use Rattle.std.specs.List.{All}
use Rattle.seat_pool.specs.Words.{AreWords}
use Rattle.seat_pool.proofs.Kept.{starts_at}
use Rattle.seat_pool.proofs.pools.Store.new.Goals as goal

pub new-requires : goal.new-requires
new-requires g c =
    let permits = g.C.Carrier.permits c.args.queue in
    starts_at g.C.Carrier.is_seat g.C.Carrier.permits g.C.Carrier.known (record { queue = c.args.queue; first = c.of.result }) c.deref-2.result.now c.in_ok-slots.slots.items
    (c.in_ok-slots.ensures.seats ∙ ap (λ v. map Some v.items) (sym c.of.ensures))
    (subst (λ v. All (g.C.Carrier.is_seat c.args.queue) v.items) (sym c.of.ensures) c.requires)
    (subst (λ ws. AreWords permits (map (λ s. (g.C.Carrier.known s).number) c.of.result.value.items) ws) (sym c.deref-2.ensures.value)
    (subst (λ ss. AreWords permits (map (λ s. (g.C.Carrier.known s).number) ss) c.in_ok-words.words.items) (c.deref.ensures.value ∙ ap (λ v. v.items) (sym c.of.ensures)) c.in_ok-words.ensures.words))
