use Rattle.std.proofs.Common.{map, ap, sym, subst, ◌∙◌}
use Rattle.std.specs.List.{All}
use mathlib.Core.List.{map-map}
use Rattle.seat_pool.specs.Pools.{IsFrom}
use Rattle.seat_pool.proofs.Kept.{all_sit}
use Rattle.seat_pool.proofs.pools.SeatPool.parts_by.Goals as goal

pub give_all_back-requires-after_bounds : goal.give_all_back-requires-after_bounds
give_all_back-requires-after_bounds g c κs within = subst (λ s. All (IsFrom s) c.args.all.items) (sym (c.deref.ensures ∙ ap (λ s. s.value) c.in-Err.ensures.err)) c.requires.from

pub returns-in-Ok-clause-seats : goal.returns-in-Ok-clause-seats
returns-in-Ok-clause-seats g c = subst (λ q. All (g.C.Carrier.is_seat q) c.bare-seats.result.items) (sym (c.into_queue.ensures ∙ ap (λ s. s.home.queue) c.in-Ok.ensures.ok))
    (subst (All (g.C.Carrier.is_seat c.args.self.store.value.home.queue)) (sym c.bare-seats.ensures) (all_sit g.met.C.Carrier.seat_prop c.args.self.store.value c.args.all.items c.requires.from))

pub returns-in-Ok-clause-numbers : goal.returns-in-Ok-clause-numbers
returns-in-Ok-clause-numbers g c = ap (map (λ s. (g.C.Carrier.known s).number)) c.bare-seats.ensures
    ∙ map-map (λ s. (g.C.Carrier.known s).number) (λ h. h.seat) c.args.all.items ∙ c.requires.numbers
