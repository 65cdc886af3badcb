use Rattle.std.proofs.Common.{ap, sym, subst, ◌∙◌, ◌<◌, ◌∷◌, None}
use Rattle.atomic_table.specs.Table.{rest}
use Rattle.seat_pool.specs.Places.{Belongs}
use Rattle.seat_pool.proofs.Kept.{filled, gives_at}
use Rattle.seat_pool.proofs.pools.Store.give_back.Goals as goal

pub exchange-requires : goal.exchange-requires
exchange-requires g c =
    let is = ap (λ m. m.1) c.args.held.taken in
    (c.requires.table, (None, is ∙ sym (ap (λ xs. (c.args.held.place, None) ∷ rest xs) is)))

pub store-requires : goal.store-requires
store-requires g c =
    let store = c.args.self.now in let held = c.args.held in let same = c.requires.home ∙ sym store.keyed in (
      c.exchange.ensures.0 ∙ c.requires.table,
      c.requires.here,
      gives_at g.C.Carrier.is_seat g.C.Carrier.permits g.C.Carrier.known store.table.shared.key store.table.shared.table_id.slots c.exchange.new.seat.id held.place
          (subst (λ n. held.place < n) store.sized c.requires.here) held.part c.number.result c.number.ensures held.seat
          (subst (λ h. ∥ Belongs g.C.Carrier.is_seat g.C.Carrier.permits g.C.Carrier.known h held.place held.part held.seat ∥₁) same held.belongs) c.exchange.new.seat.me
          (filled g.C.Carrier.is_seat g.C.Carrier.permits g.C.Carrier.known store.table.shared.key held.home.value same held.place held.seat held.token.me
          c.exchange.new.seat.me held.taken c.exchange.ensures.3),
    )
