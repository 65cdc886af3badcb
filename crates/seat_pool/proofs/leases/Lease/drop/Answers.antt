use Rattle.std.proofs.Common.{ap, sym, subst, ◌∙◌, ◌<◌, ◌∷◌, None}
use Rattle.atomic_table.specs.Table.{rest}
use Rattle.seat_pool.specs.Places.{Belongs}
use Rattle.seat_pool.proofs.Kept.{filled, gives_at}
use Rattle.seat_pool.proofs.leases.Lease.drop.Goals as goal

pub exchange-requires : goal.exchange-requires
exchange-requires g c =
    let is = ap (λ m. m.1) c.args.self.held.taken in
    (c.args.self.table ∙ ap (λ s. s.table.shared.table_id) (sym c.deref.ensures), (None, is ∙ sym (ap (λ xs. (c.args.self.held.place, None) ∷ rest xs) is)))

pub store-requires : goal.store-requires
store-requires g c =
    let store = c.deref.result.now in let held = c.args.self.held in
    let from = sym c.deref.ensures in let same = c.args.self.home ∙ ap (λ s. s.home) from ∙ sym store.keyed in
    let here = subst (λ s. held.place < s.table.shared.table_id.words) from c.args.self.here in (
      c.exchange.ensures.0 ∙ c.args.self.table ∙ ap (λ s. s.table.shared.table_id) from,
      here,
      gives_at g.C.Carrier.is_seat g.C.Carrier.permits g.C.Carrier.known store.table.shared.key store.table.shared.table_id.slots c.exchange.new.seat.id held.place
          (subst (λ n. held.place < n) store.sized here) held.part c.number.result c.number.ensures held.seat
          (subst (λ h. ∥ Belongs g.C.Carrier.is_seat g.C.Carrier.permits g.C.Carrier.known h held.place held.part held.seat ∥₁) same held.belongs) c.exchange.new.seat.me
          (filled g.C.Carrier.is_seat g.C.Carrier.permits g.C.Carrier.known store.table.shared.key held.home.value same held.place held.seat held.token.me
          c.exchange.new.seat.me held.taken c.exchange.ensures.3),
    )
