use Rattle.std.proofs.Common.{ap, sym, subst, ◌∙◌, ◌<◌, ◌∷◌, Some}
use Rattle.atomic_table.specs.Table.{rest}
use Rattle.seat_pool.proofs.Kept.{enters, takes_at}
use Rattle.seat_pool.proofs.pools.Store.take_at.Goals as goal

pub load_new_seat-token-requires : goal.load_new_seat-token-requires
load_new_seat-token-requires g c = (
  c.requires,
  enters g.C.Carrier.is_seat g.C.Carrier.permits g.C.Carrier.known c.args.self.now.table.shared.key c.args.self.now.table.shared.table_id.slots c.args.place,
)

pub compare_exchange-requires : goal.compare_exchange-requires
compare_exchange-requires g c = (
  c.load_new_seat-token.ensures.0,
  c.requires,
  takes_at g.C.Carrier.is_seat g.C.Carrier.permits g.C.Carrier.known c.args.self.now.table.shared.key c.args.self.now.table.shared.table_id.slots c.load_new_seat-token.result.1.id c.args.place
      (subst (λ n. c.args.place < n) c.args.self.now.sized c.requires) c.args.part c.number-number.result c.number-number.ensures c.load_new_seat-token.result.1.me c.load_new_seat-token.ensures.2,
)

pub exchange-requires : goal.exchange-requires
exchange-requires g c =
    let got = c.compare_exchange.ensures.2 c.args.part c.number-number.ensures c.if-compare_exchange-number.false c.load_new_seat-token.ensures.1 in
    let is = ap (λ m. m.1) got.1 in
    (c.compare_exchange.ensures.0 ∙ c.load_new_seat-token.ensures.0, (Some got.0, is ∙ sym (ap (λ xs. (c.args.place, Some got.0) ∷ rest xs) is)))
