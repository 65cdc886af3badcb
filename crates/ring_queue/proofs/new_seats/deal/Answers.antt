use Rattle.std.proofs.Common.{length, ap, ◌∙◌, arith}
use Rattle.node_arena.specs.Beside.{slots_in}
use Rattle.ring_queue.specs.Plans.{Layout}
use Rattle.ring_queue.specs.Knowledge.{dealt_left, dealt_right}
use Rattle.ring_queue.proofs.Tokens.{deals_at, dealt}
use Rattle.ring_queue.proofs.new_seats.deal.Goals as goal

pub split_seat-token-requires : goal.split_seat-token-requires
split_seat-token-requires g c =
    let words = c.requires.table.words in
    let k = c.requires.keeper in
    (k.table, omega (arith, words), deals_at c.args.plan.now _ _ c.args.number c.args.keeper.now.me c.requires.table.key k.seat)

pub returns-clause-seat : goal.returns-clause-seat
returns-clause-seat g c =
    let e = c.split_seat-token.ensures in
    dealt c.args.plan.now _ c.args.number c.args.role c.split_seat-token.result _ _ c.requires.table.planned
    (ap (λ (z : Layout). z.slots) c.plan.view_is) c.requires.number c.requires.role (e.3 ∙ c.requires.keeper.table)
    (ap (λ y. y.0.plain) e.4 ∙ ap dealt_right c.requires.keeper.seat) (ap (λ y. y.0.deeds) e.4) (ap (λ y. length y.1) e.4, ap (λ y. slots_in y.0.hand) e.4)
    (let n = c.from.ensures in omega (arith, n)) (ap (λ y. y.0.placing.deeds) e.4)

pub returns-clause-keeper : goal.returns-clause-keeper
returns-clause-keeper g c =
    let e = c.split_seat-token.ensures in
    record { table = e.0 ∙ c.requires.keeper.table; seat = ap (λ y. y.0.plain) e.2 ∙ ap dealt_left c.requires.keeper.seat; held = ap (λ y. y.1) e.2 ∙ c.requires.keeper.held }
