use Rattle.std.proofs.Common.{◌-◌, ◌<◌, length, ap, ◌∙◌, arith}
use Rattle.std.proofs.lemmas.Option.{slice_get_within}
use Rattle.node_arena.specs.Knowledge.{dealt_left, dealt_right}
use Rattle.node_arena.specs.Beside.{slots_in}
use Rattle.node_arena.proofs.Deals.{deals_at, dealt}
use Rattle.node_arena.proofs.new_seats.deal.Goals as goal

pub split_seat-token-requires : goal.split_seat-token-requires
split_seat-token-requires g c =
    let t = c.requires.table in
    let k = c.requires.keeper in
    let within : c.args.number - 1 < length c.args.plan.now.roles = slice_get_within c.args.plan.now.roles (c.args.number - 1) c.args.role c.requires.role in
    let from_one = c.requires.number in
    (k.table, (let w = t.words in omega arith), deals_at c.args.plan.now _ _ c.args.number c.args.keeper.now.me t.key k.seat (omega arith))

pub returns-clause-seat : goal.returns-clause-seat
returns-clause-seat g c =
    let e = c.split_seat-token.ensures in
    let within : c.args.number - 1 < length c.args.plan.now.roles = slice_get_within c.args.plan.now.roles (c.args.number - 1) c.args.role c.requires.role in
    let from_one = c.requires.number in
    dealt c.args.plan.now _ c.args.number c.args.role c.split_seat-token.result c.requires.table.sized c.requires.number (omega arith) c.requires.role (e.3 ∙ c.requires.keeper.table)
    (ap (λ y. y.0.plain) e.4 ∙ ap dealt_right c.requires.keeper.seat) (ap (λ y. length y.1) e.4, ap (λ y. slots_in y.0.hand) e.4) (ap (λ y. y.0.deeds) e.4)

pub returns-clause-keeper : goal.returns-clause-keeper
returns-clause-keeper g c =
    let e = c.split_seat-token.ensures in
    record { table = e.0 ∙ c.requires.keeper.table; seat = ap (λ y. y.0.plain) e.2 ∙ ap dealt_left c.requires.keeper.seat; held = ap (λ y. y.1) e.2 ∙ c.requires.keeper.held }
