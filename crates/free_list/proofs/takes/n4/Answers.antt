use Rattle.std.proofs.Common.{◌^◌, ◌<◌, ap, sym, subst, lit≤, arith}
use Rattle.counted_ref.specs.Ref.{count_bits}
use Rattle.node_arena.specs.Machine.{Setup}
use Rattle.free_list.specs.Registers.{Running}
use Rattle.free_list.proofs.Steps.{room_n4}
use Rattle.free_list.proofs.takes.n4.Goals as goal

pub line_table-raised_unless_shut-requires : goal.line_table-raised_unless_shut-requires
line_table-raised_unless_shut-requires g c =
    let z = c.setup-setup.ensures in
    let top = ap (λ (x : Running). x.top.count) c.a.view_is in
    let to = subst (λ b. c.line_table-node.result < 2 ^ b) (sym z.bits) c.line_table-node.ensures.range in
    let room : c.a.inside.top.count < c.setup-setup.result.limit = omega (arith, top, room_n4 c.args.arena.now c.args.seat.now c.args.a c.setup-setup.result z.value c.requires.stands) in
    let limit = subst (λ (x : Setup). x.limit < 2 ^ count_bits x.bits) (sym z.value) c.requires.stands.before.seat.arena.sized.counted in
    (lit≤ tt, (z.split, (z.bits, (to, (room, limit)))))
