use Rattle.std.proofs.Common.{◌^◌, ◌<◌, ap, sym, subst, lit≤, arith}
use Rattle.counted_ref.specs.Ref.{reserved_node, count_bits}
use Rattle.node_arena.specs.Machine.{Setup}
use Rattle.free_list.specs.Registers.{Running}
use Rattle.free_list.proofs.Steps.{room_f3, node_f3}
use Rattle.free_list.proofs.gives.f3.Goals as goal

pub line_table-raised-requires : goal.line_table-raised-requires
line_table-raised-requires g c =
    let z = c.setup-setup.ensures in
    let node = ap (λ (x : Running). x.node) c.a.view_is in
    let top = ap (λ (x : Running). x.top.count) c.a.view_is in
    let to = subst (λ (x : Setup). c.a.inside.node < reserved_node x.bits) (sym z.value) (omega (arith, node, node_f3 c.args.arena.now c.args.seat.now c.args.a c.requires.stands)) in
    let room : c.a.inside.top.count < c.setup-setup.result.limit = omega (arith, top, room_f3 c.args.arena.now c.args.seat.now c.args.a c.setup-setup.result z.value c.requires.stands) in
    let limit = subst (λ (x : Setup). x.limit < 2 ^ count_bits x.bits) (sym z.value) c.requires.stands.before.seat.arena.sized.counted in
    (lit≤ tt, (z.split, (z.bits, (to, (room, limit)))))
