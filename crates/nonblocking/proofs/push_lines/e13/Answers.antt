use Rattle.std.proofs.Common.{◌^◌, ◌<◌, ap, sym, subst, lit≤, arith}
use Rattle.counted_ref.specs.Ref.{reserved_node, count_bits}
use Rattle.node_arena.specs.Machine.{Setup}
use Rattle.nonblocking.specs.Pushes.{Running}
use Rattle.nonblocking.proofs.PushSteps.{room_e13, next_e13}
use Rattle.nonblocking.proofs.push_lines.e13.Goals as goal

pub line_table-raised-requires : goal.line_table-raised-requires
line_table-raised-requires g c =
    let from = ap (λ (x : Running). x.tail.count) c.a.view_is in
    let to = ap (λ (x : Running). x.next.node) c.a.view_is in (
      lit≤ tt,
      (
        c.setup-setup.ensures.split,
        (
          c.setup-setup.ensures.bits,
          (
            subst (λ (z : Setup). c.line_table-node.result < reserved_node z.bits) (sym c.setup-setup.ensures.value)
                (omega (arith, to, c.line_table-node.ensures.value, next_e13 c.args.arena.now c.args.seat.now c.args.a c.requires.stands)),
            (
              omega (arith, from, room_e13 c.args.arena.now c.args.seat.now c.args.a c.setup-setup.result c.setup-setup.ensures.value c.requires.stands),
              subst (λ (z : Setup). z.limit < 2 ^ count_bits z.bits) (sym c.setup-setup.ensures.value) c.requires.stands.before.seat.arena.sized.counted,
            ),
          ),
        ),
      ),
    )
