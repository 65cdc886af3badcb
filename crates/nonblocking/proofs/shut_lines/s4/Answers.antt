use Rattle.std.proofs.Common.{◌^◌, ◌<◌, ap, sym, subst, lit≤, arith}
use Rattle.counted_ref.specs.Ref.{count_bits}
use Rattle.node_arena.specs.Machine.{Setup}
use Rattle.nonblocking.specs.Shuts.{Running}
use Rattle.nonblocking.proofs.ShutSteps.{room_s4}
use Rattle.nonblocking.proofs.shut_lines.s4.Goals as goal

pub line_table-raised_end-requires : goal.line_table-raised_end-requires
line_table-raised_end-requires g c =
    let from = ap (λ (x : Running). x.next.count) c.a.view_is in (
      lit≤ tt,
      (
        c.setup-setup.ensures.split,
        (
          c.setup-setup.ensures.bits,
          (
            omega (arith, from, room_s4 c.args.arena.now c.args.seat.now c.args.a c.setup-setup.result c.setup-setup.ensures.value c.requires.stands),
            subst (λ (z : Setup). z.limit < 2 ^ count_bits z.bits) (sym c.setup-setup.ensures.value) c.requires.stands.before.seat.arena.sized.counted,
          ),
        ),
      ),
    )
