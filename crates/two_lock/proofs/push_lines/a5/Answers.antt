use Rattle.std.proofs.Common.{◌<◌, ap, sym, ◌∙◌, subst, lit≤, arith}
use Rattle.counted_ref.specs.Ref.{reserved_node}
use Rattle.counted_ref.proofs.Words.{span_least, count_span_least}
use Rattle.line_table.specs.declared.lines.Line.TheVariants.{A5}
use Rattle.node_arena.specs.Machine.{Setup}
use Rattle.two_lock.specs.Pushes.{Running}
use Rattle.two_lock.proofs.PushSteps.{small_node}
use Rattle.two_lock.proofs.push_lines.a5.Goals as goal

pub line_table-new-requires : goal.line_table-new-requires
line_table-new-requires g c = (lit≤ tt, (c.setup.ensures.split, (omega (arith, span_least g.row.B c.setup.ensures.split), omega (arith, count_span_least g.row.B c.setup.ensures.split))))

pub line_table-new-requires-3 : goal.line_table-new-requires-3
line_table-new-requires-3 g c = (lit≤ tt, (c.setup.ensures.split, (omega (arith, span_least g.row.B c.setup.ensures.split), omega (arith, count_span_least g.row.B c.setup.ensures.split))))

pub line_table-new-requires-2 : goal.line_table-new-requires-2
line_table-new-requires-2 g c =
    let split = ap (λ (z : Setup). z.bits) (sym c.setup.ensures.value) ∙ c.setup.ensures.bits in
    let node = ap (λ (x : Running). x.node) c.a.view_is in (
      lit≤ tt,
      (
        c.setup.ensures.split,
        (
          subst (λ b. c.a.inside.node < reserved_node b) split (omega (arith, node, small_node c.args.arena.now c.args.seat.now c.args.a A5 c.requires.stands)),
          omega (arith, count_span_least g.row.B c.setup.ensures.split),
        ),
      ),
    )
