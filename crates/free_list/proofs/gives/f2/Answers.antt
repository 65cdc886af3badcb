use Rattle.std.proofs.Common.{◌^◌, ◌<◌, ap, sym, ◌∙◌, subst, lit≤, arith, rules}
use Rattle.counted_ref.specs.Ref.{reserved_node, count_bits}
use Rattle.node_arena.specs.Machine.{Setup}
use Rattle.free_list.specs.Registers.{Running}
use Rattle.free_list.proofs.Steps.{mark_f2, top_f2}
use Rattle.node_arena.specs.Prologues.{continues}
use Rattle.free_list.proofs.GiveBack.{after_f2}
use Rattle.free_list.proofs.gives.f2.Goals as goal

pub line_table-new-requires : goal.line_table-new-requires
line_table-new-requires g c =
    let split = ap (λ (z : Setup). z.bits) (sym c.setup.ensures.value) ∙ c.setup.ensures.bits in
    let top = ap (λ (x : Running). x.top.node) c.a.view_is in
    let mark = ap (λ (x : Running). x.mark) c.a.view_is in
    let to = subst (λ b. c.line_table-node.result < reserved_node b) split (omega (arith, top, c.line_table-node.ensures.value, top_f2 c.args.arena.now c.args.seat.now c.args.a c.requires.stands)) in
    let count = subst (λ b. c.a.inside.mark < 2 ^ count_bits b) split (omega (arith, mark, mark_f2 c.args.arena.now c.args.seat.now c.args.a c.requires.stands)) in
    (lit≤ tt, (c.setup.ensures.split, (to, count)))

pub returns-clause-goes : goal.returns-clause-goes
returns-clause-goes g c = after_f2 c.args.arena.now c.args.seat.now _ continues c.args.a _ c.requires.stands (search rules)
