use Rattle.std.proofs.Common.{ap, arith}
use Rattle.node_arena.specs.Prologues.{continues}
use Rattle.counted_ref.proofs.Words.{span_most}
use Rattle.free_list.specs.Registers.{Running}
use Rattle.free_list.proofs.Steps.{left_n5, taken_small}
use Rattle.free_list.proofs.takes.n5.Goals as goal

pub overflow_add-line_table-line_table : goal.overflow_add-line_table-line_table
overflow_add-line_table-line_table g c =
    omega (arith, left_n5 c.args.arena.now c.args.seat.now c.args.a c.requires.stands, ap (λ (x : Running). x.f) c.a.view_is, span_most _ c.requires.stands.before.seat.arena.sized.split)

pub overflow_add-line_table-line_table-2 : goal.overflow_add-line_table-line_table-2
overflow_add-line_table-line_table-2 g c =
    omega (arith, left_n5 c.args.arena.now c.args.seat.now c.args.a c.requires.stands, ap (λ (x : Running). x.f) c.a.view_is, span_most _ c.requires.stands.before.seat.arena.sized.split)

pub overflow_cast-found : goal.overflow_cast-found
overflow_cast-found g c =
    let h = taken_small c.args.arena.now c.args.seat.now _ continues _ c.exchanged-found.ensures in
    let z = c.requires.stands.before.seat.arena.sized.numbered in
    let m = span_most _ c.requires.stands.before.seat.arena.sized.split in
    omega arith
