use Rattle.std.proofs.Common.{ap, ◌∙◌, sum_by, arith}
use Rattle.std.proofs.lemmas.List.{take_all}
use Rattle.std.proofs.lemmas.List.Sums.{sum_by_more}
use Rattle.node_arena.specs.declared.seats.Seat.{Seat}
use Rattle.node_arena.proofs.ArenaEnds.{sum_by-pops}
use Rattle.node_arena.proofs.ends.pops_by.Goals as goal

pub loop-seat-preserved : goal.loop-seat-preserved
loop-seat-preserved g c =
    let more = sum_by_more (λ (s : Seat _). s.pops) c.args.seats.now c.loop-seat.seat-index c.seat-item.result c.loop-seat-test.true in
    record {
      sum = omega (arith, c.loop-seat.invariant.sum, more, ap (λ (s : Seat _). s.pops) c.seat-item.is, c.from-pops.ensures);
      few = omega (arith, c.loop-seat.invariant.few, c.from-pops.ensures);
    }

pub returns : goal.returns
returns g c = c.loop-seat.invariant.sum ∙ ap (sum_by (λ (s : Seat _). s.pops)) (take_all c.loop-seat.seat-index c.args.seats.now c.loop-seat-test.false) ∙ sum_by-pops c.args.seats.now c.requires
