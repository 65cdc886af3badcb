use Rattle.std.proofs.Common.{arith, rules}
use Rattle.counted_ref.proofs.Words.{span_most}
use Rattle.free_list.specs.Runs.{taking}
use Rattle.free_list.proofs.Steps.{fresh_small}
use Rattle.free_list.proofs.Standing.{after_n1}
use Rattle.free_list.proofs.takes.n1.Goals as goal

pub overflow_cast-found : goal.overflow_cast-found
overflow_cast-found g c =
    let h = fresh_small c.args.arena.now c.args.seat.now _ (taking c.args.index) _ c.load-found.ensures in
    let z = c.requires.stands.seat.arena.sized.numbered in
    let m = span_most _ c.requires.stands.seat.arena.sized.split in
    omega arith

pub returns : goal.returns
returns g c = after_n1 c.args.arena.now c.args.seat.now _ (taking c.args.index) c.registers-a.result _ (search rules)
