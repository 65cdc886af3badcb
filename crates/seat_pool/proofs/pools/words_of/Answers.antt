use Rattle.std.proofs.Common.{rules, arith, ◌+◌, map, refl, subst}
use Rattle.std.proofs.lemmas.List.{take_all}
use Rattle.seat_pool.specs.Words.{AreWords}
use Rattle.seat_pool.proofs.Numbers.{words-next, has_part}
use Rattle.seat_pool.proofs.pools.words_of.Goals as goal

pub loop-seat-preserved : goal.loop-seat-preserved
loop-seat-preserved g c =
    let permits = g.C.Carrier.permits c.args.queue.now in let seat = c.seat-item.result in
    words-next permits (λ s. (g.C.Carrier.known s).number) c.args.seats.now c.loop-seat.seat-index (c.loop-seat.seat-index + 1) seat
    c.loop-seat.words.items c.push.new.self.items c.of-part.result c.number.result
    refl (search rules) (search rules) c.number.ensures (search rules)
    (has_part permits (g.C.Carrier.known seat).number c.of-part.result c.may_push.result c.may_pop.result c.of-part.ensures.pushes c.of-part.ensures.pops c.may_push.ensures c.may_pop.ensures)
    c.loop-seat.invariant

pub returns-clause-words : goal.returns-clause-words
returns-clause-words g c = subst (λ ss. AreWords (g.C.Carrier.permits c.args.queue.now) (map (λ s. (g.C.Carrier.known s).number) ss) c.loop-seat.words.items)
    (take_all c.loop-seat.seat-index c.args.seats.now (search (rules, arith))) c.loop-seat.invariant
