use Rattle.std.proofs.Common.{subst, Option}
use Rattle.history.specs.declared.operations.Taken.{Taken}
use Rattle.history.specs.Answers.{PopAnswers}
use Rattle.ring_queue.specs.Hands.{PopMoves}
use Rattle.ring_queue.specs.Seats.{known_of}
use Rattle.ring_values.specs.Queues.{plan_of, ring_of}
use Rattle.ring_values.specs.ValuesSeen.{sight}
use Rattle.ring_values.specs.Sound.{clear}
use Rattle.value_queue.proofs.Learned.{empty-deeds, pop_refused-deeds}
use Rattle.ring_values.proofs.Learned.{on}
use Rattle.ring_values.proofs.Popped.{pop_slot, pop_value}
use Rattle.ring_values.proofs.carrier.RingValuesCarrier.try_pop.Goals as goal

pub take_out-requires : goal.take_out-requires
take_out-requires g c =
    let q = c.args.self.now in
    let s = c.args.seat.now in
    let x = c.pop_in.new.seat in
    let takes = subst (PopMoves (plan_of q) s x) c.in-Ok-Some.field-0-is c.in-Ok-Some.ensures.moves in
    record { seat = c.pop_in.ensures.seat; has = pop_slot (ring_of q) q.carries s x c.requires.seat.ready c.pop_in.ensures.seat c.requires.seat.none_out c.in-Ok-Some.taken takes }

pub returns-in-Ok-Some-clause-answer : goal.returns-in-Ok-Some-clause-answer
returns-in-Ok-Some-clause-answer g c =
    let q = c.args.self.now in
    let s = c.args.seat.now in
    let x = c.pop_in.new.seat in
    let takes = subst (PopMoves (plan_of q) s x) c.in-Ok-Some.field-0-is c.in-Ok-Some.ensures.moves in
    let adds = subst (λ (o : Option Taken). PopAnswers (known_of s) o (known_of x)) c.in-Ok-Some.field-0-is c.in-Ok-Some.ensures.answer in
    pop_value (ring_of q) q.carries s x c.requires.seat.ready c.pop_in.ensures.seat c.requires.seat.none_out c.in-Ok-Some.taken takes c.take_out.new.seat c.take_out.result adds c.take_out.ensures

pub returns-in-Ok-None-clause-answer : goal.returns-in-Ok-None-clause-answer
returns-in-Ok-None-clause-answer g c =
    let q = c.args.self.now in
    let s = c.args.seat.now in
    let x = c.pop_in.new.seat in
    let kept = subst (PopMoves (plan_of q) s x) c.in-Ok-None.field-0-is c.in-Ok-None.ensures.moves in
    let found = subst (λ (o : Option Taken). PopAnswers (known_of s) o (known_of x)) c.in-Ok-None.field-0-is c.in-Ok-None.ensures.answer in
    empty-deeds (sight s) (sight x) (clear (ring_of q) q.carries s c.requires.seat.ready) (clear (ring_of q) q.carries x c.pop_in.ensures.seat) (on s x kept) found

pub returns-in-Err-clause-refused : goal.returns-in-Err-clause-refused
returns-in-Err-clause-refused g c =
    let q = c.args.self.now in
    let s = c.args.seat.now in
    let x = c.pop_in.new.seat in
    rw c.refused.ensures (pop_refused-deeds (sight s) (sight x) (clear (ring_of q) q.carries s c.requires.seat.ready) (clear (ring_of q) q.carries x c.pop_in.ensures.seat) c.in-Err.refusal
    (on s x c.in-Err.ensures.kept) c.in-Err.ensures.refused)
