use Rattle.std.proofs.Common.{lit≤, subst, Option, Ok}
use Rattle.history.specs.declared.operations.Taken.{Taken}
use Rattle.arena_queue.specs.Answers.{PopsWithoutNode}
use Rattle.value_queue.specs.Queues.{arena_of}
use Rattle.value_queue.proofs.Popped.{pop_empty, pop_refused, pop_slot, pop_value}
use Rattle.value_queue.proofs.carrier.QueueOfCarrier.try_pop.Goals as goal

pub take_out-requires : goal.take_out-requires
take_out-requires g c =
    let d = subst (λ (o : Option Taken). PopsWithoutNode g.A.Algorithm.pop_worn (arena_of c.args.self.now) c.args.seat.now c.pop_slot.new.seat 0 c.args.turns (Ok o))
    c.in-Ok-Some.field-0-is c.in-Ok-Some.ensures in (
      lit≤ tt,
      (
        d.ready,
        pop_slot g.A.Algorithm.pop_worn (arena_of c.args.self.now) c.args.self.now.carries c.args.seat.now c.pop_slot.new.seat
            c.requires.seat.0 c.requires.seat.1 c.args.turns c.in-Ok-Some.taken d,
      ),
    )

pub returns-in-Ok-Some-clause-answer : goal.returns-in-Ok-Some-clause-answer
returns-in-Ok-Some-clause-answer g c =
    let d = subst (λ (o : Option Taken). PopsWithoutNode g.A.Algorithm.pop_worn (arena_of c.args.self.now) c.args.seat.now c.pop_slot.new.seat 0 c.args.turns (Ok o))
    c.in-Ok-Some.field-0-is c.in-Ok-Some.ensures in
    (pop_value g.A.Algorithm.pop_worn (arena_of c.args.self.now) c.args.self.now.carries c.args.seat.now c.pop_slot.new.seat c.requires.seat.0
    c.requires.seat.1 c.args.turns c.in-Ok-Some.taken d c.take_out.new.seat c.take_out.result c.take_out.ensures).answer

pub returns-in-Ok-None-clause-answer : goal.returns-in-Ok-None-clause-answer
returns-in-Ok-None-clause-answer g c =
    let d = subst (λ (o : Option Taken). PopsWithoutNode g.A.Algorithm.pop_worn (arena_of c.args.self.now) c.args.seat.now c.pop_slot.new.seat 0 c.args.turns (Ok o))
    c.in-Ok-None.field-0-is c.in-Ok-None.ensures in
    (pop_empty g.A.Algorithm.pop_worn (arena_of c.args.self.now) c.args.self.now.carries c.args.seat.now c.pop_slot.new.seat c.requires.seat.0 c.requires.seat.1 c.args.turns d).answer

pub returns-in-Err-clause-refused : goal.returns-in-Err-clause-refused
returns-in-Err-clause-refused g c =
    rw c.refused.ensures (pop_refused g.A.Algorithm.pop_worn (arena_of c.args.self.now) c.args.self.now.carries c.args.seat.now c.pop_slot.new.seat
    c.requires.seat.0 c.requires.seat.1 c.args.turns c.in-Err.refusal c.in-Err.ensures).refused
