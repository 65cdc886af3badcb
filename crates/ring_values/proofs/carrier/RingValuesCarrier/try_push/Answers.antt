use Rattle.ring_values.specs.Queues.{ring_of}
use Rattle.ring_values.specs.Pushes.{AnswersPush}
use Rattle.ring_values.proofs.Pushed.{passed, no_slot, slot_pushed}
use Rattle.ring_values.proofs.carrier.RingValuesCarrier.try_push.Given.{Over}
use Rattle.ring_values.proofs.carrier.RingValuesCarrier.try_push.Goals as goal

answers : (g : Over) (c : goal.After-push_slot g) → AnswersPush (ring_of c.args.self.now) c.args.seat.now c.push_slot.new.seat c.args.value c.args.turns c.push_slot.result
answers g c = slot_pushed (ring_of c.args.self.now) c.args.self.now.carries c.args.seat.now c.requires.seat.ready c.args.value c.args.turns
    c.load.new.seat c.push_slot.new.seat c.in_ok-got.got c.in_ok-got.ensures c.push_slot.result c.push_slot.ensures

pub returns-in_err-got-clause-refused : goal.returns-in_err-got-clause-refused
returns-in_err-got-clause-refused g c =
    passed c.from_residual.result c.in_err-got.field-0.0 _ c.from_residual.ensures.1
    (no_slot (ring_of c.args.self.now) c.args.self.now.carries c.args.seat.now c.requires.seat.ready c.args.value c.args.turns c.load.new.seat c.in_err-got.field-0.0 c.in_err-got.ensures).refused

pub returns-in_err-got-clause-caused : goal.returns-in_err-got-clause-caused
returns-in_err-got-clause-caused g c =
    passed c.from_residual.result c.in_err-got.field-0.0 _ c.from_residual.ensures.1
    (no_slot (ring_of c.args.self.now) c.args.self.now.carries c.args.seat.now c.requires.seat.ready c.args.value c.args.turns c.load.new.seat c.in_err-got.field-0.0 c.in_err-got.ensures).caused

pub returns-clause-pushed : goal.returns-clause-pushed
returns-clause-pushed g c = (answers g c).pushed

pub returns-clause-refused : goal.returns-clause-refused
returns-clause-refused g c = (answers g c).refused

pub returns-clause-caused : goal.returns-clause-caused
returns-clause-caused g c = (answers g c).caused
