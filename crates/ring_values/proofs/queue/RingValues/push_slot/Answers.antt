use Rattle.std.proofs.Common.{subst, sym, arith}
use Rattle.ring_queue.specs.Hands.{IsLoaded}
use Rattle.ring_values.specs.Queues.{plan_of, ring_of}
use Rattle.ring_values.proofs.Pushed.{put_back}
use Rattle.ring_values.proofs.queue.RingValues.push_slot.Goals as goal

pub push_in-requires-clause-loaded : goal.push_in-requires-clause-loaded
push_in-requires-clause-loaded g c =
    let has = c.requires.has in
    subst (λ b. IsLoaded (plan_of c.args.self.now) b c.args.seat.now) (sym c.body_of.ensures) (λ carried. (has.0, has.1.out, has.1.hand, has.1.there))

pub body_of-requires : goal.body_of-requires
body_of-requires g c = omega (arith, c.requires.has.1.there, c.args.self.now.narrow)

pub returns-in-Err : goal.returns-in-Err
returns-in-Err g c =
    let told = c.in-Err.ensures in
    put_back (ring_of c.args.self.now) c.args.seat.now c.push_in.new.seat c.take_value-value.new.seat c.free_slot.new.seat c.args.slot c.args.turns
    c.in-Err.refusal c.take_value-value.result c.free_slot.ensures.seat c.free_slot.ensures.none told.name told.kept
    c.take_value-value.ensures.keeps c.free_slot.ensures.keeps c.take_value-value.ensures.taken told.refused told.refusal told.caused
