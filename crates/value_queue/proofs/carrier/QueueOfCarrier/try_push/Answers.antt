use Rattle.std.proofs.Common.{ℕ, lit≤, ◌∙◌, arith, Err}
use Rattle.node_arena.specs.Arenas.{Arena}
use Rattle.node_arena.specs.declared.seats.Seat.{Seat}
use Rattle.node_arena.specs.Hands.{HasTried, KeepsTries, hitting, first_slot}
use Rattle.arena_queue.proofs.Queues.{still_pushes}
use Rattle.value_queue.specs.Queues.{arena_of}
use Rattle.value_queue.specs.Pushes.{AnswersPush, back_with}
use Rattle.value_queue.proofs.Pushed.{handed, keeps_on, tried_still, loaded_by, no_node, slot_refused, no_slot, value_pushed, value_back}
use Rattle.value_queue.proofs.carrier.QueueOfCarrier.try_push.Given.{Over}
use Rattle.value_queue.proofs.carrier.QueueOfCarrier.try_push.Goals as goal

pub returns-in-Err-clause-refused : goal.returns-in-Err-clause-refused
returns-in-Err-clause-refused g c =
    handed c.unpushed.result (back_with c.in-Err.refusal c.args.value) _ c.unpushed.ensures
    (no_node g.A.Algorithm.push_worn _ c.args.self.now.carries _ c.requires.seat.0 c.requires.seat.1 c.args.value c.args.turns c.node.new.seat c.in-Err.refusal c.in-Err.ensures).refused

pub returns-in-Err-clause-caused : goal.returns-in-Err-clause-caused
returns-in-Err-clause-caused g c =
    handed c.unpushed.result (back_with c.in-Err.refusal c.args.value) _ c.unpushed.ensures
    (no_node g.A.Algorithm.push_worn _ c.args.self.now.carries _ c.requires.seat.0 c.requires.seat.1 c.args.value c.args.turns c.node.new.seat c.in-Err.refusal c.in-Err.ensures).caused

slotless : (g : Over) (c : goal.After-unpushed-in-Err-get_slot g) → AnswersPush g.A.Algorithm.push_worn (arena_of c.args.self.now) c.args.seat.now c.get_slot.new.seat c.args.value
    c.args.turns (Err (back_with c.in-Err-get_slot.refusal c.args.value))
slotless g c =
    let e = c.in-Err-get_slot.ensures in
    no_slot g.A.Algorithm.push_worn _ c.args.self.now.carries _ c.requires.seat.0 c.requires.seat.1 c.args.value c.args.turns c.node.new.seat
    c.get_slot.new.seat c.in-Ok.node.0 c.in-Ok.node.1 c.in-Ok.ensures c.first_slot-first.result c.in-Err-get_slot.refusal (e.ready c.in-Ok.ensures.ready) e.keeps e.refused e.busy e.missed

pub returns-in-Err-get_slot-clause-refused : goal.returns-in-Err-get_slot-clause-refused
returns-in-Err-get_slot-clause-refused g c =
    let e = c.in-Err-get_slot.ensures in
    handed c.unpushed-in-Err-get_slot.result (back_with c.in-Err-get_slot.refusal c.args.value) _ c.unpushed-in-Err-get_slot.ensures
    (slot_refused g.A.Algorithm.push_worn _ c.args.self.now.carries _ c.requires.seat.0 c.requires.seat.1 c.args.value c.args.turns c.node.new.seat
    c.get_slot.new.seat c.in-Ok.node.0 c.in-Ok.node.1 c.in-Ok.ensures c.first_slot-first.result c.in-Err-get_slot.refusal (e.ready c.in-Ok.ensures.ready) e.keeps e.refused.0)

pub returns-in-Err-get_slot-clause-caused : goal.returns-in-Err-get_slot-clause-caused
returns-in-Err-get_slot-clause-caused g c = handed c.unpushed-in-Err-get_slot.result (back_with c.in-Err-get_slot.refusal c.args.value) _ c.unpushed-in-Err-get_slot.ensures (slotless g c).caused

-- the tries of a push that got its slot, to the one that got it
hit_by : {T : Type 0} (r : Arena) (u w v : Seat T) (first tries slot : ℕ) → HasTried r.plan u w (first_slot r.plan.setup.size first) tries (hitting slot) → KeepsTries w v
    → HasTried r.plan u v (first_slot r.plan.setup.size first) tries (hitting slot)
hit_by r u w v first tries slot made same = tried_still r.plan u w v (first_slot r.plan.setup.size first) tries (hitting slot) made same

pub push_with_node-requires : goal.push_with_node-requires
push_with_node-requires g c =
    let h = c.in-Ok.ensures in
    let got = c.in-Ok-get_slot.ensures in
    let k = keeps_on c.node.new.seat c.get_slot.new.seat c.put_value.new.seat got.keeps c.put_value.ensures.keeps in
    let loaded = loaded_by (arena_of c.args.self.now) c.put_value.new.seat _ c.body_of.result c.args.value c.body_of.ensures c.put_value.ensures.has in
    let pushes = still_pushes (arena_of c.args.self.now) c.args.seat.now c.put_value.new.seat c.requires.seat.0 (k.stored.role ∙ h.same.role) c.requires.role in
    (lit≤ tt, (c.put_value.ensures.ready (got.ready h.ready), (c.args.self.now.runs, (loaded, (pushes, (k.stored.pocket ∙ h.pocket, omega (arith, got.few, h.spent.1)))))))

pub returns-in-Ok-push_with_node-clause-pushed : goal.returns-in-Ok-push_with_node-clause-pushed
returns-in-Ok-push_with_node-clause-pushed g c =
    let k = keeps_on c.node.new.seat c.get_slot.new.seat c.put_value.new.seat c.in-Ok-get_slot.ensures.keeps c.put_value.ensures.keeps in
    (value_pushed g.A.Algorithm.push_worn _ c.args.self.now.carries _ c.requires.seat.0 c.requires.seat.1 c.args.value c.args.turns c.node.new.seat c.put_value.new.seat c.in-Ok.node.0 c.in-Ok.node.1
    c.in-Ok.ensures c.first_slot-first.result c.in-Ok-get_slot.got k c.put_value.ensures.has c.in-Ok-get_slot.ensures.failed
    (hit_by (arena_of c.args.self.now) c.node.new.seat c.get_slot.new.seat c.put_value.new.seat c.first_slot-first.result _ _ c.in-Ok-get_slot.ensures.hit c.put_value.ensures.tries)
    c.body_of.result c.push_with_node.new.seat c.in-Ok-push_with_node.ensures).pushed

pub returns-in-Ok-push_with_node-clause-missed : goal.returns-in-Ok-push_with_node-clause-missed
returns-in-Ok-push_with_node-clause-missed g c =
    let k = keeps_on c.node.new.seat c.get_slot.new.seat c.put_value.new.seat c.in-Ok-get_slot.ensures.keeps c.put_value.ensures.keeps in
    (value_pushed g.A.Algorithm.push_worn _ c.args.self.now.carries _ c.requires.seat.0 c.requires.seat.1 c.args.value c.args.turns c.node.new.seat c.put_value.new.seat c.in-Ok.node.0 c.in-Ok.node.1
    c.in-Ok.ensures c.first_slot-first.result c.in-Ok-get_slot.got k c.put_value.ensures.has c.in-Ok-get_slot.ensures.failed
    (hit_by (arena_of c.args.self.now) c.node.new.seat c.get_slot.new.seat c.put_value.new.seat c.first_slot-first.result _ _ c.in-Ok-get_slot.ensures.hit c.put_value.ensures.tries)
    c.body_of.result c.push_with_node.new.seat c.in-Ok-push_with_node.ensures).missed

came_back : (g : Over) (c : goal.After-taken_back g) → AnswersPush g.A.Algorithm.push_worn (arena_of c.args.self.now) c.args.seat.now c.taken_back.new.seat c.args.value
    c.args.turns (Err (back_with c.in-Err-push_with_node.refusal c.taken_back.ensures.value))
came_back g c =
    let k = keeps_on c.node.new.seat c.get_slot.new.seat c.put_value.new.seat c.in-Ok-get_slot.ensures.keeps c.put_value.ensures.keeps in
    value_back g.A.Algorithm.push_worn _ c.args.self.now.carries _ c.requires.seat.0 c.requires.seat.1 c.args.value c.args.turns c.node.new.seat c.put_value.new.seat
    c.in-Ok.node.0 c.in-Ok.node.1 c.in-Ok.ensures c.first_slot-first.result c.in-Ok-get_slot.got k c.put_value.ensures.has c.in-Ok-get_slot.ensures.failed
    (hit_by (arena_of c.args.self.now) c.node.new.seat c.get_slot.new.seat c.put_value.new.seat c.first_slot-first.result _ _ c.in-Ok-get_slot.ensures.hit c.put_value.ensures.tries)
    c.body_of.result c.push_with_node.new.seat
    c.taken_back.new.seat c.in-Err-push_with_node.refusal c.taken_back.result c.in-Err-push_with_node.ensures c.taken_back.ensures

pub returns-in-Err-push_with_node-clause-refused : goal.returns-in-Err-push_with_node-clause-refused
returns-in-Err-push_with_node-clause-refused g c = handed c.taken_back.result (back_with c.in-Err-push_with_node.refusal c.taken_back.ensures.value) _ c.taken_back.ensures.back (came_back g c).refused

pub returns-in-Err-push_with_node-clause-caused : goal.returns-in-Err-push_with_node-clause-caused
returns-in-Err-push_with_node-clause-caused g c = handed c.taken_back.result (back_with c.in-Err-push_with_node.refusal c.taken_back.ensures.value) _ c.taken_back.ensures.back (came_back g c).caused
