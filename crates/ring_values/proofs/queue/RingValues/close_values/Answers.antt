use Rattle.std.proofs.Common.{◌≤◌, List, Option, map, length, sym, subst}
use Rattle.std.proofs.lemmas.List.Elements.{All-weaker}
use Rattle.history.specs.declared.rests.Rest.{Rest}
use Rattle.history.specs.Rests.{left_of, taken_of, whole_of, was_shut_of}
use Rattle.carriers.specs.Ends.{ClosesWith}
use Rattle.node_arena.specs.ValuesLeft.{values_of}
use Rattle.ring_queue.specs.Queues.{IsRingSeat}
use Rattle.ring_queue.specs.Seats.{HasNoSlot}
use Rattle.value_queue.specs.Runs.{as_item}
use Rattle.ring_values.specs.ValuesSeen.{known_by, sight}
use Rattle.ring_values.specs.Queues.{plan_of, ring_of, permits_of, IsQueueSeat}
use Rattle.ring_values.specs.Sound.{clear}
use Rattle.value_queue.proofs.Closings.{closes-values}
use Rattle.ring_values.proofs.Closings.{many-values}
use Rattle.ring_values.proofs.queue.RingValues.close_values.Goals as goal

pub close_values-rest-requires-clause-seats : goal.close_values-rest-requires-clause-seats
close_values-rest-requires-clause-seats g c = All-weaker (IsQueueSeat c.args.self) (IsRingSeat (ring_of c.args.self)) (λ s h. h.ready) c.args.seats.items c.requires.seats

pub close_values-rest-requires-clause-apart : goal.close_values-rest-requires-clause-apart
close_values-rest-requires-clause-apart g c = All-weaker (IsQueueSeat c.args.self) HasNoSlot (λ s h. h.none_out) c.args.seats.items c.requires.seats

pub returns-clause-rest : goal.returns-clause-rest
returns-clause-rest g c =
    let told = c.of.ensures in
    let ready = All-weaker (IsQueueSeat c.args.self) (IsRingSeat (ring_of c.args.self)) (λ s h. h.ready) c.args.seats.items c.requires.seats in
    let r = ring_of c.args.self in
    let rest = c.close_values-rest.result.0 in
    let inside = c.close_values-rest.result.1.items in
    let closed = c.close_values-rest.ensures in
    let closes = closes-values sight (IsRingSeat r) (clear r c.args.self.carries) (permits_of c.args.self) c.args.seats.items rest (values_of inside (left_of rest)) ready
    closed.closes closed.deeds closed.matches closed.runs closed.begins in
    subst (λ (y : Rest × List (Option _)). ClosesWith (permits_of c.args.self) (map known_by c.args.seats.items)
    (map as_item (values_of y.1 (left_of y.0))) (taken_of y.0) (whole_of y.0) (was_shut_of y.0)) (λ i. (sym told.rest i, sym told.slots i)) closes

pub returns-clause-few : goal.returns-clause-few
returns-clause-few g c =
    let told = c.of.ensures in
    subst (λ (y : Rest × List (Option _)). length (values_of y.1 (left_of y.0)) ≤ (plan_of c.args.self).slots) (λ i. (sym told.rest i, sym told.slots i))
    (many-values (ring_of c.args.self) c.args.seats.items c.close_values-rest.result.0 c.close_values-rest.result.1.items c.close_values-rest.ensures)
