use Rattle.std.proofs.Common.{lit≤}
use Rattle.std.proofs.lemmas.List.Elements.{All-weaker}
use Rattle.node_arena.specs.Seats.{IsReady, HasNoSlot, permits_of}
use Rattle.node_arena.specs.Leftovers.{rest_in, values_in}
use Rattle.value_queue.specs.Queues.{arena_of, IsQueueSeat}
use Rattle.value_queue.specs.Sound.{sight, clear}
use Rattle.value_queue.proofs.Closings.{closes-values, pushers-values}
use Rattle.value_queue.proofs.queue.QueueOf.close_values.Goals as goal

pub close_values-requires : goal.close_values-requires
close_values-requires g c =
    let ready = All-weaker (IsQueueSeat c.args.self) (IsReady (arena_of c.args.self)) (λ s h. h.0) c.args.seats.items c.requires.seats in
    let none_out = All-weaker (IsQueueSeat c.args.self) HasNoSlot (λ s h. h.1) c.args.seats.items c.requires.seats in
    (lit≤ tt, (c.requires.numbers, (c.requires.slots, (ready, (none_out, c.args.self.carries)))))

pub returns-clause-rest : goal.returns-clause-rest
returns-clause-rest g c =
    let r = arena_of c.args.self in
    let left = c.close_values.result.0 in
    let closed = c.close_values.ensures.values in
    closes-values sight (IsReady r) (λ s is. clear r c.args.self.carries s is.seat) (permits_of r) c.args.seats.items (rest_in left) (values_in left)
    (All-weaker (IsQueueSeat c.args.self) (IsReady r) (λ s h. h.0) c.args.seats.items c.requires.seats) closed.closes closed.deeds closed.matches closed.runs closed.begins

pub returns-clause-few : goal.returns-clause-few
returns-clause-few g c = c.close_values.ensures.values.few

pub returns-clause-alike : goal.returns-clause-alike
returns-clause-alike g c = pushers-values (arena_of c.args.self) c.args.seats.items c.close_values.result.0 c.close_values.ensures.values
