-- There are as many values left in a ring as numbers.
use Rattle.std.proofs.Common.{◌≤◌, List, length, Option, ap, arith}
use Rattle.std.proofs.lemmas.List.{length-map}
use Rattle.history.specs.declared.operations.Taken.{Taken}
use Rattle.history.specs.declared.rests.Rest.{Rest}
use Rattle.history.specs.Rests.{was_shut_of, left_of}
use Rattle.node_arena.specs.Deeds.{Item}
use Rattle.node_arena.specs.ValuesLeft.{values_of}
use Rattle.node_arena.proofs.AsMany.{as_many}
use Rattle.ring_queue.specs.declared.queue.RingQueue.{RingQueue}
use Rattle.ring_queue.specs.declared.seats.Seat.{Seat}
use Rattle.ring_queue.specs.Ends.{ClosesValues}

pub many-values : {T : Type 0} (r : RingQueue T) (seats : List (Seat T)) (rest : Rest) (inside : List (Option T)) → ClosesValues r seats rest inside
    → length (values_of inside (left_of rest)) ≤ r.plan.slots
many-values {T} r seats rest inside c =
    let values = values_of inside (left_of rest) in
    let same = ap length (as_many c.closes.history c.deeds (left_of rest) values (was_shut_of rest) (was_shut_of rest) c.matches c.closes.leads c.runs).0 in
    omega (arith, same, length-map (left_of rest) (λ (t : Taken). t.from), length-map values (λ (x : Item T). x.from), c.few)
