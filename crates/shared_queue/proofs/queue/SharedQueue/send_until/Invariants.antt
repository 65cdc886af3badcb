use Rattle.std.specs.Prelude.{◌≡◌, IfSome, OnSome, IsTrue}
use Rattle.carriers.specs.Answers.{SeesMoreOf}
use Rattle.shared_queue.specs.Hearings.{seat_heard}
use Rattle.shared_queue.specs.Lates.{seat_then}
use Rattle.shared_queue.specs.Queues.{queue_of}
use Rattle.shared_queue.proofs.queue.SharedQueue.send_until.Given as goal

abbrev pub invariant-loop : goal.invariant-loop
invariant-loop g l = record {
  can : (goal.iterator-loop g).can_next l.iterator';
  finite : (goal.iterator-loop g).is_finite l.iterator';
  seat : g.C.Carrier.is_seat (queue_of l.fn.self) l.seat;
  more : SeesMoreOf (g.C.Carrier.known l.initial.seat) (g.C.Carrier.known l.seat);
  value : l.value ≡ l.initial.value;
  heard : IfSome l.waiting.heard (λ h. SeesMoreOf (g.C.Carrier.known (seat_heard h)) (g.C.Carrier.known l.seat));
  before : IfSome l.late (λ x. SeesMoreOf (g.C.Carrier.known l.initial.seat) (g.C.Carrier.known (seat_then x)));
  since : IfSome l.late (λ x. SeesMoreOf (g.C.Carrier.known (seat_then x)) (g.C.Carrier.known l.seat));
  comes : OnSome l.late (IsTrue (g.D.Deadline.comes l.fn.until));
}
