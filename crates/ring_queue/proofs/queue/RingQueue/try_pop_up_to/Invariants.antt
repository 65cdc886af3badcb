use Rattle.std.proofs.Common.{◌≡◌, ◌≤◌, ◌+◌, vec_len, vec_capacity}
use Rattle.history.specs.Answers.{SeesMore}
use Rattle.ring_queue.specs.Seats.{IsReady, KeepsName, known_of, view}
use Rattle.ring_queue.specs.Turns.{HaveFailed, Tried}
use Rattle.ring_queue.proofs.queue.RingQueue.try_pop_up_to.Given as goal

abbrev pub invariant-loop : goal.invariant-loop
invariant-loop g l = record {
  seat : IsReady l.self.plan l.self.table.shared.table_id l.seat;
  name : KeepsName l.fn.seat l.seat;
  sees : SeesMore (known_of l.fn.seat) (known_of l.seat);
  failed : HaveFailed l.self.plan (view l.initial.seat).seen l.initial.seat.head l.counter l.seat;
  tried : Tried l.fn.seat l.seat l.counter;
  into : l.into ≡ l.fn.into;
  room : vec_len l.into + l.most ≤ vec_capacity l.into;
}
