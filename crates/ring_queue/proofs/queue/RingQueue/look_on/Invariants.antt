use Rattle.std.proofs.Common.{◌≡◌, ◌-◌, ◌≤◌, length, take}
use Rattle.history.specs.Answers.{SeesMore}
use Rattle.ring_queue.specs.Seats.{IsReady, KeepsName, known_of, view}
use Rattle.ring_queue.specs.Knowledge.{found}
use Rattle.ring_queue.specs.Turns.{Tried}
use Rattle.ring_queue.proofs.queue.RingQueue.look_on.Given as goal

abbrev pub ghost-look_next : goal.ghost-look_next
ghost-look_next g a = a.words.now

abbrev pub invariant-loop-count : goal.invariant-loop-count
invariant-loop-count g l = record {
  seat : IsReady l.self.plan l.self.table.shared.table_id l.seat;
  name : KeepsName l.fn.seat l.seat;
  sees : SeesMore (known_of l.fn.seat) (known_of l.seat);
  head : l.seat.head ≡ l.fn.seat.head;
  found : (view l.seat).stage ≡ found (take l.count l.words);
  some : 1 ≤ l.count;
  few : l.count ≤ l.limit;
  long : length l.words ≡ 32;
  tried : Tried l.fn.seat l.seat 0;
}

abbrev pub decreases-loop-count : goal.decreases-loop-count
decreases-loop-count g l = l.limit - l.count
