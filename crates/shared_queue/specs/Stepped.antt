-- A queue of values whose calls are stepped by who makes them.
use Rattle.std.specs.Prelude.{ℕ}
use Rattle.shared_queue.specs.declared.stepped.SteppedQueue.{SteppedQueue}

module _ {C : Type 0} where
  -- the queue within
  abbrev pub stepped_queue : SteppedQueue C → C
  stepped_queue s = s.queue

  -- room for how many values it has
  abbrev pub capacity_of : SteppedQueue C → ℕ
  capacity_of s = s.capacity
