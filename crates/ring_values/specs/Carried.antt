-- Whether a ring carries values, and in how many slots.
use Rattle.std.specs.Prelude.{ℕ, Bool}
use Rattle.ring_queue.specs.declared.queue.RingQueue.{RingQueue}

-- whether a ring carries values
abbrev pub carries_of : {T : Type 0} → RingQueue T → Bool
carries_of r = r.plan.carries

-- how many slots a ring has
abbrev pub slots_in : {T : Type 0} → RingQueue T → ℕ
slots_in r = r.plan.slots
