-- A ring as a queue with seats.
use Rattle.std.specs.Prelude.{◌≡◌, ℕ, false, List}
use Rattle.history.specs.declared.refusals.Refusal.{Refusal}
use Rattle.history.specs.Seats.{Permit}
use Rattle.ring_queue.specs.declared.queue.RingQueue.{RingQueue}
use Rattle.ring_queue.specs.declared.seats.Seat.{Seat}
use Rattle.ring_queue.specs.Plans.{permits_of}
use Rattle.ring_queue.specs.Seats.{IsReady}
use Rattle.ring_queue.specs.Causes.{PushCaused, PopCaused, ShutCaused}

-- a seat of a ring that carries no values, in no call
pub record IsNumberSeat {T : Type 0} (q : RingQueue T) (s : Seat T) : Type 0 where
  pub numbers : q.plan.carries ≡ false
  pub ready : IsReady q.plan q.table.shared.table_id s

-- a seat of a ring, in no call
abbrev pub IsRingSeat : {T : Type 0} → RingQueue T → Seat T → Type 0
IsRingSeat q s = IsReady q.plan q.table.shared.table_id s

-- what each seat of a ring may do
abbrev pub permits_in : {T : Type 0} → RingQueue T → List Permit
permits_in q = permits_of q.plan

-- why its calls are refused
abbrev pub push_causes : {T : Type 0} → RingQueue T → (s t : Seat T) → (turns : ℕ) → Refusal → Type 0
push_causes q s t turns refusal = PushCaused q.plan s t turns refusal

-- the same of a pop
abbrev pub pop_causes : {T : Type 0} → RingQueue T → (s t : Seat T) → (turns : ℕ) → Refusal → Type 0
pop_causes q s t turns refusal = PopCaused q.plan s t turns refusal

-- the same of a shut
abbrev pub shut_causes : {T : Type 0} → RingQueue T → (s t : Seat T) → (turns : ℕ) → Refusal → Type 0
shut_causes q s t turns refusal = ShutCaused s t refusal
