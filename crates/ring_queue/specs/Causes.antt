-- Why the calls of a ring are refused.
use Rattle.std.specs.Prelude.{ℕ, ◌+◌, ◌<◌, true, List, []}
use Rattle.history.specs.declared.operations.Entry.{Entry}
use Rattle.history.specs.declared.refusals.Refusal.{Refusal}
use Rattle.history.specs.declared.refusals.Refusal.TheVariants.{NoNode, WornOut, Busy, Closed}
use Rattle.history.specs.declared.refusals.WornWord.TheVariants.{Tail as OfTail}
use Rattle.history.specs.Entries.{Leads, LeadsToShut}
use Rattle.ring_queue.specs.declared.seats.Seat.{Seat}
use Rattle.ring_queue.specs.Plans.{Layout}
use Rattle.ring_queue.specs.Steps.{IsFull, IsWorn}
use Rattle.ring_queue.specs.Seats.{view}
use Rattle.ring_queue.specs.Turns.{HaveFailed, Tried}

-- what is so at the last step of a push that stops for a refusal
abbrev pub PushStops : Layout → (seen : List Entry) → Refusal → Type 0
PushStops z seen NoNode = IsFull z seen
PushStops z seen (WornOut OfTail) = IsWorn z seen
PushStops z seen Closed = LeadsToShut seen
PushStops z seen _ = ⊥

-- a push is refused: at its last step the queue was shut or full, or its places were used up; or others claimed places more than so
-- many times since its seat's last look at Tail, so that many times in the call, as its path says
abbrev pub PushCaused : {T : Type 0} → Layout → (s t : Seat T) → (turns : ℕ) → Refusal → Type 0
PushCaused z s t turns Busy = (s.tail + turns < t.tail) × Tried s t (turns + 1)
PushCaused z s t turns refusal = PushStops z (view t).seen refusal

-- a pop is refused: at its last step the queue was shut and empty, or each of its turns failed from its seat's head on, as its path says
abbrev pub PopCaused : {T : Type 0} → Layout → (s t : Seat T) → (turns : ℕ) → Refusal → Type 0
PopCaused z s t turns Busy = HaveFailed z (view s).seen s.head turns t × Tried s t turns
PopCaused z s t turns Closed = Leads (view t).seen true []
PopCaused z s t turns _ = ⊥

-- a shut is refused: the queue was shut at its step
abbrev pub ShutCaused : {T : Type 0} (s t : Seat T) → Refusal → Type 0
ShutCaused s t Closed = LeadsToShut (view t).seen
ShutCaused s t _ = ⊥
