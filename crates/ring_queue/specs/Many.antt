-- Calls of many.
use Rattle.std.specs.Prelude.{◌≡◌, ◌⊎◌, ℕ, ◌+◌, ◌<◌, ◌≤◌, Bool, true, false, List, ◌++◌, length, map}
use Rattle.std.specs.Global.{Vec}
use Rattle.history.specs.declared.operations.Taken.{Taken}
use Rattle.history.specs.Answers.{SeesMore}
use Rattle.ring_queue.specs.declared.seats.Seat.{Seat}
use Rattle.ring_queue.specs.Plans.{Layout}
use Rattle.ring_queue.specs.Steps.{taken_in, AddsAll, pops}
use Rattle.ring_queue.specs.Seats.{known_of}

-- a pop of these words took their values, which went behind what was in a list; or another had raised Head, and nothing changed there
abbrev pub TakenAll : {T : Type 0} (s t : Seat T) → (before after : Vec Taken) → (words : List ℕ) → Bool → Type 0
TakenAll s t before after words true = (after.items ≡ before.items ++ map taken_in words) × AddsAll (known_of s) (pops (known_of s).number words) (known_of t)
TakenAll s t before after words false = (after ≡ before) × SeesMore (known_of s) (known_of t) × (s.head < t.head)

-- of these bodies a push of many pushed so many: one at least, if there is one; and all, but where by its seat's head the ring was then
-- full, or no place up to the limit was left
pub record AreEnough {T : Type 0} (z : Layout) (t : Seat T) (bodies : List ℕ) (count : ℕ) : Type 0 where
  pub some : 1 ≤ length bodies → 1 ≤ count
  pub few : count ≤ length bodies
  pub rest : count < length bodies → (t.head + z.most ≤ t.tail) ⊎ (z.limit ≤ t.tail)
