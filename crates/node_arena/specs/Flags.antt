-- What the rule says of the flags of slots at one moment.
use Rattle.std.specs.Prelude.{◌≡◌, ◌≢◌, ◌⊎◌, ℕ, ◌<◌, Bool, true, List, Option, None}
use mathlib.Core.Option.{some}
use lib.ListN.{get_elem?}
use Rattle.atomic_table.specs.Table.{State}
use Rattle.history.specs.declared.operations.Entry.{Entry}
use Rattle.history.specs.declared.operations.Taken.{Taken}
use Rattle.history.specs.Entries.{Leads}
use Rattle.node_arena.specs.Plans.{Layout}
use Rattle.node_arena.specs.Beside.{Beside, words_of, flag_at, hand_at, HoldsFor}

-- a slot is out with a seat
abbrev pub IsOut : {T : Type 0} → State (Option T) (Beside T) → (slot : ℕ) → Type 0
IsOut s slot = (seat : ℕ) × (hand_at s.views seat ≡ some slot)

-- a slot has the number of one of these
abbrev pub IsQueued : List Taken → (slot : ℕ) → Type 0
IsQueued values slot = (k : ℕ) × (t : Taken) × (get_elem? values k ≡ some t) × (t.body ≡ slot)

-- of each slot: its flag is up where it is out with a seat, or has the number of a value to which this history leads, and there
-- alone; where it is down the slot is at home, and empty
pub record FlagsAreSo {T : Type 0} (z : Layout) (s : State (Option T) (Beside T)) (history : List Entry) : Type 0 where
  pub values : List Taken
  pub shut : Bool
  pub leads : Leads history shut values
  pub out : (slot : ℕ) → IsOut s slot → (slot < z.setup.size) × (flag_at (words_of z) s.words slot ≡ 1)
  pub queued : (slot : ℕ) → IsQueued values slot → (slot < z.setup.size) × (flag_at (words_of z) s.words slot ≡ 1)
  pub up : (slot : ℕ) → slot < z.setup.size → flag_at (words_of z) s.words slot ≢ 0 → IsOut s slot ⊎ IsQueued values slot
  pub down : (slot : ℕ) → slot < z.setup.size → flag_at (words_of z) s.words slot ≡ 0 → get_elem? s.homes slot ≡ some (some None)

-- whatever the rule of an arena that carries values holds of is such a moment
abbrev pub EachFlagIsSo : Type 0 → Type 0
EachFlagIsSo T = (z : Layout) (s : State (Option T) (Beside T)) (h : HoldsFor z s) → z.carries ≡ true → FlagsAreSo z s h.base.trace.history
