-- The slot that is out with a seat of an arena that carries values, and what a seat knows of the history of values.
use Rattle.std.specs.Prelude.{◌≡◌, ◌≢◌, ℕ, zero, suc, ◌+◌, ◌<◌, nat_lt, if◌then◌else◌, true, List, [], ◌∷◌, ◌++◌, length, Option, Some}
use mathlib.Core.Option.{some}
use lib.ListN.{get_elem?}
use Rattle.atomic_table.specs.Table.{State}
use Rattle.node_arena.specs.declared.seats.Seat.{Seat}
use Rattle.node_arena.specs.Arenas.{Arena}
use Rattle.node_arena.specs.Deeds.{Deed}
use Rattle.node_arena.specs.Plans.{Layout}
use Rattle.node_arena.specs.Slots.{Try}
use Rattle.node_arena.specs.Beside.{Beside, KnowsValues, words_of, flag_at, HoldsFor, with_tries, one_more_try}
pub use Rattle.node_arena.specs.Seats.{deeds_of, tries_of, SeesMoreDeeds}
use Rattle.node_arena.specs.Seats.{IsSeat, KeepsStored, HasNoSlot, carries_of, setup_of, view}

-- one slot of an arena is out with a seat, with this in it
pub record HasSlot {T : Type 0} (r : Arena) (s : Seat T) (slot : ℕ) (inside : Option T) : Type 0 where
  pub carries : carries_of r ≡ true
  pub there : slot < (setup_of r).size
  pub out : s.token.me.1 ≡ (slot, inside) ∷ []
  pub hand : s.token.me.0.hand ≡ some slot

-- one slot of an arena is out with a seat, with some value in it
abbrev pub HasValue : {T : Type 0} → Arena → Seat T → (slot : ℕ) → Type 0
HasValue {T} r s slot = (x : T) × HasSlot r s slot (Some x)

-- a seat stores and knows the same as before: at most its slot is another one, or has something else in it
pub record KeepsKnown {T : Type 0} (s t : Seat T) : Type 0 where
  pub stored : KeepsStored s t
  pub view : view t ≡ view s
  pub deeds : deeds_of t ≡ deeds_of s

-- a seat has tried no more slots
abbrev pub KeepsTries : {T : Type 0} (s t : Seat T) → Type 0
KeepsTries s t = tries_of t ≡ tries_of s

-- what a seat has seen of values goes on from what it had seen, and ends with this deed of its own
pub record AddsOwn {T : Type 0} (s t : Seat T) (d : Deed T) : Type 0 where
  pub between : List (Deed T)
  pub deeds : deeds_of t ≡ (deeds_of s ++ between) ++ d ∷ []

-- the slot that a push tries first, which has the number of its node; the last node's is slot 0
abbrev pub first_slot : (slots node : ℕ) → ℕ
first_slot slots node = if nat_lt node slots then node else 0

-- the slot that is tried after another
abbrev pub next_slot : (slots slot : ℕ) → ℕ
next_slot slots slot = first_slot slots (slot + 1)

-- these were tried, from a slot on, one slot after another, and each had its flag up
abbrev pub WereUp : (slots slot : ℕ) → List Try → Type 0
WereUp slots slot [] = Unit {0}
WereUp slots slot (x ∷ xs) = (x.slot ≡ slot) × (x.found ≢ 0) × WereUp slots (next_slot slots slot) xs

-- a seat went on by so many tries that missed, from a slot on, and then by these
pub record HasTried {T : Type 0} (z : Layout) (s t : Seat T) (first tries : ℕ) (last : List Try) : Type 0 where
  pub missed : List Try
  pub count : length missed ≡ tries
  pub tried : tries_of t ≡ tries_of s ++ (missed ++ last)
  pub up : WereUp z.setup.size first missed

-- a try that found a flag down
abbrev pub hitting : (slot : ℕ) → List Try
hitting slot = record { slot = slot; found = 0 } ∷ []

-- a seat made such a try
abbrev pub GotAt : {T : Type 0} → (s t : Seat T) → (slot : ℕ) → Type 0
GotAt s t slot = tries_of t ≡ tries_of s ++ hitting slot

-- in some state of the table by its rule, in which a seat knew this, after whichever tries, the flag of a slot was up
pub record WasTaken {T : Type 0} (z : Layout) (w : Beside T) (slot : ℕ) : Type 0 where
  pub state : State (Option T) (Beside T)
  pub holds : HoldsFor z state
  pub id : ℕ
  pub tries : List Try
  pub seat : get_elem? state.views id ≡ some (with_tries w tries)
  pub up : flag_at (words_of z) state.words slot ≢ 0

-- a seat missed a slot: its flag was up at its try, and the seat has none and knows the same
pub record IsMissed {T : Type 0} (r : Arena) (s t : Seat T) (slot : ℕ) : Type 0 where
  pub none : HasNoSlot t
  pub found : ℕ
  pub up : found ≢ 0
  pub same : t.token.me.0 ≡ with_tries s.token.me.0 (one_more_try s.token.me.0 slot found)
  pub taken : ∥ WasTaken r.plan s.token.me.0 slot ∥₁

-- so many slots, from one on, each had its flag up when it was tried
abbrev pub AllTaken : {T : Type 0} → Layout → Beside T → (slot tries : ℕ) → Type 0
AllTaken z w slot zero = Unit {0}
AllTaken z w slot (suc tries) = ∥ WasTaken z w slot ∥₁ × AllTaken z w (next_slot z.setup.size slot) tries

-- so many tries of a seat, from the slot of a node on, failed, each at a slot that was taken
abbrev pub FailedTries : {T : Type 0} → Arena → Seat T → (node tries : ℕ) → Type 0
FailedTries r s node tries = AllTaken r.plan s.token.me.0 (first_slot (setup_of r).size node) tries

-- what each seat of an arena that carries values knows of them is so
abbrev pub EachSeatKnowsValues : Type 0 → Type 0
EachSeatKnowsValues T = (r : Arena) (s : Seat T) → IsSeat r s → carries_of r ≡ true → ∥ KnowsValues r.plan (view s).seen s.token.me.0 ∥₁
