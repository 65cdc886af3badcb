-- The slot that is out with a seat of a ring that carries values, what a push needs there and what a push and a pop do with it, and
-- what a seat knows of the history of values.
use Rattle.std.specs.Prelude.{◌≡◌, ◌≢◌, ℕ, zero, suc, ◌+◌, ◌%◌, ◌<◌, true, List, [], ◌∷◌, ◌++◌, length, Option, Some, None}
use mathlib.Core.Option.{some}
use lib.ListN.{get_elem?}
use Rattle.atomic_table.specs.Table.{State}
use Rattle.history.specs.declared.operations.Taken.{Taken}
use Rattle.node_arena.specs.Deeds.{Deed, Item, item, pushed, popped}
use Rattle.node_arena.specs.Beside.{flag_at}
use Rattle.ring_queue.specs.declared.pops.Turn.{Turn}
use Rattle.ring_queue.specs.declared.pops.Turn.TheVariants.{Took, Empty, Closed, Failed}
use Rattle.ring_queue.specs.declared.seats.Seat.{Seat}
use Rattle.ring_queue.specs.Plans.{Layout, words_of}
use Rattle.ring_queue.specs.Beside.{Beside, HoldsBy, StoodFirst}
use Rattle.ring_queue.specs.Paths.{Try}
use Rattle.ring_queue.specs.Seats.{HasNoSlot, KeepsSlots, deeds_of, view}

-- one slot of a ring is out with a seat, with this in it
pub record HasSlot {T : Type 0} (z : Layout) (s : Seat T) (slot : ℕ) (inside : Option T) : Type 0 where
  pub carries : z.carries ≡ true
  pub there : slot < z.slots
  pub out : s.token.me.1 ≡ (slot, inside) ∷ []
  pub hand : s.token.me.0.hand ≡ some slot

-- one slot of a ring is out with a seat, with some value in it
abbrev pub HasValue : {T : Type 0} → Layout → Seat T → (slot : ℕ) → Type 0
HasValue {T} z s slot = (x : T) × HasSlot z s slot (Some x)

-- a seat stores and knows the same as before: at most its slot is another one, or has something else in it
pub record KeepsKnown {T : Type 0} (s t : Seat T) : Type 0 where
  pub number : t.number ≡ s.number
  pub role : t.role ≡ s.role
  pub head : t.head ≡ s.head
  pub tail : t.tail ≡ s.tail
  pub view : view t ≡ view s
  pub deeds : deeds_of t ≡ deeds_of s

-- a seat's tries at slots
abbrev pub tries_of : {T : Type 0} → Seat T → List Try
tries_of s = s.token.me.0.tries

-- these were tried, from a slot on, one slot after another, and each had its flag up
abbrev pub WereUp : Layout → (slot : ℕ) → List Try → Type 0
WereUp z slot [] = Unit {0}
WereUp z slot (x ∷ xs) = (x.slot ≡ slot) × (x.found ≢ 0) × WereUp z ((slot + 1) % z.slots) xs

-- a seat went on by so many tries that missed, from a slot on, and then by these
pub record HasTried {T : Type 0} (z : Layout) (s t : Seat T) (first tries : ℕ) (last : List Try) : Type 0 where
  pub missed : List Try
  pub count : length missed ≡ tries
  pub tried : tries_of t ≡ tries_of s ++ (missed ++ last)
  pub up : WereUp z first missed

-- the same, from the slot on at which it begins to look
abbrev pub TriedSome : {T : Type 0} → Layout → (s t : Seat T) → (tries : ℕ) → (last : List Try) → Type 0
TriedSome z s t tries last = HasTried z s t (s.near % z.slots) tries last

-- a try that found a flag down
abbrev pub hitting : (slot : ℕ) → List Try
hitting slot = record { slot = slot; found = 0 } ∷ []

-- a seat made such a try
abbrev pub GotAt : {T : Type 0} → (s t : Seat T) → (slot : ℕ) → Type 0
GotAt s t slot = tries_of t ≡ tries_of s ++ hitting slot

-- in some state of the table by its rule, in which a seat knew this, the flag of a slot was up
pub record WasTaken {T : Type 0} (z : Layout) (w : Beside T) (slot : ℕ) : Type 0 where
  pub state : State (Option T) (Beside T)
  pub holds : HoldsBy z state
  pub id : ℕ
  pub its : Beside T
  pub seat : get_elem? state.views id ≡ some its
  pub same : its.plain ≡ w.plain
  pub up : flag_at (words_of z) state.words slot ≢ 0

-- a seat missed a slot: its flag was up at its try, and the seat has none and knows the same
pub record IsMissed {T : Type 0} (z : Layout) (s t : Seat T) (slot : ℕ) : Type 0 where
  pub none : HasNoSlot t
  pub same : t.token.me.0.plain ≡ s.token.me.0.plain
  pub found : ℕ
  pub up : found ≢ 0
  pub tried : tries_of t ≡ tries_of s ++ record { slot = slot; found = found } ∷ []
  pub taken : ∥ WasTaken z s.token.me.0 slot ∥₁

-- so many slots, from one on, each had its flag up when it was tried
abbrev pub AllTaken : {T : Type 0} → Layout → Beside T → (slot tries : ℕ) → Type 0
AllTaken z w slot zero = Unit {0}
AllTaken z w slot (suc tries) = ∥ WasTaken z w slot ∥₁ × AllTaken z w ((slot + 1) % z.slots) tries

-- so many tries of a seat failed, from the slot on at which it begins to look, each at a slot that was taken
abbrev pub FailedTries : {T : Type 0} → Layout → Seat T → (tries : ℕ) → Type 0
FailedTries z s tries = AllTaken z s.token.me.0 (s.near % z.slots) tries

-- where a ring carries values, the slot of a body is out with a seat, with a value in it
abbrev pub IsLoaded : {T : Type 0} → Layout → (body : ℕ) → Seat T → Type 0
IsLoaded {T} z body s = z.carries ≡ true → (x : T) × (s.token.me.1 ≡ (body, Some x) ∷ []) × (s.token.me.0.hand ≡ some body) × (body < z.slots)

-- what a seat has seen of values goes on from what it had seen, and ends with this deed of its own
pub record AddsOwn {T : Type 0} (s t : Seat T) (d : Deed T) : Type 0 where
  pub between : List (Deed T)
  pub deeds : deeds_of t ≡ (deeds_of s ++ between) ++ d ∷ []

-- a seat pushed what lay in this slot, which was out with it: its push is the last deed that it has seen
abbrev pub PushesFrom : {T : Type 0} → (slot : ℕ) → (s t : Seat T) → Type 0
PushesFrom {T} slot s t = (x : T) × (s.token.me.1 ≡ (slot, Some x) ∷ []) × AddsOwn s t (pushed (view s).number x)

-- where a ring carries values, the slot of what was pushed went with it, so that none is out with the seat, which pushed the
-- value in it
abbrev pub GivesSlot : {T : Type 0} → Layout → (body : ℕ) → (s t : Seat T) → Type 0
GivesSlot z body s t = z.carries ≡ true → HasNoSlot t × PushesFrom body s t

-- a seat popped this: its pop is the last deed that it has seen, and what it had then seen leads to a queue with this in front
pub record PopsFront {T : Type 0} (s t : Seat T) (front : Item T) : Type 0 where
  pub adds : AddsOwn s t (popped (view s).number front)
  pub stood : StoodFirst (deeds_of s ++ adds.between) front

-- where a ring carries values, the slot of what was popped came out with the seat, beside those that were, with the value that
-- the seat popped
abbrev pub TakesSlot : {T : Type 0} → Layout → Taken → (s t : Seat T) → Type 0
TakesSlot {T} z v s t = z.carries ≡ true → (x : T) × (t.token.me.1 ≡ (v.body, Some x) ∷ s.token.me.1) × (t.token.me.0.hand ≡ some v.body) × PopsFront s t (item v.from x)

-- what a pop did with slots: the slot of its value came out, or none moved
abbrev pub PopMoves : {T : Type 0} → Layout → (s t : Seat T) → Option Taken → Type 0
PopMoves z s t None = KeepsSlots s t
PopMoves z s t (Some v) = TakesSlot z v s t

-- what a turn of a pop did with them
abbrev pub TurnMoves : {T : Type 0} → Layout → (s t : Seat T) → Turn → Type 0
TurnMoves z s t (Took v) = TakesSlot z v s t
TurnMoves z s t Empty = KeepsSlots s t
TurnMoves z s t Closed = KeepsSlots s t
TurnMoves z s t Failed = KeepsSlots s t

-- two seats have seen one history of values, which goes on from what each had seen
pub record MeetsValues {T : Type 0} (s t s' t' : Seat T) : Type 0 where
  pub same : deeds_of t' ≡ deeds_of s'
  pub first : (between : List (Deed T)) × (deeds_of s' ≡ deeds_of s ++ between)
  pub second : (between : List (Deed T)) × (deeds_of t' ≡ deeds_of t ++ between)
