-- What a ring is at any moment.
use Rattle.std.specs.Prelude.{◌≡◌, ◌≢◌, ◌⊎◌, ℕ, ◌+◌, ◌/◌, ◌%◌, ◌^◌, ◌<◌, ◌≤◌, Bool, if◌then◌else◌, nat_lt, ◌-◌, List, ◌∷◌, ◌++◌, length, Option, Some, None, slice_get, slice_index_or}
use Rattle.std.specs.List.{All, count_by}
use mathlib.Core.Option.{some}
use lib.ListN.{get_elem?}
use Rattle.atomic_table.specs.Table.{State}
use Rattle.history.specs.declared.operations.Entry.{Entry}
use Rattle.history.specs.declared.operations.Taken.{Taken}
use Rattle.history.specs.Entries.{own_entries, is_pop, Leads}
use Rattle.history.specs.Seats.{IsPermitted}
use Rattle.history.specs.Values.{pushed, popped}
use Rattle.ring_queue.specs.Words.{face, parity, slot_word, tail_word}
use Rattle.ring_queue.specs.Plans.{Layout, permits_of}
use Rattle.ring_queue.specs.Knowledge.{SeatView, View, members}
use Rattle.ring_queue.specs.Rule.{HasClaimed, Run, Holds}

-- a seat has seen a prefix of a history, in which just its own entries are of its number
pub record HasSeen (history : List Entry) (n : ℕ) (v : SeatView) : Type 0 where
  pub rest : List Entry
  pub prefix : history ≡ v.seen ++ rest
  pub own : own_entries n history ≡ v.mine

-- Head, by the words
abbrev pub head_in : List ℕ → ℕ
head_in words = slice_index_or words 16 0

-- how many places were claimed, by the words
abbrev pub tail_in : List ℕ → ℕ
tail_in words = slice_index_or words 0 0 % 2 ^ 62

-- each seat that a table's views speak of is the one of its number
abbrev pub AreViewed : List View → (ℕ → SeatView) → Type 0
AreViewed views seats = (j i : ℕ) (u : View) (v : SeatView) → get_elem? views j ≡ some u → get_elem? (members u) i ≡ some v → seats v.number ≡ v

-- what a place is filled with, or will be, by the history: nothing in the first lap, then each value in the order of the pushes
abbrev pub content_of : Layout → List Entry → (place : ℕ) → Option Taken
content_of z es place = if nat_lt place z.slots then None else slice_get (pushed es) (place - z.slots)

-- the word of a place's slot
abbrev pub word_of_place : Layout → (words : List ℕ) → (place : ℕ) → ℕ
word_of_place z words place = slice_index_or words (slot_word (place % z.slots)) 0

-- a place is filled: its slot's word is its own, and nobody stands with it claimed
pub record IsThere (z : Layout) (words : List ℕ) (seats : ℕ → SeatView) (es : List Entry) (place : ℕ) : Type 0 where
  pub word : word_of_place z words place ≡ face z.slots place (content_of z es place)
  pub nobody : (k : ℕ) (x : Option Taken) → HasClaimed (seats k).stage place x → ⊥

-- a place isn't filled: one seat, and no other, stands with it claimed, with what it will be filled with; no pop has come to it, and
-- its slot's word is that of the place a lap before
pub record IsHeld (z : Layout) (words : List ℕ) (seats : ℕ → SeatView) (es : List Entry) (place : ℕ) : Type 0 where
  pub seat : ℕ
  pub from : 1 ≤ seat
  pub to : seat ≤ length z.roles
  pub stands : HasClaimed (seats seat).stage place (content_of z es place)
  pub alone : (k : ℕ) (x : Option Taken) → HasClaimed (seats k).stage place x → k ≡ seat
  pub waits : head_in words ≤ place
  pub word : word_of_place z words place ≡ face z.slots (place - z.slots) (content_of z es (place - z.slots))

-- a slot shows the last of its places that was claimed
pub record ShowsSlot (z : Layout) (words : List ℕ) (seats : ℕ → SeatView) (es : List Entry) (slot : ℕ) : Type 0 where
  pub place : ℕ
  pub its : place % z.slots ≡ slot
  pub claimed : place < tail_in words
  pub last : tail_in words ≤ place + z.slots
  pub shows : IsThere z words seats es place ⊎ IsHeld z words seats es place

-- the words show a queue: from Head up to Tail there is a place for each of its values, of which there are no more than the ring has
-- room for, and Tail says whether it is shut
pub record ShowsQueue (z : Layout) (words : List ℕ) (shut : Bool) (values : List Taken) : Type 0 where
  pub tail : slice_index_or words 0 0 ≡ tail_word (head_in words + length values) shut
  pub room : length values ≤ z.most

-- at a moment one history of permitted entries leads to the queue that the words show, and each slot shows the last of its places that
-- was claimed, by the history. What this pushed is, in order and each once, what it popped, of which there are as many as Head says,
-- and then what is in the queue. Each seat has seen a prefix of it
pub record IsLinearizable (z : Layout) (s : State ℕ View) : Type 0 where
  pub seats : ℕ → SeatView
  pub views : AreViewed s.views seats
  pub history : List Entry
  pub shut : Bool
  pub values : List Taken
  pub leads : Leads history shut values
  pub shows : ShowsQueue z s.words shut values
  pub slots : (slot : ℕ) → slot < z.slots → ShowsSlot z s.words seats history slot
  pub once : pushed history ≡ popped history ++ values
  pub taken : head_in s.words ≡ z.slots + count_by is_pop history
  pub permitted : All (IsPermitted (permits_of z)) history
  pub run : Run z s.words seats history
  pub each : (n : ℕ) → HasSeen history n (seats n)

-- what the slots hold is determined by the history, the seats and the word of Tail
abbrev pub SlotsAreDetermined : Type 0
SlotsAreDetermined = (z : Layout) (s t : State ℕ View) (h : IsLinearizable z s) (k : IsLinearizable z t) → 1 ≤ z.slots → k.history ≡ h.history
    → ((n : ℕ) → k.seats n ≡ h.seats n) → tail_in t.words ≡ tail_in s.words → (slot : ℕ) → slot < z.slots
    → slice_index_or t.words (slot_word slot) 0 ≡ slice_index_or s.words (slot_word slot) 0

-- so it is in each state of the rule
abbrev pub EachMomentIsLinearizable : Type 0
EachMomentIsLinearizable = (z : Layout) (s : State ℕ View) → Holds z s → IsLinearizable z s

-- pops are held up: Head's place was claimed, and the word of its slot isn't of its lap
pub record AreHeldUp (z : Layout) (words : List ℕ) : Type 0 where
  pub claimed : head_in words < tail_in words
  pub unfilled : slice_index_or words (slot_word (head_in words % z.slots)) 0 / 2 ^ 63 ≢ parity z.slots (head_in words)

-- a seat of this number, and no other, stands with Head's place claimed, and will fill it with the value at the front
pub record HoldsUp (z : Layout) (words : List ℕ) (seats : ℕ → SeatView) (values : List Taken) (n : ℕ) : Type 0 where
  pub from : 1 ≤ n
  pub to : n ≤ length z.roles
  pub front : Taken
  pub others : List Taken
  pub values_are : values ≡ front ∷ others
  pub stands : HasClaimed (seats n).stage (head_in words) (Some front)
  pub alone : (k : ℕ) (x : Option Taken) → HasClaimed (seats k).stage (head_in words) x → k ≡ n

-- so it is in each state of the rule in which pops are held up
abbrev pub NamesWhoHoldsUp : Type 0
NamesWhoHoldsUp = (z : Layout) (s : State ℕ View) (h : Holds z s) → AreHeldUp z s.words → (n : ℕ) × HoldsUp z s.words h.seats h.ring.values n
