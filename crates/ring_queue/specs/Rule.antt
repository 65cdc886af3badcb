-- The rule of a ring: its words and its seats are those of a queue, which a history leads to.
use Rattle.std.specs.Prelude.{◌≡◌, ℕ, ◌+◌, ◌-◌, ◌*◌, ◌%◌, ◌^◌, ◌<◌, ◌≤◌, Bool, if◌then◌else◌, nat_eq, List, [], ◌++◌, length, Option, Some, None, slice_get, slice_index_or}
use Rattle.std.specs.List.{All, count_by}
use mathlib.Core.Option.{some}
use lib.ListN.{get_elem?}
use Rattle.atomic_table.specs.Table.{State, Me}
use Rattle.history.specs.declared.operations.Entry.{Entry}
use Rattle.history.specs.declared.operations.Taken.{Taken}
use Rattle.history.specs.Entries.{own_entries, is_pop, Leads}
use Rattle.history.specs.Seats.{IsPermitted, IsNoted}
use Rattle.history.specs.Values.{pushed}
use Rattle.node_arena.specs.KnownRuns.{IsThere}
use Rattle.ring_queue.specs.Words.{face, slot_word, tail_word}
use Rattle.ring_queue.specs.Plans.{Layout, IsPlanned, permits_of}
use Rattle.ring_queue.specs.Paths.{Step, Ran, left_by, AreFound, own_path, added_by}
use Rattle.ring_queue.specs.Rows.{regs, first_regs, Walks}
use Rattle.ring_queue.specs.Knowledge.{Stage, rests, claimed, found, unfilled, head_due, SeatView, View, keeper, gathered, members, knowing, new_seat}

-- the last place of a slot that was claimed, and who will fill it, if it isn't filled
pub record Cell : Type 0 where
  pub place : ℕ
  pub filler : Option ℕ

-- what each place that was claimed is filled with, or will be
abbrev pub Log : Type 0
Log = ℕ → Option Taken

-- what can be the content of a place: a seat's number isn't 0, and lies in 15 bits, a body in 48
abbrev pub FitsWord : Option Taken → Type 0
FitsWord None = Unit {0}
FitsWord (Some v) = (1 ≤ v.from) × (v.from < 2 ^ 15) × (v.body < 2 ^ 48)

-- the word of a slot is that of its last place where this is filled, and else of the place a lap before; the place is then
-- not below Head
abbrev pub Lies : (slots head : ℕ) → Log → (word place : ℕ) → (filler : Option ℕ) → Type 0
Lies slots head log word place None = word ≡ face slots place (log place)
Lies slots head log word place (Some n) = (word ≡ face slots (place - slots) (log (place - slots))) × (slots ≤ place) × (head ≤ place)

-- a slot is as its cell says
pub record CellOk (slots head tail : ℕ) (log : Log) (words : List ℕ) (i : ℕ) (c : Cell) : Type 0 where
  pub slot : c.place % slots ≡ i
  pub claimed : c.place < tail
  pub last : tail ≤ c.place + slots
  pub lies : Lies slots head log (slice_index_or words (slot_word i) 0) c.place c.filler

-- a seat that stands so has claimed a place, which it will fill with this
abbrev pub HasClaimed : Stage → (place : ℕ) → Option Taken → Type 0
HasClaimed (claimed p xs) place x = (p ≤ place) × (slice_get xs (place - p) ≡ Some x)
HasClaimed st place x = ⊥

-- a place was claimed, and is filled with this word
abbrev pub IsFilled : (slots tail : ℕ) → Log → (ℕ → Cell) → (place word : ℕ) → Type 0
IsFilled slots tail log cells place word = (place < tail) × (word ≡ face slots place (log place)) × (cells (place % slots) ≡ record { place = place; filler = None })

-- what a seat knows by where it stands: each place that it claimed is its own to fill; and if its head is still Head, each word that
-- it found is that of its place, which is filled
abbrev pub Stands : (slots head tail : ℕ) → Log → (ℕ → Cell) → SeatView → Stage → Type 0
Stands slots head tail log cells v rests = Unit {0}
Stands slots head tail log cells v unfilled = Unit {0}
Stands slots head tail log cells v head_due = Unit {0}
Stands slots head tail log cells v (claimed p xs) = (place : ℕ) (x : Option Taken) → HasClaimed (claimed p xs) place x
    → (cells (place % slots) ≡ record { place = place; filler = Some v.number }) × (log place ≡ x)
Stands slots head tail log cells v (found ws) = v.head ≡ head → (i w : ℕ) → slice_get ws i ≡ Some w → IsFilled slots tail log cells (head + i) w

-- a seat fits: its head isn't above Head, nor its tail above Tail, what it has seen is a prefix of the history, and its own entries
-- are just those of it, and just those that it has seen
pub record SeatOk (z : Layout) (head tail : ℕ) (log : Log) (cells : ℕ → Cell) (history : List Entry) (n : ℕ) (v : SeatView) : Type 0 where
  pub number : v.number ≡ n
  pub behind : v.head ≤ head
  pub under : v.tail ≤ tail
  pub rest : List Entry
  pub begins : history ≡ v.seen ++ rest
  pub own : own_entries n history ≡ v.mine
  pub known : own_entries n v.seen ≡ v.mine
  pub noted : All (IsNoted v.seen) v.notes
  pub stage : Stands z.slots head tail log cells v v.stage

-- who will fill a place is one of so many seats, and stands there with the place claimed
abbrev pub FillerStands : (count : ℕ) → Log → (ℕ → SeatView) → (place : ℕ) → (filler : Option ℕ) → Type 0
FillerStands count log seats place None = Unit {0}
FillerStands count log seats place (Some n) = (1 ≤ n) × (n ≤ count) × HasClaimed (seats n).stage place (log place)

-- one of many changed
abbrev pub put : {X : Type 0} → (ℕ → X) → ℕ → X → ℕ → X
put f n x k = if nat_eq k n then x else f k

-- what the ring is: Head and Tail, the queue, the history that leads to it, what each place is filled with, and the cells
pub record Ring (z : Layout) (words : List ℕ) (seats : ℕ → SeatView) : Type 0 where
  pub planned : IsPlanned z
  pub head : ℕ
  pub tail : ℕ
  pub shut : Bool
  pub values : List Taken
  pub history : List Entry
  pub log : Log
  pub cells : ℕ → Cell
  pub wide : length words ≡ 32 + 2 * z.slots
  pub tail_is : slice_index_or words 0 0 ≡ tail_word tail shut
  pub head_is : slice_index_or words 16 0 ≡ head
  pub leads : Leads history shut values
  pub taken : head ≡ z.slots + count_by is_pop history
  pub permitted : All (IsPermitted (permits_of z)) history
  pub counted : head + length values ≡ tail
  pub roomy : tail ≤ head + z.most
  pub limited : tail ≤ z.limit
  pub logged : (i : ℕ) (v : Taken) → slice_get values i ≡ Some v → log (head + i) ≡ Some v
  pub first_lap : (p : ℕ) → p < z.slots → log p ≡ None
  pub in_order : (i : ℕ) → z.slots + i < tail → log (z.slots + i) ≡ slice_get (pushed history) i
  pub fits : (p : ℕ) → FitsWord (log p)
  pub each_cell : (i : ℕ) → i < z.slots → CellOk z.slots head tail log words i (cells i)
  pub filling : (i : ℕ) → i < z.slots → FillerStands (length z.roles) log seats (cells i).place (cells i).filler
  pub each_seat : (n : ℕ) → SeatOk z head tail log cells history n (seats n)

-- the words at the start: Tail and Head are at the end of the first lap, and each slot holds nothing
pub record IsStart (z : Layout) (words : List ℕ) : Type 0 where
  pub wide : length words ≡ 32 + 2 * z.slots
  pub tail : slice_index_or words 0 0 ≡ z.slots
  pub head : slice_index_or words 16 0 ≡ z.slots
  pub blank : (i : ℕ) → i < z.slots → slice_index_or words (slot_word i) 0 ≡ 0

-- accesses of seats, one after another, lead from the words at the start to these: each found what its word held then, what each
-- seat knows of them is a beginning of them, behind which it made none, its own are each by its row, and the history is what took
-- its effect with them
pub record Run (z : Layout) (words : List ℕ) (seats : ℕ → SeatView) (history : List Entry) : Type 0 where
  pub start : List ℕ
  pub starts : IsStart z start
  pub trace : List Step
  pub leaves : words ≡ left_by start trace
  pub found : AreFound start trace
  pub ran : (n : ℕ) → Ran trace n (seats n).ran
  pub walks : (n : ℕ) → Walks z n (first_regs z.slots) (own_path n (seats n).ran) (regs (seats n))
  pub adds : history ≡ added_by trace

-- the rule of the table: its words are a ring's, whose seats its views speak of, no two of one number, and each seat that made an
-- access of the run is among the views
pub record Holds (z : Layout) (s : State ℕ View) : Type 0 where
  pub seats : ℕ → SeatView
  pub ring : Ring z s.words seats
  pub run : Run z s.words seats ring.history
  pub dealt : ℕ
  pub home : ℕ
  pub owner : ℕ → ℕ × ℕ
  pub fits : (j i : ℕ) (u : View) (v : SeatView) → get_elem? s.views j ≡ some u → get_elem? (members u) i ≡ some v → seats v.number ≡ v
  pub owned : (j i : ℕ) (u : View) (v : SeatView) → get_elem? s.views j ≡ some u → get_elem? (members u) i ≡ some v → (owner v.number ≡ (j, i)) × (v.number < dealt)
  pub kept : (j m n : ℕ) → get_elem? s.views j ≡ some (keeper m n) → (j ≡ home) × (n ≡ dealt) × (m ≡ z.slots)
  pub undealt : (n : ℕ) → dealt ≤ n → seats n ≡ new_seat z.slots n
  pub there : (n : ℕ) → IsThere knowing s.views run.trace n

-- a new token gathers
abbrev pub Opens : Me ℕ View → Type 0
Opens me = me ≡ (gathered [], [])

-- the first view deals number 1 first
abbrev pub first_view : Layout → View
first_view z = keeper z.slots 1
