-- What a seat does alone, whichever others stopped, and wherever they did.
use Rattle.std.specs.Prelude.{◌≡◌, ◌⊎◌, ℕ, ◌+◌, ◌/◌, ◌%◌, ◌^◌, ◌<◌, List, [], ◌∷◌, map, Some, slice_index_or}
use Rattle.atomic_table.specs.Table.{State}
use Rattle.ring_queue.specs.Words.{parity, face, slot_word}
use Rattle.ring_queue.specs.Plans.{Layout}
use Rattle.ring_queue.specs.Paths.{C1, C2, C3, C4, P2, P3, P4, Event, Step, reading, writing, AreFound}
use Rattle.ring_queue.specs.Knowledge.{Stage, rests, View}
use Rattle.ring_queue.specs.Rows.{Regs, regs, Rests, Walks, head_line, pushes, pops}
use Rattle.ring_queue.specs.Moments.{head_in, word_of_place}
use Rattle.ring_queue.specs.Rule.{Holds}

-- accesses of a seat alone
abbrev pub made_by : (me : ℕ) → List Event → List Step
made_by me es = map (λ e. record { by = me; event = e }) es

-- a seat makes these accesses alone, each by its row, finds with each what the words hold, and is then at rest
pub record EndsAlone (z : Layout) (words : List ℕ) (me : ℕ) (a : Regs) (es : List Event) : Type 0 where
  pub ended : Regs
  pub walks : Walks z me a es ended
  pub rested : ended.at ≡ rests
  pub found : AreFound words (made_by me es)

-- a push: Tail and Head are read, a place is claimed, and filled
abbrev pub push_alone : Layout → (words : List ℕ) → (me body : ℕ) → List Event
push_alone z words me body =
    let tail = slice_index_or words 0 0 in
    reading C1 0 tail ∷ reading C2 16 (head_in words) ∷ writing C3 0 tail (tail + 1) (pushes me (body ∷ []))
    ∷ writing C4 (slot_word (tail % z.slots)) (word_of_place z words tail) (face z.slots tail (Some (record { from = me; body = body }))) [] ∷ []

-- a pop: Head and the word of its place are read, and Head is raised
abbrev pub pop_alone : Layout → (words : List ℕ) → (me : ℕ) → Stage → List Event
pop_alone z words me at =
    let head = head_in words in
    let word = word_of_place z words head in
    reading (head_line at) 16 head ∷ reading P2 (slot_word (head % z.slots)) word ∷ writing P3 16 head (head + 1) (pops me (word ∷ [])) ∷ []

-- a pop that finds no value: Head, the word of its place, and Tail are read
abbrev pub empty_alone : Layout → (words : List ℕ) → Stage → List Event
empty_alone z words at =
    let head = head_in words in
    reading (head_line at) 16 head ∷ reading P2 (slot_word (head % z.slots)) (word_of_place z words head) ∷ reading P4 0 (slice_index_or words 0 0) ∷ []

-- the words have room for a value more: the queue isn't shut, holds fewer values than it has room for, and a place is left
pub record HaveRoom (z : Layout) (words : List ℕ) : Type 0 where
  pub not_shut : slice_index_or words 0 0 < 2 ^ 62
  pub room : slice_index_or words 0 0 < head_in words + z.most
  pub within : slice_index_or words 0 0 < z.limit

-- the word of the front place is of its lap
abbrev pub IsFrontFilled : Layout → List ℕ → Type 0
IsFrontFilled z words = word_of_place z words (head_in words) / 2 ^ 63 ≡ parity z.slots (head_in words)

-- no place is claimed that wasn't taken
abbrev pub IsTailAtHead : List ℕ → Type 0
IsTailAtHead words = (slice_index_or words 0 0 ≡ head_in words) ⊎ (slice_index_or words 0 0 ≡ head_in words + 2 ^ 62)

-- wherever others stopped, a seat with no place to fill ends alone a push, where there is room, with four accesses; a pop, where the
-- front place is filled, with three; and one that finds no value with three
pub record IsHeldUpNowhere (z : Layout) (words : List ℕ) (me : ℕ) (a : Regs) : Type 0 where
  pub pushes_on : (body : ℕ) → HaveRoom z words → EndsAlone z words me a (push_alone z words me body)
  pub pops_on : IsFrontFilled z words → EndsAlone z words me a (pop_alone z words me a.at)
  pub finds_none : IsTailAtHead words → EndsAlone z words me a (empty_alone z words a.at)

-- so it is in each state of the rule
abbrev pub OthersHoldUpNoPush : Type 0
OthersHoldUpNoPush = (z : Layout) (s : State ℕ View) (h : Holds z s) (n : ℕ) → Rests (h.seats n).stage → IsHeldUpNowhere z s.words n (regs (h.seats n))
