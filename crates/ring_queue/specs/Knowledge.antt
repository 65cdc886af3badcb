-- What a seat knows.
use Rattle.std.specs.Prelude.{refl, ℕ, ◌+◌, List, [], ◌∷◌, ◌++◌, Option}
use Rattle.history.specs.declared.operations.Entry.{Entry}
use Rattle.history.specs.declared.operations.Taken.{Taken}
use Rattle.history.specs.Seats.{Known}
use Rattle.node_arena.specs.KnownRuns.{Knowing}
use Rattle.ring_queue.specs.Paths.{Event, Step, own_path}

-- where a seat stands: at rest; with a place claimed, which it will fill with the first of these, and those behind it with the
-- others; with the words found at the places from its head on, each of its lap's parity; with its place found not filled; or with
-- Head to be read, since that place was claimed
pub data Stage : Type 0 where
  rests : Stage
  claimed : ℕ → List (Option Taken) → Stage
  found : List ℕ → Stage
  unfilled : Stage
  head_due : Stage

-- where a seat stands that has places from one on to fill with these, or none
abbrev pub standing : ℕ → List (Option Taken) → Stage
standing p [] = rests
standing p (x ∷ xs) = claimed p (x ∷ xs)

-- what a seat knows: its number, where it stands, numbers that Head and Tail aren't below, a prefix of the history, its own
-- entries, its notes, and all accesses of all seats up to its own last one, or up to where it last met another seat
pub record SeatView : Type 0 where
  pub number : ℕ
  pub stage : Stage
  pub head : ℕ
  pub tail : ℕ
  pub seen : List Entry
  pub mine : List Entry
  pub notes : List ℕ
  pub ran : List Step

-- the path of a seat: the accesses that it made itself
abbrev pub path_of : SeatView → List Event
path_of v = own_path v.number v.ran

-- what a seat knows of its queue
abbrev pub known_by : SeatView → Known
known_by v = record { number = v.number; seen = v.seen; mine = v.mine; notes = v.notes }

-- the views of the table: the first one deals numbers to seats of a ring of so many slots; one gathers those of seats that are
-- closed; two seats are one while they meet; a spent one knows nothing
pub data View : Type 0 where
  keeper : (slots n : ℕ) → View
  gathered : List SeatView → View
  seated : SeatView → View
  paired : SeatView → SeatView → View
  spent : View

-- the seats that a view speaks of
abbrev pub members : View → List SeatView
members (keeper m n) = []
members (gathered vs) = vs
members (seated v) = v ∷ []
members (paired v w) = v ∷ w ∷ []
members spent = []

-- how a ring's seats and views speak of its run
abbrev pub knowing : Knowing Step SeatView View
knowing = record { by = λ e. e.by; number = λ v. v.number; ran = λ v. v.ran; members = members; seated = seated; alone = λ v. refl }

-- what a seat knows that was just dealt: its head and its tail are the first place
abbrev pub new_seat : (slots n : ℕ) → SeatView
new_seat slots n = record { number = n; stage = rests; head = slots; tail = slots; seen = []; mine = []; notes = []; ran = [] }

-- what the first seat of a view knows
abbrev pub knows : View → SeatView
knows (keeper m n) = new_seat 0 0
knows (gathered vs) = new_seat 0 0
knows (seated v) = v
knows (paired v w) = v
knows spent = new_seat 0 0

-- what the second seat of a view knows
abbrev pub knows_second : View → SeatView
knows_second (keeper m n) = new_seat 0 0
knows_second (gathered vs) = new_seat 0 0
knows_second (seated v) = v
knows_second (paired v w) = w
knows_second spent = new_seat 0 0

-- what is left after a seat was dealt
abbrev pub dealt_left : View → View
dealt_left (keeper m n) = keeper m (n + 1)
dealt_left (gathered vs) = spent
dealt_left (seated v) = spent
dealt_left (paired v w) = spent
dealt_left spent = spent

-- the seat that is dealt
abbrev pub dealt_right : View → View
dealt_right (keeper m n) = seated (new_seat m n)
dealt_right (gathered vs) = spent
dealt_right (seated v) = spent
dealt_right (paired v w) = spent
dealt_right spent = spent

-- two seats become one; one that gathers takes in a seat that is closed
abbrev pub both_of : View → View → View
both_of (seated v) (seated w) = paired v w
both_of (gathered vs) (seated w) = gathered (vs ++ w ∷ [])
both_of v w = v

-- the first of two seats that were one
abbrev pub first_of : View → View
first_of (paired v w) = seated v
first_of v = v

-- the second of them
abbrev pub second_of : View → View
second_of (paired v w) = seated w
second_of v = spent

-- a view that stays as it is
abbrev pub itself : View → View
itself v = v
