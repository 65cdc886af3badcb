-- What a seat knows.
use Rattle.std.specs.Prelude.{ℕ, ◌+◌, List, [], ◌∷◌, ◌++◌}
use Rattle.history.specs.declared.operations.Entry.{Entry}
use Rattle.history.specs.Seats.{Known}
use Rattle.line_steps.specs.Actors.{Actor}
use Rattle.step_machine.specs.Machine.{idle, AnyMove}
use Rattle.node_arena.specs.Traces.{Event}

-- what a seat knows: its number, its actor with line and registers, its path, a prefix of the history, its own entries,
-- its notes: after so many entries it found the queue empty, or shut; and all moves that were made until its last step or look
pub record SeatView : Type 0 where
  pub number : ℕ
  pub actor : Actor
  pub path : List Event
  pub seen : List Entry
  pub mine : List Entry
  pub notes : List ℕ
  pub ran : List AnyMove

-- what a seat knows of its queue
abbrev pub known_by : SeatView → Known
known_by v = record { number = v.number; seen = v.seen; mine = v.mine; notes = v.notes }

-- the views of the table: the first one deals numbers; one that gathers has what closed seats knew; two seats are one
-- while they meet; a spent one knows nothing
pub data View : Type 0 where
  keeper : ℕ → View
  gathered : List SeatView → View
  seated : SeatView → View
  paired : SeatView → SeatView → View
  spent : View

-- the seats that a view speaks of
abbrev pub members : View → List SeatView
members (keeper n) = []
members (gathered vs) = vs
members (seated v) = v ∷ []
members (paired v w) = v ∷ w ∷ []
members spent = []

-- what a seat knows that was just dealt
abbrev pub new_seat : ℕ → SeatView
new_seat n = record { number = n; actor = idle; path = []; seen = []; mine = []; notes = []; ran = [] }

-- what the first seat of a view knows
abbrev pub knows : View → SeatView
knows (keeper n) = new_seat 0
knows (gathered vs) = new_seat 0
knows (seated v) = v
knows (paired v w) = v
knows spent = new_seat 0

-- what the second seat of a view knows
abbrev pub knows_second : View → SeatView
knows_second (keeper n) = new_seat 0
knows_second (gathered vs) = new_seat 0
knows_second (seated v) = v
knows_second (paired v w) = w
knows_second spent = new_seat 0

-- what is left after a seat was dealt
abbrev pub dealt_left : View → View
dealt_left (keeper n) = keeper (n + 1)
dealt_left (gathered vs) = spent
dealt_left (seated v) = spent
dealt_left (paired v w) = spent
dealt_left spent = spent

-- the seat that is dealt
abbrev pub dealt_right : View → View
dealt_right (keeper n) = seated (new_seat n)
dealt_right (gathered vs) = spent
dealt_right (seated v) = spent
dealt_right (paired v w) = spent
dealt_right spent = spent

-- two seats become one; one that gathers takes in a seat that is closed
abbrev pub both_of : View → View → View
both_of (seated v) (seated w) = paired v w
both_of (gathered vs) (seated w) = gathered (vs ++ w ∷ [])
both_of v w = v

-- the first of two seats that were one
abbrev pub first_of : View → View
first_of (paired v w) = seated v
first_of v = v

-- the second of them
abbrev pub second_of : View → View
second_of (paired v w) = seated w
second_of v = spent

-- a view that stays as it is
abbrev pub itself : View → View
itself v = v
