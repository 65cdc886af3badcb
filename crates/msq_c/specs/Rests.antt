-- What C gets of the end of a queue.
use Rattle.std.specs.Prelude.{◌≡◌, List, Result, Ok, Err}
use Rattle.history.specs.declared.rests.Rest.{Rest}
use Rattle.history.specs.Rests.{left_of, taken_of, whole_of, was_shut_of}
use Rattle.msq_c.specs.declared.handles.MsqSeat.{MsqSeat}
use Rattle.msq_c.specs.declared.values.MsqValue.{MsqValue}
use Rattle.msq_c.specs.declared.rests.MsqRest.{MsqRest}
use Rattle.msq_c.specs.declared.troubles.Trouble.{Trouble}
use Rattle.msq_c.specs.Ends.{AreEmpty, ClosesHandles, RefusesClose}
use Rattle.msq_c.specs.Values.{count_told, AreWritten}

-- C gets of a rest how many values are left, how many were taken, whether it is whole, and whether the queue was shut
pub record IsRest (rest : Rest) (told : MsqRest) : Type 0 where
  pub left : told.left ≡ count_told (left_of rest)
  pub taken : told.taken ≡ taken_of rest
  pub whole : told.whole ≡ whole_of rest
  pub was_shut : told.was_shut ≡ was_shut_of rest

-- the end of a queue by handles H, as C is told of it: what closes the queue, when they are empty, why it isn't closed, what C
-- gets of a rest R, and of the values left, each as a V
module _ {H R E V : Type 0} (Closes : List H → R → E → Type 0) (Empty : List H → Type 0) (Refuses : List H → List H → Trouble → Type 0)
    (Gets : R → MsqRest → Type 0) (GetsValues : R → List V → List V → Type 0) where
  -- the queue of these handles was closed by all of them, which are empty then, and C got what was left
  pub record Closed (slots slots' : List H) (vs vs' : List V) (told : MsqRest) : Type 0 where
    pub rest : R
    pub end : E
    pub closes : Closes slots rest end
    pub empty : Empty slots'
    pub tells : Gets rest told
    pub written : GetsValues rest vs vs'

  -- a queue isn't closed, for its cause, and nothing was written
  pub record NotClosed (slots slots' : List H) (vs vs' : List V) (told told' : MsqRest) (refusal : Trouble) : Type 0 where
    pub refused : Refuses slots slots' refusal
    pub values : vs' ≡ vs
    pub rest : told' ≡ told

  -- what the end of a queue answers
  abbrev pub AnswersEnd : (slots slots' : List H) (vs vs' : List V) (told told' : MsqRest) → Result (Unit {0}) Trouble → Type 0
  AnswersEnd slots slots' vs vs' told told' (Ok x) = Closed slots slots' vs vs' told'
  AnswersEnd slots slots' vs vs' told told' (Err refusal) = NotClosed slots slots' vs vs' told told' refusal

-- the values left are written from the front
abbrev pub WritesLeft : Rest → List MsqValue → List MsqValue → Type 0
WritesLeft rest = AreWritten (left_of rest)

-- the same of seats
abbrev pub AnswersClose : (slots slots' : List MsqSeat) (vs vs' : List MsqValue) (told told' : MsqRest) → Result (Unit {0}) Trouble → Type 0
AnswersClose = AnswersEnd ClosesHandles AreEmpty RefusesClose IsRest WritesLeft
