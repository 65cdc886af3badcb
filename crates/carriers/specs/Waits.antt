-- What a seat knows after it waited for a value.
use Rattle.std.specs.Prelude.{◌≡◌, ℕ, List, [], ◌∷◌}
use Rattle.history.specs.declared.operations.Taken.{Taken}
use Rattle.history.specs.declared.refusals.Refusal.{Refusal}
use Rattle.history.specs.Seats.{Known}
use Rattle.history.specs.Answers.{Popped, FoundEmpty, PopRefused, SeesMore, EndsByTry}

-- pops, one after another, each found the queue empty; before each the seat knew this, the last one first
abbrev pub FoundEmptyEach : Known → List Known → Known → Type 0
FoundEmptyEach k [] k' = k' ≡ k
FoundEmptyEach k (j ∷ js) k' = FoundEmptyEach k js j × FoundEmpty j k'

-- a seat waited: it made no pop, or some that each found the queue empty
abbrev pub Waited : Known → Known → Type 0
Waited k k' = (js : List Known) × FoundEmptyEach k js k'

-- a value was popped, after waiting
abbrev pub PoppedAfterWaiting : Known → Taken → Known → Type 0
PoppedAfterWaiting k value k' = (j : Known) × Waited k j × Popped j value k'

-- a pop was refused so, after waiting, from what the seat then was to what it is now; it had a cause that the queue names
pub record RefusedAfterWaiting {Q S : Type 0} (is_seat : Q → S → Type 0) (known : S → Known) (cause : Q → S → S → ℕ → Refusal → Type 0)
    (queue : Q) (before after : S) (refusal : Refusal) : Type 0 where
  pub last : S
  pub seat : is_seat queue last
  pub waited : Waited (known before) (known last)
  pub refused : PopRefused (known last) refusal (known after)
  pub caused : EndsByTry is_seat known cause queue last after 8 refusal

-- a seat waits, by tries after the last pop that found the queue empty, from what it then was to what it is now
pub record WaitsBy {Q S : Type 0} (is_seat : Q → S → Type 0) (known : S → Known) (queue : Q) (before now : S) : Type 0 where
  pub last : S
  pub seat : is_seat queue last
  pub waited : Waited (known before) (known last)
  pub more : SeesMore (known last) (known now)
