-- What a thread did by its seat in one queue.
use Rattle.std.specs.Prelude.{◌≡◌, ℕ, zero, suc, ◌+◌, ◌-◌, true, List, [], ◌∷◌, ◌++◌}
use Rattle.history.specs.declared.operations.Entry.{Entry}
use Rattle.history.specs.declared.operations.Entry.TheVariants.{Push}
use Rattle.history.specs.declared.operations.Taken.{Taken}
use Rattle.history.specs.Entries.{Leads}
use Rattle.history.specs.Seats.{Known}
use Rattle.carriers.specs.Drained.{HasPopped}

-- the pushes of so many numbers from this one on by a seat
abbrev pub pushes_from : (seat first count : ℕ) → List Entry
pushes_from seat first zero = []
pushes_from seat first (suc n) = pushes_from seat first n ++ Push seat (first + n) ∷ []

-- a seat pushed the numbers from the first one to the one before the other, each once and in their order, and did nothing else
abbrev pub Gave : Known → (first next : ℕ) → Known → Type 0
Gave k first next k' = k'.mine ≡ k.mine ++ pushes_from k.number first (next - first)

-- a seat popped just the values by which the list has grown, in their order, and found its queue shut and empty
pub record Took (k : Known) (before after : List Taken) (k' : Known) : Type 0 where
  pub values : List Taken
  pub grown : after ≡ before ++ values
  pub popped : HasPopped k values k'
  pub ended : Leads k'.seen true []
