-- What all items of an iterator over a queue say of its seat, from the first to the end.
use Rattle.std.specs.Prelude.{◌≡◌, List, [], ◌∷◌, ◌++◌, map, Result, Ok, Err}
use Rattle.history.specs.declared.operations.Entry.TheVariants.{Pop}
use Rattle.history.specs.declared.operations.Taken.{Taken}
use Rattle.history.specs.declared.refusals.Refusal.{Refusal}
use Rattle.history.specs.Seats.{Known}
use Rattle.history.specs.Answers.{Popped, FoundEmpty, FoundShutEmpty, SeesMore, PopRefused, EndsPop}
use Rattle.carriers.specs.Waits.{Waited, PoppedAfterWaiting}
use Rattle.carriers.specs.Shuts.{IsWornOut}

-- each value was popped, one pop after another, and then the queue was found empty, or a pop was refused
abbrev pub DrainedUntilEmpty : Known → List (Result Taken Refusal) → Known → Type 0
DrainedUntilEmpty k [] k' = FoundEmpty k k'
DrainedUntilEmpty k (Ok value ∷ items) k' = (j : Known) × Popped k value j × DrainedUntilEmpty j items k'
DrainedUntilEmpty k (Err refusal ∷ items) k' = (items ≡ []) × EndsPop refusal × PopRefused k refusal k'

-- each value was popped, one after another, each after waiting, and then the queue was found shut and empty, or a word worn out
abbrev pub DrainedUntilShut : Known → List (Result Taken Refusal) → Known → Type 0
DrainedUntilShut k [] k' = (j : Known) × Waited k j × FoundShutEmpty j k'
DrainedUntilShut k (Ok value ∷ items) k' = (j : Known) × PoppedAfterWaiting k value j × DrainedUntilShut j items k'
DrainedUntilShut k (Err refusal ∷ items) k' = (items ≡ []) × IsWornOut refusal × ((j : Known) × Waited k j × SeesMore j k')

-- the values among the items
abbrev pub values_of : List (Result Taken Refusal) → List Taken
values_of [] = []
values_of (Ok value ∷ items) = value ∷ values_of items
values_of (Err refusal ∷ items) = values_of items

-- the seat's own entries are those before, and then the pops of these values, in their order
abbrev pub HasPopped : Known → List Taken → Known → Type 0
HasPopped k values k' = k'.mine ≡ k.mine ++ map (Pop k.number) values
