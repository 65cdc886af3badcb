-- What a seat of a queue of values knows that waited.
use Rattle.std.specs.Prelude.{◌≡◌, ℕ, List, ◌++◌}
use Rattle.carriers.specs.Deeds.{Deed}
use Rattle.carriers.specs.Knowledge.{KnownOf}
use Rattle.carriers.specs.Answers.{FoundEmptyOf}

-- a seat waited: it did nothing to the queue, saw no less, and noted each time that it found the queue empty
pub record WaitedOf {A : Type 0} (k k' : KnownOf A) : Type 0 where
  pub number : k'.number ≡ k.number
  pub between : List (Deed A)
  pub seen : k'.seen ≡ k.seen ++ between
  pub mine : k'.mine ≡ k.mine
  pub found : List ℕ
  pub notes : k'.notes ≡ k.notes ++ found

-- a seat waited, and the last that it did was to find the queue empty
pub record EmptySinceOf {A : Type 0} (k k' : KnownOf A) : Type 0 where
  pub last : KnownOf A
  pub waited : WaitedOf k last
  pub empty : FoundEmptyOf last k'
