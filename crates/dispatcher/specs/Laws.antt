-- What holds of jobs that were run, once the queue is closed by all its seats.
use Rattle.std.specs.Prelude.{◌≡◌, ℕ, ◌+◌, ◌≤◌, nat_eq, List, [], ◌∷◌, map, Some, slice_get}
use Rattle.std.specs.List.{All, count_by}
use Rattle.history.specs.declared.rests.Rest.{Rest}
use Rattle.history.specs.Rests.{left_of}
use Rattle.history.specs.Seats.{Permit, Known}
use Rattle.history.specs.Values.{OnlyPushes}
use Rattle.history.specs.Ends.{AreAll}
use Rattle.dispatcher.specs.declared.workers.Back.{Back}
use Rattle.dispatcher.specs.declared.workers.End.TheVariants.{Finished}
use Rattle.dispatcher.specs.Goings.{numbers_in, body_of}

-- how often a number stands in a list
abbrev pub times : (n : ℕ) → List ℕ → ℕ
times n xs = count_by (nat_eq n) xs

-- these are all seats of a queue, with numbers of their own, the giver alone may push, and none has made a call
pub record AreNewSeats {S : Type 0} (permits : List Permit) (known : S → Known) (giver : S) (takers : List S) : Type 0 where
  pub all : AreAll permits (map known (giver ∷ takers))
  pub apart : (i j : ℕ) (k l : Known) → slice_get (map known (giver ∷ takers)) i ≡ Some k → slice_get (map known (giver ∷ takers)) j ≡ Some l → k.number ≡ l.number → i ≡ j
  pub only : OnlyPushes permits (known giver).number
  pub unused : All (λ k. k.mine ≡ []) (map known (giver ∷ takers))

-- each number up to this one was answered by a worker once, or is left once, and not both
abbrev pub AreAnsweredOrLeft : {S : Type 0} → (most : ℕ) → List (Back S) → Rest → Type 0
AreAnsweredOrLeft most workers rest = (n : ℕ) → 1 ≤ n → n ≤ most → times n (numbers_in workers) + times n (map body_of (left_of rest)) ≡ 1

-- a worker found the queue shut and empty
abbrev pub OneFinished : {S : Type 0} → List (Back S) → Type 0
OneFinished {S} workers = (i : ℕ) × (w : Back S) × (slice_get workers i ≡ Some w) × (w.end ≡ Finished)
