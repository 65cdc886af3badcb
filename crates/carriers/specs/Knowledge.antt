-- What a seat of a queue of values knows.
use Rattle.std.specs.Prelude.{◌≡◌, ◌⊎◌, ℕ, ◌-◌, ◌≤◌, false, IsTrue, List, [], length, take, IsSomeAnd, slice_get}
use Rattle.std.specs.List.{All}
use Rattle.history.specs.Seats.{Permit}
use Rattle.carriers.specs.Deeds.{Deed, did_push, did_pop, did_shut, doer_of, own_deeds, RunsTo, RunsToShut, IsRun}

-- what a seat knows: its number, a prefix of the history, its own deeds, and its notes, each a number of deeds after which it
-- found the queue empty, or shut
pub record KnownOf (A : Type 0) : Type 0 where
  pub number : ℕ
  pub seen : List (Deed A)
  pub mine : List (Deed A)
  pub notes : List ℕ

module _ {A : Type 0} where
  -- a permit allows a deed: a push or a shut to who may push, a pop to who may pop
  abbrev pub AllowsDeed : Permit → Deed A → Type 0
  AllowsDeed p (did_push seat value) = IsTrue p.pushes
  AllowsDeed p (did_pop seat front) = IsTrue p.pops
  AllowsDeed p (did_shut seat) = IsTrue p.pushes

  -- a deed is of a seat, from number 1 on, whose permit allows it
  abbrev pub IsPermittedDeed : List Permit → Deed A → Type 0
  IsPermittedDeed permits d = (1 ≤ doer_of d) × IsSomeAnd (slice_get permits (doer_of d - 1)) (λ p. AllowsDeed p d)

  -- so many of these deeds, the first ones, leave the queue empty, or shut
  abbrev pub IsNotedOf : (seen : List (Deed A)) → ℕ → Type 0
  IsNotedOf seen n = ((n ≤ length seen) × RunsTo (take n seen) false []) ⊎ ((n ≤ length seen) × RunsToShut (take n seen))

-- what a seat knows is sound: what it has seen is a run and permitted, its own deeds are just those that it has seen, and the
-- queue was empty, or shut, after as many of these as each of its notes says
pub record IsSoundOf {A : Type 0} (permits : List Permit) (k : KnownOf A) : Type 0 where
  pub run : IsRun k.seen
  pub permitted : All (IsPermittedDeed permits) k.seen
  pub own : own_deeds k.number k.seen ≡ k.mine
  pub noted : All (IsNotedOf k.seen) k.notes
