-- What a call of a queue of values tells its seat.
use Rattle.std.specs.Prelude.{◌≡◌, ℕ, true, false, List, [], ◌∷◌, ◌++◌, length, Option, Some, None}
use Rattle.history.specs.declared.refusals.Refusal.{Refusal}
use Rattle.history.specs.declared.refusals.Refusal.TheVariants.{Closed}
use Rattle.carriers.specs.declared.items.ItemOf.{ItemOf}
use Rattle.carriers.specs.Deeds.{Deed, did_push, did_pop, did_shut, RunsTo, RunsToShut}
use Rattle.carriers.specs.Knowledge.{KnownOf}

-- a call had its effect: what the seat has seen goes on from what it had seen and ends with the deed, which is one more of its
-- own
pub record AddsDeed {A : Type 0} (k : KnownOf A) (d : Deed A) (k' : KnownOf A) : Type 0 where
  pub number : k'.number ≡ k.number
  pub between : List (Deed A)
  pub seen : k'.seen ≡ (k.seen ++ between) ++ d ∷ []
  pub mine : k'.mine ≡ k.mine ++ d ∷ []
  pub notes : k'.notes ≡ k.notes

-- nothing was done: what the seat has seen goes on from what it had seen, and all else is as before
pub record SeesMoreOf {A : Type 0} (k k' : KnownOf A) : Type 0 where
  pub number : k'.number ≡ k.number
  pub between : List (Deed A)
  pub seen : k'.seen ≡ k.seen ++ between
  pub mine : k'.mine ≡ k.mine
  pub notes : k'.notes ≡ k.notes

-- the queue was found as this says of what was done: what the seat has seen goes on from what it had seen and leaves the queue
-- so, which is noted
pub record FindsDone {A : Type 0} (Leaves : List (Deed A) → Type 0) (k k' : KnownOf A) : Type 0 where
  pub number : k'.number ≡ k.number
  pub between : List (Deed A)
  pub seen : k'.seen ≡ k.seen ++ between
  pub leaves : Leaves k'.seen
  pub mine : k'.mine ≡ k.mine
  pub notes : k'.notes ≡ k.notes ++ length k'.seen ∷ []

module _ {A : Type 0} where
  -- a value was pushed
  abbrev pub PushedOf : KnownOf A → (value : A) → KnownOf A → Type 0
  PushedOf k value k' = AddsDeed k (did_push k.number value) k'

  -- a value was popped
  abbrev pub PoppedOf : KnownOf A → ItemOf A → KnownOf A → Type 0
  PoppedOf k front k' = AddsDeed k (did_pop k.number front) k'

  -- the queue was shut
  abbrev pub DidShutOf : KnownOf A → KnownOf A → Type 0
  DidShutOf k k' = AddsDeed k (did_shut k.number) k'

  -- the queue was found empty, and not shut
  abbrev pub FoundEmptyOf : KnownOf A → KnownOf A → Type 0
  FoundEmptyOf k k' = FindsDone (λ ds. RunsTo ds false []) k k'

  -- the queue was found shut
  abbrev pub FoundShutOf : KnownOf A → KnownOf A → Type 0
  FoundShutOf k k' = FindsDone RunsToShut k k'

  -- the queue was found shut and empty
  abbrev pub FoundShutEmptyOf : KnownOf A → KnownOf A → Type 0
  FoundShutEmptyOf k k' = FindsDone (λ ds. RunsTo ds true []) k k'

  -- what a pop answers: the front value, or that there is none
  abbrev pub PopAnswersOf : KnownOf A → Option (ItemOf A) → KnownOf A → Type 0
  PopAnswersOf k None k' = FoundEmptyOf k k'
  PopAnswersOf k (Some front) k' = PoppedOf k front k'

  -- a push was refused so, or a shut: the queue was found shut, or nothing was done
  abbrev pub PushRefusedOf : KnownOf A → Refusal → KnownOf A → Type 0
  PushRefusedOf k Closed k' = FoundShutOf k k'
  PushRefusedOf k refusal k' = SeesMoreOf k k'

  -- a pop was refused so: the queue was found shut and empty, or nothing was done
  abbrev pub PopRefusedOf : KnownOf A → Refusal → KnownOf A → Type 0
  PopRefusedOf k Closed k' = FoundShutEmptyOf k k'
  PopRefusedOf k refusal k' = SeesMoreOf k k'

-- a call that waits ended by a try of its own, from what the seat then was to what it is now: it had seen no less than before
-- the call, and the try, of so many turns, had this cause to be refused
pub record EndsByTryOf {Q S A : Type 0} (is_seat : Q → S → Type 0) (known : S → KnownOf A) (cause : Q → S → S → ℕ → Refusal → Type 0)
    (queue : Q) (before after : S) (turns : ℕ) (refusal : Refusal) : Type 0 where
  pub last : S
  pub seat : is_seat queue last
  pub more : SeesMoreOf (known before) (known last)
  pub caused : cause queue last after turns refusal

-- two seats met: both have seen one history, which begins with what each had seen
pub record MeetsOf {A : Type 0} (one other one' other' : KnownOf A) : Type 0 where
  pub same : other'.seen ≡ one'.seen
  pub first : SeesMoreOf one one'
  pub second : SeesMoreOf other other'
