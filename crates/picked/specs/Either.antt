-- A queue of one of two kinds as a queue with seats.
use Rattle.std.specs.Prelude.{ℕ, List}
use Rattle.std.proofs.Props.{props}
use Rattle.history.specs.declared.refusals.Refusal.{Refusal}
use Rattle.history.specs.declared.refusals.Refusal.TheVariants.{Closed}
use Rattle.history.specs.Seats.{Permit}
use Rattle.picked.specs.declared.either.EitherQueue.{EitherQueue}
use Rattle.picked.specs.declared.either.EitherQueue.TheVariants as queue
use Rattle.picked.specs.declared.either.EitherSeat.{EitherSeat}
use Rattle.picked.specs.declared.either.EitherSeat.TheVariants as seat

-- a queue of the first kind
abbrev pub first_of : {A B : Type 0} → A → EitherQueue A B
first_of a = queue.First a

-- a queue of the second
abbrev pub second_of : {A B : Type 0} → B → EitherQueue A B
second_of b = queue.Second b

-- a seat of a queue of the first kind
abbrev pub as_first : {S T : Type 0} → S → EitherSeat S T
as_first s = seat.First s

-- a seat of a queue of the second
abbrev pub as_second : {S T : Type 0} → T → EitherSeat S T
as_second t = seat.Second t

-- a seat is one of a queue of the first kind
abbrev pub IsFirst : {S T : Type 0} → EitherSeat S T → Type 0
IsFirst (seat.First s) = Unit {0}
IsFirst (seat.Second t) = ⊥

-- a seat is one of a queue of the second
abbrev pub IsSecond : {S T : Type 0} → EitherSeat S T → Type 0
IsSecond (seat.First s) = ⊥
IsSecond (seat.Second t) = Unit {0}

-- what each seat may do
abbrev pub either_permits : {A B : Type 0} → (A → List Permit) → (B → List Permit) → EitherQueue A B → List Permit
either_permits first second (queue.First a) = first a
either_permits first second (queue.Second b) = second b

-- what a seat knows
abbrev pub either_known : {S T K : Type 0} → (S → K) → (T → K) → EitherSeat S T → K
either_known first second (seat.First s) = first s
either_known first second (seat.Second t) = second t

module _ {A B S T : Type 0} where
  -- the seat is one of the queue's, and in no call: both are of one kind
  abbrev pub IsEitherSeat : (A → S → Type 0) → (B → T → Type 0) → EitherQueue A B → EitherSeat S T → Type 0
  IsEitherSeat first second (queue.First a) (seat.First s) = first a s
  IsEitherSeat first second (queue.Second b) (seat.Second t) = second b t
  IsEitherSeat first second (queue.First a) (seat.Second t) = ⊥
  IsEitherSeat first second (queue.Second b) (seat.First s) = ⊥

  -- a call is refused for a cause of the kind of the queue
  abbrev pub EitherCause : (A → S → S → ℕ → Refusal → Type 0) → (B → T → T → ℕ → Refusal → Type 0) → EitherQueue A B → (before after : EitherSeat S T) → (turns : ℕ) → Refusal → Type 0
  EitherCause first second (queue.First a) (seat.First s) (seat.First s') turns refusal = first a s s' turns refusal
  EitherCause first second (queue.Second b) (seat.Second t) (seat.Second t') turns refusal = second b t t' turns refusal
  EitherCause first second q before after turns refusal = ⊥

  -- what a seat knows is sound
  pub either_sound : {K : Type 0} (IsSound : List Permit → K → Type 0) (first : A → S → Type 0) (second : B → T → Type 0) (permits : A → List Permit) (others : B → List Permit) (known : S → K) (knows : T → K)
      → ((a : A) (s : S) → first a s → IsSound (permits a) (known s)) → ((b : B) (t : T) → second b t → IsSound (others b) (knows t))
      → (q : EitherQueue A B) (x : EitherSeat S T) → IsEitherSeat first second q x → IsSound (either_permits permits others q) (either_known known knows x)
  either_sound IsSound first second permits others known knows one two (queue.First a) (seat.First s) h = one a s h
  either_sound IsSound first second permits others known knows one two (queue.Second b) (seat.Second t) h = two b t h
  either_sound IsSound first second permits others known knows one two (queue.First a) (seat.Second t) h = absurd h
  either_sound IsSound first second permits others known knows one two (queue.Second b) (seat.First s) h = absurd h

  -- what causes a shut to be refused Closed is cause for a push to be refused so
  pub either_alike : (push : A → S → S → ℕ → Refusal → Type 0) (pushes : B → T → T → ℕ → Refusal → Type 0) (shut : A → S → S → ℕ → Refusal → Type 0) (shuts : B → T → T → ℕ → Refusal → Type 0)
      → ((a : A) (s s' : S) (turns : ℕ) → shut a s s' turns Closed → push a s s' turns Closed) → ((b : B) (t t' : T) (turns : ℕ) → shuts b t t' turns Closed → pushes b t t' turns Closed)
      → (q : EitherQueue A B) (before after : EitherSeat S T) (turns : ℕ) → EitherCause shut shuts q before after turns Closed → EitherCause push pushes q before after turns Closed
  either_alike push pushes shut shuts one two (queue.First a) (seat.First s) (seat.First s') turns h = one a s s' turns h
  either_alike push pushes shut shuts one two (queue.Second b) (seat.Second t) (seat.Second t') turns h = two b t t' turns h
  either_alike push pushes shut shuts one two (queue.First a) (seat.First s) (seat.Second t) turns h = absurd h
  either_alike push pushes shut shuts one two (queue.First a) (seat.Second t) (seat.First s) turns h = absurd h
  either_alike push pushes shut shuts one two (queue.First a) (seat.Second t) (seat.Second t') turns h = absurd h
  either_alike push pushes shut shuts one two (queue.Second b) (seat.Second t) (seat.First s) turns h = absurd h
  either_alike push pushes shut shuts one two (queue.Second b) (seat.First s) (seat.Second t) turns h = absurd h
  either_alike push pushes shut shuts one two (queue.Second b) (seat.First s) (seat.First s') turns h = absurd h

  -- that a seat is one of a queue has at most one proof
  pub either_prop : (first : A → S → Type 0) (second : B → T → Type 0) → ((a : A) (s : S) → IsProp (first a s))
      → ((b : B) (t : T) → IsProp (second b t)) → (q : EitherQueue A B) (x : EitherSeat S T) → IsProp (IsEitherSeat first second q x)
  either_prop first second one two (queue.First a) (seat.First s) = one a s
  either_prop first second one two (queue.Second b) (seat.Second t) = two b t
  either_prop first second one two (queue.First a) (seat.Second t) = hlevel props
  either_prop first second one two (queue.Second b) (seat.First s) = hlevel props
