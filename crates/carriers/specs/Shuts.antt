-- An iterator that takes the values of a queue, and ends once it is shut and empty.
use Rattle.std.specs.Prelude.{◌≡◌, ℕ, Bool, true, false, List, Option, Some, None, Result, Ok, Err}
use Rattle.std.specs.Borrow.{MutBor}
use Rattle.std.specs.Sync.Forever.{forever_left}
use Rattle.history.specs.declared.operations.Taken.{Taken}
use Rattle.history.specs.declared.refusals.Refusal.{Refusal}
use Rattle.history.specs.Seats.{Known, Permit, MayPop}
use Rattle.history.specs.declared.refusals.Refusal.TheVariants.{WornOut, Closed}
use Rattle.carriers.specs.Waits.{PoppedAfterWaiting, RefusedAfterWaiting}
use Rattle.carriers.specs.declared.until_shut.UntilShut.{UntilShut}

-- a word was worn out
abbrev pub IsWornOut : Refusal → Type 0
IsWornOut (WornOut word) = Unit {0}
IsWornOut _ = ⊥

module _ {Q R S : Type 0} where
  -- the queue
  abbrev pub queue_of : UntilShut Q R S → Q
  queue_of d = d.queue.now

  -- the borrow of the seat
  abbrev pub seat_of : UntilShut Q R S → MutBor S
  seat_of d = d.seat

  -- whether it has given its last item
  abbrev pub has_ended : UntilShut Q R S → Bool
  has_ended d = d.ended

  -- no more items than this come
  abbrev pub turns_left : UntilShut Q R S → ℕ
  turns_left d = forever_left d.turns

  -- the seat is one of the queue's, and may pop
  abbrev pub CanPop : (Q → S → Type 0) → (Q → List Permit) → (S → Known) → UntilShut Q R S → Type 0
  CanPop is_seat permits known d = is_seat (queue_of d) (seat_of d).now × MayPop (permits (queue_of d)) (known (seat_of d).now).number

module _ {Q S : Type 0} (is_seat : Q → S → Type 0) (known : S → Known) (cause : Q → S → S → ℕ → Refusal → Type 0) where
  -- what is given, by pops that took the seat from one state to another, and whether it was the last item, all after waiting: a
  -- popped value isn't, none is where the queue was found shut and empty, and a refusal of a worn word is, by its cause
  abbrev pub AnswersUntilShut : Q → S → Option (Result Taken Refusal) → (ended : Bool) → S → Type 0
  AnswersUntilShut queue before None ended after = (ended ≡ true) × RefusedAfterWaiting is_seat known cause queue before after Closed
  AnswersUntilShut queue before (Some (Ok value)) ended after = (ended ≡ false) × PoppedAfterWaiting (known before) value (known after)
  AnswersUntilShut queue before (Some (Err refusal)) ended after = (ended ≡ true) × IsWornOut refusal
      × RefusedAfterWaiting is_seat known cause queue before after refusal

  -- a call of `next` keeps the queue and the borrow; it gives nothing and leaves the seat as it was if the last item was given,
  -- and otherwise what pops answer
  pub record GivesUntilShut {R : Type 0} (s : UntilShut Q R S) (given : Option (Result Taken Refusal)) (t : UntilShut Q R S) : Type 0 where
    pub queue : queue_of t ≡ queue_of s
    pub same : (seat_of t).ghost_name ≡ (seat_of s).ghost_name
    pub seat : is_seat (queue_of t) (seat_of t).now
    pub number : (known (seat_of t).now).number ≡ (known (seat_of s).now).number
    pub rests : has_ended s ≡ true → (given ≡ None) × (has_ended t ≡ true) × ((seat_of t).now ≡ (seat_of s).now)
    pub answers : has_ended s ≡ false → AnswersUntilShut (queue_of s) (seat_of s).now given (has_ended t) (seat_of t).now
