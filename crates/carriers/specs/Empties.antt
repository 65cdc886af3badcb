-- An iterator that takes what is in a queue, and ends where it finds none.
use Rattle.std.specs.Prelude.{◌≡◌, ℕ, Bool, true, false, List, Option, Some, None, Result, Ok, Err}
use Rattle.std.specs.Borrow.{MutBor}
use Rattle.std.specs.Sync.Forever.{forever_left}
use Rattle.history.specs.declared.operations.Taken.{Taken}
use Rattle.history.specs.declared.refusals.Refusal.{Refusal}
use Rattle.history.specs.Seats.{Known, Permit, MayPop}
use Rattle.history.specs.Answers.{Popped, FoundEmpty, PopRefused, EndsPop, EndsByTry}
use Rattle.carriers.specs.declared.until_empty.UntilEmpty.{UntilEmpty}

module _ {Q R S : Type 0} where
  -- the queue
  abbrev pub queue_of : UntilEmpty Q R S → Q
  queue_of d = d.queue.now

  -- the borrow of the seat
  abbrev pub seat_of : UntilEmpty Q R S → MutBor S
  seat_of d = d.seat

  -- whether it has given its last item
  abbrev pub has_ended : UntilEmpty Q R S → Bool
  has_ended d = d.ended

  -- no more items than this come
  abbrev pub turns_left : UntilEmpty Q R S → ℕ
  turns_left d = forever_left d.turns

  -- the seat is one of the queue's, and may pop
  abbrev pub CanPop : (Q → S → Type 0) → (Q → List Permit) → (S → Known) → UntilEmpty Q R S → Type 0
  CanPop is_seat permits known d = is_seat (queue_of d) (seat_of d).now × MayPop (permits (queue_of d)) (known (seat_of d).now).number

module _ {Q S : Type 0} (is_seat : Q → S → Type 0) (known : S → Known) (cause : Q → S → S → ℕ → Refusal → Type 0) where
  -- what is given, by a pop that took the seat from one state to another, and whether it was the last item: a popped value isn't,
  -- none is where the queue was found empty, and a refusal is, by its cause
  abbrev pub AnswersUntilEmpty : Q → S → Option (Result Taken Refusal) → (ended : Bool) → S → Type 0
  AnswersUntilEmpty queue before None ended after = (ended ≡ true) × FoundEmpty (known before) (known after)
  AnswersUntilEmpty queue before (Some (Ok value)) ended after = (ended ≡ false) × Popped (known before) value (known after)
  AnswersUntilEmpty queue before (Some (Err refusal)) ended after = (ended ≡ true) × EndsPop refusal × PopRefused (known before) refusal (known after)
      × EndsByTry is_seat known cause queue before after 8 refusal

  -- a call of `next` keeps the queue and the borrow; it gives nothing and leaves the seat as it was if the last item was given,
  -- and otherwise what a pop answers
  pub record GivesUntilEmpty {R : Type 0} (s : UntilEmpty Q R S) (given : Option (Result Taken Refusal)) (t : UntilEmpty Q R S) : Type 0 where
    pub queue : queue_of t ≡ queue_of s
    pub same : (seat_of t).ghost_name ≡ (seat_of s).ghost_name
    pub seat : is_seat (queue_of t) (seat_of t).now
    pub number : (known (seat_of t).now).number ≡ (known (seat_of s).now).number
    pub rests : has_ended s ≡ true → (given ≡ None) × (has_ended t ≡ true) × ((seat_of t).now ≡ (seat_of s).now)
    pub answers : has_ended s ≡ false → AnswersUntilEmpty (queue_of s) (seat_of s).now given (has_ended t) (seat_of t).now
