-- What C holds of a seat of a queue of words, and what the exports answer. A handle is of a type H, which tells of each whether it
-- holds a seat, and which one.
use Rattle.std.specs.Prelude.{◌≡◌, ◌↔◌, ◌⊎◌, ℕ, Bool, true, false, Option, Result, Err, OnOk, IfOk, IfErr}
use Rattle.carriers.specs.declared.queues.Carrier.{Ghosts}
use Rattle.carriers.specs.Knowledge.{KnownOf}
use Rattle.carriers.specs.Answers.{PushedOf, PopAnswersOf, DidShutOf, MeetsOf}
use Rattle.carriers.specs.declared.items.ItemOf.{ItemOf}
use Rattle.node_arena.specs.declared.seats.Seat.{Seat}
use Rattle.picked.specs.declared.kind_values.AnyValues.{AnyValues}
use Rattle.msq_c.specs.declared.troubles.Trouble.{Trouble}
use Rattle.msq_c.specs.declared.troubles.Trouble.TheVariants.{NoHandle}
use Rattle.msq_c.specs.WordBlocks.{Own, queue_in, known_in, RefusesPush, RefusesPop, RefusesShut}

-- a call by a handle is refused so exactly where the handle is empty
abbrev pub NeedsHandle : {H A : Type 0} (holds : H → Bool) → H → Result A Trouble → Type 0
NeedsHandle holds h out = (out ≡ Err NoHandle) ↔ (holds h ≡ false)

module _ {H T : Type 0} {g : Ghosts (AnyValues T) T (Seat T)} (own : H → Own T g) where
  -- what the seat knows, where there is one
  abbrev pub known_at : H → KnownOf T
  known_at h = known_in (own h)

  -- the queue of the seat, where there is one
  abbrev pub queue_at : H → AnyValues T
  queue_at h = queue_in (own h)

module _ {H T : Type 0} {g : Ghosts (AnyValues T) T (Seat T)} (holds : H → Bool) (own : H → Own T g) where
  -- a call by a handle keeps whether it is full, and its queue
  pub record KeepsHandle (h h' : H) : Type 0 where
    pub full : holds h' ≡ holds h
    pub queue : queue_at own h' ≡ queue_at own h

  -- what a push by a handle answers
  pub record AnswersPush (h h' : H) (value : T) (turns : ℕ) (out : Result (Unit {0}) Trouble) : Type 0 where
    pub keeps : KeepsHandle h h'
    pub empty : NeedsHandle holds h out
    pub pushed : OnOk out (PushedOf (known_at own h) value (known_at own h'))
    pub refused : holds h ≡ true → IfErr out (RefusesPush (own h) (own h') turns)

  -- what a pop by a handle answers
  pub record AnswersPop (h h' : H) (turns : ℕ) (out : Result (Option (ItemOf T)) Trouble) : Type 0 where
    pub keeps : KeepsHandle h h'
    pub empty : NeedsHandle holds h out
    pub answer : IfOk out (λ front. PopAnswersOf (known_at own h) front (known_at own h'))
    pub refused : holds h ≡ true → IfErr out (RefusesPop (own h) (own h') turns)

  -- what a shut by a handle answers
  pub record AnswersShut (h h' : H) (turns : ℕ) (out : Result (Unit {0}) Trouble) : Type 0 where
    pub keeps : KeepsHandle h h'
    pub empty : NeedsHandle holds h out
    pub shut : OnOk out (DidShutOf (known_at own h) (known_at own h'))
    pub refused : holds h ≡ true → IfErr out (RefusesShut (own h) (own h') turns)

  -- two handles may meet: where both are full, they are of one queue
  abbrev pub MayMeet : H → H → Type 0
  MayMeet h i = holds h ≡ true → holds i ≡ true → queue_at own i ≡ queue_at own h

  -- what two handles answer that meet: refused where one of them is empty, and then nothing changed
  pub record AnswersMeet (h i h' i' : H) (out : Result (Unit {0}) Trouble) : Type 0 where
    pub one : KeepsHandle h h'
    pub other : KeepsHandle i i'
    pub meets : OnOk out (MeetsOf (known_at own h) (known_at own i) (known_at own h') (known_at own i'))
    pub refused : IfErr out (λ refusal. (refusal ≡ NoHandle) × ((holds h ≡ false) ⊎ (holds i ≡ false)) × (h' ≡ h) × (i' ≡ i))
