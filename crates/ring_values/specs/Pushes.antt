-- What the parts of a push of a value answer, and the whole push.
use Rattle.std.specs.Prelude.{◌≡◌, ℕ, ◌-◌, ◌<◌, ◌⊎◌, Some, Result, OnOk, IfOk, IfErr}
use Rattle.history.specs.declared.refusals.Refusal.{Refusal}
use Rattle.history.specs.declared.refusals.Refusal.TheVariants.{Busy}
use Rattle.history.specs.Answers.{StopsPush}
use Rattle.history.specs.Answers as numbers
use Rattle.carriers.specs.declared.items.Unpushed.{Unpushed}
use Rattle.carriers.specs.Answers.{PushedOf, PushRefusedOf}
use Rattle.ring_queue.specs.declared.queue.RingQueue.{RingQueue}
use Rattle.ring_queue.specs.declared.seats.Seat.{Seat}
use Rattle.ring_queue.specs.declared.slots.Got.{Got}
use Rattle.ring_queue.specs.Causes as ring
use Rattle.ring_queue.specs.Hands.{HasSlot, KeepsKnown, FailedTries, PushesFrom}
use Rattle.ring_queue.specs.Seats.{HasNoSlot, KeepsName, known_of}
use Rattle.ring_queue.specs.Queues.{IsRingSeat}
use Rattle.value_queue.specs.Sights.{GoesOn}
use Rattle.ring_values.specs.ValuesSeen.{known_by, sight}

-- a push has its value in a slot, after some failed tries at others, or each of so many tries failed and the value came back
pub record HasLoad {T : Type 0} (r : RingQueue T) (s t : Seat T) (value : T) (turns : ℕ) (out : Result Got (Unpushed T)) : Type 0 where
  pub ready : IsRingSeat r t
  pub keeps : KeepsKnown s t
  pub loaded : IfOk out (λ got. HasSlot r.plan t got.slot (Some value) × (got.failed < turns) × FailedTries r.plan s got.failed)
  pub back : IfErr out (λ unpushed. (unpushed.refusal ≡ Busy) × (unpushed.value ≡ value) × HasNoSlot t × FailedTries r.plan s turns)

-- what a push answers that has its slot: the value that lay there was pushed, or came back, and no slot is out with the seat
pub record PutsSlot {T : Type 0} (r : RingQueue T) (s t : Seat T) (slot turns : ℕ) (out : Result (Unit {0}) (Unpushed T)) : Type 0 where
  pub ready : IsRingSeat r t
  pub none_out : HasNoSlot t
  pub name : KeepsName s t
  pub added : OnOk out (numbers.Pushed (known_of s) slot (known_of t))
  pub pushed : OnOk out (PushesFrom slot s t)
  pub back : IfErr out (λ unpushed. HasSlot r.plan s slot (Some unpushed.value) × GoesOn (sight s) (sight t))
  pub refused : IfErr out (λ unpushed. numbers.PushRefused (known_of s) unpushed.refusal (known_of t))
  pub refusal : IfErr out (λ unpushed. StopsPush unpushed.refusal)
  pub caused : IfErr out (λ unpushed. ring.PushCaused r.plan s t turns unpushed.refusal)

-- why a push of a value is refused: where others were in the way, all its turns failed at slots, or after some that did the others
-- as those of a push of a number do; else as a push of a number is
abbrev pub PushCaused : {T : Type 0} → RingQueue T → (s t : Seat T) → (turns : ℕ) → Refusal → Type 0
PushCaused r s t turns Busy = FailedTries r.plan s turns ⊎ ((tries : ℕ) × (tries < turns) × FailedTries r.plan s tries × ring.PushCaused r.plan s t (turns - tries) Busy)
PushCaused r s t turns refusal = ring.PushCaused r.plan s t turns refusal

-- what a push of a value answers
pub record AnswersPush {T : Type 0} (r : RingQueue T) (s t : Seat T) (value : T) (turns : ℕ) (out : Result (Unit {0}) (Unpushed T)) : Type 0 where
  pub ready : IsRingSeat r t
  pub none_out : HasNoSlot t
  pub name : KeepsName s t
  pub pushed : OnOk out (PushedOf (known_by s) value (known_by t))
  pub back : IfErr out (λ unpushed. unpushed.value ≡ value)
  pub refused : IfErr out (λ unpushed. PushRefusedOf (known_by s) unpushed.refusal (known_by t))
  pub refusal : IfErr out (λ unpushed. StopsPush unpushed.refusal)
  pub caused : IfErr out (λ unpushed. PushCaused r s t turns unpushed.refusal)
