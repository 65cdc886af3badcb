-- What the parts of a push of a value answer, and the whole push.
use Rattle.std.specs.Prelude.{◌≡◌, ℕ, ◌+◌, ◌≤◌, ◌<◌, ◌⊎◌, List, [], Option, Some, None, Result, Err, OnOk, IfOk, IfErr}
use Rattle.history.specs.declared.refusals.Refusal.{Refusal}
use Rattle.history.specs.declared.refusals.Refusal.TheVariants.{Busy}
use Rattle.history.specs.declared.refusals.WornWord.{WornWord}
use Rattle.history.specs.Answers.{SeesMore, StopsPush}
use Rattle.carriers.specs.declared.items.Unpushed.{Unpushed}
use Rattle.carriers.specs.Answers.{PushedOf, PushRefusedOf}
use Rattle.node_arena.specs.Machine.{Held}
use Rattle.node_arena.specs.Arenas.{Arena}
use Rattle.node_arena.specs.declared.seats.Seat.{Seat}
use Rattle.node_arena.specs.Slots.{Try}
use Rattle.node_arena.specs.Hands.{HasSlot, KeepsKnown, KeepsTries, FailedTries, HasTried, hitting, first_slot}
use Rattle.node_arena.specs.Seats.{IsReady, KeepsName, KeepsSlots, HasNoSlot, known_of, pocket_of, setup_of}
use Rattle.node_arena.specs.Turns.{failed_turns}
use Rattle.node_arena.specs.Paths.{HadNoEffect, EndsFailed, added}
use Rattle.free_list.specs.Takes.{TakeRefused}
use Rattle.arena_queue.specs.Answers.{FailsFewer}
use Rattle.arena_queue.specs.Answers as numbers
use Rattle.value_queue.specs.ValuesSeen.{known_by}

-- a push has a node in its seat's pocket, after so many failed turns, or there was none
pub record HasNode {T : Type 0} (r : Arena) (s t : Seat T) (turns : ℕ) (out : Result (Held × ℕ) Refusal) : Type 0 where
  pub ready : IsReady r t
  pub same : KeepsName s t
  pub slots : KeepsSlots s t
  pub lines : HadNoEffect s t
  pub pocket : IfOk out (λ got. pocket_of t ≡ Some got.0)
  pub spent : IfOk out (λ got. (got.1 ≡ failed_turns (added s t)) × (got.1 < turns))
  pub refused : IfErr out (TakeRefused r s t turns)

-- a value that comes back with this refusal
abbrev pub back_with : {T : Type 0} → Refusal → T → Unpushed T
back_with refusal value = record { refusal = refusal; value = value }

-- the value in a seat's slot came back with this refusal, and no slot is out with the seat, which stores and knows the same
pub record TakesBack {T : Type 0} (r : Arena) (s t : Seat T) (slot : ℕ) (refusal : Refusal) (out : Result (Unit {0}) (Unpushed T)) : Type 0 where
  pub ready : IsReady r t
  pub keeps : KeepsKnown s t
  pub tries : KeepsTries s t
  pub none_out : HasNoSlot t
  pub value : T
  pub back : out ≡ Err (back_with refusal value)
  pub had : HasSlot r s slot (Some value)

-- the last try of a push: at the slot that it got, if it got one
abbrev pub last_try : Option ℕ → List Try
last_try None = []
last_try (Some slot) = hitting slot

-- so many tries at slots failed at some moment of a call, before which the seat had seen no less than before the call: at one slot
-- after another, whose flag each found up; and but for that of the slot that it got it made no other
pub record MissedSlots {T : Type 0} (r : Arena) (s t : Seat T) (tries : ℕ) : Type 0 where
  pub seat : Seat T
  pub more : SeesMore (known_of s) (known_of seat)
  pub node : ℕ
  pub missed : FailedTries r seat node tries
  pub got : Option ℕ
  pub tried : HasTried r.plan s t (first_slot (setup_of r).size node) tries (last_try got)

-- a push missed so many slots, and with the turns of lines that failed fewer than it may
abbrev pub MissesFewer : {T : Type 0} → Arena → (s t : Seat T) → (turns : ℕ) → Type 0
MissesFewer r s t turns = (tries : ℕ) × (failed_turns (added s t) + tries < turns) × MissedSlots r s t tries

-- why a push of a value is refused: where others were in the way, turns of lines and tries at slots failed, so many together,
-- and where no try did, the last turn failed at the call's last step; else as a push of a number is
abbrev pub PushCaused : {T : Type 0} (worn : WornWord → Option Held → Type 0) → Arena → Seat T → Seat T → (turns : ℕ) → Refusal → Type 0
PushCaused worn r s t turns Busy = (tries : ℕ) × (failed_turns (added s t) + tries ≡ turns) × MissedSlots r s t tries × (EndsFailed s t ⊎ (1 ≤ tries))
PushCaused worn r s t turns refusal = numbers.PushCaused worn r s t turns refusal

-- what a push of a value answers
pub record AnswersPush {T : Type 0} (worn : WornWord → Option Held → Type 0) (r : Arena) (s t : Seat T) (value : T) (turns : ℕ) (out : Result (Unit {0}) (Unpushed T)) : Type 0 where
  pub ready : IsReady r t
  pub none_out : HasNoSlot t
  pub same : KeepsName s t
  pub pushed : OnOk out (PushedOf (known_by s) value (known_by t))
  pub few : OnOk out (FailsFewer s t turns)
  pub missed : OnOk out (MissesFewer r s t turns)
  pub pocket : OnOk out (pocket_of t ≡ None)
  pub back : IfErr out (λ unpushed. unpushed.value ≡ value)
  pub refused : IfErr out (λ unpushed. PushRefusedOf (known_by s) unpushed.refusal (known_by t))
  pub refusal : IfErr out (λ unpushed. StopsPush unpushed.refusal)
  pub caused : IfErr out (λ unpushed. PushCaused worn r s t turns unpushed.refusal)
