-- What the parts of a pop of a value answer.
use Rattle.std.specs.Prelude.{◌≡◌, ℕ, true, false, Option, Some, Result, OnOk, IfOk, IfErr}
use Rattle.std.specs.Option.{is_some}
use Rattle.history.specs.declared.operations.Taken.{Taken}
use Rattle.history.specs.declared.refusals.Refusal.{Refusal}
use Rattle.history.specs.declared.refusals.WornWord.{WornWord}
use Rattle.history.specs.Answers.{StopsPop}
use Rattle.carriers.specs.declared.items.ItemOf.{ItemOf}
use Rattle.carriers.specs.Answers.{PopAnswersOf, PopRefusedOf}
use Rattle.node_arena.specs.Arenas.{Arena}
use Rattle.node_arena.specs.declared.seats.Seat.{Seat}
use Rattle.node_arena.specs.Hands.{HasSlot, KeepsKnown}
use Rattle.node_arena.specs.Seats.{IsReady, KeepsName, HasNoSlot, pocket_of, keeps_of}
use Rattle.arena_queue.specs.Answers.{FailsFew, FreesItsNode, PopCaused}
use Rattle.value_queue.specs.ValuesSeen.{known_by}

-- the value of what was popped came out of its slot, which was given back
pub record TakesOut {T : Type 0} (r : Arena) (s t : Seat T) (taken : Taken) (front : ItemOf T) : Type 0 where
  pub ready : IsReady r t
  pub keeps : KeepsKnown s t
  pub none_out : HasNoSlot t
  pub from : front.from ≡ taken.from
  pub value : HasSlot r s taken.body (Some front.value)

-- after a pop a seat's pocket holds a node exactly where a value was taken
abbrev pub KeepsItsNode : {T : Type 0} → Seat T → Option (ItemOf T) → Type 0
KeepsItsNode t front = is_some (pocket_of t) ≡ is_some front

-- what a pop of a value answers
pub record AnswersPop {T : Type 0} (worn : WornWord → Type 0) (r : Arena) (s t : Seat T) (turns : ℕ) (out : Result (Option (ItemOf T)) Refusal) : Type 0 where
  pub ready : IsReady r t
  pub none_out : HasNoSlot t
  pub same : KeepsName s t
  pub answer : IfOk out (λ front. PopAnswersOf (known_by s) front (known_by t))
  pub few : OnOk out (FailsFew s t turns)
  pub freed : keeps_of s ≡ false → OnOk out (FreesItsNode s t turns)
  pub kept : keeps_of s ≡ true → IfOk out (KeepsItsNode t)
  pub refused : IfErr out (λ refusal. PopRefusedOf (known_by s) refusal (known_by t))
  pub refusal : IfErr out StopsPop
  pub caused : IfErr out (PopCaused worn r s t turns)
