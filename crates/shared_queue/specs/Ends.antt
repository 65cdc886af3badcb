-- What a receiver answers that goes on to the end of its channel.
use Rattle.std.specs.Prelude.{Option, Some, None, Result, Ok, Err}
use Rattle.history.specs.declared.refusals.Refusal.{Refusal}
use Rattle.history.specs.declared.refusals.Refusal.TheVariants.{WornOut, Closed}
use Rattle.carriers.specs.declared.items.ItemOf.{ItemOf}
use Rattle.carriers.specs.Knowledge.{KnownOf}
use Rattle.shared_queue.specs.Answers.{ReceivedOf, RecvRefusedOf}

module _ {A : Type 0} where
  -- a seat waited, and then popped this value; or was then told none, as a pop is refused that finds the queue shut and empty;
  -- or was then refused as a pop is
  abbrev pub AnswersToEndOf : KnownOf A → Result (Option (ItemOf A)) Refusal → KnownOf A → Type 0
  AnswersToEndOf k (Ok (Some front)) k' = ReceivedOf k front k'
  AnswersToEndOf k (Ok None) k' = RecvRefusedOf k Closed k'
  AnswersToEndOf k (Err refusal) k' = RecvRefusedOf k refusal k'

  -- where there was no value, this is so of why: the queue was shut and empty, or what was refused
  abbrev pub IfEndOf : Result (Option (ItemOf A)) Refusal → (Refusal → Type 0) → Type 0
  IfEndOf (Ok (Some front)) P = Unit {0}
  IfEndOf (Ok None) P = P Closed
  IfEndOf (Err refusal) P = P refusal

-- a word was worn out
abbrev pub IsWornOut : Refusal → Type 0
IsWornOut (WornOut word) = Unit {0}
IsWornOut _ = ⊥
