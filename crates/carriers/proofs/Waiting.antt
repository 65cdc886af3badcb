-- A seat that waits for a value makes one more try.
use Rattle.std.proofs.Common.{ℕ, ◌∷◌, Some, None}
use Rattle.history.specs.declared.operations.Taken.{Taken}
use Rattle.history.specs.declared.refusals.Refusal.{Refusal}
use Rattle.history.specs.Seats.{Known}
use Rattle.history.specs.Answers.{Popped, FoundEmpty, PopRefused, SeesMore}
use Rattle.history.proofs.Learning.{sees_itself, sees_then, answers_then, pop_refused_then}
use Rattle.carriers.specs.Waits.{WaitsBy, PoppedAfterWaiting, RefusedAfterWaiting}

module _ {Q S : Type 0} (is_seat : Q → S → Type 0) (known : S → Known) (queue : Q) (before now after : S) (w : WaitsBy is_seat known queue before now) where
  -- others were in the way
  pub waits_busy : SeesMore (known now) (known after) → WaitsBy is_seat known queue before after
  waits_busy f = record { last = w.last; seat = w.seat; waited = w.waited; more = sees_then _ _ _ w.more f }

  -- the queue was empty
  pub waits_empty : is_seat queue after → FoundEmpty (known now) (known after) → WaitsBy is_seat known queue before after
  waits_empty h f =
      record {
        last = after;
        seat = h;
        waited = (known w.last ∷ w.waited.0, (w.waited.1, answers_then (known w.last) (known now) (known after) None w.more f));
        more = sees_itself _;
      }

  -- a value was popped
  pub waits_popped : (value : Taken) → Popped (known now) value (known after) → PoppedAfterWaiting (known before) value (known after)
  waits_popped value f = (known w.last, w.waited, answers_then (known w.last) (known now) (known after) (Some value) w.more f)

  -- the pop was refused
  pub waits_refused : (cause : Q → S → S → ℕ → Refusal → Type 0) (refusal : Refusal) → is_seat queue now → PopRefused (known now) refusal (known after)
      → cause queue now after 8 refusal → RefusedAfterWaiting is_seat known cause queue before after refusal
  waits_refused cause refusal h f why =
      record {
        last = w.last;
        seat = w.seat;
        waited = w.waited;
        refused = pop_refused_then _ _ _ refusal w.more f;
        caused = record { last = now; seat = h; more = w.more; caused = why };
      }
