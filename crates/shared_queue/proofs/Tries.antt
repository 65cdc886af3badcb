-- The last try in vain.
use Rattle.std.proofs.Common.{◌≡◌, ◌+◌, ℕ, List, ◌∷◌, length, Result, Ok, Err, IfErr, subst, arith}
use Rattle.history.specs.declared.refusals.Refusal.{Refusal}
use Rattle.history.specs.declared.refusals.Refusal.TheVariants.{Busy}
use Rattle.carriers.specs.Knowledge.{KnownOf}
use Rattle.carriers.specs.Answers.{PushRefusedOf}
use Rattle.shared_queue.specs.Tries.{Tries, TriedInVain}

-- after tries in vain a further one that is busy makes one more
pub once_more : {Q S A : Type 0} (is_seat : Q → S → Type 0) (known : S → KnownOf A) (cause : Q → S → S → ℕ → Refusal → Type 0) (queue : Q)
    (states : List S) (before s s' : S) → is_seat queue s → Tries is_seat known cause queue 8 states before s → (tries : ℕ) → length states + 1 ≡ tries
    → (out : Result (Unit {0}) Refusal) → IfErr out (λ refusal. PushRefusedOf (known s) refusal (known s')) → IfErr out (cause queue s s' 8)
    → IfErr out (λ refusal. refusal ≡ Busy → TriedInVain is_seat known cause queue tries 8 before s')
once_more is_seat known cause queue states before s s' sits each tries many (Ok done) refused caused = tt
once_more is_seat known cause queue states before s s' sits each tries many (Err refusal) refused caused =
    λ busy.
    record {
      states = s ∷ states;
      many = omega (arith, many);
      each = (
        each,
        record {
          seat = sits;
          more = subst (λ r. PushRefusedOf (known s) r (known s')) busy refused;
          caused = subst (cause queue s s' 8) busy caused;
        },
      );
    }
