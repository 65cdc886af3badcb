-- Tries to shut a queue, one after another.
use Rattle.std.specs.Prelude.{◌≡◌, ℕ, List, [], ◌∷◌, length}
use Rattle.history.specs.declared.refusals.Refusal.{Refusal}
use Rattle.history.specs.declared.refusals.Refusal.TheVariants.{Busy}
use Rattle.carriers.specs.Knowledge.{KnownOf}
use Rattle.carriers.specs.Answers.{SeesMoreOf}

-- a try of so many turns was in vain: nothing was done, and it had cause to be refused `Busy`
pub record InVain {Q S A : Type 0} (is_seat : Q → S → Type 0) (known : S → KnownOf A) (cause : Q → S → S → ℕ → Refusal → Type 0)
    (queue : Q) (turns : ℕ) (before after : S) : Type 0 where
  pub seat : is_seat queue before
  pub more : SeesMoreOf (known before) (known after)
  pub caused : cause queue before after turns Busy

-- tries, one after another, each in vain, from one state of the seat to another; these are its states before each, the last
-- one first
abbrev pub Tries : {Q S A : Type 0} → (Q → S → Type 0) → (S → KnownOf A) → (Q → S → S → ℕ → Refusal → Type 0) → Q → (turns : ℕ) → List S → S → S → Type 0
Tries is_seat known cause queue turns [] before after = before ≡ after
Tries is_seat known cause queue turns (state ∷ states) before after =
    Tries is_seat known cause queue turns states before state × InVain is_seat known cause queue turns state after

-- so many tries were made, of so many turns each, and all in vain
pub record TriedInVain {Q S A : Type 0} (is_seat : Q → S → Type 0) (known : S → KnownOf A) (cause : Q → S → S → ℕ → Refusal → Type 0)
    (queue : Q) (tries turns : ℕ) (before after : S) : Type 0 where
  pub states : List S
  pub many : length states ≡ tries
  pub each : Tries is_seat known cause queue turns states before after
