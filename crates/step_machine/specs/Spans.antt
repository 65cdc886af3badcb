-- In which operation a number lies, and to which one a step that had an effect gives its place.
use Rattle.std.specs.Prelude.{◌≡◌, ℕ, ◌<◌, ◌≤◌, List, Some, IfSome, slice_get}
use Rattle.std.specs.List.{AllByRecursion}
use Rattle.line_table.specs.declared.lines.Line.{Line}
use Rattle.line_table.specs.declared.lines.Line.TheVariants.{E9, D13, A5, B5, S4, S8}
use Rattle.history.specs.declared.operations.Op.{Op}
use Rattle.history.specs.declared.operations.Op.TheVariants.{Enq, Deq, Shut}
use Rattle.history.specs.declared.operations.Stamped.{Stamped}
use Rattle.line_steps.specs.declared.actors.Setup.{Setup}
use Rattle.step_machine.specs.Machine.{AnyMove}
use Rattle.step_machine.specs.Stamps.{makers, IsBy}
use Rattle.step_machine.specs.TakingEffect.{TookEffect, IsByEffect}

-- a number lies in an operation: it isn't before its first number, nor after its last one
abbrev pub NumberLiesIn : (number : ℕ) → Stamped → Type 0
NumberLiesIn number o = (o.first ≤ number) × IfSome o.last (λ last. number ≤ last)

-- a number comes before each operation of an actor that begins after this one
abbrev pub ComesBeforeNext : List Stamped → (number : ℕ) → Stamped → Type 0
ComesBeforeNext ops number o =
    (i : ℕ) (p : Stamped) → slice_get ops i ≡ Some p → p.actor ≡ o.actor → o.first < p.first → number < p.first

-- a fact holds of exactly one operation of an actor
pub record IsOfExactlyOne (ops : List Stamped) (me : ℕ) (P : Stamped → Type 0) : Type 0 where
  pub place : ℕ
  pub operation : Stamped
  pub there : slice_get ops place ≡ Some operation
  pub own : operation.actor ≡ me
  pub holds : P operation
  pub only : (i : ℕ) (p : Stamped) → slice_get ops i ≡ Some p → p.actor ≡ me → P p → i ≡ place

-- each number that an actor's move took lies in exactly one operation of that actor
abbrev pub NumbersLieInOne : Setup → (actors : ℕ) → List AnyMove → List Stamped → Type 0
NumbersLieInOne s actors moves ops =
    (number me : ℕ) → IsBy (makers moves) number me → IsOfExactlyOne ops me (NumberLiesIn number)

-- the same where actors may rest: an operation reaches to the next one of its actor at most
abbrev pub NumbersLieInOneBeforeNext : Setup → (actors : ℕ) → List AnyMove → List Stamped → Type 0
NumbersLieInOneBeforeNext s actors moves ops =
    (number me : ℕ) → IsBy (makers moves) number me → IsOfExactlyOne ops me (λ o. NumberLiesIn number o × ComesBeforeNext ops number o)

-- a line is one at which this call has its effect on the queue: E9 or A5 of an enqueue, D13 or B5 of a dequeue
abbrev pub IsEffectLineOf : Op → Line → Type 0
IsEffectLineOf (Enq body) E9 = Unit {0}
IsEffectLineOf (Enq body) A5 = Unit {0}
IsEffectLineOf Deq D13 = Unit {0}
IsEffectLineOf Deq B5 = Unit {0}
IsEffectLineOf Shut S4 = Unit {0}
IsEffectLineOf Shut S8 = Unit {0}
IsEffectLineOf _ _ = ⊥

-- an operation has this place by a step of its actor that had an effect, at a line of its call
pub record TookItsEffect (s : Setup) (actors : ℕ) (moves : List AnyMove) (o : Stamped) (number : ℕ) : Type 0 where
  pub step : TookEffect s actors moves o.actor number
  pub line : IsEffectLineOf o.op step.line

-- each operation that is pending, or done, or got a value, has its place, if any, by an effect at a line of its call
abbrev pub ArePlacedAtTheirLines : Setup → (actors : ℕ) → List AnyMove → List Stamped → Type 0
ArePlacedAtTheirLines s actors moves ops =
    AllByRecursion (λ o. IsByEffect o.reply → IfSome o.at (TookItsEffect s actors moves o)) ops

-- each step that had an effect gave its number as the place to the operation of its actor in which the number lies
abbrev pub EffectsGivePlaces : Setup → (actors : ℕ) → List AnyMove → List Stamped → Type 0
EffectsGivePlaces s actors moves ops =
    (i number : ℕ) (o : Stamped) → slice_get ops i ≡ Some o → NumberLiesIn number o → ComesBeforeNext ops number o →
    TookEffect s actors moves o.actor number → o.at ≡ Some number
