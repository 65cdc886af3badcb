-- What the submitter does.
use Rattle.std.specs.Prelude.{◌≡◌, ◌⊎◌, ℕ, ◌<◌, List, [], ◌++◌, map, length, Option, Some, None, IfSome, slice_get, slice_set}
use Rattle.std.specs.List.{All, Any}
use Rattle.history.specs.declared.refusals.Refusal.{Refusal}
use Rattle.history.specs.Answers.{EndsShut}
use Rattle.carriers.specs.Deeds.{did_push}
use Rattle.carriers.specs.Knowledge.{KnownOf}
use Rattle.carriers.specs.Answers.{PushedOf, SeesMoreOf, DidShutOf, FoundShutOf, EndsByTryOf}
use Rattle.tasks.specs.declared.answers.Done.{Done}
use Rattle.tasks.specs.declared.answers.Outcome.{Outcome}
use Rattle.tasks.specs.declared.answers.Outcome.TheVariants.{Answered}
use Rattle.tasks.specs.declared.runs.Numbered.{Numbered}
use Rattle.tasks.specs.declared.offers.Led.{Led}
use Rattle.tasks.specs.Tasks.{IsOf, IsDoneOf}
use Rattle.tasks.specs.Gathers.{slots_in, fills, told_done}

-- the queue was shut, or found shut; or it couldn't be shut, for this reason
abbrev pub EndsShutBy : {A : Type 0} → (k k' : KnownOf A) → Option Refusal → Type 0
EndsShutBy k k' None = DidShutOf k k' ⊎ FoundShutOf k k'
EndsShutBy k k' (Some refusal) = SeesMoreOf k k' × EndsShut refusal

module _ {T A : Type 0} (answers : T → A → Type 0) where
  -- a task was run where it was offered, and its result put under its number
  pub record RanHere (x : Numbered T) (k k' : KnownOf (Numbered T)) (slots slots' : List (Option (Outcome T A))) : Type 0 where
    pub result : Done A
    pub of : IsDoneOf answers x result
    pub put : slots' ≡ slice_set slots result.number (Some (Answered result.answer))
    pub mine : k'.mine ≡ k.mine

  -- a task was offered: it was pushed, and what is known of refusals stays; or it was run, for a reason
  abbrev pub OffersNext : Numbered T → (refused refused' : Option Refusal) → (k k' : KnownOf (Numbered T)) → (slots slots' : List (Option (Outcome T A))) → Type 0
  OffersNext x refused refused' k k' slots slots' =
      ((refused' ≡ refused) × PushedOf k x k' × (slots' ≡ slots)) ⊎ ((refusal : Refusal) × (refused' ≡ Some refusal) × RanHere x k k' slots slots')

  -- a result stands under the number of its own task
  pub record IsAnswerOf (tasks : List T) (d : Done A) : Type 0 where
    pub task : T
    pub at : slice_get tasks d.number ≡ Some task
    pub answer : answers task d.answer

  -- the first of these tasks, so many, were offered: each was pushed under its number, or its result put there; where no push
  -- was refused, each was pushed
  pub record HasOffered (tasks : List T) (most : ℕ) (refused : Option Refusal) (k k' : KnownOf (Numbered T)) (slots slots' : List (Option (Outcome T A))) : Type 0 where
    pub pushed : List (Numbered T)
    pub mine : k'.mine ≡ k.mine ++ map (did_push k.number) pushed
    pub of : All (IsOf tasks) pushed
    pub ran : List (Done A)
    pub put : slots' ≡ fills slots (map told_done ran)
    pub answered : All (IsAnswerOf tasks) ran
    pub each : (n : ℕ) → n < most → Any (λ x. x.number ≡ n) pushed ⊎ Any (λ d. d.number ≡ n) ran
    pub here : refused ≡ None → ran ≡ []

-- the submitter offered each task, and then shut the queue, found it shut, or tells why it couldn't, with the cause of a try of 8
-- turns
pub record HasLed {Q S T A : Type 0} (is_seat : Q → S → Type 0) (known : S → KnownOf (Numbered T)) (cause : Q → S → S → ℕ → Refusal → Type 0)
    (answers : T → A → Type 0) (queue : Q) (tasks : List T) (was : S) (slots : List (Option (Outcome T A))) (led : Led S T A) : Type 0 where
  pub seat : is_seat queue led.seat
  pub number : (known led.seat).number ≡ (known was).number
  pub middle : S
  pub offered : HasOffered answers tasks (length tasks) led.refused (known was) (known middle) slots (slots_in led.gather)
  pub shut : EndsShutBy (known middle) (known led.seat) led.unshut
  pub caused : IfSome led.unshut (EndsByTryOf is_seat known cause queue middle led.seat 8)
