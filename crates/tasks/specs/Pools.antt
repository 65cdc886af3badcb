-- The seats of a pool.
use Rattle.std.specs.Prelude.{◌≡◌, ℕ, ◌+◌, ◌<◌, List, [], ◌∷◌, ◌++◌, map, length, replicate, Some, None, slice_get}
use Rattle.std.specs.Global.{Vec}
use Rattle.std.specs.List.{All, AllZip}
use Rattle.history.specs.declared.refusals.Refusal.{Refusal}
use Rattle.history.specs.Seats.{Permit, MayPush, MayPop}
use Rattle.carriers.specs.declared.items.ItemOf.{ItemOf}
use Rattle.carriers.specs.Knowledge.{KnownOf}
use Rattle.tasks.specs.declared.answers.Done.{Done}
use Rattle.tasks.specs.declared.answers.Outcome.{Outcome}
use Rattle.tasks.specs.declared.answers.Outcome.TheVariants.{Answered, Left}
use Rattle.tasks.specs.declared.runs.Numbered.{Numbered}
use Rattle.tasks.specs.declared.turns.End.{End}
use Rattle.tasks.specs.declared.turns.End.TheVariants.{Finished}
use Rattle.tasks.specs.declared.turns.Worked.{Worked}
use Rattle.tasks.specs.declared.offers.Led.{Led}
use Rattle.tasks.specs.declared.pools.Ran.{Ran}
use Rattle.tasks.specs.Gathers.{slots_in}
use Rattle.tasks.specs.Turns.{IsBack}
use Rattle.tasks.specs.Offers.{HasLed}
use Rattle.tasks.specs.Parts.{done_in, end_in, told_of}

-- these are all the seats of a new queue, in no call: the last one may push, and each other one may pop
pub record IsCrewOf {Q S N : Type 0} (is_seat : Q → S → Type 0) (permits : Q → List Permit) (known : S → KnownOf N) (queue : Q) (seats : List S) : Type 0 where
  pub each : All (is_seat queue) seats
  pub count : length seats ≡ length (permits queue)
  pub some : 0 < length seats
  pub unused : (k : ℕ) (s : S) → slice_get seats k ≡ Some s → ((known s).number ≡ k + 1) × ((known s).mine ≡ [])
  pub takers : (k : ℕ) → k + 1 < length seats → MayPop (permits queue) (k + 1)
  pub giver : MayPush (permits queue) (length seats)

-- a worker ended since it found the queue shut and empty
abbrev pub IsFinished : End → Type 0
IsFinished e = e ≡ Finished

-- a task has its answer
abbrev pub IsAnswered : {T A : Type 0} → Outcome T A → Type 0
IsAnswered (Answered answer) = Unit {0}
IsAnswered (Left task) = ⊥

-- what a pool tells is what was brought back: the submitter offered each task by the last seat, and then shut the queue, or
-- couldn't; each worker ran tasks by a seat of its own; each task is told of by one of these, or was left in the queue
pub record IsRunBy {Q S T A : Type 0} (is_seat : Q → S → Type 0) (known : S → KnownOf (Numbered T)) (pop_cause shut_cause : Q → S → S → ℕ → Refusal → Type 0)
    (answers : T → A → Type 0) (queue : Q) (seats : List S) (tasks : List T) (ran : Ran T A) : Type 0 where
  pub takers : List S
  pub giver : S
  pub split : seats ≡ takers ++ giver ∷ []
  pub led : Led S T A
  pub leads : HasLed is_seat known shut_cause answers queue tasks giver (replicate (length tasks) None) led
  pub workers : List (Worked S (Vec (Done A)))
  pub back : AllZip (IsBack is_seat known pop_cause answers queue) takers workers
  pub left : List (ItemOf (Numbered T))
  pub told : map (λ o. Some o) ran.outcomes.items ≡ told_of (slots_in led.gather) (map done_in workers) left
  pub ends : ran.ends.items ≡ map end_in workers
  pub refused : ran.refused ≡ led.refused
  pub unshut : ran.unshut ≡ led.unshut
