-- Seats of workers and of the submitter.
use Rattle.std.specs.Prelude.{◌≡◌, ◌<◌, ◌⊎◌, ℕ, zero, suc, List, [], ◌∷◌, ◌++◌, length}
use Rattle.history.specs.declared.operations.Entry.{Entry}
use Rattle.history.specs.declared.operations.Entry.TheVariants.{Push}
use Rattle.history.specs.declared.refusals.Refusal.{Refusal}
use Rattle.history.specs.declared.refusals.Refusal.TheVariants.{BadSize, Lost, Memory}
use Rattle.history.specs.Seats.{Permit, Known, MayPush, MayPop}
use Rattle.job_results.specs.declared.jobs.Job.{Job}

-- a seat is the queue's, in no call, and may pop
abbrev pub IsTaker : {Q S : Type 0} → (Q → S → Type 0) → (Q → List Permit) → (S → Known) → Q → S → Type 0
IsTaker is_seat permits known queue seat = is_seat queue seat × MayPop (permits queue) (known seat).number

-- a seat is the queue's, in no call, and may push
abbrev pub IsGiver : {Q S : Type 0} → (Q → S → Type 0) → (Q → List Permit) → (S → Known) → Q → S → Type 0
IsGiver is_seat permits known queue seat = is_seat queue seat × MayPush (permits queue) (known seat).number

-- a seat pushed this number, and had no other effect
abbrev pub HasPushedOne : Known → (number : ℕ) → Known → Type 0
HasPushedOne k number k' = k'.mine ≡ k.mine ++ Push k.number number ∷ []

-- these entries of a seat, and then its pushes of 1 and so on
abbrev pub after_pushes : (mine : List Entry) → (seat : ℕ) → ℕ → List Entry
after_pushes mine seat zero = mine
after_pushes mine seat (suc n) = after_pushes mine seat n ++ Push seat (suc n) ∷ []

-- a seat pushed the numbers from 1 to this one, in order, each once, and had no other effect
abbrev pub HasPushed : Known → (most : ℕ) → Known → Type 0
HasPushed k most k' = k'.mine ≡ after_pushes k.mine k.number most

-- there is no taker, or there are more than 1,000,000 jobs
abbrev pub IsBadSize : {S : Type 0} → (takers : List S) → List Job → Type 0
IsBadSize takers jobs = (length takers ≡ 0) ⊎ (1000000 < length jobs)

-- workers that were started may end so: a job has no result, or memory was refused
abbrev pub StopsWorkers : Refusal → Type 0
StopsWorkers Lost = Unit {0}
StopsWorkers Memory = Unit {0}
StopsWorkers _ = ⊥

-- a list of jobs may be refused so: a size is out of its range, a job has no result, or memory was refused
abbrev pub StopsDispatch : Refusal → Type 0
StopsDispatch BadSize = Unit {0}
StopsDispatch refusal = StopsWorkers refusal
