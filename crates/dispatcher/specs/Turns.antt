-- What a worker does in turns that wait, and what it brings back.
use Rattle.std.specs.Prelude.{◌≡◌, ◌-◌, ◌≤◌, ◌⊎◌, ℕ, true, List, [], ◌∷◌, ◌++◌, map, Option, Some, None, slice_get}
use Rattle.std.specs.List.{All, AllZip}
use Rattle.history.specs.declared.operations.Entry.TheVariants.{Pop}
use Rattle.history.specs.declared.operations.Taken.{Taken}
use Rattle.history.specs.declared.refusals.Refusal.{Refusal}
use Rattle.history.specs.declared.refusals.Refusal.TheVariants.{Stranger, WornOut}
use Rattle.history.specs.Entries.{Leads, LeadsTo}
use Rattle.history.specs.Seats.{Known}
use Rattle.carriers.specs.DeedsOfNumbers.{known_by_deeds}
use Rattle.shared_queue.specs.Answers.{EndsAfterWaitOf}
use Rattle.job_results.specs.declared.jobs.Job.{Job}
use Rattle.job_results.specs.declared.results.JobResult.{JobResult}
use Rattle.job_results.specs.Results.{number_in, job_in}
use Rattle.dispatcher.specs.declared.workers.End.{End}
use Rattle.dispatcher.specs.declared.workers.End.TheVariants.{Finished, Stopped, NoMemory, Refused}
use Rattle.dispatcher.specs.declared.workers.Back.{Back}
use Rattle.dispatcher.specs.WorkerTurns.{IsNoJob, PutsResult}

-- a seat took this value, and did nothing else
abbrev pub TookOne : Known → Taken → Known → Type 0
TookOne k value k' = k'.mine ≡ k.mine ++ Pop k.number value ∷ []

-- what a worker's pop answers, which waits: it took a value; or nothing, with the queue empty
abbrev pub TookNext : (k k' : Known) → Option Taken → Type 0
TookNext k k' (Some value) = TookOne k value k'
TookNext k k' None = LeadsTo k'.seen [] × (k'.mine ≡ k.mine)

-- a turn took the number of a job, put its result at the end, and the gate was told so
pub record DoesOne (jobs : List Job) (gated : ℕ → Type 0) (k k' : Known) (out out' : List JobResult) : Type 0 where
  pub value : Taken
  pub took : TookOne k value k'
  pub put : PutsResult jobs value.body out out'
  pub told : gated value.body

-- a turn that waits did one job; or nothing, with the queue empty
abbrev pub DoesNext : List Job → (gated : ℕ → Type 0) → (k k' : Known) → (out out' : List JobResult) → Type 0
DoesNext jobs gated k k' out out' = DoesOne jobs gated k k' out out' ⊎ (LeadsTo k'.seen [] × (k'.mine ≡ k.mine) × (out' ≡ out))

-- a result is of the job whose number was taken
pub record IsResultOf (jobs : List Job) (value : Taken) (r : JobResult) : Type 0 where
  pub from_one : 1 ≤ value.body
  pub numbered : number_in r ≡ value.body
  pub of : slice_get jobs (value.body - 1) ≡ Some (job_in r)

-- a seat took the numbers of jobs, and these are the results of just these jobs, in this order
pub record HasDone (jobs : List Job) (k k' : Known) (results : List JobResult) : Type 0 where
  pub values : List Taken
  pub mine : k'.mine ≡ k.mine ++ map (Pop k.number) values
  pub done : AllZip (IsResultOf jobs) values results

module _ {Q S : Type 0} (is_seat : Q → S → Type 0) (known : S → Known) (cause : Q → S → S → ℕ → Refusal → Type 0) (queue : Q) (jobs : List Job) (stops : Type 0) where
  -- how a worker ended, behind what it did: it found the queue shut and empty; or empty, when what stops workers was so; it was
  -- refused memory; its pop was refused, with the queue's cause, since a word was worn out; or it took a number that no job has
  abbrev pub EndsSo : (before after : S) → End → Type 0
  EndsSo before after Finished = Leads (known after).seen true [] × ((known after).mine ≡ (known before).mine)
  EndsSo before after Stopped = stops × LeadsTo (known after).seen [] × ((known after).mine ≡ (known before).mine)
  EndsSo before after (NoMemory none) = (known after).mine ≡ (known before).mine
  EndsSo before after (Refused (WornOut word)) =
      ((known after).mine ≡ (known before).mine) × EndsAfterWaitOf is_seat (λ s. known_by_deeds (known s)) cause queue before after 8 (WornOut word)
  EndsSo before after (Refused Stranger) = (value : Taken) × IsNoJob jobs value.body × TookOne (known before) value (known after)
  EndsSo before after (Refused _) = ⊥

  -- a worker brings back its seat, with the same number, and the result of each job whose number it took, of which its gate was
  -- told, and tells how it ended
  pub record IsBack (gated : ℕ → Type 0) (was : S) (w : Back S) : Type 0 where
    pub seat : is_seat queue w.seat
    pub number : (known w.seat).number ≡ (known was).number
    pub last : S
    pub same : (known last).number ≡ (known was).number
    pub done : HasDone jobs (known was) (known last) w.results.items
    pub told : All (λ r. gated (number_in r)) w.results.items
    pub ended : EndsSo last w.seat w.end
