-- A submitter and its workers.
use Rattle.std.specs.Prelude.{◌≡◌, ℕ, List, length, Result, Ok, Err}
use Rattle.std.specs.Global.{Vec}
use Rattle.std.specs.List.{AllZip}
use Rattle.history.specs.declared.refusals.Refusal.{Refusal}
use Rattle.history.specs.declared.refusals.Refusal.TheVariants.{BadSize}
use Rattle.history.specs.Seats.{Known}
use Rattle.shared_queue.specs.Queues.{numbers_in}
use Rattle.job_results.specs.declared.jobs.Job.{Job}
use Rattle.dispatcher.specs.declared.workers.Back.{Back}
use Rattle.dispatcher.specs.declared.crews.JobsRun.{JobsRun}
use Rattle.dispatcher.specs.declared.crews.Unrun.{Unrun}
use Rattle.dispatcher.specs.declared.crews.Started.{Started}
use Rattle.dispatcher.specs.declared.crews.Started.TheVariants.{Running, Unstarted}
use Rattle.dispatcher.specs.Turns.{IsBack}
use Rattle.dispatcher.specs.Submissions.{HasGiven}

module _ {Q G X S : Type 0} (is_seat : Q → S → Type 0) (known : S → Known) (cause : Q → S → S → ℕ → Refusal → Type 0) (queue : Q) (jobs : List Job) (stops : Type 0) (gated : G → ℕ → Type 0) (gate : G) where
  -- a worker was started for this seat: it is to bring it back, or no thread could be made, and it brought it back
  abbrev pub IsStartedFor : S → Started Q G X S → Type 0
  IsStartedFor seat (Running handle) = (numbers_in handle.promise.queue.now ≡ queue) × (handle.promise.jobs.now ≡ jobs) × (handle.promise.gate.value ≡ gate) × (handle.promise.was.value ≡ seat)
  IsStartedFor seat (Unstarted back) = IsBack is_seat known cause queue jobs stops (gated gate) seat back

  -- whichever seat a worker was started for, this is what it brought back
  abbrev pub Returned : Started Q G X S → Back S → Type 0
  Returned started back = (seat : S) → IsStartedFor seat started → IsBack is_seat known cause queue jobs stops (gated gate) seat back

-- the submitter pushed the jobs' numbers and shut the queue, or tells why not; and each worker, in the order of their seats,
-- brought its seat back, and the results of the jobs whose numbers it took
pub record HasRun {Q S : Type 0} (is_seat : Q → S → Type 0) (known : S → Known) (push_cause pop_cause shut_cause : Q → S → S → ℕ → Refusal → Type 0) (queue : Q) (jobs : List Job) (stops : Type 0) (gated : ℕ → Type 0) (giver : S) (takers : List S) (run : JobsRun S) : Type 0 where
  pub given : HasGiven is_seat known push_cause shut_cause queue (length jobs) (length takers) giver run.giver
  pub back : AllZip (IsBack is_seat known pop_cause queue jobs stops gated) takers run.workers.items

-- the seats came back as they were
abbrev pub IsAsGiven : {S : Type 0} → S → Vec S → Unrun S → Type 0
IsAsGiven giver takers unrun = (unrun.giver ≡ giver) × (unrun.takers ≡ takers)

-- jobs were refused, since a size is out of its range
abbrev pub IsRefusedSize : {S : Type 0} → Result (JobsRun S) (Unrun S) → Type 0
IsRefusedSize (Ok run) = ⊥
IsRefusedSize (Err unrun) = unrun.refusal ≡ BadSize
