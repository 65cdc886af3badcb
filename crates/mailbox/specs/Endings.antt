-- What a post leaves behind.
use Rattle.std.specs.Prelude.{◌≡◌, ◌⊎◌, ℕ, List, [], Option, Result, Err, OnOk, IfErr}
use Rattle.std.specs.List.{AllZip}
use Rattle.history.specs.declared.refusals.Refusal.{Refusal}
use Rattle.history.specs.declared.refusals.Refusal.TheVariants.{Memory}
use Rattle.history.specs.Seats.{Permit, Known}
use Rattle.history.specs.Answers.{EndsShut}
use Rattle.mailbox.specs.Offices.{IsSender, DidShutOffice, SentNothing, SendEnded}
use Rattle.mailbox.specs.Causes.{EndsSo}
use Rattle.mailbox.specs.declared.office.Office.{Office}
use Rattle.mailbox.specs.declared.sender.Sender.{Sender}
use Rattle.mailbox.specs.declared.receiver.Receiver.{Receiver}
use Rattle.mailbox.specs.declared.threads.Task.{Task}

-- a shut by a sender of the office was answered so: it shut the queue, or found it shut, or was refused so, with the cause, as Tail
-- was worn out
pub record IsLeftShut {Q S : Type 0} (is_seat : Q → S → Type 0) (permits : Q → List Permit) (known : S → Known) (cause : Q → S → S → ℕ → Refusal → Type 0)
    (o : Office Q S) : Type 0 where
  pub before : Sender Q S
  pub after : Sender Q S
  pub was : IsSender is_seat permits known o before
  pub is : IsSender is_seat permits known o after
  pub answer : Result (Unit {0}) Refusal
  pub shut : OnOk answer (DidShutOffice known before after)
  pub refused : IfErr answer (λ refusal. SentNothing known before refusal after)
  pub refusal : IfErr answer EndsShut
  pub caused : IfErr answer (SendEnded is_seat known cause o before after 8)

-- the senders of these tasks ended so, and the queue is left shut, unless there are no tasks
pub record HaveEnded {Q S : Type 0} (is_seat : Q → S → Type 0) (permits : Q → List Permit) (known : S → Known) (push_cause shut_cause : Q → S → S → ℕ → Refusal → Type 0)
    (o : Office Q S) (tasks : List (Task Q S)) : Type 0 where
  pub ends : List (Option Refusal)
  pub each : AllZip (EndsSo is_seat known push_cause o) tasks ends
  pub shut : IsLeftShut is_seat permits known shut_cause o ⊎ (tasks ≡ [])

-- letters of tasks were answered so: refused for want of memory before they began, with the receiver as it was; or all senders have
-- ended, and the queue is left shut
abbrev pub PostLeaves : {Q S V : Type 0} → (Q → S → Type 0) → (Q → List Permit) → (S → Known) → (push_cause shut_cause : Q → S → S → ℕ → Refusal → Type 0) → Office Q S → List (Task Q S)
    → Receiver Q S → Result V Refusal → Receiver Q S → Type 0
PostLeaves is_seat permits known push_cause shut_cause o tasks r answer r' =
    ((answer ≡ Err Memory) × (r' ≡ r)) ⊎ HaveEnded is_seat permits known push_cause shut_cause o tasks
