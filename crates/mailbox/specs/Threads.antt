-- The threads of senders.
use Rattle.std.specs.Prelude.{◌≡◌, ℕ, List, [], Option, Some, None}
use Rattle.std.specs.List.{AllZip}
use Rattle.history.specs.declared.refusals.Refusal.{Refusal}
use Rattle.history.specs.Seats.{Permit, Known}
use Rattle.mailbox.specs.Offices.{IsSender}
use Rattle.mailbox.specs.Causes.{HasEnded, EndsSo, FirstIsTold}
use Rattle.mailbox.specs.declared.office.Office.{Office}
use Rattle.mailbox.specs.declared.sender.Sender.{Sender}
use Rattle.mailbox.specs.declared.threads.Task.{Task}
use Rattle.mailbox.specs.declared.threads.Back.{Back}
use Rattle.mailbox.specs.declared.threads.Started.{Started}
use Rattle.mailbox.specs.declared.threads.Started.TheVariants.{Running, Unstarted}

-- a task's sender came back, having ended so
pub record IsBack {Q S : Type 0} (is_seat : Q → S → Type 0) (permits : Q → List Permit) (known : S → Known) (cause : Q → S → S → ℕ → Refusal → Type 0)
    (o : Office Q S) (task : Task Q S) (back : Back Q S) : Type 0 where
  pub ended : EndsSo is_seat known cause o task back.end.refusal
  pub sender : IsSender is_seat permits known o back.sender

-- a thread was started for the sender of this task: it is to come back so as its promise says; or no thread could be made, and it
-- came back
abbrev pub IsStartedFor : {Q S : Type 0} → (Q → S → Type 0) → (Q → List Permit) → (S → Known) → (Q → S → S → ℕ → Refusal → Type 0) → Office Q S → Task Q S → Started Q S → Type 0
IsStartedFor is_seat permits known cause o task (Running handle) = (handle.promise.office.value ≡ o) × (handle.promise.task.value ≡ task)
IsStartedFor is_seat permits known cause o task (Unstarted back) = IsBack is_seat permits known cause o task back

-- the sender of a thread is one of this office, or is to come back as one
abbrev pub IsOfOffice : {Q S : Type 0} → (Q → S → Type 0) → (Q → List Permit) → (S → Known) → Office Q S → Started Q S → Type 0
IsOfOffice is_seat permits known o (Running handle) = handle.promise.office.value ≡ o
IsOfOffice is_seat permits known o (Unstarted back) = IsSender is_seat permits known o back.sender

-- one of the senders of these threads came back, as one of this office; or there are no threads
abbrev pub ComesBack : {Q S : Type 0} → (Q → S → Type 0) → (Q → List Permit) → (S → Known) → Office Q S → List (Started Q S) → Option (Sender Q S) → Type 0
ComesBack is_seat permits known o threads None = threads ≡ []
ComesBack is_seat permits known o threads (Some sender) = IsSender is_seat permits known o sender

-- the sender of a thread ended so, or that of none did
abbrev pub Ends : {Q S : Type 0} → (Q → S → Type 0) → (S → Known) → (Q → S → S → ℕ → Refusal → Type 0) → Started Q S → Option Refusal → Type 0
Ends is_seat known cause (Running handle) end = HasEnded is_seat known cause handle.promise.office.value handle.promise.task.value.sender handle.promise.task.value.texts.items end
Ends is_seat known cause (Unstarted back) end = back.end.refusal ≡ end

-- of these threads, the first sender that was refused is told
pub record TellFirst {Q S : Type 0} (is_seat : Q → S → Type 0) (known : S → Known) (cause : Q → S → S → ℕ → Refusal → Type 0) (threads : List (Started Q S)) (told : Option Refusal) : Type 0 where
  pub ends : List (Option Refusal)
  pub each : AllZip (Ends is_seat known cause) threads ends
  pub first : FirstIsTold ends told
