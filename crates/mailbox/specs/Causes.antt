-- Why letters of tasks don't all come.
use Rattle.std.specs.Prelude.{◌≡◌, ◌≢◌, ◌<◌, ◌⊎◌, ◌+◌, ℕ, List, [], ◌∷◌, length, Option, Some, None, IfSome, String}
use Rattle.std.specs.List.{AllZip}
use Rattle.history.specs.declared.refusals.Refusal.{Refusal}
use Rattle.history.specs.declared.refusals.Refusal.TheVariants.{Memory, BadSize, Lost, Closed}
use Rattle.history.specs.Seats.{Known}
use Rattle.shared_queue.specs.Answers.{ReceivedOf, RecvRefusedOf}
use Rattle.mailbox.specs.Refusals.{HandsOn}
use Rattle.mailbox.specs.Offices.{SentNothing, SendEnded, HasNoBody, TookText, TookNothing, Loses, LastIs, WaitedInVain}
use Rattle.mailbox.specs.Posts.{AddsEntries, Delivered, texts_of, letters_of}
use Rattle.mailbox.specs.declared.office.Office.{Office}
use Rattle.mailbox.specs.declared.sender.Sender.{Sender}
use Rattle.mailbox.specs.declared.receiver.Receiver.{Receiver}
use Rattle.mailbox.specs.declared.receiver.Letter.{Letter}
use Rattle.mailbox.specs.declared.parcels.Due.{Due}
use Rattle.mailbox.specs.declared.threads.Task.{Task}

-- a sender that had sent so many letters was refused its next one so: nothing was sent, and a refusal that is the queue's has its
-- cause; without memory the sender is as it was, and a letter that has no body is stored
pub record IsRefusedNext {Q S : Type 0} (Z : Type 0) (is_seat : Q → S → Type 0) (known : S → Known) (cause : Q → S → S → ℕ → Refusal → Type 0)
    (o : Office Q S) (s : Sender Q S) (refusal : Refusal) : Type 0 where
  pub text : String Z
  pub after : Sender Q S
  pub nothing : SentNothing known s refusal after
  pub caused : HandsOn (SendEnded is_seat known cause o s after 8) refusal
  pub memory : refusal ≡ Memory → after ≡ s
  pub no_body : refusal ≡ BadSize → HasNoBody o s after text

-- a sender ended so, after so many letters of these texts: they were all, or it was refused the next one
abbrev pub EndsAfter : {Q S Z : Type 0} → (Q → S → Type 0) → (S → Known) → (Q → S → S → ℕ → Refusal → Type 0) → Office Q S → List (String Z) → (sent : ℕ) → Sender Q S → Option Refusal → Type 0
EndsAfter is_seat known cause o texts sent s None = sent ≡ length texts
EndsAfter {Z = Z} is_seat known cause o texts sent s (Some refusal) = (sent < length texts) × IsRefusedNext Z is_seat known cause o s refusal

-- a sender sent these texts, in order, up to the first one that was refused, and ended so
pub record HasEnded {Q S Z : Type 0} (is_seat : Q → S → Type 0) (known : S → Known) (cause : Q → S → S → ℕ → Refusal → Type 0)
    (o : Office Q S) (s : Sender Q S) (texts : List (String Z)) (refusal : Option Refusal) : Type 0 where
  pub sent : ℕ
  pub last : Sender Q S
  pub added : AddsEntries known s sent last
  pub ends : EndsAfter is_seat known cause o texts sent last refusal

-- what is told of a sender's refusal: that letters are lost, where it found the queue shut; else the refusal
abbrev pub IsTold : Refusal → Option Refusal → Type 0
IsTold refusal told = (refusal ≡ Closed → told ≡ Some Lost) × (refusal ≢ Closed → told ≡ Some refusal)

-- of senders that ended so, the first one that was refused is told
abbrev pub FirstIsTold : List (Option Refusal) → Option Refusal → Type 0
FirstIsTold [] told = told ≡ None
FirstIsTold (None ∷ ends) told = FirstIsTold ends told
FirstIsTold (Some refusal ∷ ends) told = IsTold refusal told

-- a task's sender ended so; one for which no thread could be made sent nothing, and its first text is refused for want of memory
abbrev pub EndsSo : {Q S : Type 0} → (Q → S → Type 0) → (S → Known) → (Q → S → S → ℕ → Refusal → Type 0) → Office Q S → Task Q S → Option Refusal → Type 0
EndsSo is_seat known cause o task end = HasEnded is_seat known cause o task.sender task.texts.items end

-- letters were taken, and then there was none: the receiver waited and found the queue empty, or shut and empty
pub record TookAllThere {Q S : Type 0} (known : S → Known) (r : Receiver Q S) (letters : List Letter) (r' : Receiver Q S) : Type 0 where
  pub last : Receiver Q S
  pub delivered : Delivered known r letters last
  pub none : WaitedInVain known last r' ⊎ TookNothing RecvRefusedOf known last Closed r'

-- where these letters of so many tasks were taken, it is the turn of a letter of this sender that is this one of those due
pub record IsItsTurn (senders : ℕ) (letters : List Letter) (sender : ℕ) (due : Due) : Type 0 where
  pub from : sender ≡ due.task + 1
  pub within : due.task < senders
  pub place : length (texts_of sender letters) ≡ due.place

-- a letter was taken whose turn it isn't, or that is of no task
pub record TookOutOfTurn {Q S : Type 0} (known : S → Known) (o : Office Q S) (senders : ℕ) (letters : List Letter) (r r' : Receiver Q S) : Type 0 where
  pub letter : Letter
  pub took : TookText ReceivedOf known o r letter.from letter.text.now r'
  pub due : Option Due
  pub is : LastIs r' due
  pub out : IfSome due (λ d. IsItsTurn senders letters letter.from d → ⊥)

-- a take after these letters was refused so: nothing was taken; or, at `Lost`, a letter is lost, or its turn it isn't
pub record StopsAt {Q S : Type 0} (known : S → Known) (o : Office Q S) (senders : ℕ) (letters : List Letter) (r r' : Receiver Q S) (refusal : Refusal) : Type 0 where
  pub nothing : refusal ≢ Lost → TookNothing RecvRefusedOf known r refusal r'
  pub lost : refusal ≡ Lost → Loses ReceivedOf known r r' ⊎ TookOutOfTurn known o senders letters r r'

-- letters were taken, up to a take that was refused so
pub record TookUntil {Q S : Type 0} (known : S → Known) (o : Office Q S) (senders : ℕ) (r : Receiver Q S) (refusal : Refusal) (r' : Receiver Q S) : Type 0 where
  pub letters : List Letter
  pub last : Receiver Q S
  pub delivered : Delivered known r letters last
  pub stops : StopsAt known o senders letters last r' refusal

-- all letters that were there were taken, fewer than the tasks have, and what is told is what the first sender was refused that
-- was; or that letters are lost, where none was
pub record AreMissing {Q S : Type 0} (is_seat : Q → S → Type 0) (known : S → Known) (cause : Q → S → S → ℕ → Refusal → Type 0)
    (o : Office Q S) (tasks : List (Task Q S)) (r : Receiver Q S) (refusal : Refusal) (r' : Receiver Q S) : Type 0 where
  pub letters : List Letter
  pub taken : TookAllThere known r letters r'
  pub fewer : length letters < letters_of tasks
  pub ends : List (Option Refusal)
  pub each : AllZip (EndsSo is_seat known cause o) tasks ends
  pub told : FirstIsTold ends (Some refusal) ⊎ (FirstIsTold ends None × (refusal ≡ Lost))

-- letters of tasks were refused so: there was no memory, and the receiver is as it was; or a take was refused; or letters are
-- missing
abbrev pub PostRefused : {Q S : Type 0} → (Q → S → Type 0) → (S → Known) → (Q → S → S → ℕ → Refusal → Type 0) → Office Q S → List (Task Q S) → Receiver Q S → Refusal → Receiver Q S → Type 0
PostRefused is_seat known cause o tasks r refusal r' =
    ((refusal ≡ Memory) × (r' ≡ r)) ⊎ TookUntil known o (length tasks) r refusal r' ⊎ AreMissing is_seat known cause o tasks r refusal r'
