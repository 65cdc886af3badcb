-- Letters of many senders, taken by one receiver.
use Rattle.std.specs.Prelude.{◌≡◌, ◌<◌, ℕ, ◌+◌, List, [], ◌++◌, length, map, get_or, set, nat_eq, vec_len, string_bytes}
use Rattle.std.specs.List.{filter, sum_by}
use Rattle.history.specs.declared.operations.Taken.{Taken}
use Rattle.history.specs.Seats.{Permit, Known}
use Rattle.history.specs.Values.{popped}
use Rattle.mailbox.specs.Plans.{plan_numbers, AreDue}
use Rattle.mailbox.specs.Offices.{IsSender, marks}
use Rattle.mailbox.specs.declared.office.Office.{Office}
use Rattle.mailbox.specs.declared.sender.Sender.{Sender}
use Rattle.mailbox.specs.declared.receiver.Receiver.{Receiver}
use Rattle.mailbox.specs.declared.receiver.Letter.{Letter}
use Rattle.mailbox.specs.declared.parcels.Due.{Due}
use Rattle.mailbox.specs.declared.threads.Task.{Task}

-- the texts of a task
abbrev pub texts_in : {Q S : Type 0} → Task Q S → List (List ℕ)
texts_in task = map string_bytes task.texts.items

-- a task's sender is one of the office
abbrev pub IsTask : {Q S : Type 0} → (Q → S → Type 0) → (Q → List Permit) → (S → Known) → Office Q S → Task Q S → Type 0
IsTask is_seat permits known o task = IsSender is_seat permits known o task.sender

-- the task of this number, counted from 0: its sender is one of the office, where its texts are due
pub record IsTaskAt {Q S : Type 0} (is_seat : Q → S → Type 0) (permits : Q → List Permit) (known : S → Known) (o : Office Q S) (number : ℕ) (task : Task Q S) : Type 0 where
  pub sender : IsSender is_seat permits known o task.sender
  pub due : AreDue (marks o) number 0 task.texts.items

-- in this office the texts of these tasks are due, and no others
abbrev pub Plans : {Q S : Type 0} → Office Q S → List (Task Q S) → Type 0
Plans o tasks = marks o ≡ plan_numbers (map texts_in tasks)

-- two offices are over one queue
abbrev pub HasQueueOf : {Q S : Type 0} → (o o' : Office Q S) → Type 0
HasQueueOf o o' = o'.queue ≡ o.queue

-- the texts of the letters of one sender, in the order in which they were taken
abbrev pub texts_of : (sender : ℕ) → List Letter → List (List ℕ)
texts_of sender letters = map (λ (l : Letter). l.text.now) (filter (λ (l : Letter). nat_eq l.from sender) letters)

-- the letters bring these texts: those of sender 1 the texts of the first list, in its order, and so on
abbrev pub BringTexts : (lists : List (List (List ℕ))) → List Letter → Type 0
BringTexts lists letters = (k : ℕ) → k < length lists → texts_of (k + 1) letters ≡ get_or lists k []

-- a letter of this sender is the next one of its task, where so many of each were taken before: afterwards one more is
pub record IsNext (old : List ℕ) (sender : ℕ) (due : Due) (new : List ℕ) : Type 0 where
  pub from : sender ≡ due.task + 1
  pub within : due.task < length old
  pub place : get_or old due.task 0 ≡ due.place
  pub counted : new ≡ set old due.task (due.place + 1)

-- a letter of this sender isn't the next one of its task: it is another sender's, or of no task, or out of its turn
abbrev pub IsNotNext : (counts : List ℕ) → (sender : ℕ) → Due → Type 0
IsNotNext counts sender due = sender ≡ due.task + 1 → due.task < length counts → get_or counts due.task 0 ≡ due.place → ⊥

-- where as many letters are there as are due, they are those that are due
abbrev pub AreThoseDue : {Q S : Type 0} → Office Q S → (senders : ℕ) → List Letter → Type 0
AreThoseDue o senders letters = (lists : List (List (List ℕ))) → marks o ≡ plan_numbers lists → length lists ≡ senders → length letters ≡ sum_by length lists → BringTexts lists letters

-- a sender had its effect so many times, each one more entry of its own
abbrev pub AddsEntries : {Q S : Type 0} → (S → Known) → (s : Sender Q S) → (count : ℕ) → (s' : Sender Q S) → Type 0
AddsEntries known s count s' = length (known s'.seat).mine ≡ length (known s.seat).mine + count

-- how many letters these tasks have to send
abbrev pub letters_of : {Q S : Type 0} → List (Task Q S) → ℕ
letters_of tasks = sum_by (λ task. vec_len task.texts) tasks

-- letters were taken, in this order: the receiver popped one value for each, which its sender pushed, and no other values
pub record Delivered {Q S : Type 0} (known : S → Known) (r : Receiver Q S) (letters : List Letter) (r' : Receiver Q S) : Type 0 where
  pub values : List Taken
  pub popped_them : popped (known r'.seat).mine ≡ popped (known r.seat).mine ++ values
  pub senders : map (λ l. l.from) letters ≡ map (λ v. v.from) values
