-- What an office, its senders and its receiver do.
use Rattle.std.specs.Prelude.{◌≡◌, ◌<◌, ◌≤◌, ◌^◌, ℕ, List, Bool, true, false, Option, Some, None, is_some, IfSome, IsSomeAnd, String, string_bytes}
use Rattle.boxcar.specs.Table.{Shows, Where}
use Rattle.history.specs.Limits.{body_bits}
use Rattle.history.specs.Seats.{Permit, Known, MayPush, MayPop}
use Rattle.history.specs.declared.refusals.Refusal.{Refusal}
use Rattle.history.specs.Values.{OnlyPops}
use Rattle.carriers.specs.declared.items.ItemOf.{ItemOf}
use Rattle.carriers.specs.Knowledge.{KnownOf}
use Rattle.carriers.specs.Answers.{PushedOf, PoppedOf, DidShutOf, FoundEmptyOf, PushRefusedOf, EndsByTryOf}
use Rattle.carriers.specs.Values.{values_pushed}
use Rattle.carriers.specs.DeedsOfNumbers.{known_by_deeds}
use Rattle.shared_queue.specs.Queues.{numbers_in}
use Rattle.shared_queue.specs.Waits.{WaitedOf, EmptySinceOf}
use Rattle.shared_queue.specs.Answers.{ReceivedOf, EndsAfterWaitOf}
use Rattle.mailbox.specs.Plans.{Fits}
use Rattle.mailbox.specs.declared.office.Office.{Office}
use Rattle.mailbox.specs.declared.sender.Sender.{Sender}
use Rattle.mailbox.specs.declared.receiver.Receiver.{Receiver}
use Rattle.mailbox.specs.declared.receiver.Letter.{Letter}
use Rattle.mailbox.specs.declared.parcels.Due.{Due}
use Rattle.mailbox.specs.declared.parcels.Missing.{Missing}
use Rattle.mailbox.specs.declared.parcels.Parcel.{Parcel}

-- the queue of an office
abbrev pub queue_in : {Q S : Type 0} → Office Q S → Q
queue_in o = numbers_in o.queue

-- what the receiver knows of the queue
abbrev pub receiver_knows : {Q S : Type 0} → (S → Known) → Receiver Q S → Known
receiver_knows known r = known r.seat

-- whether the receiver has lost a letter
abbrev pub has_lost : {Q S : Type 0} → Receiver Q S → Bool
has_lost r = is_some r.missing

-- the numbers that the office's store is marked with
abbrev pub marks : {Q S : Type 0} → Office Q S → List ℕ
marks o = o.letters.tag

-- a sender of an office: its seat is the queue's, is in no call, and may push
pub record IsSender {Q S : Type 0} (is_seat : Q → S → Type 0) (permits : Q → List Permit) (known : S → Known) (o : Office Q S) (s : Sender Q S) : Type 0 where
  pub seat : is_seat (queue_in o) s.seat
  pub role : MayPush (permits (queue_in o)) (known s.seat).number

-- the receiver of an office: its seat is the queue's, is in no call, and alone may pop
pub record IsReceiver {Q S : Type 0} (is_seat : Q → S → Type 0) (permits : Q → List Permit) (known : S → Known) (o : Office Q S) (r : Receiver Q S) : Type 0 where
  pub seat : is_seat (queue_in o) r.seat
  pub role : MayPop (permits (queue_in o)) (known r.seat).number
  pub only : OnlyPops (permits (queue_in o)) (known r.seat).number

-- a token shows that an office holds this text at this index
pub record ShowsText {Q S T : Type 0} (bytes : T → List ℕ) (o : Office Q S) (token : Option (Where T)) (index : ℕ) (text : List ℕ) : Type 0 where
  pub shown : Where T
  pub is : token ≡ Some shown
  pub here : Shows o.letters shown
  pub at : shown.index ≡ index
  pub reads : bytes shown.value ≡ text

-- the last letter that a sender stored is this text, at this index
abbrev pub Stored : {Q S : Type 0} → Office Q S → Sender Q S → (index : ℕ) → (text : List ℕ) → Type 0
Stored o s index text = ShowsText (λ (p : Parcel). string_bytes p.text) o s.last index text

-- the last letter that a sender stored is stored as this one of those due
abbrev pub StoredAs : {Q S : Type 0} → Sender Q S → Option Due → Type 0
StoredAs s due = IfSome s.last (λ (w : Where Parcel). due ≡ w.value.due)

-- the last letter that the receiver took is this text, at this index
abbrev pub Read : {Q S : Type 0} → Office Q S → Receiver Q S → (index : ℕ) → (text : List ℕ) → Type 0
Read o r index text = ShowsText (λ (p : Parcel). string_bytes p.text) o r.last index text

-- what shows the last letter that the receiver took shows it in this office
abbrev pub ShowsLast : {Q S : Type 0} → Office Q S → Receiver Q S → Type 0
ShowsLast o r = IfSome r.last (Shows o.letters)

-- the last letter that the receiver took says that it is this one of those due
abbrev pub LastIs : {Q S : Type 0} → Receiver Q S → Option Due → Type 0
LastIs r due = IfSome r.last (λ (w : Where Parcel). due ≡ w.value.due)

-- the text of the last letter that the receiver took, whatever it is, is due there
abbrev pub LastFits : {Q S : Type 0} → Office Q S → Receiver Q S → Option Due → Type 0
LastFits o r due = (index : ℕ) (text : List ℕ) → Read o r index text → Fits (marks o) due text

-- an index, a text stored there and a text read there
pub record TextsAt : Type 0 where
  pub index : ℕ
  pub stored : List ℕ
  pub read : List ℕ

-- a letter was sent: its text is stored, and its index was pushed
pub record Sent {Q S Z : Type 0} (known : S → Known) (o : Office Q S) (s s' : Sender Q S) (text : String Z) : Type 0 where
  pub index : ℕ
  pub pushed : PushedOf (known_by_deeds (known s.seat)) index (known_by_deeds (known s'.seat))
  pub stored : Stored o s' index (string_bytes text)

-- nothing was sent or shut, for this cause: the sender found the queue shut, or else it may have seen more and all else that it
-- knows is as before
abbrev pub SentNothing : {Q S : Type 0} → (S → Known) → (s : Sender Q S) → Refusal → (s' : Sender Q S) → Type 0
SentNothing known s refusal s' = PushRefusedOf (known_by_deeds (known s.seat)) refusal (known_by_deeds (known s'.seat))

-- the sender shut the queue
abbrev pub DidShutOffice : {Q S : Type 0} → (S → Known) → (s s' : Sender Q S) → Type 0
DidShutOffice known s s' = DidShutOf (known_by_deeds (known s.seat)) (known_by_deeds (known s'.seat))

-- what a sender has sent is as before, and so is what shows the letter that it stored last
pub record HasSentTheSame {Q S : Type 0} (known : S → Known) (s s' : Sender Q S) : Type 0 where
  pub sent : values_pushed (known_by_deeds (known s'.seat)).mine ≡ values_pushed (known_by_deeds (known s.seat)).mine
  pub last : s'.last ≡ s.last

-- a letter is stored, at an index that is a body
pub record HasStored {Q S Z : Type 0} (o : Office Q S) (s' : Sender Q S) (text : String Z) : Type 0 where
  pub index : ℕ
  pub body : index < 2 ^ body_bits
  pub stored : Stored o s' index (string_bytes text)

-- a sender's push, or shut, of so many turns had this cause for its refusal
abbrev pub SendHadCause : {Q S : Type 0} → (Q → S → S → ℕ → Refusal → Type 0) → Office Q S → (s s' : Sender Q S) → (turns : ℕ) → Refusal → Type 0
SendHadCause cause o s s' turns = cause (queue_in o) s.seat s'.seat turns

-- a send that waits, or a shut, ended by a push of so many turns, or a shut, which had this cause for its refusal
abbrev pub SendEnded : {Q S : Type 0} → (Q → S → Type 0) → (S → Known) → (Q → S → S → ℕ → Refusal → Type 0) → Office Q S → (s s' : Sender Q S) → (turns : ℕ) → Refusal → Type 0
SendEnded is_seat known cause o s s' turns = EndsByTryOf is_seat (λ t. known_by_deeds (known t)) cause (queue_in o) s.seat s'.seat turns

-- a letter was stored, at an index that is no body
pub record HasNoBody {Q S Z : Type 0} (o : Office Q S) (s s' : Sender Q S) (text : String Z) : Type 0 where
  pub seat : s'.seat ≡ s.seat
  pub index : ℕ
  pub large : 2 ^ body_bits ≤ index
  pub stored : Stored o s' index (string_bytes text)

-- a letter was taken: one value was popped, at once or after a wait, which this sender pushed, and this is the text at its body
pub record TookText {Q S : Type 0} (Pops : KnownOf ℕ → ItemOf ℕ → KnownOf ℕ → Type 0) (known : S → Known) (o : Office Q S) (r : Receiver Q S) (from : ℕ) (text : List ℕ) (r' : Receiver Q S) : Type 0 where
  pub front : ItemOf ℕ
  pub popped : Pops (known_by_deeds (known r.seat)) front (known_by_deeds (known r'.seat))
  pub sender : front.from ≡ from
  pub read : Read o r' front.value text
  pub kept : has_lost r' ≡ false

-- there was no letter: the queue was found empty
pub record FoundNone {Q S : Type 0} (known : S → Known) (r r' : Receiver Q S) : Type 0 where
  pub empty : FoundEmptyOf (known_by_deeds (known r.seat)) (known_by_deeds (known r'.seat))
  pub last : r'.last ≡ r.last
  pub kept : has_lost r' ≡ false

-- what a take answers: a letter, or that there is none
abbrev pub TakeAnswers : {Q S : Type 0} → (S → Known) → Office Q S → Receiver Q S → Option Letter → Receiver Q S → Type 0
TakeAnswers known o r None r' = FoundNone known r r'
TakeAnswers known o r (Some letter) r' = TookText PoppedOf known o r letter.from letter.text.now r'

-- there was no letter: the receiver waited, up to some moment, and found the queue empty after it
pub record WaitedInVain {Q S : Type 0} (known : S → Known) (r r' : Receiver Q S) : Type 0 where
  pub late : KnownOf ℕ
  pub waited : WaitedOf (known_by_deeds (known r.seat)) late
  pub empty : EmptySinceOf late (known_by_deeds (known r'.seat))
  pub last : r'.last ≡ r.last
  pub kept : has_lost r' ≡ false

-- what a receive up to a deadline answers: a letter, or that there was none
abbrev pub RecvAnswers : {Q S : Type 0} → (S → Known) → Office Q S → Receiver Q S → Option Letter → Receiver Q S → Type 0
RecvAnswers known o r None r' = WaitedInVain known r r'
RecvAnswers known o r (Some letter) r' = TookText ReceivedOf known o r letter.from letter.text.now r'

-- a take was refused so, without a loss: nothing was taken, as where a pop is refused, at once or after a wait
pub record TookNothing {Q S : Type 0} (Refused : KnownOf ℕ → Refusal → KnownOf ℕ → Type 0) (known : S → Known) (r : Receiver Q S) (refusal : Refusal) (r' : Receiver Q S) : Type 0 where
  pub nothing : Refused (known_by_deeds (known r.seat)) refusal (known_by_deeds (known r'.seat))
  pub last : r'.last ≡ r.last
  pub was : has_lost r ≡ false
  pub kept : has_lost r' ≡ false

-- the receiver's pop of so many turns had this cause for its refusal
abbrev pub TakeHadCause : {Q S : Type 0} → (Q → S → S → ℕ → Refusal → Type 0) → Office Q S → (r r' : Receiver Q S) → (turns : ℕ) → Refusal → Type 0
TakeHadCause cause o r r' turns = cause (queue_in o) r.seat r'.seat turns

-- a take that waits ended by a pop of so many turns, which had this cause for its refusal
abbrev pub TakeEnded : {Q S : Type 0} → (Q → S → Type 0) → (S → Known) → (Q → S → S → ℕ → Refusal → Type 0) → Office Q S → (r r' : Receiver Q S) → (turns : ℕ) → Refusal → Type 0
TakeEnded is_seat known cause o r r' turns = EndsByTryOf is_seat (λ s. known_by_deeds (known s)) cause (queue_in o) r.seat r'.seat turns

-- a receive waited, and ended by a pop of so many turns, which had this cause for its refusal
abbrev pub RecvEnded : {Q S : Type 0} → (Q → S → Type 0) → (S → Known) → (Q → S → S → ℕ → Refusal → Type 0) → Office Q S → (r r' : Receiver Q S) → (turns : ℕ) → Refusal → Type 0
RecvEnded is_seat known cause o r r' turns = EndsAfterWaitOf is_seat (λ s. known_by_deeds (known s)) cause (queue_in o) r.seat r'.seat turns

-- the receiver was answered by the store of letters that it has none at this index
abbrev pub FoundMissing : {Q S : Type 0} → Receiver Q S → (index : ℕ) → Type 0
FoundMissing r index = IsSomeAnd r.missing (λ (m : Missing). m.index ≡ index)

-- one value was popped, at once or after a wait, and the store of letters answered that it has none at its body
pub record TookMissing {Q S : Type 0} (Pops : KnownOf ℕ → ItemOf ℕ → KnownOf ℕ → Type 0) (known : S → Known) (r r' : Receiver Q S) : Type 0 where
  pub front : ItemOf ℕ
  pub popped : Pops (known_by_deeds (known r.seat)) front (known_by_deeds (known r'.seat))
  pub missing : FoundMissing r' front.value

-- a letter is lost: where none was lost before, one value was popped that names no letter; else nothing was done
pub record Loses {Q S : Type 0} (Pops : KnownOf ℕ → ItemOf ℕ → KnownOf ℕ → Type 0) (known : S → Known) (r r' : Receiver Q S) : Type 0 where
  pub first : has_lost r ≡ false → TookMissing Pops known r r'
  pub later : has_lost r ≡ true → r' ≡ r
  pub lost : has_lost r' ≡ true
