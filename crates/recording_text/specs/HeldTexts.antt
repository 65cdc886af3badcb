-- Recordings of a queue that holds texts at the start: each stands for a longer one, of an empty queue, that pushes them first.
use Rattle.std.specs.Prelude.{◌≡◌, ◌⊎◌, ◌==◌, false, ◌<◌, ◌≤◌, ◌+◌, ◌^◌, ℕ, List, [], ◌∷◌, ◌++◌, Option, Some, IfSome, All, length, map, option_map, take, slice_get, codes}
use Rattle.std.specs.List.{AllByRecursion, slice_split}
use Rattle.std.specs.List.Sorted.{IsPermutation}
use Rattle.history.specs.declared.text_causes.TextCause.{TextCause}
use Rattle.history.specs.declared.text_causes.TextCause.TheVariants.{Range}
use Rattle.history.specs.declared.refusals.Refusal.{Refusal}
use Rattle.history.specs.declared.refusals.Refusal.TheVariants.{Memory, Text}
use Rattle.history.specs.declared.operations.Stamped.{Stamped}
use Rattle.recording_text.specs.Recordings.{Push, Done, Recorded}
use Rattle.recording_text.specs.RecordingLines.{recording_text, IsRecordingInRange, IsText, IsShortText, HasFirstFault}
use Rattle.recording_text.specs.Numbers.{history_of}
use Rattle.recording_text.specs.TextQueues.{TextQueue, AnsweredOperation, operations_of, IsPending, TellsRecordedReply, KeepsTime, IsRun}

-- a queue that holds these texts, the front first, and isn't shut
abbrev pub holding : List (List ℕ) → TextQueue
holding texts = record { texts = texts; shut = false }

-- A recording is linearizable from this queue: there is an order of all its completed operations and some pending ones, each once,
-- with what each pending one is told, that keeps time and is a run from the queue that tells every reply recorded.
pub record IsLinearizableFrom (queue : TextQueue) (rs : List Recorded) : Type 0 where
  pub order : List AnsweredOperation
  pub left_out : List Recorded
  pub each_once : IsPermutation rs (operations_of order ++ left_out)
  pub only_pending_left_out : AllByRecursion IsPending left_out
  pub replies : AllByRecursion TellsRecordedReply order
  pub timely : KeepsTime (operations_of order)
  pub runs : IsRun queue order

-- a push that begins and ends at one number, and is done
abbrev pub push_at : ℕ → List ℕ → Recorded
push_at number text = record { name = codes "held"; call = Push text; first = number; last = Some number; told = Some Done }

-- pushes of these texts, one after another, the first at this number
abbrev pub pushes_from : ℕ → List (List ℕ) → List Recorded
pushes_from number [] = []
pushes_from number (text ∷ texts) = push_at number text ∷ pushes_from (number + 1) texts

-- an operation whose numbers are so much greater
abbrev pub later_by : ℕ → Recorded → Recorded
later_by count r = record { name = r.name; call = r.call; first = r.first + count; last = option_map (λ last. last + count) r.last; told = r.told }

-- the longer recording: pushes of the texts that are held, and then all operations, so many numbers later
abbrev pub longer : (held : List (List ℕ)) → List Recorded → List Recorded
longer held rs = pushes_from 1 held ++ map (later_by (length held)) rs

-- an operation of a history whose numbers are so much greater
abbrev pub stamped_later : ℕ → Stamped → Stamped
stamped_later count o = record {
  actor = o.actor;
  op = o.op;
  first = o.first + count;
  last = option_map (λ last. last + count) o.last;
  at = o.at;
  reply = o.reply;
}

-- numbers that are so much greater are below 2^64
pub record HasRoom (count first : ℕ) (last : Option ℕ) : Type 0 where
  pub first_fits : first + count < 2 ^ 64
  pub last_fits : IfSome last (λ last. last + count < 2 ^ 64)

-- the numbers of an operation leave room for so many more
abbrev pub Fits : ℕ → Recorded → Type 0
Fits count r = HasRoom count r.first r.last

-- a text is that of a recording in range, and this is the history that its longer recording stands for
pub record StandsHolding (held : List (List ℕ)) (text : List ℕ) (ops : List Stamped) : Type 0 where
  pub recording : List Recorded
  pub in_range : IsRecordingInRange recording
  pub spelled : text ≡ recording_text recording
  pub history : ops ≡ history_of (longer held recording)

-- a text is that of a recording in range; the line of this number says its first operation whose numbers leave no room for so many more
pub record IsBeyond (count : ℕ) (text : List ℕ) (number : ℕ) (cause : TextCause) : Type 0 where
  pub recording : List Recorded
  pub in_range : IsRecordingInRange recording
  pub spelled : text ≡ recording_text recording
  pub cause_is : cause ≡ Range
  pub index : ℕ
  pub operation : Recorded
  pub stands : slice_get recording index ≡ Some operation
  pub counted : number ≡ index + 3
  pub before : All (Fits count) (take index recording)
  pub none : ¬ Fits count operation

-- the refusal of a text, of a queue that holds so many texts: its first faulty line, or the first one that leaves no room for their
-- pushes; or there was no room
abbrev pub IsFaultHolding : ℕ → List ℕ → Refusal → Type 0
IsFaultHolding count text (Text number cause) = HasFirstFault text number cause ⊎ IsBeyond count text number cause
IsFaultHolding count text Memory = Unit {0}
IsFaultHolding count text _ = ⊥

-- the numbers of an operation of a history leave room for so many more
abbrev pub StampsFit : ℕ → Stamped → Type 0
StampsFit count o = HasRoom count o.first o.last

-- this is the first operation of a history whose numbers leave no room for so many more
pub record IsFirstBeyond (count : ℕ) (ops : List Stamped) (index : ℕ) : Type 0 where
  pub operation : Stamped
  pub stands : slice_get ops index ≡ Some operation
  pub before : All (StampsFit count) (take index ops)
  pub none : ¬ StampsFit count operation

-- the line of this number says the first operation that leaves no room for so many more; or there was no room in memory
abbrev pub IsBeyondIn : ℕ → List Stamped → Refusal → Type 0
IsBeyondIn count ops (Text number cause) = (cause ≡ Range) × ((index : ℕ) × (number ≡ index + 3) × IsFirstBeyond count ops index)
IsBeyondIn count ops Memory = Unit {0}
IsBeyondIn count ops _ = ⊥

-- the texts of a list: what stands between its commas
abbrev pub listed : List ℕ → List (List ℕ)
listed list = slice_split (λ b. b == 44) list

-- a text that can be held: 1 to 64 bytes, each a letter, a digit, a dash, a point or an underscore
abbrev pub IsHeldText : List ℕ → Type 0
IsHeldText text = IsText text × IsShortText text

-- these are texts that can be held at the start, one or more, at most 1,000,000
pub record AreHeld (texts : List (List ℕ)) : Type 0 where
  pub some : 0 < length texts
  pub few : length texts ≤ 1000000
  pub each : All IsHeldText texts
