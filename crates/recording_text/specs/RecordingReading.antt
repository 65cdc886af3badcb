-- What the readers of the parts of a recording's line look for, and what they keep of it.
use Rattle.std.specs.Prelude.{◌≡◌, ◌≢◌, ◌≤◌, ℕ, List, [], ◌∷◌, ◌++◌, Option, Some, Result, MatchOption, MatchResult, map, option_map, codes}
use Rattle.std.specs.Borrow.{Bor}
use Rattle.std.specs.HashSet.{HashSet}
use Rattle.history.specs.declared.text_causes.TextCause.{TextCause}
use Rattle.history.specs.declared.text_causes.TextCause.TheVariants.{Form}
use Rattle.text_io.specs.Lines.{line, spaced}
use Rattle.text_io.specs.Numerals.{numeral}
use Rattle.text_io.specs.LineReadings.{IsWrong}
use Rattle.history.specs.declared.refusals.Refusal.{Refusal}
use Rattle.history.specs.declared.refusals.Refusal.TheVariants.{Text, Memory}
use Rattle.history.specs.declared.operations.Stamped.{Stamped}
use Rattle.recording_text.specs.declared.lines.ReadCall.{ReadCall}
use Rattle.recording_text.specs.declared.lines.ReadCall.TheVariants.{Push as ReadPush, Pop as ReadPop, Shut as ReadShut}
use Rattle.recording_text.specs.declared.replies.ReadReply.{ReadReply}
use Rattle.recording_text.specs.declared.replies.ReadReply.TheVariants.{Done as ReadDone, Value as ReadValue, Empty as ReadEmpty, Refused as ReadRefused, Closed as ReadClosed}
use Rattle.recording_text.specs.declared.lines.ReadOperation.{ReadOperation}
use Rattle.recording_text.specs.Recordings.{Call, Push, Pop, Shut, Told, Done, Value, Empty, Refused, Closed, Recorded, texts_in, texts_of}
use Rattle.recording_text.specs.RecordingLines.{version_line, call_words, told_words, operation_words, IsText, IsTextCall, IsTextTold, IsSayable}
use Rattle.recording_text.specs.RecordingLines.{IsShortText, IsCallInRange, IsToldInRange, IsOperationInRange, IsRecordingInRange, recording_text}
use Rattle.recording_text.specs.Numbers.{stamped_by, with_texts, history_of}

-- the call that was read
abbrev pub said_call : ReadCall → Call
said_call (ReadPush text) = Push text.now
said_call ReadPop = Pop
said_call ReadShut = Shut

-- what was told, as it was read
abbrev pub said_reply : ReadReply → Told
said_reply ReadDone = Done
said_reply (ReadValue text) = Value text.now
said_reply ReadEmpty = Empty
said_reply ReadRefused = Refused
said_reply ReadClosed = Closed

-- what was told, if anything was
abbrev pub said_told : Option ReadReply → Option Told
said_told reply = option_map said_reply reply

-- the operation that was read
abbrev pub said_of : ReadOperation → Recorded
said_of read = record {
  name = read.name.now;
  call = said_call read.call;
  first = read.first;
  last = read.last;
  told = said_told read.reply;
}

-- a part of a line is kept, as what is read stands for it, where it is in range, and else none is
abbrev pub KeepsAs : {V X : Type 0} → (X → V) → (V → Type 0) → V → Option X → Type 0
KeepsAs view InRange v kept = MatchOption kept (¬ InRange v) (λ x. (view x ≡ v) × InRange v)

-- the bytes of a word that was read
abbrev pub bytes_of : Bor (List ℕ) → List ℕ
bytes_of word = word.now

-- a text was read from the front of the words of a line, and is kept where it is short; or there is none
abbrev pub ReadsText : List (List ℕ) → List (List ℕ) → Result (Option (Bor (List ℕ))) TextCause → Type 0
ReadsText old new result = MatchResult result
    (λ kept. (text : List ℕ) × IsText text × (old ≡ text ∷ new) × KeepsAs bytes_of IsShortText text kept)
    (λ cause. (cause ≡ Form) × ((text : List ℕ) (rest : List (List ℕ)) → IsText text → old ≢ text ∷ rest))

-- the push of a text that was kept
abbrev pub KeepsPush : Option (Bor (List ℕ)) → Option ReadCall → Type 0
KeepsPush text kept = (bytes : List ℕ) → KeepsAs bytes_of IsShortText bytes text → KeepsAs said_call IsCallInRange (Push bytes) kept

-- the value of a text that was kept
abbrev pub KeepsValue : Option (Bor (List ℕ)) → Option (Option ReadReply) → Type 0
KeepsValue text kept = (bytes : List ℕ) → KeepsAs bytes_of IsShortText bytes text → KeepsAs said_told IsToldInRange (Some (Value bytes)) kept

-- the same of a call
abbrev pub ReadsCall : List (List ℕ) → List (List ℕ) → Result (Option ReadCall) TextCause → Type 0
ReadsCall old new result = MatchResult result
    (λ kept. (call : Call) × IsTextCall call × (old ≡ call_words call ++ new) × KeepsAs said_call IsCallInRange call kept)
    (λ cause. (cause ≡ Form) × ((call : Call) (rest : List (List ℕ)) → IsTextCall call → old ≢ call_words call ++ rest))

-- these are the words of what was told
abbrev pub AreOfTold : List (List ℕ) → Option Told → Type 0
AreOfTold words told = IsTextTold told × (words ≡ told_words told)

-- what was told was read from these words, and is kept where it is in range; or they tell nothing
abbrev pub ReadsTold : List (List ℕ) → Result (Option (Option ReadReply)) TextCause → Type 0
ReadsTold words result = MatchResult result
    (λ kept. (told : Option Told) × AreOfTold words told × KeepsAs said_told IsToldInRange told kept)
    (λ cause. (cause ≡ Form) × ((told : Option Told) → ¬ AreOfTold words told))

-- the one word of what was told
abbrev pub IsPlainTold : List ℕ → Option Told → Type 0
IsPlainTold word told = (word ∷ [] ≡ told_words told) × IsTextTold told

-- the same of one word that is no value
abbrev pub ReadsPlainTold : List ℕ → Result (Option (Option ReadReply)) TextCause → Type 0
ReadsPlainTold word result = MatchResult result
    (λ kept. (told : Option Told) × IsPlainTold word told × KeepsAs said_told IsToldInRange told kept)
    (λ cause. (cause ≡ Form) × ((told : Option Told) → ¬ IsPlainTold word told))

-- these are the words of an operation
abbrev pub AreOfOperation : List (List ℕ) → Recorded → Type 0
AreOfOperation words r = IsSayable r × (words ≡ operation_words r)

-- a line says an operation
abbrev pub SaysOperation : List ℕ → Recorded → Type 0
SaysOperation says r = IsSayable r × (says ≡ spaced (operation_words r))

-- the operation of these words was read, and is kept where it is in range; or they are none's
abbrev pub ReadsWordsOfOperation : List (List ℕ) → Result (Option ReadOperation) TextCause → Type 0
ReadsWordsOfOperation words result = MatchResult result
    (λ kept. (r : Recorded) × AreOfOperation words r × KeepsAs said_of IsOperationInRange r kept)
    (λ cause. (cause ≡ Form) × ((r : Recorded) → ¬ AreOfOperation words r))

-- an operation was read from a line, and is in range; or the line is wrong for this cause
abbrev pub ReadsOperation : List ℕ → Result ReadOperation TextCause → Type 0
ReadsOperation says result = MatchResult result
    (λ read. SaysOperation says (said_of read) × IsOperationInRange (said_of read))
    (IsWrong (SaysOperation says) IsOperationInRange)

-- a line says how many operations there are
abbrev pub SaysCount : List ℕ → ℕ → Type 0
SaysCount says count = says ≡ spaced (codes "operations" ∷ numeral count ∷ [])

-- there are at most 1,000,000 operations
abbrev pub IsCount : ℕ → Type 0
IsCount count = count ≤ 1000000

-- the first line of a text says that it is a recording, the second one how many operations there are, and the rest follows
abbrev pub IsAfterCount : List ℕ → ℕ → List ℕ → Type 0
IsAfterCount text count rest =
    IsCount count × (text ≡ line version_line ++ (line (spaced (codes "operations" ∷ numeral count ∷ [])) ++ rest))

-- the texts that are known
abbrev pub known_by : {S : Type 0} → HashSet (Bor (List ℕ)) S → List (List ℕ)
known_by known = map bytes_of known.keys

-- the operation that a line says, in range, is added to a list with its texts as numbers, and they are known then
pub record AddsOperation (known new_known : List (List ℕ)) (old new : List Stamped) (says : List ℕ) : Type 0 where
  pub operation : Recorded
  pub said : SaysOperation says operation
  pub in_range : IsOperationInRange operation
  pub learnt : new_known ≡ with_texts known (texts_in operation)
  pub added : new ≡ old ++ stamped_by new_known operation ∷ []

-- a text is that of a recording in range, and this is the history that the recording stands for
pub record StandsFor (text : List ℕ) (ops : List Stamped) : Type 0 where
  pub recording : List Recorded
  pub in_range : IsRecordingInRange recording
  pub spelled : text ≡ recording_text recording
  pub history : ops ≡ history_of recording

-- a text is that of a recording in range, and these are its operations with the numbers of its texts among those known before
-- and its own, which are known then
pub record StandsBehind (old new : List (List ℕ)) (text : List ℕ) (ops : List Stamped) : Type 0 where
  pub recording : List Recorded
  pub in_range : IsRecordingInRange recording
  pub spelled : text ≡ recording_text recording
  pub learnt : new ≡ with_texts old (texts_of recording)
  pub history : ops ≡ map (stamped_by new) recording

-- the line of this number says no operation, or one that is out of range; or there was no room
abbrev pub IsWrongOperation : ℕ → List ℕ → Refusal → Type 0
IsWrongOperation number says (Text at cause) = (at ≡ number) × IsWrong (SaysOperation says) IsOperationInRange cause
IsWrongOperation number says Memory = Unit {0}
IsWrongOperation number says _ = ⊥
