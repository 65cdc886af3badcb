-- What posting the text of mail reads and writes, and what it may be refused.
use Rattle.std.specs.Prelude.{◌≡◌, ℕ, List, ◌++◌, length, map, nat_eq, Option, Some, None, codes, decimal, ⊤}
use Rattle.std.specs.Io.KnownBytes.{Appends}
use Rattle.std.specs.List.{All, filter, flat_map}
use Rattle.std.specs.List.Sorted.{IsPermutation, IsNonDecreasingBy, IsStableByKey}
use Rattle.std.specs.Ordering.{nat_cmp}
use Rattle.text_io.specs.Numerals.{IsWithin}
use Rattle.text_io.specs.Devices.{SinkState}
use Rattle.text_io.specs.Blocks.{TakesPrefix}
use Rattle.history.specs.declared.refusals.Refusal.{Refusal}
use Rattle.history.specs.declared.refusals.Refusal.TheVariants.{NoNode, WornOut, Memory, BadSize, Text, Read, Write, Lost}
use Rattle.mail_engine.specs.MailTexts.{SaidLetter, mail_text, IsMailInRange, IsFirstFaultOfMail}
use Rattle.mailbox.specs.declared.receiver.Letter.{Letter}
use Rattle.mailbox.specs.Posts.{texts_of}
use Rattle.text_io.specs.Readings.{WereAll}

-- the line that says how many letters there are
unfoldable pub count_text : ℕ → List ℕ
count_text count = codes "letters " ++ decimal count ++ codes "\n"

-- what stands before the text of a letter in its line
unfoldable pub sender_text : ℕ → List ℕ
sender_text from = decimal from ++ codes " "

-- the line of a letter
abbrev pub letter_text : Letter → List ℕ
letter_text letter = sender_text letter.from ++ (letter.text.now ++ codes "\n")

-- the text of letters: how many there are, and then their lines
abbrev pub letters_text : List Letter → List ℕ
letters_text letters = count_text (length letters) ++ flat_map letter_text letters

-- letters by rising sender, those of one sender in the order in which they were taken
pub record AreBySender (taken told : List Letter) : Type 0 where
  pub same : IsPermutation taken told
  pub rising : IsNonDecreasingBy (λ (l : Letter). l.from) told
  pub stable : IsStableByKey (λ (l : Letter). l.from) nat_cmp taken told

-- the texts of one sender's letters, in their order
abbrev pub said_by : (sender : ℕ) → List SaidLetter → List (List ℕ)
said_by sender letters = map (λ (l : SaidLetter). l.text) (filter (λ (l : SaidLetter). nat_eq l.from sender) letters)

-- as many letters as these were taken, each of one of so many senders, with the texts of each sender in its order; these are
-- they, by sender
pub record AreTaken (senders : ℕ) (letters : List SaidLetter) (told : List Letter) : Type 0 where
  pub taken : List Letter
  pub count_is : length taken ≡ length letters
  pub from : All (λ (l : Letter). IsWithin 1 senders l.from) taken
  pub texts : (sender : ℕ) → IsWithin 1 senders sender → texts_of sender taken ≡ said_by sender letters
  pub order : AreBySender taken told

-- known bytes were the text of these letters of so many senders, which are in range
pub record IsTextOf (given : Option (List ℕ)) (senders : ℕ) (letters : List SaidLetter) : Type 0 where
  pub in_range : IsMailInRange senders letters
  pub read : WereAll given (mail_text senders letters)

-- known bytes were the text of letters, and those were taken; these are they, by sender
pub record ArePosted (given : Option (List ℕ)) (told : List Letter) : Type 0 where
  pub senders : ℕ
  pub letters : List SaidLetter
  pub text : IsTextOf given senders letters
  pub taken : AreTaken senders letters told

-- the text of such letters was written
abbrev pub WritesLetters : (List Letter → Type 0) → (old new : SinkState) → Type 0
WritesLetters P old new = (told : List Letter) × P told × Appends old.contents new.contents (letters_text told)

-- a prefix of the text of such letters was written
abbrev pub BeginsLetters : (List Letter → Type 0) → (old new : SinkState) → Type 0
BeginsLetters P old new = (told : List Letter) × P told × TakesPrefix old.contents new.contents (letters_text told)

-- what a refusal tells of known bytes: nothing where memory or reading is refused; their first faulty line as mail, and
-- what is wrong with it; and else that they were the text of mail
abbrev pub TellsOfText : (given : Option (List ℕ)) → Refusal → Type 0
TellsOfText None refusal = ⊤
TellsOfText (Some text) Memory = ⊤
TellsOfText (Some text) Read = ⊤
TellsOfText (Some text) (Text number cause) = IsFirstFaultOfMail text (Text number cause)
TellsOfText (Some text) _ = (senders : ℕ) × (letters : List SaidLetter) × IsTextOf (Some text) senders letters

-- what the reading of mail may be refused
abbrev pub IsReadingRefusal : Refusal → Type 0
IsReadingRefusal Memory = Unit {0}
IsReadingRefusal (Text number cause) = Unit {0}
IsReadingRefusal Read = Unit {0}
IsReadingRefusal _ = ⊥

-- what sending the letters and telling those taken may be refused
abbrev pub IsSendingRefusal : Refusal → Type 0
IsSendingRefusal NoNode = Unit {0}
IsSendingRefusal (WornOut word) = Unit {0}
IsSendingRefusal Memory = Unit {0}
IsSendingRefusal BadSize = Unit {0}
IsSendingRefusal Lost = Unit {0}
IsSendingRefusal Write = Unit {0}
IsSendingRefusal _ = ⊥

-- what posting the text of mail may be refused
abbrev pub IsPostRefusal : Refusal → Type 0
IsPostRefusal (Text number cause) = Unit {0}
IsPostRefusal Read = Unit {0}
IsPostRefusal refusal = IsSendingRefusal refusal
