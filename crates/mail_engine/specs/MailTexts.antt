-- The texts of mail: a line with the numbers of senders and letters, then a line for each letter.
use Rattle.std.specs.Prelude.{◌≤◌, ℕ, List, ◌++◌, length, codes, All, map, string_bytes}
use Rattle.std.specs.List.{flat_map}
use Rattle.history.specs.declared.text_causes.TextCause.{TextCause}
use Rattle.text_io.specs.Lines.{line}
use Rattle.text_io.specs.Numerals.{numeral, IsWithin}
use Rattle.text_io.specs.Printable.{IsPrintable, IsShort}
use Rattle.text_io.specs.Listings.{Listing, IsFirstFaultIn}
use Rattle.history.specs.declared.refusals.Refusal.{Refusal}
use Rattle.text_io.specs.ListingRefusals.{IsRefusalIn}
use Rattle.mail_engine.specs.declared.letters.Outgoing.{Outgoing}

-- what the first line says: how many senders there are, and how many letters follow
pub record MailHeader : Type 0 where
  pub senders : ℕ
  pub letters : ℕ

-- what the line of a letter says: the number of its sender, and the bytes of its text
pub record SaidLetter : Type 0 where
  pub from : ℕ
  pub text : List ℕ

-- what the line of a letter says of it
abbrev pub said_letter : Outgoing → SaidLetter
said_letter letter = record { from = letter.from; text = string_bytes letter.text }

-- what the lines of some letters say
abbrev pub said_letters : List Outgoing → List SaidLetter
said_letters letters = map said_letter letters

-- the first line, but for its line feed
abbrev pub mail_line : MailHeader → List ℕ
mail_line h = codes "mail " ++ (numeral h.senders ++ codes " " ++ numeral h.letters)

-- the line of a letter, but for its line feed
abbrev pub letter_line : SaidLetter → List ℕ
letter_line letter = numeral letter.from ++ codes " " ++ letter.text

-- the first line of these letters
abbrev pub header_of : (senders : ℕ) → List SaidLetter → MailHeader
header_of senders letters = record { senders = senders; letters = length letters }

-- the whole text
abbrev pub mail_text : (senders : ℕ) → List SaidLetter → List ℕ
mail_text senders letters = line (mail_line (header_of senders letters)) ++ flat_map (λ letter. line (letter_line letter)) letters

-- there are 1 to 64 senders, and at most 100,000 letters
abbrev pub IsHeaderInRange : MailHeader → Type 0
IsHeaderInRange h = IsWithin 1 64 h.senders × (h.letters ≤ 100000)

-- the text of a letter is printable
abbrev pub IsLetter : SaidLetter → Type 0
IsLetter letter = IsPrintable letter.text

-- a letter's sender is one of so many, and its text has at most 200 bytes
abbrev pub IsLetterInRange : (senders : ℕ) → SaidLetter → Type 0
IsLetterInRange senders letter = IsWithin 1 senders letter.from × IsShort 200 letter.text

-- mail that a text can hold
pub record IsMailInRange (senders : ℕ) (letters : List SaidLetter) : Type 0 where
  pub header : IsHeaderInRange (header_of senders letters)
  pub each : All (λ letter. IsLetter letter × IsLetterInRange senders letter) letters

-- texts of mail: the first line says how many letters follow, and of how many senders
abbrev pub mail_listing : Listing MailHeader SaidLetter
mail_listing = record {
  count = λ h. h.letters;
  header_in_range = IsHeaderInRange;
  header = mail_line;
  may_say = IsLetter;
  in_range = λ h letter. IsLetterInRange h.senders letter;
  item = letter_line;
}

-- the first faulty line of a text, as one of mail, has this number, and is wrong for this cause
abbrev pub HasFirstFault : List ℕ → ℕ → TextCause → Type 0
HasFirstFault text number cause = IsFirstFaultIn mail_listing text number cause

-- the refusal of a text that is none of mail: its first faulty line and what is wrong with it, or no room
abbrev pub IsFirstFaultOfMail : List ℕ → Refusal → Type 0
IsFirstFaultOfMail text refusal = IsRefusalIn mail_listing text refusal
