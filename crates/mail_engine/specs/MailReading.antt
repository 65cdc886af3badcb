-- What the readers of the parts of a line of mail look for.
use Rattle.std.specs.Prelude.{◌≡◌, ℕ, List, [], ◌∷◌, Option, Result, MatchOption, MatchResult, codes}
use Rattle.std.specs.Borrow.{Bor}
use Rattle.history.specs.declared.text_causes.TextCause.{TextCause}
use Rattle.history.specs.declared.text_causes.TextCause.TheVariants.{Form}
use Rattle.text_io.specs.Lines.{words_of}
use Rattle.text_io.specs.Numerals.{numeral}
use Rattle.text_io.specs.Printable.{IsShort}
use Rattle.text_io.specs.LineReadings.{IsWrong}
use Rattle.text_io.specs.Listings.{SaysItem, SaysHeader}
use Rattle.mail_engine.specs.declared.lines.ReadLetter.{ReadLetter}
use Rattle.mail_engine.specs.declared.lines.Counts.{Counts}
use Rattle.mail_engine.specs.MailTexts.{MailHeader, SaidLetter, mail_listing, IsHeaderInRange, IsLetter, IsLetterInRange}

-- what was read of a first line
abbrev pub header_in : Counts → MailHeader
header_in counts = record { senders = counts.senders; letters = counts.letters }

-- what was read of a letter's line
abbrev pub said_of : ReadLetter → SaidLetter
said_of read = record { from = read.from; text = read.text.now }

-- these are the words of the first line
abbrev pub AreOfHeader : List (List ℕ) → MailHeader → Type 0
AreOfHeader words h = words ≡ codes "mail" ∷ numeral h.senders ∷ numeral h.letters ∷ []

-- these are the words of a letter
abbrev pub AreOfLetter : List (List ℕ) → SaidLetter → Type 0
AreOfLetter words letter = IsLetter letter × (words ≡ numeral letter.from ∷ words_of letter.text)

-- a line says how many senders and letters there are
abbrev pub SaysMail : List ℕ → MailHeader → Type 0
SaysMail says h = SaysHeader mail_listing says h

-- a line says a letter
abbrev pub SaysLetter : List ℕ → SaidLetter → Type 0
SaysLetter says letter = SaysItem mail_listing says letter

-- a first line is kept where it is in range, and else none is
abbrev pub KeepsHeader : MailHeader → Option Counts → Type 0
KeepsHeader h kept = MatchOption kept (¬ IsHeaderInRange h) (λ read. (header_in read ≡ h) × IsHeaderInRange h)

-- the first line of these words was read, and is kept where it is in range; or they are none's
abbrev pub ReadsWordsOfHeader : List (List ℕ) → Result (Option Counts) TextCause → Type 0
ReadsWordsOfHeader words result = MatchResult result
    (λ kept. (h : MailHeader) × AreOfHeader words h × KeepsHeader h kept)
    (λ cause. (cause ≡ Form) × ((h : MailHeader) → ¬ AreOfHeader words h))

-- a first line was read, and is in range; or it is wrong for this cause
abbrev pub ReadsHeader : List ℕ → Result Counts TextCause → Type 0
ReadsHeader says result = MatchResult result
    (λ read. SaysMail says (header_in read) × IsHeaderInRange (header_in read))
    (IsWrong (SaysMail says) IsHeaderInRange)

-- a text is kept where it is not too long, and else none is
abbrev pub KeepsText : List ℕ → Option (Bor (List ℕ)) → Type 0
KeepsText bytes kept = MatchOption kept (¬ IsShort 200 bytes) (λ text. (text.now ≡ bytes) × IsShort 200 bytes)

-- a letter is kept where it is in range, and else none is
abbrev pub KeepsLetter : (senders : ℕ) → SaidLetter → Option ReadLetter → Type 0
KeepsLetter senders letter kept =
    MatchOption kept (¬ IsLetterInRange senders letter) (λ read. (said_of read ≡ letter) × IsLetterInRange senders letter)

-- the letter of these words was read, and is kept where it is in range; or they are no letter's
abbrev pub ReadsWordsOfLetter : (senders : ℕ) → List (List ℕ) → Result (Option ReadLetter) TextCause → Type 0
ReadsWordsOfLetter senders words result = MatchResult result
    (λ kept. (letter : SaidLetter) × AreOfLetter words letter × KeepsLetter senders letter kept)
    (λ cause. (cause ≡ Form) × ((letter : SaidLetter) → ¬ AreOfLetter words letter))

-- a letter was read from a line, and is in range; or the line is wrong for this cause
abbrev pub ReadsLetter : (senders : ℕ) → List ℕ → Result ReadLetter TextCause → Type 0
ReadsLetter senders says result = MatchResult result
    (λ read. SaysLetter says (said_of read) × IsLetterInRange senders (said_of read))
    (IsWrong (SaysLetter says) (IsLetterInRange senders))
