-- The lines of mail and their words.
use Rattle.std.proofs.Common.{◌≡◌, ◌≢◌, ℕ, ◌≤◌, List, [], ◌∷◌, ◌++◌, length, Option, Some, None, refl, sym, ap, subst, ◌∙◌, arith, codes, append_assoc, inl}
use Rattle.std.specs.Option.{ok_or}
use Rattle.std.proofs.lemmas.List.Elements.{All-nil, All-cons, All-append, All-weaker}
use Rattle.history.specs.declared.text_causes.TextCause.{TextCause}
use Rattle.history.specs.declared.text_causes.TextCause.TheVariants.{Range}
use Rattle.text_io.specs.Lines.{HasNo, spaced, words_of}
use Rattle.text_io.specs.Numerals.{numeral}
use Rattle.text_io.specs.Printable.{IsPrintable}
use Rattle.text_io.specs.Listings.{listing_text, IsListing, IsSoundListing}
use Rattle.text_io.proofs.Numerals.{HasNo-numeral, numeral_injective}
use Rattle.text_io.proofs.Splits.{HasNo-tested, words_of_more, words_of_some, spaced-words_of, words_of-spaced}
use Rattle.text_io.proofs.Listings.{one_listing, listing-not_neither}
use Rattle.mail_engine.specs.declared.lines.ReadLetter.{ReadLetter}
use Rattle.mail_engine.specs.declared.lines.Counts.{Counts}
use Rattle.mail_engine.specs.MailTexts.{MailHeader, SaidLetter, mail_line, letter_line, header_of, mail_text, mail_listing, IsHeaderInRange, IsLetter, IsLetterInRange, IsMailInRange, HasFirstFault}
use Rattle.mail_engine.specs.MailReading.{AreOfHeader, AreOfLetter, SaysMail, SaysLetter, KeepsHeader, KeepsLetter, ReadsHeader, ReadsLetter}

-- a number has neither a space nor a line feed
no_space-numeral : (n : ℕ) → HasNo 32 (numeral n)
no_space-numeral n = HasNo-numeral 32 n (inl (omega arith))

no_feed-numeral : (n : ℕ) → HasNo 10 (numeral n)
no_feed-numeral n = HasNo-numeral 10 n (inl (omega arith))

-- the words of a first line are its bytes
spaced-mail : (h : MailHeader) → spaced (codes "mail" ∷ numeral h.senders ∷ numeral h.letters ∷ []) ≡ mail_line h
spaced-mail h = ap (λ (later : List ℕ). codes "mail " ++ later) (sym (append_assoc (numeral h.senders) (codes " ") (numeral h.letters)))

words_of-mail : (h : MailHeader) → words_of (mail_line h) ≡ codes "mail" ∷ numeral h.senders ∷ numeral h.letters ∷ []
words_of-mail h =
    ap words_of (sym (spaced-mail h))
    ∙ words_of-spaced (codes "mail") (numeral h.senders ∷ numeral h.letters ∷ [])
    (All-cons (HasNo 32) (codes "mail") (numeral h.senders ∷ numeral h.letters ∷ []) (HasNo-tested 32 (codes "mail") refl)
    (All-cons (HasNo 32) (numeral h.senders) (numeral h.letters ∷ []) (no_space-numeral h.senders)
    (All-cons (HasNo 32) (numeral h.letters) [] (no_space-numeral h.letters) (All-nil (HasNo 32)))))

-- a word before others
spaced-more : (word : List ℕ) (words : List (List ℕ)) → words ≢ [] → spaced (word ∷ words) ≡ word ++ 32 ∷ spaced words
spaced-more word [] some = absurd (some refl)
spaced-more word (next ∷ words) some = refl

-- the words of a letter are its line
spaced-letter : (letter : SaidLetter) → spaced (numeral letter.from ∷ words_of letter.text) ≡ letter_line letter
spaced-letter letter =
    spaced-more (numeral letter.from) (words_of letter.text) (words_of_some letter.text)
    ∙ ap (λ (text : List ℕ). numeral letter.from ++ 32 ∷ text) (spaced-words_of letter.text)
    ∙ sym (append_assoc (numeral letter.from) (codes " ") letter.text)

words_of-letter : (letter : SaidLetter) → words_of (letter_line letter) ≡ numeral letter.from ∷ words_of letter.text
words_of-letter letter =
    ap words_of (append_assoc (numeral letter.from) (codes " ") letter.text) ∙ words_of_more (numeral letter.from) letter.text (no_space-numeral letter.from)

-- a line of the words of a first line says it, and the other way round
SaysMail-from_words : (says : List ℕ) (h : MailHeader) → AreOfHeader (words_of says) h → SaysMail says h
SaysMail-from_words says h there = sym (spaced-words_of says) ∙ ap spaced there ∙ spaced-mail h

pub AreOfHeader-said : (says : List ℕ) (h : MailHeader) → SaysMail says h → AreOfHeader (words_of says) h
AreOfHeader-said says h said = ap words_of said ∙ words_of-mail h

-- the same of a letter
SaysLetter-from_words : (says : List ℕ) (letter : SaidLetter) → AreOfLetter (words_of says) letter → SaysLetter says letter
SaysLetter-from_words says letter there = (there.0, sym (spaced-words_of says) ∙ ap spaced there.1 ∙ spaced-letter letter)

pub AreOfLetter-said : (says : List ℕ) (letter : SaidLetter) → SaysLetter says letter → AreOfLetter (words_of says) letter
AreOfLetter-said says letter said = (said.0, ap words_of said.1 ∙ words_of-letter letter)

-- a first line by what was kept of it
pub ReadsHeader-kept : (says : List ℕ) (h : MailHeader) → AreOfHeader (words_of says) h → (kept : Option Counts) → KeepsHeader h kept → ReadsHeader says (ok_or kept Range)
ReadsHeader-kept says h there None out = (h, SaysMail-from_words says h there, out)
ReadsHeader-kept says h there (Some read) kept =
    (subst (SaysMail says) (sym kept.0) (SaysMail-from_words says h there), subst IsHeaderInRange (sym kept.0) kept.1)

-- a letter by what was kept of it
pub ReadsLetter-kept : (senders : ℕ) (says : List ℕ) (letter : SaidLetter) → AreOfLetter (words_of says) letter → (kept : Option ReadLetter) → KeepsLetter senders letter kept
    → ReadsLetter senders says (ok_or kept Range)
ReadsLetter-kept senders says letter there None out = (letter, SaysLetter-from_words says letter there, out)
ReadsLetter-kept senders says letter there (Some read) kept =
    (subst (SaysLetter says) (sym kept.0) (SaysLetter-from_words says letter there), subst (IsLetterInRange senders) (sym kept.0) kept.1)

-- words of which the second is no number are those of no first line
pub no_letters : (words later last : List (List ℕ)) (a : ℕ) → words ≡ codes "mail" ∷ later → later ≡ numeral a ∷ last
    → ((n : ℕ) (rest : List (List ℕ)) → last ≢ numeral n ∷ rest) → (h : MailHeader) → ¬ AreOfHeader words h
no_letters words later last a first second none h there = none h.letters [] cc

-- words of which the first is no number are those of no letter
pub no_sender : (words : List (List ℕ)) → ((n : ℕ) (rest : List (List ℕ)) → words ≢ numeral n ∷ rest) → (letter : SaidLetter) → ¬ AreOfLetter words letter
no_sender words none letter there = none letter.from (words_of letter.text) there.1

-- one word is no letter
pub no_space : (words later : List (List ℕ)) (a : ℕ) → words ≡ numeral a ∷ later → later ≡ [] → (letter : SaidLetter) → ¬ AreOfLetter words letter
no_space words later a first second letter there = words_of_some letter.text cc

-- words of which those behind the number aren't printable are those of no letter
pub no_text : (words later : List (List ℕ)) (a : ℕ) (text : List ℕ) → words ≡ numeral a ∷ later → later ≡ words_of text → ¬ IsPrintable text → (letter : SaidLetter) → ¬ AreOfLetter words letter
no_text words later a text first second none letter there =
    let same : words_of text ≡ words_of letter.text = cc in
    none (subst IsPrintable (sym (spaced-words_of letter.text) ∙ ap spaced (sym same) ∙ spaced-words_of text) there.0)

-- what a line says has no line feed
no_feed-mail : (h : MailHeader) → HasNo 10 (mail_line h)
no_feed-mail h =
    All-append (λ b. b ≢ 10) (codes "mail ") (numeral h.senders ++ codes " " ++ numeral h.letters) (HasNo-tested 10 (codes "mail ") refl)
    (All-append (λ b. b ≢ 10) (numeral h.senders ++ codes " ") (numeral h.letters)
    (All-append (λ b. b ≢ 10) (numeral h.senders) (codes " ") (no_feed-numeral h.senders) (HasNo-tested 10 (codes " ") refl)) (no_feed-numeral h.letters))

no_feed-letter : (letter : SaidLetter) → IsLetter letter → HasNo 10 (letter_line letter)
no_feed-letter letter is =
    All-append (λ b. b ≢ 10) (numeral letter.from ++ codes " ") letter.text
    (All-append (λ b. b ≢ 10) (numeral letter.from) (codes " ") (no_feed-numeral letter.from) (HasNo-tested 10 (codes " ") refl))
    (All-weaker (λ b. (32 ≤ b) × (b ≤ 126)) (λ b. b ≢ 10) (λ b h e. omega (arith, h.0, e)) letter.text is)

-- the bytes of a line tell what it says
one-header : (g h : MailHeader) → mail_line g ≡ mail_line h → g ≡ h
one-header g h e =
    let words : codes "mail" ∷ numeral g.senders ∷ numeral g.letters ∷ [] ≡ codes "mail" ∷ numeral h.senders ∷ numeral h.letters ∷ [] =
    sym (words_of-mail g) ∙ ap words_of e ∙ words_of-mail h in
    let first : numeral g.senders ≡ numeral h.senders = cc in
    let second : numeral g.letters ≡ numeral h.letters = cc in
    λ i. record { senders = numeral_injective g.senders h.senders first i; letters = numeral_injective g.letters h.letters second i }

one-letter : (a b : SaidLetter) → letter_line a ≡ letter_line b → a ≡ b
one-letter a b e =
    let words : numeral a.from ∷ words_of a.text ≡ numeral b.from ∷ words_of b.text = sym (words_of-letter a) ∙ ap words_of e ∙ words_of-letter b in
    let first : numeral a.from ≡ numeral b.from = cc in
    let rest : words_of a.text ≡ words_of b.text = cc in
    let text : a.text ≡ b.text = sym (spaced-words_of a.text) ∙ ap spaced rest ∙ spaced-words_of b.text in
    λ i. record { from = numeral_injective a.from b.from first i; text = text i }

-- the lines of mail tell what they say, and have no line feed
pub IsSoundListing-mail : IsSoundListing mail_listing
IsSoundListing-mail = record {
  header_no_feed = no_feed-mail;
  one_header = one-header;
  item_no_feed = no_feed-letter;
  one_item = λ a b is is' e. one-letter a b e;
}

-- mail in range is a listing
pub IsListing-mail : (senders : ℕ) (letters : List SaidLetter) → IsMailInRange senders letters → IsListing mail_listing (header_of senders letters) letters
IsListing-mail senders letters range = record { announced = refl; header = range.header; each = range.each }

-- one mail a text
pub one_mail : (s t : ℕ) (a b : List SaidLetter) → IsMailInRange s a → IsMailInRange t b → mail_text s a ≡ mail_text t b → (s ≡ t) × (a ≡ b)
one_mail s t a b ra rb e =
    let same = one_listing mail_listing IsSoundListing-mail (header_of s a) (header_of t b) a b (IsListing-mail s a ra) (IsListing-mail t b rb) e in
    (ap (λ (h : MailHeader). h.senders) same.0, same.1)

-- a listing of letters is that of its senders and as many letters as there are
pub header-announced : (h : MailHeader) (letters : List SaidLetter) → h.letters ≡ length letters → h ≡ header_of h.senders letters
header-announced h letters e = λ i. record { senders = h.senders; letters = e i }

-- no text is neither one of mail nor faulty
pub not_neither_of_mail : (text : List ℕ) → ((senders : ℕ) (letters : List SaidLetter) → IsMailInRange senders letters → text ≢ mail_text senders letters)
    → ((number : ℕ) (cause : TextCause) → ¬ HasFirstFault text number cause) → ⊥
not_neither_of_mail text none = listing-not_neither mail_listing text by
  where
    by : (h : MailHeader) (letters : List SaidLetter) → IsListing mail_listing h letters → text ≢ listing_text mail_listing h letters
    by h letters is e =
        let same = header-announced h letters is.announced in
        none h.senders letters (record { header = subst IsHeaderInRange same is.header; each = is.each })
        (e ∙ ap (λ (h : MailHeader). listing_text mail_listing h letters) same)
