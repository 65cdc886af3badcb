-- The lines of jobs and their words.
use Rattle.std.proofs.Common.{◌≡◌, ◌≢◌, ℕ, List, [], ◌∷◌, ◌++◌, Option, Some, None, false, ◌==◌, refl, sym, ap, subst, ◌∙◌, arith, codes, append_assoc, inl}
use Rattle.std.specs.Option.{option_zip}
use Rattle.std.proofs.lemmas.List.Elements.{All-nil, All-cons}
use Rattle.text_io.specs.Lines.{HasNo, spaced, words_of}
use Rattle.text_io.specs.Numerals.{numeral}
use Rattle.text_io.specs.Printable.{IsPrintable}
use Rattle.text_io.specs.LineReadings.{ReadsBack}
use Rattle.text_io.proofs.Numerals.{HasNo-numeral}
use Rattle.text_io.proofs.FirstWords.{first_byte, apart}
use Rattle.text_io.proofs.Splits.{HasNo-tested, words_of_more, words_of_some, spaced-words_of, words_of-spaced}
use Rattle.job_results.specs.JobTexts.{SaidJob, Add, Mul, Div, Len, two_numbers, job_line, IsNumber}
use Rattle.job_results.specs.JobReading.{job_words, AreTwo, AreBoth, AreOfJob, SaysJob}

-- a number has no space
no_space-numeral : (n : ℕ) → HasNo 32 (numeral n)
no_space-numeral n = HasNo-numeral 32 n (inl (omega arith))

-- a word, and two numbers behind it
three_words : (word : List ℕ) (a b : ℕ) → HasNo 32 word → words_of (spaced (word ∷ numeral a ∷ numeral b ∷ [])) ≡ word ∷ numeral a ∷ numeral b ∷ []
three_words word a b none =
    words_of-spaced word (numeral a ∷ numeral b ∷ [])
    (All-cons (HasNo 32) word (numeral a ∷ numeral b ∷ []) none
    (All-cons (HasNo 32) (numeral a) (numeral b ∷ []) (no_space-numeral a) (All-cons (HasNo 32) (numeral b) [] (no_space-numeral b) (All-nil (HasNo 32)))))

-- a word before others
spaced-more : (word : List ℕ) (words : List (List ℕ)) → words ≢ [] → spaced (word ∷ words) ≡ word ++ 32 ∷ spaced words
spaced-more word [] some = absurd (some refl)
spaced-more word (next ∷ words) some = refl

-- two numbers behind the letters of a word
numbers-spaced : (front : List ℕ) (a b : ℕ) → front ++ (32 ∷ numeral a ++ (32 ∷ numeral b)) ≡ front ++ (32 ∷ two_numbers a b)
numbers-spaced front a b = ap (λ (later : List ℕ). front ++ (32 ∷ later)) (sym (append_assoc (numeral a) (codes " ") (numeral b)))

-- the words of a job are its line
pub spaced-job : (job : SaidJob) → spaced (job_words job) ≡ job_line job
spaced-job (Add a b) = numbers-spaced (codes "add") a b
spaced-job (Mul a b) = numbers-spaced (codes "mul") a b
spaced-job (Div a b) = numbers-spaced (codes "div") a b
spaced-job (Len text) =
    spaced-more (codes "len") (words_of text) (words_of_some text) ∙ ap (λ (later : List ℕ). codes "len " ++ later) (spaced-words_of text)

-- and the line's words are those of the job
pub words_of-job : (job : SaidJob) → words_of (job_line job) ≡ job_words job
words_of-job (Add a b) = ap words_of (sym (spaced-job (Add a b))) ∙ three_words (codes "add") a b (HasNo-tested 32 (codes "add") refl)
words_of-job (Mul a b) = ap words_of (sym (spaced-job (Mul a b))) ∙ three_words (codes "mul") a b (HasNo-tested 32 (codes "mul") refl)
words_of-job (Div a b) = ap words_of (sym (spaced-job (Div a b))) ∙ three_words (codes "div") a b (HasNo-tested 32 (codes "div") refl)
words_of-job (Len text) = words_of_more (codes "len") text (HasNo-tested 32 (codes "len") refl)

-- a line of the words of a job says it
pub SaysJob-from_words : (says : List ℕ) (job : SaidJob) → AreOfJob (words_of says) job → SaysJob says job
SaysJob-from_words says job there = (there.0, sym (spaced-words_of says) ∙ ap spaced there.1 ∙ spaced-job job)

-- and the other way round
pub AreOfJob-said : (says : List ℕ) (job : SaidJob) → SaysJob says job → AreOfJob (words_of says) job
AreOfJob-said says job said = (said.0, ap words_of said.1 ∙ words_of-job job)

-- two numbers are kept together where both are in range
pub keeps_two : (two : ℕ × ℕ) (a b : Option ℕ) → ReadsBack IsNumber two.0 a → ReadsBack IsNumber two.1 b
    → ReadsBack AreBoth two (option_zip a b)
keeps_two two None b none b' = λ range. none range.0
keeps_two two (Some x) None a none = λ range. none range.1
keeps_two two (Some x) (Some y) a b = ((λ i. (a.0 i, b.0 i)), (a.1, b.1))

-- words behind the first one that are no two numbers are no job's, unless the first one is that of a text
pub no_numbers : (words : List (List ℕ)) (word : List ℕ) (later : List (List ℕ)) → words ≡ word ∷ later → word ≢ codes "len"
    → ((two : ℕ × ℕ) → ¬ AreTwo later two) → (job : SaidJob) → ¬ AreOfJob words job
no_numbers words word later split other none (Add a b) there = none (a, b) cc
no_numbers words word later split other none (Mul a b) there = none (a, b) cc
no_numbers words word later split other none (Div a b) there = none (a, b) cc
no_numbers words word later split other none (Len text) there = other cc

-- where the rest behind the word of a text isn't printable, the words are no job's
pub no_text : (words : List (List ℕ)) (text : List ℕ) → words ≡ codes "len" ∷ words_of text → ¬ IsPrintable text → (job : SaidJob) → ¬ AreOfJob words job
no_text words text split none (Add a b) there = apart _ _ refl (sym split ∙ there.1)
no_text words text split none (Mul a b) there = apart _ _ refl (sym split ∙ there.1)
no_text words text split none (Div a b) there = apart _ _ refl (sym split ∙ there.1)
no_text words text split none (Len other) there =
    let both : codes "len" ∷ words_of text ≡ codes "len" ∷ words_of other = sym split ∙ there.1 in
    let words : words_of text ≡ words_of other = cc in
    none (subst IsPrintable (sym (spaced-words_of other) ∙ ap spaced (sym words) ∙ spaced-words_of text) there.0)

-- the words of numbers are not that of a text
pub not_len : (word other : List ℕ) → word ≡ other → (first_byte (other ∷ []) == 108) ≡ false → word ≢ codes "len"
not_len word other is differs len = apart (other ∷ []) (codes "len" ∷ []) differs (ap (λ (word : List ℕ). word ∷ []) (sym is ∙ len))
