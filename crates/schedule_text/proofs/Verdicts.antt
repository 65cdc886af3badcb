-- A line is judged as what is kept of it.
use Rattle.std.proofs.Common.{◌≡◌, ℕ, ◌^◌, ◌≤◌, ◌<◌, List, [], ◌∷◌, ◌++◌, length, codes, refl, sym, ap, ap₂, subst, ◌∙◌, arith, length-append}
use Rattle.std.specs.List.{AllZip}
use Rattle.std.specs.Fmt.{decimal}
use Rattle.std.proofs.lemmas.Fmt.{length-decimal-le}
use Rattle.history.specs.declared.operations.Op.{Op}
use Rattle.history.specs.declared.operations.Op.TheVariants.{Enq, Deq, Shut}
use Rattle.line_table.specs.Names.{name_of}
use Rattle.history.specs.declared.text_causes.TextCause.{TextCause}
use Rattle.history.specs.declared.text_causes.TextCause.TheVariants.{End, Form, Range, Extra}
use Rattle.text_io.specs.Grammars.{Says}
use Rattle.text_io.specs.Lines.{spaced, words_of}
use Rattle.text_io.specs.Numerals.{numeral}
use Rattle.text_io.specs.LineReadings.{IsWrong}
use Rattle.text_io.proofs.Splits.{spaced-words_of}
use Rattle.text_io.proofs.Numerals.{IsPlain-numeral, numeral_decimal}
use Rattle.schedule_text.specs.declared.schedules.Event.{Event}
use Rattle.schedule_text.specs.declared.schedules.Event.TheVariants.{Begin, Step, Steps, Give}
use Rattle.schedule_text.specs.declared.fields.Field.{Field}
use Rattle.schedule_text.specs.declared.fields.Field.TheVariants.{Bits, Nodes, Limit, Actors, Events}
use Rattle.schedule_text.specs.Texts.{Said, version, queue, number, happens, Due, said_words, call_words, event_words, field_name, greatest}
use Rattle.schedule_text.specs.Texts.{IsCallInRange, IsEventInRange, IsSaidInRange, schedule_lines}
use Rattle.counted_ref.specs.Ref.{IsSplit}
use Rattle.schedule_text.specs.ShortLines.{Shortens}
use Rattle.counted_ref.proofs.Words.{span_most, count_span_most}
use Rattle.schedule_text.proofs.Distinct.{said_same}
use Rattle.schedule_text.proofs.Spelling.{words_of-said, spaced-said}
use Rattle.schedule_text.proofs.Shortening.{TruncatedWord, TruncatedWord-whole, TruncatedWord-short, TruncatedWord-digits, TruncatedWord-back, numeral-truncated, numeral-whole, words_truncated}
use Rattle.schedule_text.proofs.SameForm.{SaysToo, says_too, length-name_of, length-version_name, length-kind_name, length-field_name}

-- each of a list holds
abbrev Each : (List ℕ → Type 0) → List (List ℕ) → Type 0
Each P [] = Unit {0}
Each P (w ∷ ws) = P w × Each P ws

-- a word has at most 20 bytes
record IsBrief (word : List ℕ) : Type 0 where
  short : length word < 21

brief_number : (n : ℕ) → n < 2 ^ 64 → IsBrief (numeral n)
brief_number n small =
    let same : length (numeral n) ≡ length (decimal n) = ap length (numeral_decimal n small) in
    record { short = omega (arith, same, length-decimal-le 20 n (omega arith) (omega arith) small) }

brief_call : (op : Op) → IsCallInRange op → Each IsBrief (call_words op)
brief_call (Enq body) range = (record { short = omega arith }, (brief_number body (omega arith), tt))
brief_call Deq range = (record { short = omega arith }, tt)
brief_call Shut range = (record { short = omega arith }, tt)

brief_event : (e : Event) → IsEventInRange e → Each IsBrief (event_words e)
brief_event (Begin actor op) range = (record { short = omega arith }, (brief_number actor (omega (arith, range.0.1)), brief_call op range.1))
brief_event (Step actor line) range =
    (record { short = omega arith }, (brief_number actor (omega (arith, range.1)), (record { short = omega (arith, length-name_of line) }, tt)))
brief_event (Steps actor count) range =
    (record { short = omega arith }, (brief_number actor (omega (arith, range.0.1)), (brief_number count (omega (arith, range.1.1)), tt)))
brief_event (Give actor) range = (record { short = omega arith }, (brief_number actor (omega (arith, range.1)), tt))

greatest_small : (bits : ℕ) → IsSplit bits → (f : Field) → greatest bits f < 2 ^ 64
greatest_small bits split Bits = omega arith
greatest_small bits split Nodes = omega (arith, span_most bits split)
greatest_small bits split Limit = omega (arith, count_span_most bits split)
greatest_small bits split Actors = omega arith
greatest_small bits split Events = omega arith

-- in range, each word is brief
brief_said : (bits : ℕ) → IsSplit bits → (r : Said) → IsSaidInRange bits r → Each IsBrief (said_words r)
brief_said bits split (version v) range =
    (record { short = omega arith }, (record { short = omega arith }, (record { short = omega (arith, length-version_name v) }, tt)))
brief_said bits split (queue kind) range = (record { short = omega arith }, (record { short = omega (arith, length-kind_name kind) }, tt))
brief_said bits split (number field value) range =
    (record { short = omega (arith, length-field_name field) }, (brief_number value (omega (arith, greatest_small bits split field, range.1)), tt))
brief_said bits split (happens e) range = brief_event e range

-- brief words are kept whole
whole_words : (ws ks : List (List ℕ)) → AllZip (TruncatedWord 21) ws ks → Each IsBrief ks → ws ≡ ks
whole_words [] [] truncated brief = refl
whole_words [] (k ∷ ks) truncated brief = absurd truncated
whole_words (w ∷ ws) [] truncated brief = absurd truncated
whole_words (w ∷ ws) (k ∷ ks) truncated brief = ap₂ (λ (x : List ℕ) (xs : List (List ℕ)). x ∷ xs) (TruncatedWord-whole truncated.0 brief.0.short) (whole_words ws ks truncated.1 brief.1)

short_words : (ws ks : List (List ℕ)) → AllZip (TruncatedWord 21) ws ks → Each IsBrief ws → ks ≡ ws
short_words [] [] truncated brief = refl
short_words [] (k ∷ ks) truncated brief = absurd truncated
short_words (w ∷ ws) [] truncated brief = absurd truncated
short_words (w ∷ ws) (k ∷ ks) truncated brief =
    ap₂ (λ (x : List ℕ) (xs : List (List ℕ)). x ∷ xs) (TruncatedWord-short truncated.0 (let short = brief.0.short in omega (arith, short))) (short_words ws ks truncated.1 brief.1)

-- the relation the other way round
abbrev IsTruncationOf : List ℕ → List ℕ → Type 0
IsTruncationOf k w = TruncatedWord 21 w k

turned : (ws ks : List (List ℕ)) → AllZip (TruncatedWord 21) ws ks → AllZip IsTruncationOf ks ws
turned [] [] truncated = tt
turned [] (k ∷ ks) truncated = absurd truncated
turned (w ∷ ws) [] truncated = absurd truncated
turned (w ∷ ws) (k ∷ ks) truncated = (truncated.0, turned ws ks truncated.1)

kept_says : (r : Said) (ks : List (List ℕ)) → AllZip (TruncatedWord 21) (said_words r) ks → SaysToo r ks
kept_says r ks truncated = says_too (TruncatedWord 21) (λ w k short truncated. TruncatedWord-short truncated (omega (arith, short))) numeral-truncated r ks truncated

whole_says : (r : Said) (ws : List (List ℕ)) → AllZip (TruncatedWord 21) ws (said_words r) → SaysToo r ws
whole_says r ws truncated =
    says_too IsTruncationOf (λ k w short truncated. TruncatedWord-whole truncated short) (λ m w truncated. numeral-whole m w truncated) r ws (turned ws (said_words r) truncated)

-- each word is what is kept of one
record IsKeptWord (kept : List ℕ) : Type 0 where
  word : List ℕ
  truncated : TruncatedWord 21 word kept

kept_words : (ws ks : List (List ℕ)) → AllZip (TruncatedWord 21) ws ks → Each IsKeptWord ks
kept_words [] [] truncated = tt
kept_words [] (k ∷ ks) truncated = absurd truncated
kept_words (w ∷ ws) [] truncated = absurd truncated
kept_words (w ∷ ws) (k ∷ ks) truncated = (record { word = w; truncated = truncated.0 }, kept_words ws ks truncated.1)

kept_number : (m : ℕ) → IsKeptWord (numeral m) → length (numeral m) ≤ 21
kept_number m kept = (TruncatedWord-digits kept.truncated (TruncatedWord-back kept.truncated (IsPlain-numeral m).digits)).1

-- what is kept of a line that says something has at most 64 bytes
kept_short : (r : Said) → Each IsKeptWord (said_words r) → length (spaced (said_words r)) ≤ 64
kept_short (version v) kept = omega (arith, length-version_name v)
kept_short (queue kind) kept = omega (arith, length-kind_name kind)
kept_short (number field value) kept =
    let digits = kept_number value kept.1.0 in omega (arith, length-append (field_name field) (32 ∷ numeral value), length-field_name field, digits)
kept_short (happens (Begin actor (Enq body))) kept =
    let a = kept_number actor kept.1.0 in
    let b = kept_number body kept.1.1.1.0 in
    omega (arith, length-append (numeral actor) (32 ∷ codes "enq" ++ 32 ∷ numeral body), a, b)
kept_short (happens (Begin actor Deq)) kept =
    let a = kept_number actor kept.1.0 in omega (arith, length-append (numeral actor) (32 ∷ codes "deq"), a)
kept_short (happens (Begin actor Shut)) kept =
    let a = kept_number actor kept.1.0 in omega (arith, length-append (numeral actor) (32 ∷ codes "shut"), a)
kept_short (happens (Step actor line)) kept =
    let a = kept_number actor kept.1.0 in omega (arith, length-append (numeral actor) (32 ∷ name_of line), length-name_of line, a)
kept_short (happens (Steps actor count)) kept =
    let a = kept_number actor kept.1.0 in
    let b = kept_number count kept.1.1.0 in
    omega (arith, length-append (numeral actor) (32 ∷ numeral count), a, b)
kept_short (happens (Give actor)) kept = let a = kept_number actor kept.1.0 in omega (arith, a)

-- a line that is too long when its long numbers are truncated says nothing
pub line_long : (due : Due) (says kept : List ℕ) (q : ℕ) → Shortens 21 says kept q → 64 < length kept → (r : Said) → ¬ Says schedule_lines due says r
line_long due says kept q truncated long r is =
    let words : words_of says ≡ said_words r = words_of-said r says is.spelled in
    let truncations = words_truncated says kept q truncated in
    let from : AllZip (TruncatedWord 21) (said_words r) (words_of kept) = rw words at truncations in
    let too = kept_says r (words_of kept) from in
    let each = kept_words (said_words r) (words_of kept) from in
    let mine : Each IsKeptWord (said_words too.other) = rw too.same at each in
    let same : kept ≡ spaced (said_words too.other) = sym (spaced-words_of kept) ∙ ap spaced too.same in
    omega (arith, ap length same, kept_short too.other mine, long)

-- a line says what is kept of it, where that is in range
pub line_good : (bits : ℕ) → IsSplit bits → (says kept : List ℕ) (q : ℕ) (r : Said) → Shortens 21 says kept q → words_of kept ≡ said_words r → IsSaidInRange bits r → words_of says ≡ said_words r
line_good bits split says kept q r truncated same range =
    let truncations = words_truncated says kept q truncated in
    let to : AllZip (TruncatedWord 21) (words_of says) (said_words r) = rw same at truncations in
    whole_words (words_of says) (said_words r) to (brief_said bits split r range)

-- a line is wrong for the cause for which what is kept of it is wrong
pub line_wrong : (bits : ℕ) → IsSplit bits → (due : Due) (says kept : List ℕ) (q : ℕ) (cause : TextCause) → Shortens 21 says kept q
    → IsWrong (Says schedule_lines due kept) (IsSaidInRange bits) cause → IsWrong (Says schedule_lines due says) (IsSaidInRange bits) cause
line_wrong bits split due says kept q End truncated wrong = absurd wrong
line_wrong bits split due says kept q Form truncated none = λ r is.
    let words : words_of says ≡ said_words r = words_of-said r says is.spelled in
    let truncations = words_truncated says kept q truncated in
    let from : AllZip (TruncatedWord 21) (said_words r) (words_of kept) = rw words at truncations in
    let too = kept_says r (words_of kept) from in
    none too.other (record { may = too.may due is.may; spelled = spaced-said too.other kept too.same })
line_wrong bits split due says kept q Range truncated wrong =
    let words : words_of kept ≡ said_words wrong.0 = words_of-said wrong.0 kept wrong.1.spelled in
    let truncations = words_truncated says kept q truncated in
    let to : AllZip (TruncatedWord 21) (words_of says) (said_words wrong.0) = rw words at truncations in
    let too = whole_says wrong.0 (words_of says) to in
    let back : IsSaidInRange bits too.other → IsSaidInRange bits wrong.0 = λ range.
    let from : AllZip (TruncatedWord 21) (said_words too.other) (said_words wrong.0) = rw too.same at to in
    let same : said_words wrong.0 ≡ said_words too.other = short_words (said_words too.other) (said_words wrong.0) from (brief_said bits split too.other range) in
    subst (IsSaidInRange bits) (sym (said_same wrong.0 too.other same)) range
    in
    (too.other, record { may = too.may due wrong.1.may; spelled = spaced-said too.other says too.same }, λ range. wrong.2 (back range))
line_wrong bits split due says kept q Extra truncated wrong = absurd wrong
