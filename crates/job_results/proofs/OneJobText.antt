-- Each text is of one list of jobs at most, and its lines tell what they say.
use Rattle.std.proofs.Common.{◌≡◌, ◌≢◌, ℕ, ◌≤◌, List, [], ◌∷◌, ◌++◌, length, refl, sym, ap, subst, ◌∙◌, arith, codes, inl}
use Rattle.std.proofs.lemmas.List.Elements.{All-append, All-weaker}
use Rattle.history.specs.declared.text_causes.TextCause.{TextCause}
use Rattle.text_io.specs.Lines.{HasNo, spaced, words_of}
use Rattle.text_io.specs.Numerals.{numeral}
use Rattle.text_io.specs.Listings.{listing_text, IsListing, IsSoundListing}
use Rattle.text_io.proofs.Numerals.{numeral_injective, HasNo-numeral}
use Rattle.text_io.proofs.Splits.{HasNo-tested, spaced-words_of}
use Rattle.text_io.proofs.Listings.{one_listing, listing-not_neither}
use Rattle.job_results.specs.JobTexts.{SaidJob, Add, Mul, Div, Len, two_numbers, job_line, count_line, jobs_text, jobs_listing, IsJob, IsCount, AreJobsInRange, HasFirstFault}
use Rattle.job_results.specs.JobReading.{job_words}
use Rattle.text_io.proofs.FirstWords.{apart}
use Rattle.job_results.proofs.JobLines.{words_of-job}

-- a number has no line feed
no_feed-numeral : (n : ℕ) → HasNo 10 (numeral n)
no_feed-numeral n = HasNo-numeral 10 n (inl (omega arith))

no_feed-two : (front : List ℕ) (a b : ℕ) → HasNo 10 front → HasNo 10 (front ++ two_numbers a b)
no_feed-two front a b none =
    All-append (λ b. b ≢ 10) front (two_numbers a b) none
    (All-append (λ b. b ≢ 10) (numeral a ++ codes " ") (numeral b)
    (All-append (λ b. b ≢ 10) (numeral a) (codes " ") (no_feed-numeral a) (HasNo-tested 10 (codes " ") refl)) (no_feed-numeral b))

-- the line of a job has no line feed
no_feed-job : (job : SaidJob) → IsJob job → HasNo 10 (job_line job)
no_feed-job (Add a b) is = no_feed-two (codes "add ") a b (HasNo-tested 10 (codes "add ") refl)
no_feed-job (Mul a b) is = no_feed-two (codes "mul ") a b (HasNo-tested 10 (codes "mul ") refl)
no_feed-job (Div a b) is = no_feed-two (codes "div ") a b (HasNo-tested 10 (codes "div ") refl)
no_feed-job (Len text) is =
    All-append (λ b. b ≢ 10) (codes "len ") text (HasNo-tested 10 (codes "len ") refl)
    (All-weaker (λ b. (32 ≤ b) × (b ≤ 126)) (λ b. b ≢ 10) (λ b h e. omega (arith, h.0, e)) text is)

-- the words of two numbers tell them
two_tell : (make : ℕ → ℕ → SaidJob) (word : List ℕ) (a b c d : ℕ) → word ∷ numeral a ∷ numeral b ∷ [] ≡ word ∷ numeral c ∷ numeral d ∷ [] → make a b ≡ make c d
two_tell make word a b c d e =
    let first : numeral a ≡ numeral c = cc in
    let second : numeral b ≡ numeral d = cc in
    λ i. make (numeral_injective a c first i) (numeral_injective b d second i)

-- the words of a job tell it
one-words : (j k : SaidJob) → job_words j ≡ job_words k → j ≡ k
one-words (Add a b) (Add c d) e = two_tell (λ a b. Add a b) (codes "add") a b c d e
one-words (Add a b) (Mul c d) e = absurd (apart _ _ refl e)
one-words (Add a b) (Div c d) e = absurd (apart _ _ refl e)
one-words (Add a b) (Len t) e = absurd (apart _ _ refl e)
one-words (Mul a b) (Add c d) e = absurd (apart _ _ refl e)
one-words (Mul a b) (Mul c d) e = two_tell (λ a b. Mul a b) (codes "mul") a b c d e
one-words (Mul a b) (Div c d) e = absurd (apart _ _ refl e)
one-words (Mul a b) (Len t) e = absurd (apart _ _ refl e)
one-words (Div a b) (Add c d) e = absurd (apart _ _ refl e)
one-words (Div a b) (Mul c d) e = absurd (apart _ _ refl e)
one-words (Div a b) (Div c d) e = two_tell (λ a b. Div a b) (codes "div") a b c d e
one-words (Div a b) (Len t) e = absurd (apart _ _ refl e)
one-words (Len s) (Add c d) e = absurd (apart _ _ refl e)
one-words (Len s) (Mul c d) e = absurd (apart _ _ refl e)
one-words (Len s) (Div c d) e = absurd (apart _ _ refl e)
one-words (Len s) (Len t) e =
    let words : words_of s ≡ words_of t = cc in
    ap (λ (text : List ℕ). Len text) (sym (spaced-words_of s) ∙ ap spaced words ∙ spaced-words_of t)

-- the first line tells how many jobs there are
one-count : (m n : ℕ) → count_line m ≡ count_line n → m ≡ n
one-count m n e = let same : numeral m ≡ numeral n = cc in numeral_injective m n same

-- the lines of jobs tell what they say, and have no line feed
pub IsSoundListing-jobs : IsSoundListing jobs_listing
IsSoundListing-jobs = record {
  header_no_feed = λ count. All-append (λ b. b ≢ 10) (codes "jobs ") (numeral count) (HasNo-tested 10 (codes "jobs ") refl) (no_feed-numeral count);
  one_header = one-count;
  item_no_feed = no_feed-job;
  one_item = λ j k is is' e. one-words j k (sym (words_of-job j) ∙ ap words_of e ∙ words_of-job k);
}

-- jobs in range are a listing
pub IsListing-jobs : (jobs : List SaidJob) → AreJobsInRange jobs → IsListing jobs_listing (length jobs) jobs
IsListing-jobs jobs range = record { announced = refl; header = range.count; each = range.each }

-- one list of jobs a text
pub one_list_of_jobs : (a b : List SaidJob) → AreJobsInRange a → AreJobsInRange b → jobs_text a ≡ jobs_text b → a ≡ b
one_list_of_jobs a b ra rb e = (one_listing jobs_listing IsSoundListing-jobs (length a) (length b) a b (IsListing-jobs a ra) (IsListing-jobs b rb) e).1

-- no text is neither one of jobs nor faulty
pub not_neither_of_jobs : (text : List ℕ) → ((jobs : List SaidJob) → AreJobsInRange jobs → text ≢ jobs_text jobs)
    → ((number : ℕ) (cause : TextCause) → ¬ HasFirstFault text number cause) → ⊥
not_neither_of_jobs text none = listing-not_neither jobs_listing text by
  where
    by : (count : ℕ) (jobs : List SaidJob) → IsListing jobs_listing count jobs → text ≢ listing_text jobs_listing count jobs
    by count jobs is e =
        none jobs (record { count = subst IsCount is.announced is.header; each = is.each })
        (e ∙ ap (λ (count : ℕ). listing_text jobs_listing count jobs) is.announced)
