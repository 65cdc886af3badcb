-- What the readers of the parts of a job's line look for.
use Rattle.std.specs.Prelude.{◌≡◌, ℕ, List, [], ◌∷◌, Option, Result, MatchOption, MatchResult, codes, map}
use Rattle.std.specs.Borrow.{Bor}
use Rattle.history.specs.declared.text_causes.TextCause.{TextCause}
use Rattle.history.specs.declared.text_causes.TextCause.TheVariants.{Form}
use Rattle.text_io.specs.Lines.{words_of}
use Rattle.text_io.specs.Numerals.{numeral}
use Rattle.text_io.specs.LineReadings.{IsWrong}
use Rattle.text_io.specs.Printable.{IsShort}
use Rattle.text_io.specs.Listings.{SaysItem, SaysHeader}
use Rattle.job_results.specs.declared.jobs.Job.{Job}
use Rattle.job_results.specs.declared.lines.ReadJob.{ReadJob}
use Rattle.job_results.specs.declared.lines.ReadJob.TheVariants.{Add as AddRead, Mul as MulRead, Div as DivRead, Len as LenRead}
use Rattle.job_results.specs.JobTexts.{SaidJob, Add, Mul, Div, Len, said_job, jobs_listing, IsJob, IsJobInRange, AreNumbers}

-- what was read of a job's line
abbrev pub said_of : ReadJob → SaidJob
said_of (AddRead a b) = Add a b
said_of (MulRead a b) = Mul a b
said_of (DivRead a b) = Div a b
said_of (LenRead text) = Len text.now

-- the words of a job
abbrev pub job_words : SaidJob → List (List ℕ)
job_words (Add a b) = codes "add" ∷ numeral a ∷ numeral b ∷ []
job_words (Mul a b) = codes "mul" ∷ numeral a ∷ numeral b ∷ []
job_words (Div a b) = codes "div" ∷ numeral a ∷ numeral b ∷ []
job_words (Len text) = codes "len" ∷ words_of text

-- these are the words of two numbers
abbrev pub AreTwo : List (List ℕ) → ℕ × ℕ → Type 0
AreTwo words two = words ≡ numeral two.0 ∷ numeral two.1 ∷ []

-- both numbers have 64 bits
abbrev pub AreBoth : ℕ × ℕ → Type 0
AreBoth two = AreNumbers two.0 two.1

-- these are the words of a job
abbrev pub AreOfJob : List (List ℕ) → SaidJob → Type 0
AreOfJob words job = IsJob job × (words ≡ job_words job)

-- a line says a job
abbrev pub SaysJob : List ℕ → SaidJob → Type 0
SaysJob says job = SaysItem jobs_listing says job

-- a line says how many jobs there are
abbrev pub SaysCount : List ℕ → ℕ → Type 0
SaysCount says count = SaysHeader jobs_listing says count

-- a text is kept where it is not too long, and else none is
abbrev pub KeepsText : List ℕ → Option (Bor (List ℕ)) → Type 0
KeepsText bytes kept = MatchOption kept (¬ IsShort 200 bytes) (λ text. (text.now ≡ bytes) × IsShort 200 bytes)

-- what was read of a job is kept where the job is in range, and else none is
abbrev pub KeepsJob : SaidJob → Option ReadJob → Type 0
KeepsJob job kept = MatchOption kept (¬ IsJobInRange job) (λ read. (said_of read ≡ job) × IsJobInRange job)

-- the job of these words was read, and is kept where it is in range; or they are no job's
abbrev pub ReadsWordsOfJob : List (List ℕ) → Result (Option ReadJob) TextCause → Type 0
ReadsWordsOfJob words result = MatchResult result
    (λ kept. (job : SaidJob) × AreOfJob words job × KeepsJob job kept)
    (λ cause. (cause ≡ Form) × ((job : SaidJob) → ¬ AreOfJob words job))

-- a job was read from a line, and is in range; or the line is wrong for this cause
abbrev pub ReadsJob : List ℕ → Result ReadJob TextCause → Type 0
ReadsJob says result = MatchResult result
    (λ read. SaysJob says (said_of read) × IsJobInRange (said_of read))
    (IsWrong (SaysJob says) IsJobInRange)

-- what the lines of some jobs say
abbrev pub said_jobs : List Job → List SaidJob
said_jobs jobs = map said_job jobs
