-- The texts of jobs: a line with their number, then a line for each.
use Rattle.std.specs.Prelude.{◌≤◌, ℕ, List, ◌++◌, length, codes, All, string_bytes}
use Rattle.std.specs.List.{flat_map}
use Rattle.history.specs.declared.text_causes.TextCause.{TextCause}
use Rattle.text_io.specs.Lines.{line}
use Rattle.text_io.specs.Numerals.{numeral, IsWithin}
use Rattle.text_io.specs.Printable.{IsPrintable, IsShort}
use Rattle.text_io.specs.Listings.{Listing, IsFirstFaultIn}
use Rattle.history.specs.declared.refusals.Refusal.{Refusal}
use Rattle.text_io.specs.ListingRefusals.{IsRefusalIn}
use Rattle.job_results.specs.declared.jobs.Job.{Job}
use Rattle.job_results.specs.declared.jobs.Job.TheVariants.{Add as AddJob, Mul as MulJob, Div as DivJob, Len as LenJob}

-- what the line of a job says: its two numbers, or the bytes of its text
pub data SaidJob : Type 0 where
  Add : ℕ → ℕ → SaidJob
  Mul : ℕ → ℕ → SaidJob
  Div : ℕ → ℕ → SaidJob
  Len : List ℕ → SaidJob

-- what the line of a job says of it
abbrev pub said_job : Job → SaidJob
said_job (AddJob a b) = Add a b
said_job (MulJob a b) = Mul a b
said_job (DivJob a b) = Div a b
said_job (LenJob text) = Len (string_bytes text)

-- two numbers with a space between them
abbrev pub two_numbers : ℕ → ℕ → List ℕ
two_numbers a b = numeral a ++ codes " " ++ numeral b

-- the line of a job, but for its line feed
abbrev pub job_line : SaidJob → List ℕ
job_line (Add a b) = codes "add " ++ two_numbers a b
job_line (Mul a b) = codes "mul " ++ two_numbers a b
job_line (Div a b) = codes "div " ++ two_numbers a b
job_line (Len text) = codes "len " ++ text

-- the first line, but for its line feed: how many lines of jobs follow
abbrev pub count_line : ℕ → List ℕ
count_line count = codes "jobs " ++ numeral count

-- the whole text
abbrev pub jobs_text : List SaidJob → List ℕ
jobs_text jobs = line (count_line (length jobs)) ++ flat_map (λ job. line (job_line job)) jobs

-- the text of a job is printable
abbrev pub IsJob : SaidJob → Type 0
IsJob (Len text) = IsPrintable text
IsJob _ = Unit {0}

-- a number has 64 bits
abbrev pub IsNumber : ℕ → Type 0
IsNumber n = IsWithin 0 18446744073709551615 n

-- two numbers of 64 bits
abbrev pub AreNumbers : ℕ → ℕ → Type 0
AreNumbers a b = IsNumber a × IsNumber b

-- the numbers of a job have 64 bits, and its text has at most 200 bytes
abbrev pub IsJobInRange : SaidJob → Type 0
IsJobInRange (Add a b) = AreNumbers a b
IsJobInRange (Mul a b) = AreNumbers a b
IsJobInRange (Div a b) = AreNumbers a b
IsJobInRange (Len text) = IsShort 200 text

-- there are at most 1,000,000 jobs
abbrev pub IsCount : ℕ → Type 0
IsCount count = count ≤ 1000000

-- jobs that a text can hold: at most 1,000,000, each with a printable text and in range
pub record AreJobsInRange (jobs : List SaidJob) : Type 0 where
  pub count : IsCount (length jobs)
  pub each : All (λ job. IsJob job × IsJobInRange job) jobs

-- texts of jobs: the first line says how many follow
abbrev pub jobs_listing : Listing ℕ SaidJob
jobs_listing = record {
  count = λ count. count;
  header_in_range = IsCount;
  header = count_line;
  may_say = IsJob;
  in_range = λ count job. IsJobInRange job;
  item = job_line;
}

-- the first faulty line of a text, as one of jobs, has this number, and is wrong for this cause
abbrev pub HasFirstFault : List ℕ → ℕ → TextCause → Type 0
HasFirstFault text number cause = IsFirstFaultIn jobs_listing text number cause

-- the refusal of a text that is none of jobs: its first faulty line and what is wrong with it, or no room
abbrev pub IsFirstFaultOfJobs : List ℕ → Refusal → Type 0
IsFirstFaultOfJobs text refusal = IsRefusalIn jobs_listing text refusal
