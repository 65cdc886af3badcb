-- The text of a results table: how many results there are, the results, and how many there are of each kind.
use Rattle.std.specs.Prelude.{ℕ, List, ◌++◌, map, length, codes, decimal}
use Rattle.std.specs.List.{flat_map}
use Rattle.job_results.specs.declared.jobs.JobKind.{JobKind}
use Rattle.job_results.specs.declared.jobs.Value.{Value}
use Rattle.job_results.specs.declared.jobs.Value.TheVariants.{Number, ByZero}
use Rattle.job_results.specs.Jobs.{Row}
use Rattle.report.specs.Columns.{right_in}
use Rattle.report.specs.CountRows.{counted_text}
use Rattle.report.specs.JobKinds.{job_kind_text, same_job_kind}
use Rattle.report.specs.Counts.{counts}

-- a value in decimal, or that there is none by zero
abbrev pub value_text : Value → List ℕ
value_text (Number n) = decimal n
value_text ByZero = codes "by-zero"

-- the first line: how many results there are
unfoldable pub results_header_text : ℕ → List ℕ
results_header_text count = codes "results " ++ decimal count ++ codes "\n"

-- the line of a result: its job's number and kind, and its value
unfoldable pub result_text : Row → List ℕ
result_text row =
    right_in 8 (decimal row.number) ++ codes " " ++ job_kind_text row.kind ++ codes " " ++ value_text row.value ++ codes "\n"

-- the line of a kind with how often it occurs
abbrev pub job_count_text : JobKind → (number : ℕ) → List ℕ
job_count_text kind number = counted_text job_kind_text kind number

-- each kind of the rows with how many there are, in the order in which each kind first occurs
abbrev pub job_counts : List Row → List (JobKind × ℕ)
job_counts rows = counts same_job_kind (map (λ row. row.kind) rows)

-- a table: the first line, a line for each row, and a line for each count
abbrev pub results_parts_text : (count : ℕ) → List Row → (counts : List (JobKind × ℕ)) → List ℕ
results_parts_text count rows counts =
    results_header_text count ++ flat_map result_text rows ++ flat_map (λ e. job_count_text e.0 e.1) counts

-- the table of the rows of results
abbrev pub results_text : List Row → List ℕ
results_text rows = results_parts_text (length rows) rows (job_counts rows)
