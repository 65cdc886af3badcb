-- The text of a history table: `yes`, the operations that have a place, and how many there are of each kind.
use Rattle.std.specs.Prelude.{ℕ, List, ◌++◌, map, codes, decimal}
use Rattle.std.specs.List.{flat_map}
use Rattle.history.specs.declared.operations.Stamped.{Stamped}
use Rattle.history.specs.History.{point_or_zero, by_point}
use Rattle.history_text.specs.HistoryText.{call_text, reply_text}
use Rattle.report.specs.declared.kinds.Kind.{Kind}
use Rattle.report.specs.Columns.{right_in}
use Rattle.report.specs.CountRows.{counted_text}
use Rattle.report.specs.Kinds.{kind_of, kind_text, same_kind}
use Rattle.report.specs.Counts.{counts}

-- the line of an operation with the number of its place
unfoldable pub row_text : (at : ℕ) → Stamped → List ℕ
row_text at o =
    right_in 10 (decimal at) ++ right_in 7 (decimal o.actor) ++ codes " " ++ call_text o.op ++ codes " -> "
    ++ reply_text o.reply ++ codes "\n"

-- the line of a kind with how often it occurs
abbrev pub count_text : Kind → (number : ℕ) → List ℕ
count_text kind number = counted_text kind_text kind number

-- the operations that have a place, each with its number, by rising place, equal ones in the order of the list
abbrev pub rows_of : List Stamped → List (ℕ × Stamped)
rows_of ops = map (λ o. (point_or_zero o.at, o)) (by_point ops)

-- each kind of all operations with how many there are, in the order in which each kind first occurs
abbrev pub counts_of : List Stamped → List (Kind × ℕ)
counts_of ops = counts same_kind (map (λ o. kind_of o.reply) ops)

-- a table: `yes`, a line for each row, and a line for each count
abbrev pub table_text : (rows : List (ℕ × Stamped)) → (counts : List (Kind × ℕ)) → List ℕ
table_text rows counts =
    codes "yes\n" ++ flat_map (λ e. row_text e.0 e.1) rows ++ flat_map (λ e. count_text e.0 e.1) counts

-- the table of a history
abbrev pub history_table_text : List Stamped → List ℕ
history_table_text ops = table_text (rows_of ops) (counts_of ops)
