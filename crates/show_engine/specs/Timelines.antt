-- The timeline of a history: an operation a row, a bar from its first number to its last one.
use Rattle.std.specs.Prelude.{ℕ, zero, suc, ◌-◌, List, [], ◌∷◌, ◌++◌, length, Option, Some, None, Bool, false, ◌&&◌, ◌||◌, codes, count_by, decimal, nat_eq, nat_le, nat_lt, if◌then◌else◌}
use Rattle.std.specs.List.{flat_map}
use Rattle.history.specs.declared.operations.Stamped.{Stamped}
use Rattle.history_text.specs.HistoryText.{call_text}
use Rattle.show_engine.specs.Cells.{named_reply}
use Rattle.show_engine.specs.declared.frames.View.{View}
use Rattle.show_engine.specs.Rows.{truncated_to, number_text}
use Rattle.show_engine.specs.declared.scales.Scale.{Scale}
use Rattle.show_engine.specs.Scales.{column_of, end_of_history, is_shown, scale_of}

-- whether an operation takes effect at a number that is shown in a column
abbrev pub is_point : Scale → Option ℕ → (column : ℕ) → Bool
is_point s None column = false
is_point s (Some at) column = nat_le s.from at && nat_le at s.to && nat_eq (column_of s at) column

-- the column in which a bar ends: the last one where its operation goes on, or is pending
abbrev pub end_column : Scale → (last : Option ℕ) → ℕ
end_column s None = s.columns - 1
end_column s (Some last) = if nat_le last s.to then column_of s last else s.columns - 1

-- the mark at the end of a bar: > where its operation goes on, or is pending
abbrev pub end_mark : Scale → (last : Option ℕ) → ℕ
end_mark s None = 62
end_mark s (Some last) = if nat_le last s.to then 124 else 62

-- what stands in a column of an operation's row: a star where it takes effect; else nothing outside of its bar, |, or < where it
-- began earlier, at the beginning, the mark of its end, and = between
abbrev pub mark_in : Scale → Stamped → (column : ℕ) → ℕ
mark_in s o column =
    if is_point s o.at column then 42
    else if nat_lt column (column_of s o.first) || nat_lt (end_column s o.last) column then 32
    else if nat_eq column (end_column s o.last) then end_mark s o.last
    else if nat_eq column (column_of s o.first) then (if nat_lt o.first s.from then 60 else 124)
    else 61

-- the first columns of an operation's bar
abbrev pub bar_text : Scale → Stamped → (columns : ℕ) → List ℕ
bar_text s o zero = []
bar_text s o (suc n) = bar_text s o n ++ mark_in s o n ∷ []

-- the row of an operation: its actor, its bar, its call and its reply
unfoldable pub row_text : Scale → Stamped → List ℕ
row_text s o =
    truncated_to s.width (number_text o.actor ++ bar_text s o s.columns ++ codes " " ++ call_text o.op ++ codes " -> " ++ named_reply o.reply) ++ codes "\n"

-- the row of an operation that is shown
abbrev pub shown_row : Scale → Stamped → List ℕ
shown_row s o = if is_shown s o then row_text s o else []

-- the last line: which of the numbers are shown, up to the greatest one, and how many of so many operations
unfoldable pub span_text : Scale → (last shown all : ℕ) → List ℕ
span_text s last shown all =
    codes "steps " ++ decimal s.from ++ codes " to " ++ decimal s.to ++ codes " of " ++ decimal last
    ++ codes ", operations " ++ decimal shown ++ codes " of " ++ decimal all ++ codes "\n"

-- the timeline of a history that ends at a number, in a scale
abbrev pub scaled_text : Scale → (last : ℕ) → List Stamped → List ℕ
scaled_text s last ops = flat_map (shown_row s) ops ++ span_text s last (count_by (is_shown s) ops) (length ops)

-- the timeline of a history
abbrev pub timeline_text : View → List Stamped → List ℕ
timeline_text view ops = scaled_text (scale_of view (end_of_history ops)) (end_of_history ops) ops
