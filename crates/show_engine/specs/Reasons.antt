-- The picture of a reason why a recorded history isn't one of a queue: the operations beside it, a row each.
use Rattle.std.specs.Prelude.{ℕ, ◌+◌, ◌-◌, ◌/◌, ◌^◌, min, max, List, [], ◌∷◌, ◌++◌, length, Bool, false, codes, count_by, decimal, nat_eq, slice_get, unwrap_or, if◌then◌else◌}
use Rattle.std.specs.List.{flat_map}
use Rattle.std.specs.Option.{option_map_or}
use Rattle.history.specs.declared.operations.Stamped.{Stamped}
use Rattle.placing.specs.declared.answers.Reason.{Reason}
use Rattle.placing.specs.declared.answers.Placed.{Placed}
use Rattle.placing.specs.declared.answers.Placed.TheVariants.{History, Impossible, Open}
use Rattle.place_engine.specs.Given.{header_of}
use Rattle.place_engine.specs.FoundTexts.{no_text}
use Rattle.place_engine.specs.WhyTexts.{answer_text, lines_in, numbered_line, places_of}
use Rattle.show_engine.specs.declared.frames.View.{View}
use Rattle.show_engine.specs.Frames.{width_of}
use Rattle.show_engine.specs.declared.scales.Scale.{Scale}
use Rattle.show_engine.specs.Scales.{end_of_history, is_shown}
use Rattle.show_engine.specs.PicturesWritten.{is_among}
use Rattle.show_engine.specs.Timelines.{bar_text}

-- the operation at a place of a list, from 1; none where there is none
abbrev pub operation_at : List Stamped → (place : ℕ) → List Stamped
operation_at ops place = option_map_or (λ o. o ∷ []) (slice_get ops (place - 1)) []

-- the operations at these places
abbrev pub operations_at : List Stamped → (places : List ℕ) → List Stamped
operations_at ops places = flat_map (operation_at ops) places

-- the least of the first and the last number of an operation
abbrev pub least_of : Stamped → ℕ
least_of o = min o.first (unwrap_or o.last o.first)

-- the least of a number and the first and last numbers of operations
abbrev pub earliest : (least : ℕ) → List Stamped → ℕ
earliest least [] = least
earliest least (o ∷ ops) = earliest (min least (least_of o)) ops

-- the scale of a view of the times of operations, from the first one to the last, or of those of them that it asks for
abbrev pub scale_beside : View → List Stamped → Scale
scale_beside view ops =
    record {
      width = width_of view;
      columns = width_of view / 2;
      from = max view.from (earliest (2 ^ 64 - 1) ops);
      to = if nat_eq view.to 0 then end_of_history ops else min view.to (end_of_history ops);
      actor = view.actor;
    }

-- what stands before a bar: ! where its operation is of the reason
abbrev pub mark_text : (is_of : Bool) → List ℕ
mark_text is_of = if is_of then codes "! " else codes "  "

-- the row of an operation that is shown: its mark, its bar, and the line of this number, which says it
abbrev pub row_beside : Scale → Stamped → (is_of : Bool) → (lines : List (List ℕ)) → (number : ℕ) → List ℕ
row_beside s o is_of lines number =
    if is_shown s o then (mark_text is_of ++ bar_text s o s.columns ++ codes " ") ++ numbered_line lines number else []

-- the rows of operations of which the first one has this place, where those at some places are of the reason, and so many lines
-- come before that of the place 1
abbrev pub rows_beside : Scale → (lines : List (List ℕ)) → (header : ℕ) → (places : List ℕ) → (place : ℕ) → List Stamped → List ℕ
rows_beside s lines header places place [] = []
rows_beside s lines header places place (o ∷ ops) =
    row_beside s o (is_among places place) lines (place + header) ++ rows_beside s lines header places (place + 1) ops

-- the last line: the times that are shown, from the first one on, and how many of so many operations
unfoldable pub times_text : Scale → (shown all : ℕ) → List ℕ
times_text s shown all =
    codes "times 0" ++ codes " to " ++ decimal (s.to - s.from) ++ codes " from " ++ decimal s.from
    ++ codes ", operations " ++ decimal shown ++ codes " of " ++ decimal all ++ codes "\n"

-- the rows of the operations beside those at some places, in a scale, and the last line
abbrev pub beside_text : Scale → (text : List ℕ) → List Stamped → (places : List ℕ) → List ℕ
beside_text s text ops places =
    rows_beside s (lines_in text) (header_of text) places 1 ops ++ times_text s (count_by (is_shown s) ops) (length ops)

-- the picture of a reason: the line that tells it, the rows of its operations and of those beside them, and the last line
abbrev pub reason_picture : View → (text : List ℕ) → List Stamped → Reason → List ℕ
reason_picture view text ops reason =
    no_text 0 reason ++ beside_text (scale_beside view (operations_at ops (places_of reason))) text ops (places_of reason)

-- what is shown of what is found of a text with these operations: a reason's picture, or else what `place` writes
abbrev pub found_picture : View → (text : List ℕ) → List Stamped → Placed → List ℕ
found_picture view text ops (History new) = answer_text [] false text (History new)
found_picture view text ops (Impossible reason) = reason_picture view text ops reason
found_picture view text ops (Open cause) = answer_text [] false text (Open cause)
