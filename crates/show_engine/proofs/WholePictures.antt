-- The picture of a reason, put together.
use Rattle.std.proofs.Common.{◌≡◌, ℕ, List, ◌++◌, length, ap, ◌∙◌, append_assoc}
use Rattle.std.specs.Prelude.{count_by}
use Rattle.history.specs.declared.operations.Stamped.{Stamped}
use Rattle.placing.specs.declared.answers.Reason.{Reason}
use Rattle.place_engine.specs.FoundTexts.{no_text}
use Rattle.place_engine.specs.WhyTexts.{lines_in, places_of}
use Rattle.place_engine.specs.Given.{header_of}
use Rattle.show_engine.specs.declared.frames.View.{View}
use Rattle.show_engine.specs.declared.scales.Scale.{Scale}
use Rattle.show_engine.specs.Found.{AreRising}
use Rattle.show_engine.specs.Reasons.{beside_text, operations_at, reason_picture, rows_beside, scale_beside, times_text}
use Rattle.show_engine.specs.Scales.{is_shown}
use Rattle.show_engine.proofs.RowsBeside.{rows_beside-same}

module _ (view : View) (text : List ℕ) (ops : List Stamped) (reason : Reason) (s : Scale) (lines : List (List ℕ)) (places rising : List ℕ)
    (places_are : places ≡ places_of reason) (scale_is : s ≡ scale_beside view (operations_at ops places)) (same : AreRising places rising)
    (lines_are : lines ≡ lines_in text) where
  -- the rows and the last line are those of the reason's operations
  rows_of_reason : rows_beside s lines (header_of text) rising 1 ops ++ times_text s (count_by (is_shown s) ops) (length ops)
      ≡ beside_text (scale_beside view (operations_at ops (places_of reason))) text ops (places_of reason)
  rows_of_reason =
      ap (λ rows. rows ++ times_text s (count_by (is_shown s) ops) (length ops))
      (rows_beside-same s lines (header_of text) rising places same.same 1 ops ∙ ap (λ says. rows_beside s says (header_of text) places 1 ops) lines_are)
      ∙ ap (λ scale. beside_text scale text ops places) scale_is
      ∙ ap (λ at. beside_text (scale_beside view (operations_at ops at)) text ops at) places_are

  -- behind the line of the reason they are its picture
  pub picture_whole : (head behind whole : List ℕ) → head ≡ no_text 0 reason → behind ≡ head ++ rows_beside s lines (header_of text) rising 1 ops
      → whole ≡ behind ++ times_text s (count_by (is_shown s) ops) (length ops) → whole ≡ reason_picture view text ops reason
  picture_whole head behind whole head_is behind_is whole_is =
      whole_is
      ∙ ap (λ l. l ++ times_text s (count_by (is_shown s) ops) (length ops)) behind_is
      ∙ append_assoc head (rows_beside s lines (header_of text) rising 1 ops) (times_text s (count_by (is_shown s) ops) (length ops))
      ∙ ap (λ l. head ++ l) rows_of_reason
      ∙ ap (λ l. l ++ beside_text (scale_beside view (operations_at ops (places_of reason))) text ops (places_of reason)) head_is
