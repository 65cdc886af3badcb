-- Where actors stand, in their columns.
use Rattle.std.specs.Prelude.{ℕ, List, [], ◌++◌, Option, Some, None, codes, if◌then◌else◌}
use Rattle.line_steps.specs.Memory.{Word}
use Rattle.step_machine.specs.Accesses.{contents_in, touched_by}
use Rattle.step_machine.specs.Calls.{line_of}
use Rattle.step_machine.specs.Machine.{World, actor_of}
use Rattle.run_engine.specs.Stands.{at_text}
use Rattle.show_engine.specs.declared.frames.Frame.{Frame}
use Rattle.show_engine.specs.Cells.{held_text, place_text}
use Rattle.show_engine.specs.Frames.{has_column}
use Rattle.show_engine.specs.Rows.{row_text}

-- where an actor stands: its line, and the word that its next step touches, with what that holds
abbrev pub stand_text : (bits : ℕ) → World → (me : ℕ) → Word → List ℕ
stand_text bits w me x =
    codes " at " ++ at_text (line_of (actor_of w me)) ++ codes " " ++ place_text x ++ codes " " ++ held_text (contents_in bits x w.shared)

-- the row of where an actor stands; there is none where its next step touches no word, as it has no call
abbrev pub stand_row : Frame → (bits : ℕ) → World → (me : ℕ) → Option Word → List ℕ
stand_row f bits w me None = []
stand_row f bits w me (Some x) = row_text f me [] (stand_text bits w me x) []

-- the row of where an actor stands that has a column
abbrev pub shown_stand : Frame → (bits : ℕ) → World → (me : ℕ) → List ℕ
shown_stand f bits w me = if has_column f me then stand_row f bits w me (touched_by w me (actor_of w me)) else []
