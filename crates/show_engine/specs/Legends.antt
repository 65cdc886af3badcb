-- What a picture tells of the lines in its rows.
use Rattle.std.specs.Prelude.{ℕ, Bool, List, [], ◌∷◌, ◌++◌, Option, Some, None, if◌then◌else◌}
use Rattle.std.specs.List.{flat_map, list_any}
use Rattle.std.specs.Str.{bytes_eq}
use Rattle.line_table.specs.declared.lines.Line.{Line}
use Rattle.line_table.specs.Names.{name_of}
use Rattle.run_engine.specs.Runs.{opening_of}
use Rattle.schedule_text.specs.declared.schedules.Event.{Event}
use Rattle.schedule_text.specs.Schedules.{Schedule, moves_of}
use Rattle.step_machine.specs.declared.actors.Move.{Move}
use Rattle.step_machine.specs.declared.actors.Stepped.{Stepped}
use Rattle.step_machine.specs.declared.actors.Stepped.TheVariants.{Began, Went, Ended}
use Rattle.step_machine.specs.Calls.{move_answer}
use Rattle.step_machine.specs.Machine.{World, mover, next}
use Rattle.show_engine.specs.declared.frames.Frame.{Frame}
use Rattle.show_engine.specs.declared.frames.Meaning.{Meaning}
use Rattle.show_engine.specs.Frames.{shows}
use Rattle.show_engine.specs.Rows.{pair_row}

-- whether a line is one of these
abbrev pub has_line : List Line → Line → Bool
has_line lines l = list_any (λ one. bytes_eq (name_of one) (name_of l)) lines

-- these lines, and behind them one that may be among them
abbrev pub with_line : Line → List Line → List Line
with_line l lines = if has_line lines l then lines else lines ++ l ∷ []

-- these lines, and that at which a move was made, if it was made at one
abbrev pub with_stepped : Stepped → List Line → List Line
with_stepped Began lines = lines
with_stepped (Went l) lines = with_line l lines
with_stepped (Ended l reply) lines = with_line l lines

-- the same by what was told of the move, if it could be made
abbrev pub with_told : Option Stepped → List Line → List Line
with_told None lines = lines
with_told (Some told) lines = with_stepped told lines

-- these lines, and that of a move that led from a world to another, where its row is shown
abbrev pub with_move : Frame → (w v : World) → Move → List Line → List Line
with_move f w v m lines = if shows f v.steps (mover m) then with_told (move_answer w m) lines else lines

-- the lines that follow in a world; these where there is none
abbrev pub lines_on : (World → List Line) → List Line → Option World → List Line
lines_on after lines None = lines
lines_on after lines (Some v) = after v

-- these lines, and those of moves, one after another, from a world on
abbrev pub with_moves : Frame → List Move → World → List Line → List Line
with_moves f [] w lines = lines
with_moves f (m ∷ ms) w lines = lines_on (λ v. with_moves f ms v (with_move f w v m lines)) lines (next w m)

-- the lines in the rows of these events of a schedule, each once
abbrev pub lines_in : Frame → Schedule → List Event → List Line
lines_in f s events = with_moves f (moves_of events) (opening_of s) []

-- what is told of a line, where it is one of these: its name, and what it does
abbrev pub meaning_row : Frame → List Line → Meaning → List ℕ
meaning_row f lines m = if has_line lines m.line then pair_row f 4 (name_of m.line) m.access.now else []

-- what is told of these lines, in the order of the meanings
abbrev pub legend_text : Frame → List Meaning → List Line → List ℕ
legend_text f legend lines = flat_map (meaning_row f lines) legend
