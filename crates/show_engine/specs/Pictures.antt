-- The picture of a schedule's run.
use Rattle.std.specs.Prelude.{ℕ, ◌+◌, Bool, false, List, [], ◌∷◌, ◌++◌, Option, Some, None, codes, nat_eq, if◌then◌else◌}
use Rattle.std.specs.List.{list_any}
use Rattle.history.specs.declared.operations.Stamped.{Stamped}
use Rattle.history_text.specs.HistoryText.{call_text}
use Rattle.schedule_text.specs.declared.schedules.Event.{Event}
use Rattle.schedule_text.specs.Schedules.{Schedule, moves_of}
use Rattle.step_machine.specs.declared.actors.Move.{Move}
use Rattle.step_machine.specs.declared.actors.Move.TheVariants.{Begin, Step, Give}
use Rattle.step_machine.specs.declared.actors.Stepped.{Stepped}
use Rattle.step_machine.specs.Accesses.{expected_by, touched_by}
use Rattle.step_machine.specs.Calls.{move_answer}
use Rattle.step_machine.specs.Machine.{World, actor_of, mover}
use Rattle.run_engine.specs.Runs.{opening_of}
use Rattle.run_engine.specs.Pieces.{Pieces, actors_text, moves_text}
use Rattle.show_engine.specs.declared.frames.Frame.{Frame}
use Rattle.show_engine.specs.declared.frames.Meaning.{Meaning}
use Rattle.show_engine.specs.declared.frames.View.{View}
use Rattle.show_engine.specs.Frames.{frame_of, shows}
use Rattle.show_engine.specs.Rows.{names_row, number_text, queue_text, row_text, shown_text}
use Rattle.show_engine.specs.Cells.{cell_text, gives_text, touch_text}
use Rattle.show_engine.specs.Chains.{side_text, state_text}
use Rattle.show_engine.specs.Legends.{legend_text, lines_in}
use Rattle.show_engine.specs.StandRows.{shown_stand}

-- these numbers, behind another one, if there is one
abbrev pub with_point : Option ℕ → List ℕ → List ℕ
with_point None points = points
with_point (Some at) points = at ∷ points

-- the numbers at which operations take effect, in the order of the operations
abbrev pub points_of : List Stamped → List ℕ
points_of [] = []
points_of (o ∷ ops) = with_point o.at (points_of ops)

-- whether an operation that takes effect at this number, if at one, does so at that one
abbrev pub is_at : (number : ℕ) → Option ℕ → Bool
is_at number None = false
is_at number (Some at) = nat_eq at number

-- whether one of these operations takes effect at a number
abbrev pub takes_effect : List Stamped → (number : ℕ) → Bool
takes_effect ops number = list_any (λ o. is_at number o.at) ops

-- the row of a numbered move that led from a world to another
abbrev pub numbered_row : Frame → (bits : ℕ) → (w v : World) → (me : ℕ) → (cell : List ℕ) → List ℕ
numbered_row f bits w v me cell =
    row_text f me (number_text v.steps) cell (side_text f v.steps (state_text bits w.shared) (state_text bits v.shared))

-- the row of a move that led from a world to another and was told so, where this says which numbers are marked
abbrev pub told_row : Frame → (marked : ℕ → Bool) → (bits : ℕ) → (w v : World) → Move → Option Stepped → List ℕ
told_row f marked bits w v m None = []
told_row f marked bits w v (Begin me op) (Some told) = row_text f me [] (codes " " ++ call_text op) []
told_row f marked bits w v (Step me) (Some told) =
    numbered_row f bits w v me
    (cell_text (marked v.steps) told (λ l. touch_text bits l (touched_by w me (actor_of w me)) (expected_by bits w me (actor_of w me)) w.shared v.shared))
told_row f marked bits w v (Give me) (Some told) = numbered_row f bits w v me (cell_text (marked v.steps) told gives_text)

-- what a picture has of a move that led from a world to another: its row, where it is shown
abbrev pub drawn_text : Frame → (marked : ℕ → Bool) → (bits : ℕ) → (w v : World) → Move → List ℕ
drawn_text f marked bits w v m = if shows f (w.steps + 1) (mover m) then told_row f marked bits w v m (move_answer w m) else []

-- what a picture in a frame has of a run, where this says which numbers are marked, and so many bits hold a node
abbrev pub picture_pieces : Frame → (marked : ℕ → Bool) → (bits : ℕ) → Pieces
picture_pieces f marked bits =
    record { heading = λ s. queue_text s ++ names_row f; each = drawn_text f marked bits; stand = shown_stand f bits; last = λ w event. [] }

-- the rows of the moves of these events of a schedule, where so many bits hold a node
abbrev pub rows_text : Frame → (marked : ℕ → Bool) → (bits : ℕ) → Schedule → List Event → List ℕ
rows_text f marked bits s events = moves_text (drawn_text f marked bits) (moves_of events) (opening_of s)

-- a picture in a frame of these events of a schedule, which are so many steps, with these rows behind theirs, and behind it what is
-- told of the lines in theirs
abbrev pub framed_text : Frame → List Meaning → (marked : ℕ → Bool) → (steps bits : ℕ) → Schedule → List Event → (behind : List ℕ) → List ℕ
framed_text f legend marked steps bits s events behind =
    (((queue_text s ++ names_row f) ++ rows_text f marked bits s events) ++ behind) ++ shown_text f s.actors steps ++ legend_text f legend (lines_in f s events)

-- a picture of these events of a schedule, which lead to a world, with these rows behind theirs: a row is marked where an operation
-- of that world takes effect
abbrev pub events_text : View → Schedule → List Event → World → (behind : List ℕ) → List ℕ
events_text view s events w behind =
    framed_text (frame_of view s.actors) view.legend.now (takes_effect w.operations) w.steps s.bits s events behind

-- the picture of a schedule that leads to a world
abbrev pub picture_text : View → Schedule → World → List ℕ
picture_text view s w = events_text view s s.events w []

-- the picture of a schedule of which these events lead to a world and the next one is refused: where the actors stand then that have
-- columns is behind their rows
abbrev pub stopped_text : View → Schedule → List Event → World → Event → List ℕ
stopped_text view s before w event =
    events_text view s before w (actors_text (shown_stand (frame_of view s.actors) s.bits w) s.actors)
