-- What is printed of a run: lines above its moves, the text of each move, and where actors stand where an event is refused.
use Rattle.std.specs.Prelude.{ℕ, zero, suc, List, [], ◌∷◌, ◌++◌, Option, Some, None}
use Rattle.run_engine.specs.Runs.{opening_of}
use Rattle.schedule_text.specs.declared.schedules.Event.{Event}
use Rattle.schedule_text.specs.Schedules.{Schedule, moves_of}
use Rattle.step_machine.specs.declared.actors.Move.{Move}
use Rattle.step_machine.specs.Machine.{World, next}

-- the lines above the moves of a schedule, the text of a move that led from a world to another, where an actor stands in a world in which an event is refused, and what is told behind that
pub record Pieces : Type 0 where
  pub heading : Schedule → List ℕ
  pub each : (w v : World) → Move → List ℕ
  pub stand : World → (me : ℕ) → List ℕ
  pub last : World → Event → List ℕ

-- what a world gives a text; there is none where there is no world
abbrev pub text_on : (World → List ℕ) → Option World → List ℕ
text_on text None = []
text_on text (Some v) = text v

-- the text of moves, one after another, from a world on, where this is the text of each
abbrev pub moves_text : (each : World → World → Move → List ℕ) → List Move → World → List ℕ
moves_text each [] w = []
moves_text each (m ∷ ms) w = text_on (λ v. each w v m ++ moves_text each ms v) (next w m)

-- what this is of each of the first so many actors, one after another
abbrev pub actors_text : (each : ℕ → List ℕ) → (actors : ℕ) → List ℕ
actors_text each zero = []
actors_text each (suc n) = actors_text each n ++ each (suc n)

-- what is printed of a world in which an event is refused: where so many actors stand, and what is told behind that
abbrev pub stop_text : Pieces → World → (actors : ℕ) → Event → List ℕ
stop_text p w actors event = actors_text (p.stand w) actors ++ p.last w event

-- the same where an event is refused, and nothing where none is
abbrev pub rest_text : Pieces → World → (actors : ℕ) → Option Event → List ℕ
rest_text p w actors None = []
rest_text p w actors (Some event) = stop_text p w actors event

-- behind a text, what is printed of these events of a schedule, which lead to a world, and of the one that is refused there, if one is
abbrev pub run_text : (before : List ℕ) → Pieces → Schedule → List Event → World → (refused : Option Event) → List ℕ
run_text before p s events w refused =
    ((before ++ p.heading s) ++ moves_text p.each (moves_of events) (opening_of s)) ++ rest_text p w s.actors refused
