-- Schedules, and the moves that their events are.
use Rattle.std.specs.Prelude.{◌≡◌, ℕ, Bool, true, false, List, [], ◌∷◌, replicate}
use Rattle.std.specs.List.{flat_map}
use Rattle.line_table.specs.declared.lines.Kind.{Kind}
use Rattle.step_machine.specs.declared.actors.Move.{Move}
use Rattle.step_machine.specs.declared.actors.Move.TheVariants.{Begin as BeginsCall, Step as TakesStep, Give as GivesUp}
use Rattle.schedule_text.specs.declared.schedules.Event.{Event}
use Rattle.schedule_text.specs.declared.schedules.Event.TheVariants.{Begin, Step, Steps, Give}
use Rattle.schedule_text.specs.declared.schedules.Version.{Version}
use Rattle.schedule_text.specs.declared.schedules.Version.TheVariants.{One, Two}

-- a schedule: the version of its text, the queue with its sizes and how many bits hold a node, the number of actors, and
-- the events in their order
pub record Schedule : Type 0 where
  pub version : Version
  pub kind : Kind
  pub bits : ℕ
  pub nodes : ℕ
  pub limit : ℕ
  pub actors : ℕ
  pub events : List Event

-- so many bits hold a node where version 1, which doesn't say it, is the version: 24
abbrev pub IsBitsOf : Version → (bits : ℕ) → Type 0
IsBitsOf version bits = version ≡ One → bits ≡ 24

-- whether a text of a version may tell of shuts
abbrev pub tells_shuts : Version → Bool
tells_shuts One = false
tells_shuts Two = true

-- how many lines stand before the events
abbrev pub header_lines : Version → ℕ
header_lines One = 6
header_lines Two = 7

-- the moves of an event; a step that names its line is one step
abbrev pub moves_of_event : Event → List Move
moves_of_event (Begin actor op) = BeginsCall actor op ∷ []
moves_of_event (Step actor line) = TakesStep actor ∷ []
moves_of_event (Steps actor count) = replicate count (TakesStep actor)
moves_of_event (Give actor) = GivesUp actor ∷ []

-- the moves of a list of events
abbrev pub moves_of : List Event → List Move
moves_of events = flat_map moves_of_event events
