-- Where actors stand: the line before which each that has a call is, what its next step finds, and how soon the call of one ends
-- alone.
use Rattle.std.specs.Prelude.{ℕ, zero, suc, ◌+◌, List, [], ◌++◌, Option, Some, None, codes, decimal, option_map}
use Rattle.line_steps.specs.Memory.{Word}
use Rattle.line_table.specs.declared.lines.Line.{Line}
use Rattle.line_table.specs.Names.{name_of}
use Rattle.schedule_text.specs.declared.schedules.Event.{Event}
use Rattle.schedule_text.specs.declared.schedules.Event.TheVariants.{Begin, Step as StepAt, Steps, Give}
use Rattle.step_machine.specs.declared.actors.Move.TheVariants.{Step}
use Rattle.step_machine.specs.Accesses.{contents_in, touched_by}
use Rattle.step_machine.specs.Calls.{line_of}
use Rattle.step_machine.specs.Machine.{World, actor_of, next}
use Rattle.run_engine.specs.Steps.{contents_text, word_text}

-- the line before which an actor is told to stand, if before one
abbrev pub at_text : Option Line → List ℕ
at_text None = []
at_text (Some l) = name_of l

-- where an actor of this number stands: its line, and the word that its next step touches, with what that holds; nothing where
-- it touches none
abbrev pub stand_text : (bits : ℕ) → World → (me : ℕ) → Option Word → List ℕ
stand_text bits w me None = []
stand_text bits w me (Some x) =
    decimal me ++ codes " at " ++ at_text (line_of (actor_of w me)) ++ codes " " ++ word_text x ++ codes " holds " ++ contents_text (contents_in bits x w.shared) ++ codes "\n"

-- where an actor stands, if it has a call
abbrev pub standing_text : (bits : ℕ) → World → (me : ℕ) → List ℕ
standing_text bits w me = stand_text bits w me (touched_by w me (actor_of w me))

-- one where an actor touches nothing more, and else one more than so many, if so many do
abbrev pub one_or_more : Option Word → Option ℕ → Option ℕ
one_or_more None more = Some 1
one_or_more (Some x) more = option_map (λ n. n + 1) more

-- how many steps of an actor end its call, of which the first one, if it can be taken, leads to this world
abbrev pub from_step : (me : ℕ) → (World → Option ℕ) → Option World → Option ℕ
from_step me more None = None
from_step me more (Some v) = one_or_more (touched_by v me (actor_of v me)) (more v)

-- how many steps of an actor alone end its call, if so many at most do
abbrev pub steps_alone : (most me : ℕ) → World → Option ℕ
steps_alone zero me w = None
steps_alone (suc n) me w = from_step me (steps_alone n me) (next w (Step me))

-- how many, as it is told
abbrev pub count_text : Option ℕ → List ℕ
count_text None = codes "-"
count_text (Some n) = decimal n

-- how many steps of an actor alone end its call, of 64 at most; nothing where its next step touches no word, as it has none
abbrev pub alone_text : (me : ℕ) → Option Word → Option ℕ → List ℕ
alone_text me None count = []
alone_text me (Some x) count = decimal me ++ codes " alone " ++ count_text count ++ codes "\n"

-- whose event it is
abbrev pub actor_in : Event → ℕ
actor_in (Begin me op) = me
actor_in (StepAt me l) = me
actor_in (Steps me count) = me
actor_in (Give me) = me

-- how soon the call of the actor of an event ends alone
abbrev pub alone_told : World → Event → List ℕ
alone_told w event = alone_text (actor_in event) (touched_by w (actor_in event) (actor_of w (actor_in event))) (steps_alone 64 (actor_in event) w)
