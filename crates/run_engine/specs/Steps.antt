-- The text of the steps that a world's moves are.
use Rattle.std.specs.Prelude.{ℕ, List, [], ◌++◌, Option, Some, None, codes, decimal}
use Rattle.history_text.specs.HistoryText.{reply_text}
use Rattle.line_steps.specs.Memory.{Shared, Word, Fresh, Free, Head, Tail, Tail_lock, Head_lock, Next, Value_of}
use Rattle.line_table.specs.Names.{name_of}
use Rattle.schedule_text.specs.Schedules.{Schedule, moves_of}
use Rattle.schedule_text.specs.Texts.{kind_name}
use Rattle.step_machine.specs.declared.accesses.Contents.{Contents}
use Rattle.step_machine.specs.declared.accesses.Contents.TheVariants.{Number, Reference, Closed, Value}
use Rattle.step_machine.specs.declared.actors.Move.{Move}
use Rattle.step_machine.specs.declared.actors.Move.TheVariants.{Begin, Step, Give}
use Rattle.step_machine.specs.declared.actors.Stepped.{Stepped}
use Rattle.step_machine.specs.declared.actors.Stepped.TheVariants.{Began, Went, Ended}
use Rattle.step_machine.specs.Accesses.{contents_in, touched_by}
use Rattle.step_machine.specs.Calls.{move_answer}
use Rattle.step_machine.specs.Machine.{World, actor_of}
use Rattle.run_engine.specs.Runs.{opening_of}
use Rattle.run_engine.specs.Pieces.{moves_text}

-- the name of a word
abbrev pub word_text : Word → List ℕ
word_text Fresh = codes "Fresh"
word_text Free = codes "Free"
word_text Head = codes "Head"
word_text Tail = codes "Tail"
word_text Tail_lock = codes "T_lock"
word_text Head_lock = codes "H_lock"
word_text (Next n) = codes "next " ++ decimal n
word_text (Value_of n) = codes "value " ++ decimal n

-- what a word holds: a number, the node and the count of a reference, the count of a closed end, or who pushed a value
-- and its body
abbrev pub contents_text : Contents → List ℕ
contents_text (Number n) = decimal n
contents_text (Reference node count) = decimal node ++ codes " " ++ decimal count
contents_text (Closed count) = codes "closed " ++ decimal count
contents_text (Value v) = decimal v.from ++ codes " " ++ decimal v.body

-- an access of a word: its name, what was found there, and what is there now
abbrev pub access_text : Word → (found now : Contents) → List ℕ
access_text x found now = codes " " ++ word_text x ++ codes " found " ++ contents_text found ++ codes " now " ++ contents_text now

-- an access of a word, where so many bits hold a node, which led from these shared words to those
abbrev pub touch_text : (bits : ℕ) → Option Word → (before after : Shared) → List ℕ
touch_text bits None before after = []
touch_text bits (Some x) before after = access_text x (contents_in bits x before) (contents_in bits x after)

-- the line at which a move was made
abbrev pub line_told : Stepped → List ℕ
line_told Began = []
line_told (Went l) = name_of l
line_told (Ended l reply) = name_of l

-- the reply of the call that a move ended
abbrev pub end_told : Stepped → List ℕ
end_told Began = []
end_told (Went l) = []
end_told (Ended l reply) = codes " reply " ++ reply_text (Some reply)

-- the line of a numbered move: its number, its actor, the actor's line, what was done, and the reply where the call ended
unfoldable pub row_text : (number me : ℕ) → (did : List ℕ) → Stepped → List ℕ
row_text number me did told =
    decimal number ++ codes " " ++ decimal me ++ codes " " ++ line_told told ++ did ++ end_told told ++ codes "\n"

-- the text of a move that led from a world to another and was told so: a begin has none, since it has no number
abbrev pub told_text : (bits : ℕ) → (w v : World) → Move → Option Stepped → List ℕ
told_text bits w v m None = []
told_text bits w v (Begin me op) (Some told) = []
told_text bits w v (Step me) (Some told) =
    row_text v.steps me (touch_text bits (touched_by w me (actor_of w me)) w.shared v.shared) told
told_text bits w v (Give me) (Some told) = row_text v.steps me (codes " gives") told

-- the text of a move that led from a world to another
abbrev pub move_text : (bits : ℕ) → (w v : World) → Move → List ℕ
move_text bits w v m = told_text bits w v m (move_answer w m)

-- the lines before the steps: the version, the queue with its sizes, the actors, and how many lines of steps follow
unfoldable pub header_text : Schedule → (steps : ℕ) → List ℕ
header_text s steps =
    codes "msq trace 1\nqueue " ++ kind_name s.kind ++ codes "\nbits " ++ decimal s.bits ++ codes "\nnodes " ++ decimal s.nodes
    ++ codes "\nlimit " ++ decimal s.limit ++ codes "\nactors " ++ decimal s.actors ++ codes "\nsteps " ++ decimal steps ++ codes "\n"

-- the text of the steps of a schedule, where so many bits hold a node
abbrev pub steps_text : (bits : ℕ) → Schedule → List ℕ
steps_text bits s = moves_text (move_text bits) (moves_of s.events) (opening_of s)

-- the trace of a schedule that leads to a world
abbrev pub trace_text : Schedule → World → List ℕ
trace_text s w = header_text s w.steps ++ steps_text s.bits s
