-- What an actor's step did, as a short text.
use Rattle.std.specs.Prelude.{ℕ, Bool, true, false, List, [], ◌++◌, Option, Some, None, codes, decimal, if◌then◌else◌}
use Rattle.std.specs.Str.{bytes_eq}
use Rattle.history.specs.declared.operations.Reply.{Reply}
use Rattle.history.specs.declared.operations.Reply.TheVariants.{Refused}
use Rattle.history.specs.declared.refusals.Refusal.TheVariants.{NoNode, WornOut, Busy, Closed as IsClosed}
use Rattle.history_text.specs.HistoryText.{reply_text}
use Rattle.line_steps.specs.Memory.{Shared, Word, Fresh, Free, Head, Tail, Tail_lock, Head_lock, Next, Value_of}
use Rattle.line_table.specs.declared.lines.Line.{Line}
use Rattle.line_table.specs.Names.{name_of}
use Rattle.step_machine.specs.declared.accesses.Contents.{Contents}
use Rattle.step_machine.specs.declared.accesses.Contents.TheVariants.{Number, Reference, Closed, Value}
use Rattle.step_machine.specs.declared.actors.Stepped.{Stepped}
use Rattle.step_machine.specs.declared.actors.Stepped.TheVariants.{Began, Went, Ended}
use Rattle.step_machine.specs.Accesses.{contents_in}

-- the name of a word
abbrev pub place_text : Word → List ℕ
place_text Fresh = codes "Fresh"
place_text Free = codes "Free"
place_text Head = codes "Head"
place_text Tail = codes "Tail"
place_text Tail_lock = codes "T_lock"
place_text Head_lock = codes "H_lock"
place_text (Next n) = decimal n ++ codes ".next"
place_text (Value_of n) = decimal n ++ codes ".value"

-- what a word holds: a number, a reference, a closed end, or who pushed a value and its body
abbrev pub held_text : Contents → List ℕ
held_text (Number n) = decimal n
held_text (Reference node count) = codes "<" ++ decimal node ++ codes "," ++ decimal count ++ codes ">"
held_text (Closed count) = codes "<shut," ++ decimal count ++ codes ">"
held_text (Value v) = codes "(" ++ decimal v.from ++ codes "," ++ decimal v.body ++ codes ")"

-- what an exchange that is lost expected, if it is one
abbrev pub lost_text : (expected : Option Contents) → List ℕ
lost_text None = []
lost_text (Some c) = codes " lost, not " ++ held_text c

-- what became of a word that held one text and holds another: it was changed; or it wasn't, and then it was read, or the exchange is
-- lost that expected this
abbrev pub change_text : (expected : Option Contents) → (found now : List ℕ) → List ℕ
change_text expected found now = if bytes_eq found now then codes " " ++ now ++ lost_text expected else codes " := " ++ now

-- the access of a word at a line, by what it expected, what was found there and what is there now
abbrev pub access_text : Line → Word → (expected : Option Contents) → (found now : Contents) → List ℕ
access_text l x expected found now = name_of l ++ codes " " ++ place_text x ++ change_text expected (held_text found) (held_text now)

-- the same, where so many bits hold a node, by these shared words before and those after
abbrev pub touch_text : (bits : ℕ) → Line → Option Word → (expected : Option Contents) → (before after : Shared) → List ℕ
touch_text bits l None expected before after = []
touch_text bits l (Some x) expected before after = access_text l x expected (contents_in bits x before) (contents_in bits x after)

-- the name of a refusal that a queue answers, as it stands behind its number
abbrev pub name_text : Reply → List ℕ
name_text (Refused NoNode) = codes " (NoNode)"
name_text (Refused (WornOut word)) = codes " (WornOut)"
name_text (Refused Busy) = codes " (Busy)"
name_text (Refused IsClosed) = codes " (Closed)"
name_text _ = []

-- a reply, or a dash where there is none, with the name of a refusal
abbrev pub named_reply : Option Reply → List ℕ
named_reply None = reply_text None
named_reply (Some reply) = reply_text (Some reply) ++ name_text reply

-- the reply of a call that ended
abbrev pub answer_text : Stepped → List ℕ
answer_text Began = []
answer_text (Went l) = []
answer_text (Ended l reply) = codes " -> " ++ named_reply (Some reply)

-- what stands before a step: a star where an operation takes effect
abbrev pub mark_text : Bool → List ℕ
mark_text true = codes "*"
mark_text false = codes " "

-- what was done at the line of a move
abbrev pub at_line : Stepped → (Line → List ℕ) → List ℕ
at_line Began did = []
at_line (Went l) did = did l
at_line (Ended l reply) did = did l

-- a move at a line, marked or not, with what it did there and the reply
abbrev pub cell_text : Bool → Stepped → (Line → List ℕ) → List ℕ
cell_text marked told did = mark_text marked ++ at_line told did ++ answer_text told

-- what a giving up did
abbrev pub gives_text : Line → List ℕ
gives_text l = name_of l ++ codes " gives"
