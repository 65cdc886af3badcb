-- The text of a history: a line with the number of its operations, then a line for each.
use Rattle.std.specs.Prelude.{ℕ, List, ◌++◌, Option, Some, None, length, codes, decimal}
use Rattle.std.specs.List.{flat_map}
use Rattle.history.specs.WornWords.{word_text}
use Rattle.history.specs.declared.refusals.Refusal.{Refusal}
use Rattle.history.specs.declared.refusals.Refusal.TheVariants.{NoNode, WornOut, Busy, Memory, BadSize, IdleActor, ActorBusy, NotHere, NoSuchActor, Text, Read, Write, Stranger, Double, Lost, Closed}
use Rattle.history.specs.declared.operations.Op.{Op}
use Rattle.history.specs.declared.operations.Op.TheVariants.{Enq, Deq, Shut}
use Rattle.history.specs.declared.operations.Reply.{Reply}
use Rattle.history.specs.declared.operations.Reply.TheVariants.{Done, Value, Empty, Refused}
use Rattle.history.specs.declared.operations.Stamped.{Stamped}

-- a call: `enq` and the body, `deq`, or `shut`
abbrev pub call_text : Op → List ℕ
call_text (Enq body) = codes "enq " ++ decimal body
call_text Deq = codes "deq"
call_text Shut = codes "shut"

-- the number of a step, or a dash where there is none
abbrev pub step_text : Option ℕ → List ℕ
step_text None = codes "-"
step_text (Some step) = decimal step

-- a refusal: its number, and for a worn word the word's name; a queue's own refusals are the first three
abbrev pub refusal_text : Refusal → List ℕ
refusal_text NoNode = codes "1"
refusal_text (WornOut word) = codes "2 " ++ word_text word
refusal_text Busy = codes "3"
refusal_text Memory = codes "4"
refusal_text BadSize = codes "5"
refusal_text IdleActor = codes "6"
refusal_text ActorBusy = codes "7"
refusal_text NotHere = codes "8"
refusal_text NoSuchActor = codes "9"
refusal_text (Text line cause) = codes "10"
refusal_text Read = codes "11"
refusal_text Write = codes "12"
refusal_text Stranger = codes "13"
refusal_text Double = codes "14"
refusal_text Lost = codes "15"
refusal_text Closed = codes "16"

-- a reply, or a dash where there is none
abbrev pub reply_text : Option Reply → List ℕ
reply_text None = codes "-"
reply_text (Some Done) = codes "done"
reply_text (Some (Value value)) = codes "value " ++ decimal value.from ++ codes " " ++ decimal value.body
reply_text (Some Empty) = codes "empty"
reply_text (Some (Refused refusal)) = codes "refused " ++ refusal_text refusal

-- the line of an operation, with its line feed
unfoldable pub operation_text : Stamped → List ℕ
operation_text o =
    decimal o.actor ++ codes " " ++ call_text o.op ++ codes " first " ++ decimal o.first ++ codes " last " ++ step_text o.last
    ++ codes " at " ++ step_text o.at ++ codes " reply " ++ reply_text o.reply ++ codes "\n"

-- the first line: how many lines of operations follow
unfoldable pub header_text : ℕ → List ℕ
header_text count = codes "history " ++ decimal count ++ codes "\n"

-- the whole text
abbrev pub history_text : List Stamped → List ℕ
history_text ops = header_text (length ops) ++ flat_map operation_text ops
