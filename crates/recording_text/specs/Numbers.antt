-- The history that a recording stands for: each text is a number, by the order in which the texts first occur.
use Rattle.std.specs.Prelude.{ℕ, ◌+◌, List, [], ◌∷◌, ◌++◌, None, map, option_map, bytes_eq, if◌then◌else◌}
use Rattle.std.specs.List.{list_any, position_or_len}
use Rattle.history.specs.declared.refusals.Refusal.TheVariants.{NoNode, Closed as IsShut}
use Rattle.history.specs.declared.operations.Op.{Op}
use Rattle.history.specs.declared.operations.Op.TheVariants.{Enq, Deq, Shut as ShutOp}
use Rattle.history.specs.declared.operations.Taken.{Taken}
use Rattle.history.specs.declared.operations.Reply.{Reply}
use Rattle.history.specs.declared.operations.Reply.TheVariants.{Done as DoneReply, Value as ValueReply, Empty as EmptyReply, Refused as RefusedReply}
use Rattle.history.specs.declared.operations.Stamped.{Stamped}
use Rattle.recording_text.specs.Recordings.{Call, Push, Pop, Shut, Told, Done, Value, Empty, Refused, Closed, Recorded, texts_of}

-- some texts with one more at the end, unless it is among them
abbrev pub with_text : List (List ℕ) → List ℕ → List (List ℕ)
with_text known text = if list_any (bytes_eq text) known then known else known ++ text ∷ []

-- some texts with more of them, one after another
abbrev pub with_texts : List (List ℕ) → List (List ℕ) → List (List ℕ)
with_texts known [] = known
with_texts known (text ∷ texts) = with_texts (with_text known text) texts

-- each text of a recording once, in the order in which they first occur
abbrev pub known_in : List Recorded → List (List ℕ)
known_in rs = with_texts [] (texts_of rs)

-- the number of a text among some, from 1
abbrev pub number_in : List (List ℕ) → List ℕ → ℕ
number_in known text = 1 + position_or_len (bytes_eq text) known

-- the value that a text stands for: the actor 1 and the text's number
abbrev pub value_by : List (List ℕ) → List ℕ → Taken
value_by known text = record { from = 1; body = number_in known text }

-- the call with the text's number
abbrev pub op_by : List (List ℕ) → Call → Op
op_by known (Push text) = Enq (number_in known text)
op_by known Pop = Deq
op_by known Shut = ShutOp

-- what was told, with the text's value; a refusal is that there is no room, or that the queue is shut
abbrev pub reply_by : List (List ℕ) → Told → Reply
reply_by known Done = DoneReply
reply_by known (Value text) = ValueReply (value_by known text)
reply_by known Empty = EmptyReply
reply_by known Refused = RefusedReply NoNode
reply_by known Closed = RefusedReply IsShut

-- the operation of a history, with all stamps and without a point; each is the actor 1's
abbrev pub stamped_by : List (List ℕ) → Recorded → Stamped
stamped_by known r = record {
  actor = 1;
  op = op_by known r.call;
  first = r.first;
  last = r.last;
  at = None;
  reply = option_map (reply_by known) r.told;
}

-- the history that a recording stands for, in the order of its lines
abbrev pub history_of : List Recorded → List Stamped
history_of rs = map (stamped_by (known_in rs)) rs
