-- Kinds of operations, by what they were answered.
use Rattle.std.specs.Prelude.{ℕ, Bool, true, false, List, codes, Option, Some, None}
use Rattle.history.specs.declared.operations.Reply.{Reply}
use Rattle.history.specs.declared.operations.Reply.TheVariants.{Done as OfDone, Value as OfValue, Empty as OfEmpty, Refused as OfRefused}
use Rattle.report.specs.declared.kinds.Kind.{Kind}
use Rattle.report.specs.declared.kinds.Kind.TheVariants.{Done, Value, Empty, Refused, Unfinished}

-- the kind of an operation with this reply
abbrev pub kind_of : Option Reply → Kind
kind_of None = Unfinished
kind_of (Some OfDone) = Done
kind_of (Some (OfValue value)) = Value
kind_of (Some OfEmpty) = Empty
kind_of (Some (OfRefused refusal)) = Refused

-- the name of a kind
abbrev pub kind_text : Kind → List ℕ
kind_text Done = codes "done"
kind_text Value = codes "value"
kind_text Empty = codes "empty"
kind_text Refused = codes "refused"
kind_text Unfinished = codes "unfinished"

-- whether two kinds are the same
abbrev pub same_kind : Kind → Kind → Bool
same_kind Done Done = true
same_kind Value Value = true
same_kind Empty Empty = true
same_kind Refused Refused = true
same_kind Unfinished Unfinished = true
same_kind _ _ = false
