-- Histories that are judged, most of them no.
use Rattle.std.specs.Prelude.{List, [], ◌∷◌, Some, None}
use Rattle.history.specs.declared.refusals.Refusal.TheVariants.{Closed}
use Rattle.history.specs.declared.operations.Op.TheVariants.{Enq, Deq, Shut}
use Rattle.history.specs.declared.operations.Reply.TheVariants.{Done, Value, Empty, Refused}
use Rattle.history.specs.declared.operations.Stamped.{Stamped}

-- an empty reply placed where it was told, after a push
abbrev pub late_empty : List Stamped
late_empty =
    record { actor = 1; op = Deq; first = 1; last = Some 14; at = Some 14; reply = Some Empty } ∷
    record { actor = 2; op = Enq 9; first = 4; last = Some 13; at = Some 12; reply = Some Done } ∷ []

-- two operations at one point
abbrev pub shared_point : List Stamped
shared_point =
    record { actor = 1; op = Enq 1; first = 1; last = Some 4; at = Some 3; reply = Some Done } ∷
    record { actor = 2; op = Enq 2; first = 2; last = Some 5; at = Some 3; reply = Some Done } ∷ []

-- a point after the last step
abbrev pub outside_span : List Stamped
outside_span = record { actor = 1; op = Enq 1; first = 1; last = Some 4; at = Some 5; reply = Some Done } ∷ []

-- an empty reply with a value in the queue
abbrev pub wrong_empty : List Stamped
wrong_empty =
    record { actor = 1; op = Enq 1; first = 1; last = Some 4; at = Some 2; reply = Some Done } ∷
    record { actor = 2; op = Deq; first = 5; last = Some 9; at = Some 6; reply = Some Empty } ∷ []

-- a last step and no reply
abbrev pub no_reply : List Stamped
no_reply = record { actor = 1; op = Deq; first = 1; last = Some 4; at = Some 3; reply = None } ∷ []

-- a reply and no last step
abbrev pub no_last : List Stamped
no_last = record { actor = 1; op = Deq; first = 1; last = None; at = Some 3; reply = Some Empty } ∷ []

-- complete and without a point
abbrev pub no_point : List Stamped
no_point = record { actor = 1; op = Enq 1; first = 1; last = Some 4; at = None; reply = Some Done } ∷ []

-- a point before the first step
abbrev pub early_point : List Stamped
early_point = record { actor = 1; op = Enq 1; first = 5; last = None; at = Some 3; reply = None } ∷ []

-- unfinished and without effect
abbrev pub unfinished : List Stamped
unfinished = record { actor = 1; op = Enq 1; first = 5; last = None; at = None; reply = None } ∷ []

-- a push after a shut, which is refused, and then a pop of the value pushed before and one of the empty queue
abbrev pub shut_then_drained : List Stamped
shut_then_drained =
    record { actor = 1; op = Enq 5; first = 1; last = Some 10; at = Some 9; reply = Some Done } ∷
    record { actor = 2; op = Shut; first = 11; last = Some 14; at = Some 14; reply = Some Done } ∷
    record { actor = 1; op = Enq 6; first = 15; last = Some 22; at = Some 22; reply = Some (Refused Closed) } ∷
    record { actor = 2; op = Deq; first = 23; last = Some 31; at = Some 28; reply = Some (Value (record { from = 1; body = 5 })) } ∷
    record { actor = 2; op = Deq; first = 32; last = Some 35; at = Some 35; reply = Some (Refused Closed) } ∷ []

-- a push that a shut overtakes
abbrev pub overtaken_push : List Stamped
overtaken_push =
    record { actor = 1; op = Enq 7; first = 1; last = Some 16; at = Some 16; reply = Some (Refused Closed) } ∷
    record { actor = 2; op = Shut; first = 9; last = Some 12; at = Some 12; reply = Some Done } ∷ []

-- a shut that a push overtakes
abbrev pub overtaken_shut : List Stamped
overtaken_shut =
    record { actor = 1; op = Enq 5; first = 1; last = Some 11; at = Some 9; reply = Some Done } ∷
    record { actor = 2; op = Shut; first = 8; last = Some 15; at = Some 14; reply = Some Done } ∷
    record { actor = 1; op = Enq 6; first = 16; last = Some 24; at = Some 24; reply = Some (Refused Closed) } ∷ []

-- a push after a shut that is told done
abbrev pub pushed_after_shut : List Stamped
pushed_after_shut =
    record { actor = 1; op = Shut; first = 1; last = Some 4; at = Some 4; reply = Some Done } ∷
    record { actor = 1; op = Enq 1; first = 5; last = Some 14; at = Some 13; reply = Some Done } ∷ []

-- a pop of a shut queue that is refused though a value is left
abbrev pub closed_too_early : List Stamped
closed_too_early =
    record { actor = 1; op = Enq 5; first = 1; last = Some 10; at = Some 9; reply = Some Done } ∷
    record { actor = 2; op = Shut; first = 11; last = Some 14; at = Some 14; reply = Some Done } ∷
    record { actor = 2; op = Deq; first = 15; last = Some 18; at = Some 18; reply = Some (Refused Closed) } ∷ []
