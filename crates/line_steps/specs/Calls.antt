-- How an actor begins a call, and how a call ends with a reply.
use Rattle.std.specs.Prelude.{ℕ, ◌^◌, Bool, true, Option, Some, None, nat_lt}
use Rattle.history.specs.Limits.{body_bits}
use Rattle.line_table.specs.declared.lines.Kind.{Kind}
use Rattle.line_table.specs.declared.lines.Line.{Line}
use Rattle.line_table.specs.declared.lines.Line.TheVariants.{N1, F1}
use Rattle.history.specs.declared.operations.Op.{Op}
use Rattle.history.specs.declared.operations.Op.TheVariants.{Enq, Deq, Shut}
use Rattle.line_steps.specs.declared.actors.Held.{Held}
use Rattle.line_steps.specs.Actors.{Actor}
use Rattle.line_steps.specs.Lines.{fills_hand, with_node, dequeues, shuts}

-- whether a call can be made: a body is below 2^48
abbrev pub is_call : Op → Bool
is_call (Enq body) = nat_lt body (2 ^ body_bits)
is_call Deq = true
is_call Shut = true

-- a call with a full pocket starts at a line of its own, with the node and its mark in the hand
abbrev pub from_pocket : Line → Option Held → Actor → Actor
from_pocket l None a = a
from_pocket l (Some held) a = record (fills_hand held.node held.mark a) { line = Some l; pocket = None }

-- an actor that begins a call; a shut leaves the pocket as it is
abbrev pub begun : Kind → (me : ℕ) → Op → Actor → Actor
begun kind me (Enq body) a =
    from_pocket (with_node kind) a.pocket
    (record a { line = Some N1; op = Enq body; val = record { from = me; body = body }; due = None; entry = None })
begun kind me Deq a =
    from_pocket F1 a.pocket (record a { line = Some (dequeues kind); op = Deq; due = None; entry = None })
begun kind me Shut a = record a { line = Some (shuts kind); op = Shut; due = None; entry = None }
