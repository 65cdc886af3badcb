-- Worked runs of the two-lock queue.
use Rattle.std.specs.Prelude.{List, [], ◌∷◌, ◌++◌, Some, None}
use Rattle.counted_ref.specs.Ref.{ref}
use Rattle.line_table.specs.declared.lines.Kind.TheVariants.{TwoLock}
use Rattle.line_table.specs.declared.lines.Line.{Line}
use Rattle.line_table.specs.declared.lines.Line.TheVariants.{N1, N2, N5, F1, F2, F3, A1, A2, A3, A4, A5, A6, A7, B1, B2, B3, B4, B5, B6}
use Rattle.history.specs.declared.operations.Op.TheVariants.{Enq, Deq}
use Rattle.history.specs.declared.operations.Reply.TheVariants.{Done, Value, Empty, Refused}
use Rattle.history.specs.declared.refusals.Refusal.TheVariants.{WornOut, Busy}
use Rattle.history.specs.declared.refusals.WornWord.TheVariants.{Head as OfHead}
use Rattle.line_steps.specs.Memory.{Free, Head, Tail, Tail_lock, Next}
use Rattle.worked_runs.specs.Seen.{Run, call, many, give, holds, names, stands}

-- no calls
abbrev pub empty : Run
empty =
    record {
      kind = TwoLock;
      size = 3;
      limit = 100;
      actors = 2;
      moves = [];
      history = [];
      facts = [];
    }

-- a push, then a pop by another actor
abbrev pub first_run : Run
first_run =
    record empty {
      moves = call 1 (Enq 5) 10 ++ call 2 Deq 9;
      history =
          record { actor = 1; op = Enq 5; first = 1; last = Some 10; at = Some 8; reply = Some Done } ∷
          record { actor = 2; op = Deq; first = 11; last = Some 19; at = Some 15; reply = Some (Value (record { from = 1; body = 5 })) } ∷
          [];
      facts = names Head (ref 2 1) ∷ names Tail (ref 2 0) ∷ names Free (ref 1 1) ∷ names (Next 1) (ref 0 0) ∷ [];
    }

-- the lines that it goes through
abbrev pub lines_of_first_run : List Line
lines_of_first_run = N1 ∷ N2 ∷ N5 ∷ A1 ∷ A2 ∷ A3 ∷ A4 ∷ A5 ∷ A6 ∷ A7 ∷ B1 ∷ B2 ∷ B3 ∷ B4 ∷ B5 ∷ B6 ∷ F1 ∷ F2 ∷ F3 ∷ []

-- three actors pass both locks, and a freed dummy is still named by Tail for a while
abbrev pub lock_held : Run
lock_held =
    record empty {
      actors = 3;
      moves = call 1 (Enq 5) 6 ++ call 2 (Enq 6) 6 ++ call 3 Deq 4 ++ many 1 2 ++ call 3 Deq 9 ++ many 1 2 ++ many 2 5;
      history =
          record { actor = 1; op = Enq 5; first = 1; last = Some 29; at = Some 18; reply = Some Done } ∷
          record { actor = 2; op = Enq 6; first = 7; last = Some 34; at = Some 32; reply = Some Done } ∷
          record { actor = 3; op = Deq; first = 13; last = Some 16; at = Some 15; reply = Some Empty } ∷
          record { actor = 3; op = Deq; first = 19; last = Some 27; at = Some 23; reply = Some (Value (record { from = 1; body = 5 })) } ∷
          [];
    }

-- an actor that finds the tail lock held stays at its line
abbrev pub lock_waited_for : Run
lock_waited_for =
    record empty {
      actors = 3;
      moves = call 1 (Enq 5) 6 ++ call 2 (Enq 6) 6;
      history =
          record { actor = 1; op = Enq 5; first = 1; last = None; at = None; reply = None } ∷
          record { actor = 2; op = Enq 6; first = 7; last = None; at = None; reply = None } ∷
          [];
      facts = stands 2 (Some A3) ∷ holds Tail_lock 1 ∷ [];
    }

-- the node that Tail names is out of the queue and free, before the push moves Tail
abbrev pub tail_behind : Run
tail_behind =
    record empty {
      actors = 3;
      moves = call 1 (Enq 5) 6 ++ call 2 (Enq 6) 6 ++ call 3 Deq 4 ++ many 1 2 ++ call 3 Deq 9;
      history =
          record { actor = 1; op = Enq 5; first = 1; last = None; at = Some 18; reply = None } ∷
          record { actor = 2; op = Enq 6; first = 7; last = None; at = None; reply = None } ∷
          record { actor = 3; op = Deq; first = 13; last = Some 16; at = Some 15; reply = Some Empty } ∷
          record { actor = 3; op = Deq; first = 19; last = Some 27; at = Some 23; reply = Some (Value (record { from = 1; body = 5 })) } ∷
          [];
      facts = names Tail (ref 1 0) ∷ names Free (ref 1 1) ∷ [];
    }

-- an actor stopped with the tail lock: a push gives up, and a pop finds the queue empty
abbrev pub stopped_holder : Run
stopped_holder =
    record empty {
      moves = call 1 (Enq 5) 6 ++ call 2 (Enq 6) 15 ++ give 2 ++ call 2 Deq 7;
      history =
          record { actor = 1; op = Enq 5; first = 1; last = None; at = None; reply = None } ∷
          record { actor = 2; op = Enq 6; first = 7; last = Some 22; at = Some 22; reply = Some (Refused Busy) } ∷
          record { actor = 2; op = Deq; first = 23; last = Some 29; at = Some 28; reply = Some Empty } ∷
          [];
    }

-- the head of the two-lock queue is worn out
abbrev pub worn_head : Run
worn_head =
    record empty {
      size = 4;
      limit = 1;
      actors = 1;
      moves = call 1 (Enq 1) 10 ++ call 1 (Enq 2) 10 ++ call 1 Deq 9 ++ call 1 Deq 5;
      history =
          record { actor = 1; op = Enq 1; first = 1; last = Some 10; at = Some 8; reply = Some Done } ∷
          record { actor = 1; op = Enq 2; first = 11; last = Some 20; at = Some 18; reply = Some Done } ∷
          record { actor = 1; op = Deq; first = 21; last = Some 29; at = Some 25; reply = Some (Value (record { from = 1; body = 1 })) } ∷
          record { actor = 1; op = Deq; first = 30; last = Some 34; at = Some 34; reply = Some (Refused (WornOut OfHead)) } ∷
          [];
    }
