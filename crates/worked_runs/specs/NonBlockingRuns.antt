-- Worked runs of the non-blocking queue.
use Rattle.std.specs.Prelude.{List, [], ◌∷◌, ◌++◌, Some, None}
use Rattle.counted_ref.specs.Ref.{ref}
use Rattle.line_table.specs.declared.lines.Kind.TheVariants.{NonBlocking}
use Rattle.line_table.specs.declared.lines.Line.{Line}
use Rattle.line_table.specs.declared.lines.Line.TheVariants.{N1, N2, N3, N4, N5, F1, F2, F3, E2, E3, E5, E6, E7, E9, E17, D2, D3, D4, D5, D10, D12, D13}
use Rattle.history.specs.declared.operations.Op.TheVariants.{Enq, Deq}
use Rattle.history.specs.declared.operations.Reply.TheVariants.{Done, Value, Empty, Refused}
use Rattle.history.specs.declared.refusals.Refusal.TheVariants.{NoNode, WornOut, Busy}
use Rattle.history.specs.declared.refusals.WornWord.TheVariants.{Free as OfFree, Next as OfNext, Tail as OfTail}
use Rattle.line_steps.specs.Memory.{Fresh, Free, Head, Tail, Next}
use Rattle.worked_runs.specs.Seen.{Run, call, many, give, holds, names, stands, keeps, left}

-- nothing happened yet
abbrev pub no_moves : Run
no_moves =
    record {
      kind = NonBlocking;
      size = 3;
      limit = 100;
      actors = 2;
      moves = [];
      history = [];
      facts = [];
    }

-- a push onto the empty queue
abbrev pub push : Run
push =
    record no_moves {
      moves = call 1 (Enq 5) 10;
      history =
          record { actor = 1; op = Enq 5; first = 1; last = Some 10; at = Some 9; reply = Some Done } ∷
          [];
      facts = names Tail (ref 2 1) ∷ names (Next 1) (ref 2 1) ∷ holds Fresh 2 ∷ [];
    }

-- the lines that it goes through
abbrev pub lines_of_push : List Line
lines_of_push = N1 ∷ N2 ∷ N5 ∷ E2 ∷ E3 ∷ E5 ∷ E6 ∷ E7 ∷ E9 ∷ E17 ∷ []

-- a push, then a pop, which frees the dummy
abbrev pub push_and_pop : Run
push_and_pop =
    record no_moves {
      moves = call 1 (Enq 5) 10 ++ call 2 Deq 9;
      history =
          record { actor = 1; op = Enq 5; first = 1; last = Some 10; at = Some 9; reply = Some Done } ∷
          record { actor = 2; op = Deq; first = 11; last = Some 19; at = Some 16; reply = Some (Value (record { from = 1; body = 5 })) } ∷
          [];
      facts = names Head (ref 2 1) ∷ names Free (ref 1 1) ∷ names (Next 1) (ref 0 1) ∷ [];
    }

-- the lines that it goes through
abbrev pub lines_of_push_and_pop : List Line
lines_of_push_and_pop = N1 ∷ N2 ∷ N5 ∷ E2 ∷ E3 ∷ E5 ∷ E6 ∷ E7 ∷ E9 ∷ E17 ∷ D2 ∷ D3 ∷ D4 ∷ D5 ∷ D12 ∷ D13 ∷ F1 ∷ F2 ∷ F3 ∷ []

-- a node was taken again, and its next cleared: the count stays
abbrev pub reuse_cleared : Run
reuse_cleared =
    record no_moves {
      moves = call 1 (Enq 5) 10 ++ call 2 Deq 9 ++ call 1 (Enq 6) 6;
      history =
          record { actor = 1; op = Enq 5; first = 1; last = Some 10; at = Some 9; reply = Some Done } ∷
          record { actor = 2; op = Deq; first = 11; last = Some 19; at = Some 16; reply = Some (Value (record { from = 1; body = 5 })) } ∷
          record { actor = 1; op = Enq 6; first = 20; last = None; at = None; reply = None } ∷
          [];
      facts = names Free (ref 0 2) ∷ names (Next 1) (ref 0 1) ∷ [];
    }

-- a push that uses a freed node again
abbrev pub reuse : Run
reuse =
    record no_moves {
      moves = call 1 (Enq 5) 10 ++ call 2 Deq 9 ++ call 1 (Enq 6) 11;
      history =
          record { actor = 1; op = Enq 5; first = 1; last = Some 10; at = Some 9; reply = Some Done } ∷
          record { actor = 2; op = Deq; first = 11; last = Some 19; at = Some 16; reply = Some (Value (record { from = 1; body = 5 })) } ∷
          record { actor = 1; op = Enq 6; first = 20; last = Some 30; at = Some 29; reply = Some Done } ∷
          [];
      facts = names (Next 2) (ref 1 1) ∷ names Tail (ref 1 2) ∷ holds Fresh 2 ∷ [];
    }

-- the lines that it goes through
abbrev pub lines_of_reuse : List Line
lines_of_reuse = N1 ∷ N2 ∷ N5 ∷ E2 ∷ E3 ∷ E5 ∷ E6 ∷ E7 ∷ E9 ∷ E17 ∷ D2 ∷ D3 ∷ D4 ∷ D5 ∷ D12 ∷ D13 ∷ F1 ∷ F2 ∷ F3 ∷ N1 ∷ N2 ∷ N3 ∷ N4 ∷ E2 ∷ E3 ∷ E5 ∷ E6 ∷ E7 ∷ E9 ∷ E17 ∷ []

-- a pop of the empty queue, placed where it read null
abbrev pub empty_queue : Run
empty_queue =
    record no_moves {
      moves = call 1 Deq 4;
      history =
          record { actor = 1; op = Deq; first = 1; last = Some 4; at = Some 3; reply = Some Empty } ∷
          [];
    }

-- an actor stopped before its E9, while its tail was freed
abbrev pub reused_node_before : Run
reused_node_before =
    record no_moves {
      moves = call 1 (Enq 7) 8 ++ call 2 (Enq 8) 10 ++ call 2 Deq 9;
      history =
          record { actor = 1; op = Enq 7; first = 1; last = None; at = None; reply = None } ∷
          record { actor = 2; op = Enq 8; first = 9; last = Some 18; at = Some 17; reply = Some Done } ∷
          record { actor = 2; op = Deq; first = 19; last = Some 27; at = Some 24; reply = Some (Value (record { from = 2; body = 8 })) } ∷
          [];
      facts = stands 1 (Some E9) ∷ names (Next 1) (ref 0 1) ∷ [];
    }

-- the stale E9 fails by the count alone
abbrev pub reused_node_lost : Run
reused_node_lost =
    record no_moves {
      moves = call 1 (Enq 7) 8 ++ call 2 (Enq 8) 10 ++ call 2 Deq 9 ++ many 1 1;
      history =
          record { actor = 1; op = Enq 7; first = 1; last = None; at = None; reply = None } ∷
          record { actor = 2; op = Enq 8; first = 9; last = Some 18; at = Some 17; reply = Some Done } ∷
          record { actor = 2; op = Deq; first = 19; last = Some 27; at = Some 24; reply = Some (Value (record { from = 2; body = 8 })) } ∷
          [];
      facts = stands 1 (Some E5) ∷ [];
    }

-- after a stale E9 the push starts again and ends
abbrev pub reused_node : Run
reused_node =
    record no_moves {
      moves = call 1 (Enq 7) 8 ++ call 2 (Enq 8) 10 ++ call 2 Deq 9 ++ many 1 1 ++ many 1 5;
      history =
          record { actor = 1; op = Enq 7; first = 1; last = Some 33; at = Some 32; reply = Some Done } ∷
          record { actor = 2; op = Enq 8; first = 9; last = Some 18; at = Some 17; reply = Some Done } ∷
          record { actor = 2; op = Deq; first = 19; last = Some 27; at = Some 24; reply = Some (Value (record { from = 2; body = 8 })) } ∷
          [];
      facts = names (Next 3) (ref 2 1) ∷ names Tail (ref 2 2) ∷ [];
    }

-- a D13 that slept while its dummy was used again is lost by the count alone
abbrev pub stale_head : Run
stale_head =
    record no_moves {
      moves = call 1 (Enq 5) 10 ++ call 2 Deq 5 ++ call 1 Deq 9 ++ call 1 (Enq 6) 11 ++ call 1 Deq 9 ++ many 2 1 ++ many 2 4;
      history =
          record { actor = 1; op = Enq 5; first = 1; last = Some 10; at = Some 9; reply = Some Done } ∷
          record { actor = 2; op = Deq; first = 11; last = Some 49; at = Some 48; reply = Some Empty } ∷
          record { actor = 1; op = Deq; first = 16; last = Some 24; at = Some 21; reply = Some (Value (record { from = 1; body = 5 })) } ∷
          record { actor = 1; op = Enq 6; first = 25; last = Some 35; at = Some 34; reply = Some Done } ∷
          record { actor = 1; op = Deq; first = 36; last = Some 44; at = Some 41; reply = Some (Value (record { from = 1; body = 6 })) } ∷
          [];
    }

-- a pop swings the tail that an unfinished push left behind, and takes its value
abbrev pub swung_by_a_pop : Run
swung_by_a_pop =
    record no_moves {
      moves = call 1 (Enq 5) 9 ++ call 2 Deq 14;
      history =
          record { actor = 1; op = Enq 5; first = 1; last = None; at = Some 9; reply = None } ∷
          record { actor = 2; op = Deq; first = 10; last = Some 23; at = Some 20; reply = Some (Value (record { from = 1; body = 5 })) } ∷
          [];
    }

-- the lines that it goes through
abbrev pub lines_of_swung_by_a_pop : List Line
lines_of_swung_by_a_pop = N1 ∷ N2 ∷ N5 ∷ E2 ∷ E3 ∷ E5 ∷ E6 ∷ E7 ∷ E9 ∷ D2 ∷ D3 ∷ D4 ∷ D5 ∷ D10 ∷ D2 ∷ D3 ∷ D4 ∷ D5 ∷ D12 ∷ D13 ∷ F1 ∷ F2 ∷ F3 ∷ []

-- the late swing of the tail is lost, and the push is done
abbrev pub lagging_tail : Run
lagging_tail =
    record no_moves {
      moves = call 1 (Enq 5) 9 ++ call 2 Deq 14 ++ many 1 1;
      history =
          record { actor = 1; op = Enq 5; first = 1; last = Some 24; at = Some 9; reply = Some Done } ∷
          record { actor = 2; op = Deq; first = 10; last = Some 23; at = Some 20; reply = Some (Value (record { from = 1; body = 5 })) } ∷
          [];
    }

-- an empty reply is placed where null was read, before a push that ended earlier
abbrev pub old_empty : Run
old_empty =
    record no_moves {
      moves = call 1 Deq 3 ++ call 2 (Enq 9) 10 ++ many 1 1;
      history =
          record { actor = 1; op = Deq; first = 1; last = Some 14; at = Some 3; reply = Some Empty } ∷
          record { actor = 2; op = Enq 9; first = 4; last = Some 13; at = Some 12; reply = Some Done } ∷
          [];
    }

-- a push is refused while no node is left, and is done after a pop
abbrev pub no_node : Run
no_node =
    record no_moves {
      size = 2;
      actors = 1;
      moves = call 1 (Enq 1) 10 ++ call 1 (Enq 2) 2 ++ call 1 Deq 9 ++ call 1 (Enq 2) 11;
      history =
          record { actor = 1; op = Enq 1; first = 1; last = Some 10; at = Some 9; reply = Some Done } ∷
          record { actor = 1; op = Enq 2; first = 11; last = Some 12; at = Some 12; reply = Some (Refused NoNode) } ∷
          record { actor = 1; op = Deq; first = 13; last = Some 21; at = Some 18; reply = Some (Value (record { from = 1; body = 1 })) } ∷
          record { actor = 1; op = Enq 2; first = 22; last = Some 32; at = Some 31; reply = Some Done } ∷
          [];
    }

-- the free list is worn out
abbrev pub worn_free : Run
worn_free =
    record no_moves {
      limit = 1;
      actors = 1;
      moves = call 1 (Enq 1) 10 ++ call 1 Deq 9 ++ call 1 (Enq 2) 2;
      history =
          record { actor = 1; op = Enq 1; first = 1; last = Some 10; at = Some 9; reply = Some Done } ∷
          record { actor = 1; op = Deq; first = 11; last = Some 19; at = Some 16; reply = Some (Value (record { from = 1; body = 1 })) } ∷
          record { actor = 1; op = Enq 2; first = 20; last = Some 21; at = Some 21; reply = Some (Refused (WornOut OfFree)) } ∷
          [];
    }

-- a push that links behind a worn tail skips the swing
abbrev pub swing_skipped : Run
swing_skipped =
    record no_moves {
      limit = 1;
      actors = 1;
      moves = call 1 (Enq 1) 10 ++ call 1 (Enq 2) 9;
      history =
          record { actor = 1; op = Enq 1; first = 1; last = Some 10; at = Some 9; reply = Some Done } ∷
          record { actor = 1; op = Enq 2; first = 11; last = Some 19; at = Some 19; reply = Some Done } ∷
          [];
      facts = names Tail (ref 2 1) ∷ names (Next 2) (ref 3 1) ∷ [];
    }

-- with a worn tail that lags, a push is refused and keeps its node in the pocket
abbrev pub worn_tail : Run
worn_tail =
    record no_moves {
      size = 4;
      limit = 1;
      actors = 1;
      moves = call 1 (Enq 1) 10 ++ call 1 (Enq 2) 9 ++ call 1 (Enq 3) 8;
      history =
          record { actor = 1; op = Enq 1; first = 1; last = Some 10; at = Some 9; reply = Some Done } ∷
          record { actor = 1; op = Enq 2; first = 11; last = Some 19; at = Some 19; reply = Some Done } ∷
          record { actor = 1; op = Enq 3; first = 20; last = Some 27; at = Some 27; reply = Some (Refused (WornOut OfTail)) } ∷
          [];
      facts = keeps 1 (Some (record { node = 4; mark = 0 })) ∷ [];
    }

-- giving up where the node is freed answers the value taken and pockets the node
abbrev pub value_kept : Run
value_kept =
    record no_moves {
      limit = 1;
      actors = 1;
      moves = call 1 (Enq 1) 10 ++ call 1 Deq 6 ++ give 1;
      history =
          record { actor = 1; op = Enq 1; first = 1; last = Some 10; at = Some 9; reply = Some Done } ∷
          record { actor = 1; op = Deq; first = 11; last = Some 17; at = Some 16; reply = Some (Value (record { from = 1; body = 1 })) } ∷
          [];
      facts = keeps 1 (Some (record { node = 1; mark = 1 })) ∷ [];
    }

-- a node whose next is worn is set aside
abbrev pub worn_next : Run
worn_next =
    record no_moves {
      limit = 1;
      actors = 1;
      moves = call 1 (Enq 1) 10 ++ call 1 Deq 6 ++ give 1 ++ call 1 (Enq 2) 2;
      history =
          record { actor = 1; op = Enq 1; first = 1; last = Some 10; at = Some 9; reply = Some Done } ∷
          record { actor = 1; op = Deq; first = 11; last = Some 17; at = Some 16; reply = Some (Value (record { from = 1; body = 1 })) } ∷
          record { actor = 1; op = Enq 2; first = 18; last = Some 19; at = Some 19; reply = Some (Refused (WornOut OfNext)) } ∷
          [];
      facts = keeps 1 None ∷ left 1 ∷ [];
    }

-- a push gives up, and the next pop frees its node first
abbrev pub push_given_up : Run
push_given_up =
    record no_moves {
      moves = call 1 (Enq 7) 8 ++ call 2 (Enq 8) 10 ++ many 1 1 ++ give 1 ++ call 1 Deq 12;
      history =
          record { actor = 1; op = Enq 7; first = 1; last = Some 20; at = Some 20; reply = Some (Refused Busy) } ∷
          record { actor = 2; op = Enq 8; first = 9; last = Some 18; at = Some 17; reply = Some Done } ∷
          record { actor = 1; op = Deq; first = 21; last = Some 32; at = Some 29; reply = Some (Value (record { from = 2; body = 8 })) } ∷
          [];
      facts = names Free (ref 1 2) ∷ names (Next 1) (ref 2 1) ∷ names (Next 2) (ref 0 0) ∷ [];
    }

-- a push meets a lagging tail and takes fifteen steps
abbrev pub longest_push : Run
longest_push =
    record no_moves {
      moves = call 1 (Enq 5) 3 ++ call 2 (Enq 6) 10 ++ call 2 Deq 9 ++ many 1 6 ++ call 2 (Enq 8) 15;
      history =
          record { actor = 1; op = Enq 5; first = 1; last = None; at = Some 28; reply = None } ∷
          record { actor = 2; op = Enq 6; first = 4; last = Some 13; at = Some 12; reply = Some Done } ∷
          record { actor = 2; op = Deq; first = 14; last = Some 22; at = Some 19; reply = Some (Value (record { from = 2; body = 6 })) } ∷
          record { actor = 2; op = Enq 8; first = 29; last = Some 43; at = Some 42; reply = Some Done } ∷
          [];
      facts = names Tail (ref 1 3) ∷ names (Next 2) (ref 1 1) ∷ [];
    }

-- a pop frees its pocket first, meets a lagging tail and takes seventeen steps
abbrev pub longest_pop : Run
longest_pop =
    record no_moves {
      moves = call 2 (Enq 7) 8 ++ call 1 (Enq 8) 9 ++ many 2 1 ++ give 2 ++ call 2 Deq 17;
      history =
          record { actor = 2; op = Enq 7; first = 1; last = Some 19; at = Some 19; reply = Some (Refused Busy) } ∷
          record { actor = 1; op = Enq 8; first = 9; last = None; at = Some 17; reply = None } ∷
          record { actor = 2; op = Deq; first = 20; last = Some 36; at = Some 33; reply = Some (Value (record { from = 1; body = 8 })) } ∷
          [];
      facts = names Free (ref 1 2) ∷ names Head (ref 3 1) ∷ [];
    }

-- with a worn tail that lags a pop is refused too
abbrev pub worn_counts : Run
worn_counts =
    record no_moves {
      limit = 2;
      actors = 1;
      moves = call 1 (Enq 1) 10 ++ call 1 Deq 9 ++ call 1 (Enq 2) 11 ++ call 1 Deq 7 ++ call 1 (Enq 3) 9 ++ call 1 Deq 4;
      history =
          record { actor = 1; op = Enq 1; first = 1; last = Some 10; at = Some 9; reply = Some Done } ∷
          record { actor = 1; op = Deq; first = 11; last = Some 19; at = Some 16; reply = Some (Value (record { from = 1; body = 1 })) } ∷
          record { actor = 1; op = Enq 2; first = 20; last = Some 30; at = Some 29; reply = Some Done } ∷
          record { actor = 1; op = Deq; first = 31; last = Some 37; at = Some 36; reply = Some (Value (record { from = 1; body = 2 })) } ∷
          record { actor = 1; op = Enq 3; first = 38; last = Some 46; at = Some 46; reply = Some Done } ∷
          record { actor = 1; op = Deq; first = 47; last = Some 50; at = Some 50; reply = Some (Refused (WornOut OfTail)) } ∷
          [];
    }
