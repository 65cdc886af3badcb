-- What the machine cites of the crates below it, in one place.
pub use Rattle.counted_ref.specs.Ref.{Ref, null, shut_ref, is_shut, IsSplit, IsRef, reserved_node, count_bits, count_mask, ref_word, ref, is_null, same_ref}
pub use Rattle.line_table.specs.declared.lines.Kind.{Kind}
pub use Rattle.line_table.specs.declared.lines.Kind.TheVariants.{NonBlocking, TwoLock}
pub use Rattle.line_table.specs.declared.lines.Line.{Line}
pub use Rattle.line_table.specs.declared.lines.Line.TheVariants.{N1, N2, N3, N4, N5, F1, F2, F3, E2, E3, E5, E6, E7, E9, E13, E17, D2, D3, D4, D5, D10, D12}
pub use Rattle.line_table.specs.declared.lines.Line.TheVariants.{D13, A1, A2, A3, A4, A5, A6, A7, B1, B2, B3, B4, B5, B6, S1, S2, S3, S4, S5, S6, S7, S8, S9}
pub use Rattle.line_table.specs.declared.lines.Section.{Section}
pub use Rattle.line_table.specs.Sections.{section_of}
pub use Rattle.history.specs.declared.refusals.WornWord.{WornWord}
pub use Rattle.history.specs.declared.refusals.WornWord.TheVariants.{Free as OfFree, Next as OfNext, Tail as OfTail, Head as OfHead}
pub use Rattle.history.specs.declared.refusals.Refusal.{Refusal}
pub use Rattle.history.specs.declared.refusals.Refusal.TheVariants.{Memory, BadSize, IdleActor, ActorBusy, NotHere, NoSuchActor, NoNode, WornOut, Busy, Closed}
pub use Rattle.history.specs.declared.operations.Op.{Op}
pub use Rattle.history.specs.declared.operations.Op.TheVariants.{Enq, Deq, Shut}
pub use Rattle.history.specs.declared.operations.Taken.{Taken}
pub use Rattle.history.specs.declared.operations.Reply.{Reply}
pub use Rattle.history.specs.declared.operations.Reply.TheVariants.{Done, Value, Empty, Refused}
pub use Rattle.history.specs.declared.operations.Stamped.{Stamped}
pub use Rattle.history.specs.declared.operations.Entry.{Entry}
pub use Rattle.history.specs.declared.operations.Entry.TheVariants.{Push, Pop, Shut as ShutEntry}
pub use Rattle.history.specs.Limits.{body_bits, actor_bits}
pub use Rattle.history.specs.Queue.{empty, Queue, response, front_of}
pub use Rattle.history.specs.Entries.{is_push, is_pop, Plays}
pub use Rattle.history.specs.History.{by_point, IsSequentialRun, queue_after, IsPlaced, leaves, inserted, Placement, IsLegal, point_or_zero, answer, AgreesWithQueue, AreApart}
pub use Rattle.line_steps.specs.declared.actors.Setup.{Setup}
pub use Rattle.line_steps.specs.Actors.{Node}
pub use Rattle.line_steps.specs.declared.actors.Held.{Held}
pub use Rattle.line_steps.specs.Actors.{Actor}
pub use Rattle.line_steps.specs.declared.actors.Told.{Told}
pub use Rattle.line_steps.specs.Outcomes.{Outcome, settled, with_told}
pub use Rattle.line_steps.specs.Steps.{memory_after}
pub use Rattle.line_steps.specs.Memory.{found, Shared, node_at, nobody, performed, blank, word, Word, Fresh, Free, Head, Tail, Tail_lock, Head_lock, Next}
pub use Rattle.line_steps.specs.Memory.{Value_of, Content, content, put, Action, load, store, clear, exchange, Found, same}
pub use Rattle.line_steps.specs.Lines.{action, outcome, gives_up, to_pocket, raised, raised_end, goes, ends, effect, empties_hand, sets_aside, with_node}
pub use Rattle.line_steps.specs.Lines.{dequeues, shuts, closed, left, left_with_node, freed, unlocked, busy_or, fills_hand}
pub use Rattle.line_steps.specs.Calls.{is_call, begun, from_pocket}
pub use Rattle.line_steps.specs.Rooms.{first_words, aside_after, first_memory, room_after}
pub use Rattle.line_steps.specs.Ready.{RegistersFit, ReadsFit}
