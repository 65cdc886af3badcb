-- What the crates above cite of the machine and of the line table's words.
pub use Rattle.line_steps.specs.declared.actors.Setup.{Setup}
pub use Rattle.line_steps.specs.declared.actors.Held.{Held}
pub use Rattle.line_steps.specs.Actors.{Actor}
pub use Rattle.line_steps.specs.Outcomes.{Outcome}
pub use Rattle.line_steps.specs.Memory.{Fresh as WordFresh, Free as WordFree, Head as WordHead, Tail as WordTail, Tail_lock as WordTailLock}
pub use Rattle.line_steps.specs.Memory.{Head_lock as WordHeadLock, Next as WordNext, Value_of as WordValue, Shared, Word, Content, node_at, found}
pub use Rattle.line_steps.specs.Memory.{word}
pub use Rattle.line_steps.specs.Lines.{action, outcome, raised, raised_end, with_node, dequeues, shuts, goes, worn, closed, left, left_with_node}
pub use Rattle.line_steps.specs.Lines.{fills_hand, empties_hand, freed, sets_aside, unlocked, gives_up, ends, to_pocket, busy_or}
pub use Rattle.line_steps.specs.Calls.{from_pocket}
pub use Rattle.line_steps.specs.Rooms.{aside_after}
pub use Rattle.line_steps.specs.Words.{value_of}
pub use Rattle.step_machine.specs.Words.{index, IsWord, memory_words}
pub use Rattle.step_machine.specs.Tables.{WordStep, load_at, store_at, and_at, exchange_at, word_index, word_step}
pub use Rattle.step_machine.specs.Machine.{World, actor_of, entry_or, rested, may_rest, IsReached}
pub use Rattle.step_machine.specs.Places.{IsChain, IsUntouched, IsQueued, IsFree, IsSetAside, set_aside, held, in_hand, in_pocket, one_if}
pub use Rattle.step_machine.specs.EachQueue.{HasCause}
