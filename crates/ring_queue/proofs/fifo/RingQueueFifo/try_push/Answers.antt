use Rattle.std.proofs.Common.{sym, ◌∙◌}
use mathlib.Core.Bool.{true≢false}
use Rattle.ring_queue.proofs.fifo.RingQueueFifo.try_push.Goals as goal

pub push_in-requires-clause-loaded : goal.push_in-requires-clause-loaded
push_in-requires-clause-loaded c = λ carried. absurd (true≢false (sym carried ∙ c.requires.seat.numbers))
