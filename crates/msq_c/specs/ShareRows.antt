-- The shares of queues of numbers, and of three words, that the handles of C own.
use Rattle.std.specs.Prelude.{ℕ}
use denote.Builtin.{u64, unit}
use denote.RattleType.{RattleType}
use Rattle.carriers.specs.declared.numbered.Numbers.{Numbers}
use Rattle.carriers.specs.contracts.numbered.Numbers as numbers_type
use Rattle.history.specs.contracts.operations.Body as body
use Rattle.node_arena.specs.contracts.seats.Seat as seat
use Rattle.picked.specs.contracts.either.EitherQueue as either
use Rattle.picked.specs.contracts.either.EitherSeat as either_seat
use Rattle.picked.specs.contracts.kind_values.AnyValues as any
use Rattle.picked.specs.contracts.picked.PickedQueue as picked
use Rattle.ring_queue.specs.contracts.queue.RingQueue as ring_queue
use Rattle.ring_queue.specs.contracts.seats.Seat as ring_seat
use Rattle.ring_values.specs.contracts.queue.RingValues as ring_values
use Rattle.msq_c.specs.contracts.share_blocks.ShareBlock as block
use Rattle.msq_c.specs.contracts.words.MsqWords as words_type
use Rattle.msq_c.specs.declared.share_blocks.ShareBlock.{ShareBlock}
use Rattle.msq_c.specs.declared.words.MsqWords.{MsqWords}
use Rattle.msq_c.specs.Blocks.{numbers}
use Rattle.msq_c.specs.Queues.{Queue, SeatOf}
use Rattle.msq_c.specs.WordsQueues.{WordsQueue, WordsSeat, words}

-- a share of a queue of numbers of any kind
abbrev pub NumbersShare : Type 0
NumbersShare = ShareBlock (Numbers Queue) ℕ SeatOf numbers

-- the types in memory of such a queue, of its seats, and of the share
abbrev pub numbers_queue : RattleType
numbers_queue = numbers_type.the_row (either.the_row picked.the_row (ring_queue.the_row unit))

abbrev pub numbers_seat : RattleType
numbers_seat = either_seat.the_row (seat.the_row unit) (ring_seat.the_row unit)

abbrev pub numbers_row : RattleType
numbers_row = block.the_row numbers_queue body.the_row numbers_seat numbers

-- a share of a queue of three words of any kind
abbrev pub WordsShare : Type 0
WordsShare = ShareBlock WordsQueue MsqWords WordsSeat words

-- the same types
abbrev pub words_queue : RattleType
words_queue = either.the_row (any.the_row words_type.the_row) (ring_values.the_row words_type.the_row)

abbrev pub words_seat : RattleType
words_seat = either_seat.the_row (seat.the_row words_type.the_row) (ring_seat.the_row words_type.the_row)

abbrev pub words_row : RattleType
words_row = block.the_row words_queue words_type.the_row words_seat words
