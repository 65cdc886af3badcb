-- The seats of queues of three words that the handles of C own.
use denote.RattleType.{RattleType}
use Rattle.node_arena.specs.contracts.seats.Seat as seat
use Rattle.picked.specs.contracts.kind_values.AnyValues as any
use Rattle.picked.specs.contracts.kind_values.AnyValuesCarrier.TheImpl as carrier
use Rattle.msq_c.specs.contracts.words.MsqWords as words
use Rattle.msq_c.specs.contracts.word_blocks.WordsBlock as own
use Rattle.msq_c.specs.declared.words.MsqWords.{MsqWords}
use Rattle.msq_c.specs.WordBlocks.{Own}

-- the type of the seats of a queue of such values, in memory
abbrev pub row_of : RattleType → RattleType
row_of R = own.the_row (any.the_row R) R (seat.the_row R) (carrier.ghosts R)

-- a seat of a queue of three words
abbrev pub OwnThree : Type 0
OwnThree = Own MsqWords (carrier.ghosts words.the_row)

-- its type in memory
abbrev pub three_row : RattleType
three_row = row_of words.the_row
