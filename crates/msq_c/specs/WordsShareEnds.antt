-- The end of a queue of three words whose calls are stepped, by handles: the memory that it needs, and what it answers.
use Rattle.std.specs.Prelude.{ℕ, List, map, Result}
use Rattle.carriers.specs.declared.rests.RestOf.{RestOf}
use Rattle.carriers.specs.Ends.{ClosesOf}
use Rattle.carriers.specs.Rests.{left_in}
use Rattle.node_arena.specs.declared.seats.Seat.{Seat}
use Rattle.value_queue.specs.declared.ends.Room.{Room}
use Rattle.value_queue.specs.Ends as arena
use Rattle.ring_queue.specs.declared.seats.Seat.{Seat as RingSeat}
use Rattle.ring_values.specs.declared.ends.Room.{Room as RingRoom}
use Rattle.ring_values.specs.Ends as ring
use Rattle.picked.specs.declared.either_seats.EitherRoom.{EitherRoom}
use Rattle.picked.specs.AnyValues.{arena_of}
use Rattle.picked.specs.EitherEnds.{HasEitherRoom}
use Rattle.msq_c.specs.declared.rests.MsqRest.{MsqRest}
use Rattle.msq_c.specs.declared.troubles.Trouble.{Trouble}
use Rattle.msq_c.specs.declared.words.MsqItem.{MsqItem}
use Rattle.msq_c.specs.declared.words.MsqWords.{MsqWords}
use Rattle.msq_c.specs.declared.words_share_handles.MsqWordsShare.{MsqWordsShare}
use Rattle.msq_c.specs.Rests.{AnswersEnd}
use Rattle.msq_c.specs.ShareEnds.{ClosesHandles, RefusesClose}
use Rattle.msq_c.specs.Values.{AreLaid}
use Rattle.msq_c.specs.WordEnds.{AreEmpty}
use Rattle.msq_c.specs.WordRests.{IsRest}
use Rattle.msq_c.specs.Words.{item_of}
use Rattle.msq_c.specs.WordsQueues.{WordsQueue, WordsSeat, WordsEnd, known_of, permits_of, EndsWith, IsEnough}
use Rattle.msq_c.specs.WordsShares.{is_full, block_at}

-- room for what is left of a queue of three words as it is ended
abbrev pub WordsRoom : Type 0
WordsRoom = EitherRoom (Room MsqWords) (Seat MsqWords) (RingRoom MsqWords) (RingSeat MsqWords)

-- there is room for the end of a queue by so many seats, which are enough for it
pub record has_words_room (q : WordsQueue) (count : ℕ) (room : WordsRoom) : Type 0 where
  pub enough : IsEnough q count
  pub rest : HasEitherRoom (λ p. arena.HasRoom (arena_of p)) ring.HasRoom q count room

-- a queue was closed by these seats, with this rest
abbrev pub closes_words : WordsQueue → List WordsSeat → RestOf MsqWords → Type 0
closes_words q seats rest = ClosesOf (permits_of q) (map known_of seats) rest

-- this is the end of a queue, and it leaves this rest
abbrev pub ends_words : WordsQueue → WordsEnd → RestOf MsqWords → Type 0
ends_words q end rest = EndsWith q end rest

-- what the end of a queue of three words answers: C gets of each value left an item
abbrev pub AnswersClose : (slots slots' : List MsqWordsShare) (vs vs' : List MsqItem) (told told' : MsqRest) → Result (Unit {0}) Trouble → Type 0
AnswersClose = AnswersEnd (ClosesHandles block_at closes_words ends_words) (AreEmpty is_full) (RefusesClose is_full block_at) IsRest (λ rest. AreLaid item_of (left_in rest))
