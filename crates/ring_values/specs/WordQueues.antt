-- A queue of words on a ring.
use Rattle.std.specs.Prelude.{ℕ, List, [], ◌∷◌, take, drop}
use Rattle.history.specs.declared.operations.Taken.{Taken}
use Rattle.history.specs.Seats.{Permit}
use Rattle.carriers.specs.declared.items.ItemOf.{ItemOf}
use Rattle.ring_queue.specs.declared.queue.RingQueue.{RingQueue}
use Rattle.ring_queue.specs.declared.seats.Seat.{Seat}
use Rattle.ring_queue.specs.Plans.{Layout}
use Rattle.ring_queue.specs.Ends.{HasRoomFor, HasWordRoom}
use Rattle.ring_queue.specs.PlacedSeats.{IsWordSeat}
use Rattle.ring_queue.specs.Queues.{permits_in}
use Rattle.ring_values.specs.declared.word_ends.WordRoom.{WordRoom}
use Rattle.ring_values.specs.declared.words.RingWords.{RingWords}

module _ {K : ℕ} where
  -- the ring of a queue
  abbrev pub ring_in : RingWords K → RingQueue (Unit {0})
  ring_in q = q.ring

  -- what it was made for
  abbrev pub plan_in : RingWords K → Layout
  plan_in q = q.ring.plan

  -- what each of its seats may do
  abbrev pub permits_at : RingWords K → List Permit
  permits_at q = permits_in (ring_in q)

  -- a seat of a queue, in no call
  abbrev pub IsSeat : RingWords K → Seat (Unit {0}) → Type 0
  IsSeat q s = IsWordSeat (ring_in q) s

-- there is room for a number, the words and the value of each slot of its ring
pub record HasRoomAt (K : ℕ) (q : RingWords K) (room : WordRoom K) : Type 0 where
  pub numbers : HasRoomFor (ring_in q) room.numbers
  pub words : HasWordRoom (ring_in q) room.words
  pub values : HasRoomFor (ring_in q) room.values

-- words, so many of each value, with the seat that its number names
abbrev pub joined : (width : ℕ) → List Taken → List ℕ → List (ItemOf (List ℕ))
joined width [] ws = []
joined width (n ∷ ns) ws = record { from = n.from; value = take width ws } ∷ joined width ns (drop width ws)
