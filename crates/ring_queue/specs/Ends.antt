-- The end of a ring: what its seats bring with them.
use Rattle.std.specs.Prelude.{◌≡◌, ℕ, ◌*◌, ◌≤◌, false, IsTrue, List, [], length, map, Option, vec_capacity}
use Rattle.std.specs.List.{All}
use mathlib.Core.List.{IsPrefix}
use Rattle.std.specs.Global.{Vec}
use Rattle.atomic_table.specs.Seated.{TableId}
use Rattle.atomic_table.specs.declared.shared.Seat.{Seat as Token}
use Rattle.history.specs.declared.rests.Rest.{Rest}
use Rattle.history.specs.Rests.{left_of, was_shut_of}
use Rattle.history.specs.Ends.{Closes}
use Rattle.node_arena.specs.Beside.{AllBegin}
use Rattle.node_arena.specs.Deeds.{Deed, Item, Runs, Matches}
use Rattle.node_arena.specs.ValuesLeft.{values_of, all_lie}
use Rattle.ring_queue.specs.declared.queue.RingQueue.{RingQueue}
use Rattle.ring_queue.specs.declared.seats.Seat.{Seat}
use Rattle.ring_queue.specs.Beside.{Beside, HasNone}
use Rattle.ring_queue.specs.Knowledge.{gathered, seated}
use Rattle.ring_queue.specs.Steps.{Rests}
use Rattle.ring_queue.specs.Seats.{deeds_of, known_of, view}
use Rattle.ring_queue.specs.Queues.{permits_in}
use Rattle.ring_queue.specs.Placed.{number_of, parts_of}
use Rattle.ring_queue.specs.PlacedSeats.{said_by}

-- a seat's token is one of a table, and knows what its seat knows, which is in no call; no slot is out with it
pub record HasToken {T : Type 0} (t : TableId) (s : Seat T) : Type 0 where
  pub table : s.token.table_id ≡ t
  pub seat : s.token.me.0.plain ≡ seated (view s)
  pub none_out : HasNone s.token.me
  pub rests : Rests (view s).stage

-- what each of these seats had seen of the values begins their history
abbrev pub EachBegins : {T : Type 0} → List (Seat T) → List (Deed T) → Type 0
EachBegins seats deeds = All (λ s. IsPrefix (deeds_of s) deeds) seats

-- what each of these seats had seen of values that lie in their places begins their history
abbrev pub EachSaid : {T : Type 0} → List (Seat T) → List (Deed (List ℕ)) → Type 0
EachSaid seats deeds = All (λ s. IsPrefix (said_by s) deeds) seats

-- a token of a table has taken in those of these seats: a history that begins with all that it took in begins with what each of
-- them had seen; no slot is out with it
pub record HasGathered {T : Type 0} (t : TableId) (k : Token (Option T) (Beside T)) (seats : List (Seat T)) : Type 0 where
  pub table : k.table_id ≡ t
  pub seat : k.me.0.plain ≡ gathered (map view seats)
  pub held : k.me.1 ≡ []
  pub others : (deeds : List (Deed T)) → AllBegin k.me.0.others deeds → EachBegins seats deeds
  pub said : (deeds : List (Deed (List ℕ))) → AllBegin k.me.0.placing.others deeds → EachSaid seats deeds

-- a list is empty and has room for a value of each slot of a ring
pub record HasRoomFor {T A : Type 0} (q : RingQueue T) (room : Vec A) : Type 0 where
  pub empty : room.items ≡ []
  pub enough : q.plan.slots ≤ vec_capacity room

-- a ring that carries values was closed by these seats, with these numbers left, and what lies in each slot: of the numbers that
-- says what it says of any queue. The history of the values goes one by one with that of the numbers, begins with what each seat had
-- seen of it, and leads to the values that lie in the slots of the numbers left, of which there are no more than slots
pub record ClosesValues {T : Type 0} (q : RingQueue T) (seats : List (Seat T)) (rest : Rest) (inside : List (Option T)) : Type 0 where
  pub closes : Closes (permits_in q) (map known_of seats) rest
  pub deeds : List (Deed T)
  pub matches : Matches closes.history deeds
  pub runs : Runs [] false deeds (values_of inside (left_of rest)) (was_shut_of rest)
  pub begins : EachBegins seats deeds
  pub few : length (left_of rest) ≤ q.plan.slots
  pub lie : IsTrue (all_lie inside (left_of rest))

-- a list is empty and has room for the words of a value of each slot of a ring
pub record HasWordRoom {T : Type 0} (q : RingQueue T) (room : Vec ℕ) : Type 0 where
  pub empty : room.items ≡ []
  pub enough : q.plan.slots * q.plan.width ≤ vec_capacity room

-- a ring whose values lie in their places was closed by these seats, with the words of these values left, one value after another:
-- of the numbers that says what it says of any queue. The history of the values goes one by one with that of the numbers, begins with
-- what each seat had seen of it, and leads to the values left, in order, each of the seat that pushed it, no more than slots, each of
-- as many words as the ring was made for
pub record ClosesWords {T : Type 0} (q : RingQueue T) (seats : List (Seat T)) (rest : Rest) (values : List ℕ) : Type 0 where
  pub closes : Closes (permits_in q) (map known_of seats) rest
  pub deeds : List (Deed (List ℕ))
  pub items : List (Item (List ℕ))
  pub matches : Matches closes.history deeds
  pub runs : Runs [] false deeds items (was_shut_of rest)
  pub begins : EachSaid seats deeds
  pub numbers : left_of rest ≡ map number_of items
  pub few : length (left_of rest) ≤ q.plan.slots
  pub told : values ≡ parts_of items
  pub widths : All (λ x. length x.value ≡ q.plan.width) items
