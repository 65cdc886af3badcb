-- What a seat knows of values whose words lie in their places, and what calls do with these.
use Rattle.std.specs.Prelude.{◌≡◌, ℕ, ◌^◌, ◌<◌, true, List, [], ◌∷◌, ◌++◌, Option, Some, None}
use Rattle.atomic_table.specs.Table.{Me}
use Rattle.history.specs.declared.operations.Taken.{Taken}
use Rattle.node_arena.specs.Deeds.{Item, item, Deed, pushed, popped, closed}
use Rattle.ring_queue.specs.declared.queue.RingQueue.{RingQueue}
use Rattle.ring_queue.specs.declared.seats.Seat.{Seat}
use Rattle.ring_queue.specs.declared.pushes.PushTurn.{PushTurn}
use Rattle.ring_queue.specs.declared.pushes.PushTurn.TheVariants.{Done, Stopped, Failed}
use Rattle.ring_queue.specs.declared.pops.Turn.{Turn}
use Rattle.ring_queue.specs.declared.pops.Turn.TheVariants.{Took, Empty, Closed, Failed as Missed}
use Rattle.ring_queue.specs.Plans.{Layout}
use Rattle.ring_queue.specs.Knowledge.{SeatView, claimed, knows}
use Rattle.ring_queue.specs.Steps.{PlacesClaimed, FrontsTaken, ShutMade, taken_in}
use Rattle.ring_queue.specs.Placed.{Hand, free, storing, number_of, Says}
use Rattle.ring_queue.specs.Beside.{Beside, StoodFirst, TellsQuiet, placed_of}
use Rattle.ring_queue.specs.Seats.{IsAtRest, KeepsSlots, view}

-- what a seat has seen of the history of values that lie in their places
abbrev pub said_by : {T : Type 0} → Seat T → List (Deed (List ℕ))
said_by s = s.token.me.0.placing.deeds

-- the value that a seat has at hand
abbrev pub hand_of : {T : Type 0} → Seat T → Hand
hand_of s = s.token.me.0.placing.hand

-- a seat in no call of a ring whose values lie in their places
pub record IsWordSeat {T : Type 0} (q : RingQueue T) (s : Seat T) : Type 0 where
  pub ready : IsAtRest q.plan q.table.shared.table_id s
  pub placed : q.plan.placed ≡ true

-- a seat that claimed one place has stored all words of its value there, which are so many
abbrev pub HasStored : {T : Type 0} → (width : ℕ) → Seat T → Type 0
HasStored width s = (value : List ℕ) × (p : ℕ) × (x : Option Taken) × ((view s).stage ≡ claimed p (x ∷ [])) × (hand_of s ≡ storing value width)

-- what a seat has seen of values goes on from what it had seen, and ends with this deed of its own
pub record AddsSaid {T : Type 0} (s t : Seat T) (d : Deed (List ℕ)) : Type 0 where
  pub between : List (Deed (List ℕ))
  pub deeds : said_by t ≡ (said_by s ++ between) ++ d ∷ []

-- a seat popped this: its pop is the last deed that it has seen, and what it had then seen leads to a queue with this in front
pub record PopsSaid {T : Type 0} (s t : Seat T) (front : Item (List ℕ)) : Type 0 where
  pub adds : AddsSaid s t (popped (view s).number front)
  pub stood : ∥ StoodFirst (said_by s ++ adds.between) front ∥₁

-- what a turn of a push does with its value
abbrev pub SaysTurn : {T : Type 0} → (s t : Seat T) → (value : List ℕ) → PushTurn → Type 0
SaysTurn s t value Done = AddsSaid s t (pushed (view s).number value)
SaysTurn s t value (Stopped refusal) = KeepsSlots s t
SaysTurn s t value Failed = KeepsSlots s t

-- nothing of the queue changed for a seat
abbrev pub IsSame : Layout → SeatView → ℕ → SeatView → Type 0
IsSame z v n v' = v' ≡ v

module _ {T : Type 0} where
  -- a seat has this value at hand, and has seen the same of values
  abbrev pub HasInHand : Hand → Me (Option T) (Beside T) → Me (Option T) (Beside T) → Type 0
  HasInHand h me me' = (me'.0.placing.hand ≡ h) × (me'.0.placing.deeds ≡ me.0.placing.deeds)

  -- what a store or a load of a word of a value tells: this is at hand then, and nothing else changed
  abbrev pub TellsHand : Layout → (ℕ → Hand) → Me (Option T) (Beside T) → ℕ → Me (Option T) (Beside T) → Type 0
  TellsHand z h me n me' = TellsQuiet z.carries z (IsSame z) me n me' × HasInHand (h n) me me'

  -- a claim for a value won: its push is the last deed that the seat has seen, and the value is to be stored
  abbrev pub ClaimSays : (value : List ℕ) → Me (Option T) (Beside T) → ℕ → Me (Option T) (Beside T) → Type 0
  ClaimSays value me n me' = n ≡ (knows me.0.plain).tail → Says (pushed (knows me.0.plain).number value ∷ []) (storing value 0) (placed_of me.0) (placed_of me'.0)

  -- what a claim for a value tells
  abbrev pub TellsClaim : Layout → (value : List ℕ) → Me (Option T) (Beside T) → ℕ → Me (Option T) (Beside T) → Type 0
  TellsClaim z value me n me' = TellsQuiet z.carries z (PlacesClaimed z (0 ∷ [])) me n me' × ClaimSays value me n me'

  -- an exchange of Head won: the pop of the value that was loaded is the last deed that the seat has seen, and the word that was
  -- found says who pushed it
  abbrev pub TakeSays : (word : ℕ) → (value : List ℕ) → Me (Option T) (Beside T) → ℕ → Me (Option T) (Beside T) → Type 0
  TakeSays word value me n me' = n ≡ (knows me.0.plain).head → (front : Item (List ℕ)) × (number_of front ≡ taken_in word) × (value ≡ front.value)
      × Says (popped (knows me.0.plain).number front ∷ []) free (placed_of me.0) (placed_of me'.0)

  -- what an exchange of Head tells
  abbrev pub TellsTake : Layout → (word : ℕ) → (value : List ℕ) → Me (Option T) (Beside T) → ℕ → Me (Option T) (Beside T) → Type 0
  TellsTake z word value me n me' = TellsQuiet z.carries z (FrontsTaken z (word ∷ [])) me n me' × TakeSays word value me n me'

  -- a shut took effect: it is the last deed that the seat has seen
  abbrev pub CloseSays : Me (Option T) (Beside T) → ℕ → Me (Option T) (Beside T) → Type 0
  CloseSays me n me' = n < 2 ^ 62 → Says (closed (knows me.0.plain).number ∷ []) free (placed_of me.0) (placed_of me'.0)

  -- what a shut tells
  abbrev pub TellsClose : Layout → Me (Option T) (Beside T) → ℕ → Me (Option T) (Beside T) → Type 0
  TellsClose z me n me' = TellsQuiet z.carries z (ShutMade z) me n me' × CloseSays me n me'

-- two seats have seen one history of values that lie in their places, which goes on from what each had seen
pub record MeetsSaid {T : Type 0} (s t s' t' : Seat T) : Type 0 where
  pub same : said_by t' ≡ said_by s'
  pub first : (between : List (Deed (List ℕ))) × (said_by s' ≡ said_by s ++ between)
  pub second : (between : List (Deed (List ℕ))) × (said_by t' ≡ said_by t ++ between)

-- a claim for a value that won, at the names of a call
abbrev pub ClaimedFor : {T : Type 0} → (value : List ℕ) → (s : Seat T) → (found : ℕ) → (t : Seat T) → Type 0
ClaimedFor value s n t = n ≡ s.tail → AddsSaid s t (pushed (view s).number value) × (hand_of t ≡ storing value 0)

-- an exchange of Head that won, at the names of a call
abbrev pub TookWord : {T : Type 0} → (word : ℕ) → (value : List ℕ) → (s : Seat T) → (found : ℕ) → (t : Seat T) → Type 0
TookWord word value s n t = n ≡ s.head → (front : Item (List ℕ)) × (number_of front ≡ taken_in word) × (value ≡ front.value) × AddsSaid s t (popped (view s).number front)

-- what a turn of a pop does with its value
abbrev pub TookTurn : {T : Type 0} → (s t : Seat T) → (value : List ℕ) → Turn → Type 0
TookTurn s t value (Took v) = PopsSaid s t (item v.from value)
TookTurn s t value Empty = KeepsSlots s t
TookTurn s t value Closed = KeepsSlots s t
TookTurn s t value Missed = KeepsSlots s t

-- what a pop, or its exchange of Head, does with the value that was loaded
abbrev pub TookFront : {T : Type 0} → (s t : Seat T) → (value : List ℕ) → Option Taken → Type 0
TookFront s t value None = KeepsSlots s t
TookFront s t value (Some v) = PopsSaid s t (item v.from value)
