-- What each line tells of the seat that made it, by what it knew before and knows afterwards.
use Rattle.std.specs.Prelude.{bit_or, ◌≡◌, ◌≢◌, ℕ, ◌+◌, ◌/◌, ◌%◌, ◌^◌, ◌<◌, ◌≤◌, Bool, true, List, [], ◌∷◌, ◌++◌, length, slice_index_or}
use Rattle.std.specs.List.{All, count_by}
use Rattle.atomic_table.specs.Table.{Me}
use Rattle.history.specs.declared.operations.Entry.{Entry}
use Rattle.history.specs.declared.operations.Entry.TheVariants.{Shut}
use Rattle.history.specs.declared.operations.Taken.{Taken}
use Rattle.history.specs.Entries.{is_push, is_pop, Leads}
use Rattle.history.specs.Seats.{Known, IsSound}
use Rattle.history.specs.Answers.{Adds, FoundEmpty, FoundShut, FoundShutEmpty, SeesMore}
use Rattle.node_arena.specs.Looks.{LeadsToSome}
use Rattle.ring_queue.specs.Words.{parity, slot_word, tail_word}
use Rattle.ring_queue.specs.Plans.{Layout, permits_of}
use Rattle.ring_queue.specs.Paths.{C1, C3, C4, P2, P3, P4, P5, S10, Event, reading, writing, Step, RunsOn, sees, added_by}
use Rattle.ring_queue.specs.Rule.{Ring}
pub use Rattle.ring_queue.specs.Rows.{Rests, taken_in, contents, pushes, pops, regs, head_line, HasRoom, Goes}
use Rattle.ring_queue.specs.Knowledge.{standing, Stage, rests, claimed, found, unfilled, head_due, SeatView, View, seated, knows, known_by}

-- at one step the queue held as many values as make it full
pub record IsFull (z : Layout) (seen : List Entry) : Type 0 where
  pub shut : Bool
  pub values : List Taken
  pub leads : Leads seen shut values
  pub full : z.most ≤ length values

-- at one step so many values had been pushed that no place up to the limit was left
abbrev pub IsWorn : Layout → (seen : List Entry) → Type 0
IsWorn z seen = z.limit ≤ z.slots + count_by is_push seen

-- a place was claimed: it is below the places of all pushes
abbrev pub IsAhead : Layout → (seen : List Entry) → (place : ℕ) → Type 0
IsAhead z seen place = place < z.slots + count_by is_push seen

-- something was so at some step, behind the entries that had been seen before
pub record WasSince (P : List Entry → Type 0) (old seen : List Entry) : Type 0 where
  pub between : List Entry
  pub rest : List Entry
  pub parts : seen ≡ (old ++ between) ++ rest
  pub was : P (old ++ between)

-- where so much was read in Tail, the queue held so many values: as many as there were places, but for those that were taken; and it
-- was shut by the bit
pub record HoldsSoMany (z : Layout) (n : ℕ) (seen : List Entry) : Type 0 where
  pub shut : Bool
  pub values : List Taken
  pub leads : Leads seen shut values
  pub places : n % 2 ^ 62 ≡ (z.slots + count_by is_pop seen) + length values
  pub bit : n ≡ tail_word (n % 2 ^ 62) shut

-- at some step, after this history, the word of a place wasn't of its lap: the place isn't filled
pub record WasLate (z : Layout) (seen : List Entry) (place : ℕ) : Type 0 where
  pub words : List ℕ
  pub seats : ℕ → SeatView
  pub ring : Ring z words seats
  pub history : ring.history ≡ seen
  pub word : slice_index_or words (slot_word (place % z.slots)) 0 / 2 ^ 63 ≢ parity z.slots place

-- behind the entries that had been seen before, a place from a number on had been claimed at some step, and wasn't filled at some step
pub record WasHeldUp (z : Layout) (old seen : List Entry) (from : ℕ) : Type 0 where
  pub place : ℕ
  pub later : from ≤ place
  pub ahead : WasSince (λ es. IsAhead z es place) old seen
  pub late : WasSince (λ es. WasLate z es place) old seen

-- the seat made this access, by its row, knows of it and of all before, and has what took its effect with it more as its own; but
-- where it fills a place, it has then seen all that took its effect
abbrev pub Went : Layout → SeatView → Event → SeatView → Type 0
Went z v e v' = RunsOn v.number v.ran e v'.ran × (v'.mine ≡ v.mine ++ e.adds) × Goes z v.number (regs v) e (regs v') × (sees e.line ≡ true → v'.seen ≡ added_by v'.ran)

-- after each step a seat is the same one, its head and its tail are places, and what it knows is sound
pub record Learns (z : Layout) (v v' : SeatView) : Type 0 where
  pub number : v'.number ≡ v.number
  pub below : v'.head < 2 ^ 62
  pub tail_below : v'.tail < 2 ^ 62
  pub sound : IsSound (permits_of z) (known_by v')

-- Tail was read by a push
pub record TailFound (z : Layout) (v : SeatView) (n : ℕ) (v' : SeatView) : Type 0 where
  pub learns : Learns z v v'
  pub went : Went z v (reading C1 0 n) v'
  pub head : v'.head ≡ v.head
  pub tail : v'.tail ≡ n % 2 ^ 62
  pub more : v.tail ≤ v'.tail
  pub stage : v'.stage ≡ rests
  pub shut : 2 ^ 62 ≤ n → FoundShut (known_by v) (known_by v')
  pub sees : n < 2 ^ 62 → SeesMore (known_by v) (known_by v')
  pub worn : n < 2 ^ 62 → z.limit ≤ n → IsWorn z v'.seen

-- Tail was read by a seat that looks how many values there are
pub record TailSeen (z : Layout) (v : SeatView) (n : ℕ) (v' : SeatView) : Type 0 where
  pub learns : Learns z v v'
  pub went : Went z v (reading C1 0 n) v'
  pub head : v'.head ≡ v.head
  pub tail : v'.tail ≡ n % 2 ^ 62
  pub rests : Rests v'.stage
  pub sees : SeesMore (known_by v) (known_by v')
  pub holds : HoldsSoMany z n v'.seen

-- Head was read: where it is below the seat's tail, there are values, and where it is so by the ring's room, this is full
pub record HeadFound (z : Layout) (v : SeatView) (n : ℕ) (v' : SeatView) : Type 0 where
  pub learns : Learns z v v'
  pub went : Went z v (reading (head_line v.stage) 16 n) v'
  pub head : v'.head ≡ n
  pub more : v.head ≤ n
  pub tail : v'.tail ≡ v.tail
  pub rests : Rests v'.stage
  pub sees : SeesMore (known_by v) (known_by v')
  pub counts : n ≡ z.slots + count_by is_pop v'.seen
  pub some : n < v.tail → LeadsToSome v'.seen
  pub full : n + z.most ≤ v.tail → IsFull z v'.seen

-- calls had their effect at one step: what the seat has seen goes on from what it had seen and ends with the entries, which are
-- so many more of its own
pub record AddsAll (k : Known) (es : List Entry) (k' : Known) : Type 0 where
  pub number : k'.number ≡ k.number
  pub between : List Entry
  pub seen : k'.seen ≡ (k.seen ++ between) ++ es
  pub mine : k'.mine ≡ k.mine ++ es
  pub notes : k'.notes ≡ k.notes

-- these bodies were pushed, one after another at one step
abbrev pub PushedAll : Known → (bodies : List ℕ) → Known → Type 0
PushedAll k bodies k' = AddsAll k (pushes k.number bodies) k'

-- places were claimed, one for each of these bodies; or others had claimed places, or shut the queue
pub record PlacesClaimed (z : Layout) (bodies : List ℕ) (v : SeatView) (n : ℕ) (v' : SeatView) : Type 0 where
  pub learns : Learns z v v'
  pub head : v'.head ≡ v.head
  pub won : n ≡ v.tail → (v'.stage ≡ claimed n (contents v.number bodies)) × (v'.tail ≡ n + length bodies) × AddsAll (known_by v) (pushes v.number bodies) (known_by v')
  pub went_won : n ≡ v.tail → Went z v (writing C3 0 n (n + length bodies) (pushes v.number bodies)) v'
  pub went_lost : n ≢ v.tail → Went z v (reading C3 0 n) v'
  pub rests : n ≢ v.tail → Rests v'.stage × (v'.tail ≡ n % 2 ^ 62)
  pub lost : n ≢ v.tail → n < 2 ^ 62 → (v.tail < v'.tail) × SeesMore (known_by v) (known_by v')
  pub shut : 2 ^ 62 ≤ n → FoundShut (known_by v) (known_by v')

-- where a seat stands once it has filled the first of its places
abbrev pub next_stage : Stage → Stage
next_stage (claimed p (x ∷ xs)) = standing (p + 1) xs
next_stage st = rests

-- the first place was filled of those that a seat claimed, by a number in its slot's word
abbrev pub PlaceFilled : Layout → (word left : ℕ) → SeatView → ℕ → SeatView → Type 0
PlaceFilled z i w v n v' = (ran : List Step) × (v' ≡ record v { stage = next_stage v.stage; ran = ran }) × RunsOn v.number v.ran (writing C4 i n w []) ran
    × Goes z v.number (regs v) (writing C4 i n w []) (regs v')

-- each of these bodies is one
abbrev pub AreSmall : List ℕ → Type 0
AreSmall bodies = All (λ b. b < 2 ^ 48) bodies

-- the word at the place of the seat's head was read
pub record FrontFound (z : Layout) (v : SeatView) (n : ℕ) (v' : SeatView) : Type 0 where
  pub learns : Learns z v v'
  pub went : Went z v (reading P2 (slot_word (v.head % z.slots)) n) v'
  pub head : v'.head ≡ v.head
  pub tail : v'.tail ≡ v.tail
  pub rests : Rests v'.stage
  pub sees : SeesMore (known_by v) (known_by v')
  pub filled : n / 2 ^ 63 ≡ parity z.slots v.head → v'.stage ≡ found (n ∷ [])
  pub late : n / 2 ^ 63 ≢ parity z.slots v.head → WasLate z v'.seen v.head
  pub goes_on : n / 2 ^ 63 ≢ parity z.slots v.head → v'.stage ≡ unfilled

-- the word was read at the place behind those whose words a seat had found
pub record NextFound (z : Layout) (ws : List ℕ) (v : SeatView) (n : ℕ) (v' : SeatView) : Type 0 where
  pub learns : Learns z v v'
  pub went : Went z v (reading P5 (slot_word ((v.head + length ws) % z.slots)) n) v'
  pub head : v'.head ≡ v.head
  pub tail : v'.tail ≡ v.tail
  pub rests : Rests v'.stage
  pub sees : SeesMore (known_by v) (known_by v')
  pub filled : n / 2 ^ 63 ≡ parity z.slots (v.head + length ws) → v'.stage ≡ found (ws ++ n ∷ [])
  pub late : n / 2 ^ 63 ≢ parity z.slots (v.head + length ws) → v'.stage ≡ found ws

-- Head was raised by as many places as these words are, or another had raised it
pub record FrontsTaken (z : Layout) (ws : List ℕ) (v : SeatView) (n : ℕ) (v' : SeatView) : Type 0 where
  pub learns : Learns z v v'
  pub tail : v'.tail ≡ v.tail
  pub rests : Rests v'.stage
  pub went_won : n ≡ v.head → Went z v (writing P3 16 n (n + length ws) (pops v.number ws)) v'
  pub went_lost : n ≢ v.head → Went z v (reading P3 16 n) v'
  pub won : n ≡ v.head → (v'.head ≡ n + length ws) × AddsAll (known_by v) (pops v.number ws) (known_by v')
  pub lost : n ≢ v.head → (v'.head ≡ n) × (v.head ≤ n) × SeesMore (known_by v) (known_by v')

-- Tail was read by a pop that found its place not filled
pub record EndFound (z : Layout) (v : SeatView) (n : ℕ) (v' : SeatView) : Type 0 where
  pub learns : Learns z v v'
  pub went : Went z v (reading P4 0 n) v'
  pub head : v'.head ≡ v.head
  pub tail : v'.tail ≡ v.tail
  pub rests : Rests v'.stage
  pub empty : n ≡ v.head → FoundEmpty (known_by v) (known_by v')
  pub closed : n ≡ v.head + 2 ^ 62 → FoundShutEmpty (known_by v) (known_by v')
  pub on : n ≢ v.head → n ≢ v.head + 2 ^ 62 → SeesMore (known_by v) (known_by v') × IsAhead z v'.seen v.head
  pub due : n ≢ v.head → n ≢ v.head + 2 ^ 62 → v'.stage ≡ head_due

-- the queue was shut, or had been
pub record ShutMade (z : Layout) (v : SeatView) (n : ℕ) (v' : SeatView) : Type 0 where
  pub learns : Learns z v v'
  pub head : v'.head ≡ v.head
  pub tail : v'.tail ≡ v.tail
  pub rests : Rests v'.stage
  pub did : n < 2 ^ 62 → Adds (known_by v) (Shut v.number) (known_by v')
  pub went_open : n < 2 ^ 62 → Went z v (writing S10 0 n (bit_or n (2 ^ 62)) (Shut v.number ∷ [])) v'
  pub went_shut : 2 ^ 62 ≤ n → Went z v (writing S10 0 n (bit_or n (2 ^ 62)) []) v'
  pub was : 2 ^ 62 ≤ n → FoundShut (known_by v) (known_by v')

-- what a step tells, as the table has it
abbrev pub Tells : (SeatView → ℕ → SeatView → Type 0) → Me ℕ View → ℕ → Me ℕ View → Type 0
Tells fact me n me' = (me' ≡ (seated (knows me'.0), [])) × fact (knows me.0) n (knows me'.0)

-- the same, whatever the word held before
abbrev pub PlaceFilledBy : Layout → (word left : ℕ) → SeatView → ℕ → SeatView → Type 0
PlaceFilledBy z i w v n v' = (x : ℕ) × PlaceFilled z i w v x v'
