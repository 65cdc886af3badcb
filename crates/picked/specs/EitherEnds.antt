-- The end of a queue of one of two kinds.
use Rattle.std.specs.Prelude.{◌≡◌, ℕ, ◌≤◌, List, [], map, vec_capacity}
use Rattle.std.specs.Global.{Vec}
use Rattle.picked.specs.declared.either.EitherQueue.{EitherQueue}
use Rattle.picked.specs.declared.either.EitherQueue.TheVariants as queue
use Rattle.picked.specs.declared.either_seats.EitherRoom.{EitherRoom}
use Rattle.picked.specs.declared.either_seats.EitherRoom.TheVariants as room
use Rattle.picked.specs.declared.either_seats.EitherEnd.{EitherEnd}
use Rattle.picked.specs.declared.either_seats.EitherEnd.TheVariants as end

-- of each of these seats that one was taken: each is what is made of that, whatever is said to be so of all that is taken
abbrev pub AreTaken : {X S : Type 0} → (X → S → Type 0) → List X → List S → Type 0
AreTaken {X = X} {S = S} taken xs ss = (made : S → X) → ((x : X) (s : S) → taken x s → x ≡ made s) → xs ≡ map made ss

-- there is room for the values left, and for so many seats
pub record IsRoomFor {V S : Type 0} (has_room : V → Type 0) (count : ℕ) (for_values : V) (for_seats : Vec S) : Type 0 where
  pub values : has_room for_values
  pub none : for_seats.items ≡ []
  pub seats : count ≤ vec_capacity for_seats

-- there is room for the end of a queue by so many seats, as its kind has it
abbrev pub HasEitherRoom : {A B V S W T : Type 0} → (A → V → Type 0) → (B → W → Type 0) → EitherQueue A B → (count : ℕ) → EitherRoom V S W T → Type 0
HasEitherRoom first second (queue.First a) count (room.First values seats) = IsRoomFor (first a) count values seats
HasEitherRoom first second (queue.Second b) count (room.Second values seats) = IsRoomFor (second b) count values seats
HasEitherRoom first second (queue.First a) count (room.Second values seats) = ⊥
HasEitherRoom first second (queue.Second b) count (room.First values seats) = ⊥

-- these seats are enough for an end of a queue, as its kind has it
abbrev pub EitherAsks : {A B K : Type 0} → (A → List K → Type 0) → (B → List K → Type 0) → EitherQueue A B → List K → Type 0
EitherAsks first second (queue.First a) = first a
EitherAsks first second (queue.Second b) = second b

-- this is the end of a queue, and it leaves this rest, as its kind has it
abbrev pub EitherEnds : {A B C D R : Type 0} → (A → C → R → Type 0) → (B → D → R → Type 0) → EitherQueue A B → EitherEnd C D → R → Type 0
EitherEnds first second (queue.First a) (end.First c) rest = first a c rest
EitherEnds first second (queue.Second b) (end.Second d) rest = second b d rest
EitherEnds first second (queue.First a) (end.Second d) rest = ⊥
EitherEnds first second (queue.Second b) (end.First c) rest = ⊥
