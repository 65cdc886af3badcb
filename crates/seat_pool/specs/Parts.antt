-- What a seat may do.
use Rattle.std.specs.Prelude.{◌↔◌, ℕ, Bool, true, false, IsTrue, List}
use Rattle.history.specs.Seats.{Permit, MayPush, MayPop}
use Rattle.seat_pool.specs.declared.parts.Part.{Part}
use Rattle.seat_pool.specs.declared.parts.Part.TheVariants.{Giver, Taker, Both, Neither}

-- whether who has this part may push
abbrev pub pushes : Part → Bool
pushes Giver = true
pushes Taker = false
pushes Both = true
pushes Neither = false

-- whether who has this part may pop
abbrev pub pops : Part → Bool
pops Giver = false
pops Taker = true
pops Both = true
pops Neither = false

-- the word of a place where a seat of this part lies
abbrev pub number_of : Part → ℕ
number_of Giver = 1
number_of Taker = 2
number_of Both = 3
number_of Neither = 4

-- the seat of this number has this part
abbrev pub HasPart : List Permit → ℕ → Part → Type 0
HasPart permits n part = (MayPush permits n ↔ IsTrue (pushes part)) × (MayPop permits n ↔ IsTrue (pops part))
