-- What a seat of a queue may do, and what it knows.
use Rattle.std.specs.Prelude.{◌≡◌, ◌⊎◌, ℕ, ◌-◌, ◌≤◌, Bool, IsTrue, List, [], length, take, IsSomeAnd, slice_get}
use Rattle.std.specs.List.{All}
use Rattle.history.specs.declared.operations.Entry.{Entry}
use Rattle.history.specs.declared.operations.Entry.TheVariants.{Push, Pop, Shut}
use Rattle.history.specs.Entries.{seat_of, own_entries, LeadsTo, LeadsToShut, IsQueueRun}

-- what a seat may do: push, pop, both or neither
pub record Permit : Type 0 where
  pub pushes : Bool
  pub pops : Bool

-- a permit allows an entry: a push or a shut to who may push, a pop to who may pop
abbrev pub Allows : Permit → Entry → Type 0
Allows p (Push seat body) = IsTrue p.pushes
Allows p (Pop seat value) = IsTrue p.pops
Allows p (Shut seat) = IsTrue p.pushes

-- an entry is of a seat, from number 1 on, whose permit allows it
abbrev pub IsPermitted : List Permit → Entry → Type 0
IsPermitted permits e = (1 ≤ seat_of e) × IsSomeAnd (slice_get permits (seat_of e - 1)) (λ p. Allows p e)

-- the seat of this number may push
abbrev pub MayPush : List Permit → ℕ → Type 0
MayPush permits n = (1 ≤ n) × IsSomeAnd (slice_get permits (n - 1)) (λ p. IsTrue p.pushes)

-- the seat of this number may pop
abbrev pub MayPop : List Permit → ℕ → Type 0
MayPop permits n = (1 ≤ n) × IsSomeAnd (slice_get permits (n - 1)) (λ p. IsTrue p.pops)

-- what a seat knows: its number, a prefix of the history, its own entries, and its notes, each a number of entries
-- after which it found the queue empty, or shut
pub record Known : Type 0 where
  pub number : ℕ
  pub seen : List Entry
  pub mine : List Entry
  pub notes : List ℕ

-- so many of these entries, the first ones, leave the queue empty
abbrev pub IsEmptyAfter : (seen : List Entry) → ℕ → Type 0
IsEmptyAfter seen n = (n ≤ length seen) × LeadsTo (take n seen) []

-- so many of these entries, the first ones, leave the queue shut
abbrev pub IsShutAfter : (seen : List Entry) → ℕ → Type 0
IsShutAfter seen n = (n ≤ length seen) × LeadsToShut (take n seen)

-- so many of these entries, the first ones, leave the queue empty, or shut
abbrev pub IsNoted : (seen : List Entry) → ℕ → Type 0
IsNoted seen n = IsEmptyAfter seen n ⊎ IsShutAfter seen n

-- what a seat knows is sound: what it has seen is legal and permitted, its own entries are just those that it has seen, and
-- the queue was empty, or shut, after as many of these as each of its notes says
pub record IsSound (permits : List Permit) (k : Known) : Type 0 where
  pub legal : IsQueueRun k.seen
  pub permitted : All (IsPermitted permits) k.seen
  pub own : own_entries k.number k.seen ≡ k.mine
  pub noted : All (IsNoted k.seen) k.notes
