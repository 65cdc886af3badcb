-- The end of a queue of values: the memory that it needs, and what comes with what is left.
use Rattle.std.specs.Prelude.{◌≡◌, List, map}
use Rattle.history.specs.declared.operations.Taken.{Taken}
use Rattle.history.specs.Seats.{Permit}
use Rattle.history.specs.Rests.{taken_of, whole_of, was_shut_of}
use Rattle.carriers.specs.declared.rests.RestOf.{RestOf}
use Rattle.carriers.specs.Knowledge.{KnownOf}
use Rattle.carriers.specs.Ends.{ClosesWith}
use Rattle.carriers.specs.Rests.{left_in, taken_in, was_shut_in}
use Rattle.node_arena.specs.declared.ended.Ended.{Ended}
use Rattle.node_arena.specs.declared.leftovers.LeftValues.{LeftValues}
use Rattle.node_arena.specs.Arenas.{Arena}
use Rattle.node_arena.specs.AsMany.{pushers}
use Rattle.node_arena.specs.Ended.{HasRoomFor, ended_id, last_words}
use Rattle.node_arena.specs.Leftovers.{rest_in, values_in}
use Rattle.node_arena.specs.Remains.{ref_at, AreLeft}
use Rattle.value_queue.specs.declared.ends.Room.{Room}
use Rattle.value_queue.specs.Runs.{as_item}

-- a queue was closed by these seats, with what is left in its arena
abbrev pub ClosesLeft : {T : Type 0} → List Permit → List (KnownOf T) → LeftValues T → Type 0
ClosesLeft permits seats left = ClosesWith permits seats (map as_item (values_in left)) (taken_of (rest_in left)) (whole_of (rest_in left)) (was_shut_of (rest_in left))

-- there is room for a number, a slot and a value of each node of an arena
pub record HasRoom {T : Type 0} (r : Arena) (room : Room T) : Type 0 where
  pub numbers : HasRoomFor r room.numbers
  pub slots : HasRoomFor r room.slots
  pub values : HasRoomFor r room.values

-- this is the end of this arena, and it leaves this rest: as many values as the chain from Head on has numbers, in the words that
-- the arena's table held then, of the same seats in the same order, shut or not as the chain's end says, and Head's count is how
-- many were taken
pub record LeavesValues {T : Type 0} (r : Arena) (e : Ended T) (rest : RestOf T) : Type 0 where
  pub table : ended_id e ≡ r.id
  pub numbers : List Taken
  pub left : AreLeft r.plan.setup.bits (last_words e) (was_shut_in rest) numbers
  pub as_many : pushers numbers ≡ map (λ x. x.from) (left_in rest)
  pub taken : taken_in rest ≡ (ref_at r.plan.setup.bits (last_words e) 2).count
