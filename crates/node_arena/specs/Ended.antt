-- The end of an arena: the words that its table held then, and what is left by these.
use Rattle.std.specs.Prelude.{◌≡◌, ◌≤◌, ℕ, List, [], Option, vec_capacity}
use Rattle.std.specs.Global.{Vec, Global}
use Rattle.std.specs.Slots.{slots_items}
use Rattle.atomic_table.specs.Seated.{TableId}
use Rattle.atomic_table.specs.declared.owned.Closed.{Closed}
use Rattle.history.specs.declared.rests.Rest.{Rest}
use Rattle.history.specs.Rests.{left_of, taken_of, was_shut_of}
use Rattle.node_arena.specs.declared.ended.Ended.{Ended}
use Rattle.node_arena.specs.Arenas.{Arena}
use Rattle.node_arena.specs.Places.{shared_words}
use Rattle.node_arena.specs.Remains.{ref_at, AreLeft}

-- the name of the table that ended
abbrev pub ended_id : {T : Type 0} → Ended T → TableId
ended_id e = e.token.table_id

-- the table that ended
abbrev pub closed_of : {T : Type 0} → Ended T → Closed (Option T) Global
closed_of e = e.closed

-- the shared words as the table held them at its end
abbrev pub last_words : {T : Type 0} → Ended T → List ℕ
last_words e = shared_words (slots_items e.closed.words)

-- this is the end of this arena, and it leaves this rest: the values are those of the chain from Head on, in the words that
-- the arena's table held then, shut or not as the chain's end says, and Head's count is how many were taken
pub record Leaves {T : Type 0} (r : Arena) (e : Ended T) (rest : Rest) : Type 0 where
  pub table : ended_id e ≡ r.id
  pub left : AreLeft r.plan.setup.bits (last_words e) (was_shut_of rest) (left_of rest)
  pub taken : taken_of rest ≡ (ref_at r.plan.setup.bits (last_words e) 2).count

-- a list is empty and has room for a value of each node of an arena
pub record HasRoomFor {A : Type 0} (r : Arena) (room : Vec A) : Type 0 where
  pub empty : room.items ≡ []
  pub enough : r.plan.setup.size ≤ vec_capacity room
