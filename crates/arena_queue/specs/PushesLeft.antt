-- How many pushes the counts of a queue's words leave.
use Rattle.std.specs.Prelude.{◌≡◌, ℕ, ◌+◌, ◌-◌, ◌/◌, ◌<◌, ◌≤◌, min, List, ◌++◌}
use Rattle.std.specs.List.{count_by}
use Rattle.history.specs.declared.operations.Entry.{Entry}
use Rattle.history.specs.declared.refusals.WornWord.TheVariants.{Free as OfFree, Tail as OfTail, Head as OfHead}
use Rattle.history.specs.Entries.{is_push}
use Rattle.step_machine.specs.EachQueue.{IsWornOut}
use Rattle.node_arena.specs.Traces.{Traced, IsTraced}
use Rattle.arena_queue.specs.Counts.{nodes_taken}

-- how many pushes a queue of so many nodes has left, by what is left of the counts of Free, Tail and Head: half of what is left
-- of Free's above the number of nodes, but no more than all but one of Tail's, and what is left of Head's above that number
abbrev pub pushes_left : (size free tail head : ℕ) → ℕ
pushes_left size free tail head = min (min ((free - size) / 2) (tail - 1)) (head - size)

-- a traced world with the setup of an earlier one, whose history goes on from the earlier one's, with fewer than so many pushes
pub record GoesOn (was t : Traced) (pushes : ℕ) : Type 0 where
  pub reached : IsTraced t
  pub setup : t.world.setup ≡ was.world.setup
  pub more : List Entry
  pub history : t.history ≡ was.history ++ more
  pub fewer : count_by is_push more < pushes

-- a traced world with the setup of an earlier one, in which more nodes were taken from the free list, fewer than so many
pub record TakesFewer (was t : Traced) (nodes : ℕ) : Type 0 where
  pub reached : IsTraced t
  pub setup : t.world.setup ≡ was.world.setup
  pub more : ℕ
  pub taken : nodes_taken t ≡ nodes_taken was + more
  pub fewer : more < nodes

-- so many pushes are left from a traced world on: while fewer take effect neither Tail nor Head is worn out, and while fewer
-- nodes are taken from the free list Free isn't
pub record Lasts (was : Traced) (pushes : ℕ) : Type 0 where
  pub tail : (t : Traced) → GoesOn was t pushes → IsWornOut t.world OfTail → ⊥
  pub head : (t : Traced) → GoesOn was t pushes → IsWornOut t.world OfHead → ⊥
  pub free : (t : Traced) → TakesFewer was t pushes → IsWornOut t.world OfFree → ⊥

-- the counts of Free, Tail and Head in a traced world leave at least so much up to the greatest one
pub record Leaves (was : Traced) (free tail head : ℕ) : Type 0 where
  pub of_free : was.world.shared.free.count + free ≤ was.world.setup.limit
  pub of_tail : was.world.shared.tail.count + tail ≤ was.world.setup.limit
  pub of_head : was.world.shared.head.count + head ≤ was.world.setup.limit

-- from each traced world on as many pushes are left as this says by the number of nodes, and by what its counts leave
abbrev pub EachLasts : ((size free tail head : ℕ) → ℕ) → Type 0
EachLasts left =
    (was : Traced) (free tail head : ℕ) → IsTraced was → Leaves was free tail head →
    Lasts was (left was.world.setup.size free tail head)
