-- What a seat is told of how many pushes its queue has left.
use Rattle.std.specs.Prelude.{◌≡◌, ℕ, ◌+◌}
use Rattle.counted_ref.specs.Ref.{Ref}
use Rattle.history.specs.Seats.{Known}
use Rattle.node_arena.specs.Machine.{Shared}
use Rattle.node_arena.specs.Traces.{Traced, IsTraced}
use Rattle.node_arena.specs.Plans.{Layout}
use Rattle.node_arena.specs.Looks.{WasMeanwhile}
use Rattle.arena_queue.specs.PushesLeft.{pushes_left, Lasts}
use Rattle.arena_queue.specs.declared.left.Left.{Left}

-- in a traced world no older than what a seat had seen a word's count was less than the greatest one by this much
pub record LeavesRaises (z : Layout) (of : Shared → Ref) (k k' : Known) (left : ℕ) : Type 0 where
  pub was : Traced
  pub reached : IsTraced was
  pub setup : was.world.setup ≡ z.setup
  pub meanwhile : WasMeanwhile k was.history k'
  pub count : (of was.world.shared).count + left ≡ z.setup.limit

-- so much is left of the counts of Free, Tail and Head; and from the world in which Free's was so on as many pushes are left as
-- these leave
pub record HasLeft (z : Layout) (k : Known) (left : Left) (k' : Known) : Type 0 where
  pub free : LeavesRaises z (λ m. m.free) k k' left.free
  pub tail : LeavesRaises z (λ m. m.tail) k k' left.tail
  pub head : LeavesRaises z (λ m. m.head) k k' left.head
  pub pushes : left.pushes ≡ pushes_left z.setup.size left.free left.tail left.head
  pub lasts : Lasts free.was left.pushes
