-- What the laws of the two-lock queue say of each of its worlds.
use Rattle.std.specs.Prelude.{◌≡◌, ◌≢◌, ℕ, List, Some}
use Rattle.std.specs.List.{All}
use Rattle.step_machine.specs.Below.{TwoLock, A6, Actor}
use Rattle.step_machine.specs.Machine.{World, actor_of, IsReached}
use Rattle.step_machine.specs.Places.{IsQueueChain}
use Rattle.step_machine.specs.Chains.{last_node}

-- a fact holds of each world of the two-lock queue that any moves lead to
abbrev pub OfTwoLockWorlds : (World → Type 0) → Type 0
OfTwoLockWorlds P = (w : World) → IsReached w → w.setup.kind ≡ TwoLock → P w

-- no actor has linked its node and not yet moved Tail
abbrev pub HasTailMoved : World → Type 0
HasTailMoved w = (me : ℕ) (a : Actor) → actor_of w me ≡ Some a → a.line ≢ Some A6

-- Tail names the last node of the queue's chain, unless an actor is to move it
abbrev pub TailNamesTheLast : World → Type 0
TailNamesTheLast w =
    HasTailMoved w → (queue : List ℕ) → IsQueueChain w.setup.bits w.shared.nodes w.shared.head.node queue → w.shared.tail.node ≡ last_node queue

-- the counts of Tail and of each node's `next` are 0
abbrev pub CountsNothing : World → Type 0
CountsNothing w = (w.shared.tail.count ≡ 0) × All (λ n. n.next.count ≡ 0) w.shared.nodes
