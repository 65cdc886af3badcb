-- What the laws of the non-blocking queue say of each of its worlds.
use Rattle.std.specs.Prelude.{◌≡◌, ◌≢◌, ℕ, ◌+◌, ◌≤◌, List, ◌∷◌, Some}
use Rattle.std.specs.List.{All}
use Rattle.step_machine.specs.Below.{NonBlocking, Line, D13, OfNext, OfHead, WornOut, Refused, Actor, Shared, node_at, found, action, outcome}
use Rattle.step_machine.specs.Machine.{World, actor_of, IsReached}
use Rattle.step_machine.specs.Places.{IsQueueChain}
use Rattle.step_machine.specs.Lag.{TailLags}

-- a fact holds of each world of the non-blocking queue that any moves lead to
abbrev pub OfNonBlockingWorlds : (World → Type 0) → Type 0
OfNonBlockingWorlds P = (w : World) → IsReached w → w.setup.kind ≡ NonBlocking → P w

-- a world's chain from Head has Tail's node as its last or last but one, and Tail's count is Head's and one more for
-- each node before it
abbrev pub TailLagsByOne : World → Type 0
TailLagsByOne w = (queue : List ℕ) → IsQueueChain w.setup.bits w.shared.nodes w.shared.head.node queue → TailLags w.shared queue

-- Tail's count is at least Head's, and Tail is Head where the counts are the same
abbrev pub TailIsNotBehindHead : World → Type 0
TailIsNotBehindHead w =
    (w.shared.head.count ≤ w.shared.tail.count) × (w.shared.tail.count ≡ w.shared.head.count → w.shared.tail ≡ w.shared.head)

-- no actor's next step is refused since Head is worn out
abbrev pub NeverFindsHeadWornOut : World → Type 0
NeverFindsHeadWornOut w =
    (me : ℕ) (a : Actor) (l : Line) → actor_of w me ≡ Some a → a.line ≡ Some l →
    (outcome w.setup (w.steps + 1) me a l (found (action w.setup me a l) w.shared)).reply ≢ Some (Refused (WornOut OfHead))

-- an actor whose next step is refused since a `next` is worn out has the node of that `next` in its hand
abbrev pub FindsItsOwnNextWornOut : World → Type 0
FindsItsOwnNextWornOut w =
    (me : ℕ) (a : Actor) (l : Line) → actor_of w me ≡ Some a → a.line ≡ Some l →
    (outcome w.setup (w.steps + 1) me a l (found (action w.setup me a l) w.shared)).reply ≡ Some (Refused (WornOut OfNext)) →
    (node_at w.shared a.node).next.count ≡ w.setup.limit

-- no operation was refused since Head is worn out
abbrev pub NeverRefusedForHead : World → Type 0
NeverRefusedForHead w = All (λ o. o.reply ≢ Some (Refused (WornOut OfHead))) w.operations

-- an actor's registers `head` and `next` are the first two nodes of the queue, and the value of the second, which is the
-- queue's first value, is in its register `val`
pub record HasTheFront (m : Shared) (queue : List ℕ) (a : Actor) : Type 0 where
  pub others : List ℕ
  pub nodes : queue ≡ a.head.node ∷ a.next.node ∷ others
  pub value : (node_at m a.next.node).value ≡ a.val

-- an actor at D13 that will win has the queue's first value, which it then answers
abbrev pub TakesTheFront : World → Type 0
TakesTheFront w =
    (me : ℕ) (a : Actor) (queue : List ℕ) → actor_of w me ≡ Some a → a.line ≡ Some D13 → w.shared.head ≡ a.head →
    IsQueueChain w.setup.bits w.shared.nodes w.shared.head.node queue → HasTheFront w.shared queue a
