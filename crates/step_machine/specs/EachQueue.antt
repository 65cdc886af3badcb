-- What the laws of both queues say of each world.
use Rattle.std.specs.Prelude.{◌≡◌, ℕ, ◌+◌, ◌<◌, true, List, [], Option, Some, None, IfSome}
use Rattle.step_machine.specs.Below.{Ref, Line, N4, F3, E9, E13, E17, D10, D13, B5, S4, S5, WornWord, OfFree, OfNext, OfTail, OfHead, Refusal, NoNode, WornOut}
use Rattle.step_machine.specs.Below.{Closed, Reply, Refused, empty, by_point, IsSequentialRun, queue_after, Actor, node_at, found, action, outcome}
use Rattle.step_machine.specs.Machine.{World, actor_of}
use Rattle.step_machine.specs.Places.{IsChain, IsQueueChain, IsQueued, IsFree, Places}
use Rattle.step_machine.specs.Chains.{is_shut_chain, queue_in}
use Rattle.step_machine.specs.Completion.{completion, values_taken}

-- there are a chain from Head and one from Free, and each node used is in one place, once
abbrev pub HasItsPlaces : World → Type 0
HasItsPlaces w = (queue : List ℕ) × (free : List ℕ) × Places w queue free

-- no node is in the queue and free
abbrev pub KeepsQueueAndFreeApart : World → Type 0
KeepsQueueAndFreeApart w = (n : ℕ) → IsQueued w n → IsFree w n → ⊥

-- the reference whose raised one a line may write
abbrev pub raised_at : Line → Actor → Option Ref
raised_at N4 a = Some a.top
raised_at F3 a = Some a.top
raised_at E9 a = Some a.next
raised_at E13 a = Some a.tail
raised_at E17 a = Some a.tail
raised_at D10 a = Some a.tail
raised_at D13 a = Some a.head
raised_at B5 a = Some a.head
raised_at S4 a = Some a.next
raised_at S5 a = Some a.tail
raised_at _ a = None

-- no actor is to raise a count that is at the limit
abbrev pub RaisesBelowTheLimit : World → Type 0
RaisesBelowTheLimit w =
    (me : ℕ) (a : Actor) (l : Line) → actor_of w me ≡ Some a → a.line ≡ Some l → IfSome (raised_at l a) (λ r. r.count < w.setup.limit)

-- a word's count is at the limit
abbrev pub IsWornOut : World → WornWord → Type 0
IsWornOut w OfFree = w.shared.free.count ≡ w.setup.limit
IsWornOut w OfNext = (n : ℕ) × ((node_at w.shared n).next.count ≡ w.setup.limit)
IsWornOut w OfTail = w.shared.tail.count ≡ w.setup.limit
IsWornOut w OfHead = w.shared.head.count ≡ w.setup.limit

-- the queue is shut: its chain ends at the closed end
abbrev pub IsShut : World → Type 0
IsShut w = (queue : List ℕ) × IsQueueChain w.setup.bits w.shared.nodes w.shared.head.node queue × (is_shut_chain w.setup.bits w.shared queue ≡ true)

-- a world has the cause for a step to refuse: all nodes are used and none is free, the word is worn out, or the queue is shut
abbrev pub HasCause : World → Refusal → Type 0
HasCause w NoNode = (w.shared.fresh ≡ w.setup.size) × IsChain w.shared.nodes w.shared.free.node []
HasCause w (WornOut word) = IsWornOut w word
HasCause w Closed = IsShut w
HasCause w _ = ⊥

-- a world has the cause for a step's reply, if that is a refusal
abbrev pub HasCauseFor : World → Option Reply → Type 0
HasCauseFor w (Some (Refused refusal)) = HasCause w refusal
HasCauseFor w _ = Unit {0}

-- each actor's next step is refused only where the world has the cause
abbrev pub RefusesWithCause : World → Type 0
RefusesWithCause w =
    (me : ℕ) (a : Actor) (l : Line) → actor_of w me ≡ Some a → a.line ≡ Some l →
    HasCauseFor w (outcome w.setup (w.steps + 1) me a l (found (action w.setup me a l) w.shared)).reply

-- by rising place, from the empty queue, the operations get the replies that they were told or that their calls have
-- earned, and the queue then is the one that the chain from Head holds
abbrev pub ReplaysToItsValues : World → Type 0
ReplaysToItsValues w =
    (queue : List ℕ) → IsQueueChain w.setup.bits w.shared.nodes w.shared.head.node queue →
    IsSequentialRun empty (by_point (completion w)) × (queue_after empty (by_point (completion w)) ≡ queue_in w.setup.bits w.shared queue)

-- Head's count is the number of values taken, those of calls under way too
abbrev pub CountsValuesTaken : World → Type 0
CountsValuesTaken w = w.shared.head.count ≡ values_taken (completion w)
