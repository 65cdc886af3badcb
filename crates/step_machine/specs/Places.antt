-- Where each node is: five sets of nodes, which know nothing of lines.
use Rattle.std.specs.Prelude.{◌≡◌, ◌⊎◌, ℕ, ◌+◌, ◌-◌, ◌<◌, ◌≤◌, Bool, true, false, nat_eq, if◌then◌else◌, List, [], ◌∷◌, length, Option, Some, None, slice_index_or, Contains}
use Rattle.step_machine.specs.Below.{reserved_node, Node, Held, Actor, blank}
use Rattle.step_machine.specs.Machine.{World}

-- a number is null
abbrev pub IsNull : ℕ → Type 0
IsNull n = n ≡ 0

-- a number is null, or the closed end, which no node has
abbrev pub IsEnd : (bits : ℕ) → ℕ → Type 0
IsEnd bits n = (n ≡ 0) ⊎ (n ≡ reserved_node bits)

-- these nodes, each the `next` of the one before, lead from a node number to one where a chain may end
abbrev pub IsChainBy : (End : ℕ → Type 0) → List Node → ℕ → List ℕ → Type 0
IsChainBy End nodes n [] = End n
IsChainBy End nodes n (k ∷ ks) =
    (n ≡ k) × (1 ≤ k) × (k ≤ length nodes) × IsChainBy End nodes (slice_index_or nodes (k - 1) blank).next.node ks

-- these nodes lead from a node number to null: the free ones do
abbrev pub IsChain : List Node → ℕ → List ℕ → Type 0
IsChain nodes n ks = IsChainBy IsNull nodes n ks

-- these nodes lead from a node number to null or to the closed end: those of the queue do
abbrev pub IsQueueChain : (bits : ℕ) → List Node → ℕ → List ℕ → Type 0
IsQueueChain bits nodes n ks = IsChainBy (IsEnd bits) nodes n ks

-- 1 for yes, 0 for no
abbrev pub one_if : Bool → ℕ
one_if true = 1
one_if false = 0

-- how often a node stands in a list
abbrev pub times : ℕ → List ℕ → ℕ
times n [] = 0
times n (k ∷ ks) = one_if (nat_eq n k) + times n ks

-- whether a node is in an actor's hand, as a number
abbrev pub in_hand : ℕ → Actor → ℕ
in_hand n a = if a.holds then one_if (nat_eq n a.node) else 0

-- whether a node is in a pocket, as a number
abbrev pub in_pocket : ℕ → Option Held → ℕ
in_pocket n None = 0
in_pocket n (Some held) = one_if (nat_eq n held.node)

-- how often actors hold a node, in hand or pocket
abbrev pub held : ℕ → List Actor → ℕ
held n [] = 0
held n (a ∷ others) = in_hand n a + in_pocket n a.pocket + held n others

-- whether a node was set aside, as a number
abbrev pub set_aside : ℕ → List Bool → ℕ
set_aside n flags = one_if (slice_index_or flags (n - 1) false)

-- a node that was never used
abbrev pub IsUntouched : World → ℕ → Type 0
IsUntouched w n = w.shared.fresh < n

-- a node of the chain from Head, the dummy first
abbrev pub IsQueued : World → ℕ → Type 0
IsQueued w n = (ns : List ℕ) × IsQueueChain w.setup.bits w.shared.nodes w.shared.head.node ns × Contains ns n

-- a node of the chain from Free
abbrev pub IsFree : World → ℕ → Type 0
IsFree w n = (ns : List ℕ) × IsChain w.shared.nodes w.shared.free.node ns × Contains ns n

-- a node that an actor holds, in hand or pocket
abbrev pub IsHeld : World → ℕ → Type 0
IsHeld w n = 1 ≤ held n w.actors

-- a node that was set aside for good
abbrev pub IsSetAside : World → ℕ → Type 0
IsSetAside w n = set_aside n w.aside ≡ 1

-- each node up to Fresh is in exactly one of four places, in the queue, in the free chain, held or set aside, and
-- there once; one above it is untouched and in none of them
pub record Places (w : World) (queue free : List ℕ) : Type 0 where
  pub queue_chain : IsQueueChain w.setup.bits w.shared.nodes w.shared.head.node queue
  pub free_chain : IsChain w.shared.nodes w.shared.free.node free
  pub touched : (n : ℕ) → 1 ≤ n → n ≤ w.shared.fresh → times n queue + times n free + held n w.actors + set_aside n w.aside ≡ 1
  pub untouched : (n : ℕ) → w.shared.fresh < n → times n queue + times n free + held n w.actors + set_aside n w.aside ≡ 0
