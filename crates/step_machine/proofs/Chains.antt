-- Chains of nodes: what keeps them, how they get longer, and what the last node is.
-- `chain_kept` is for each write to a node that is not in the chain, `chain_linked` for the write to the `next` of the
-- last one. `chain_same` says that a chain is determined by where it starts. They hold of a chain by any end.
use Rattle.std.proofs.Common.{◌≡◌, ◌≢◌, ℕ, ◌+◌, ◌-◌, ◌≤◌, ◌<◌, Bool, true, false, nat_eq, List, [], ◌∷◌, ◌++◌, length, get_or, refl, sym, ap, ◌∙◌, subst, arith, ◌⊎◌, inl, inr}
use Rattle.std.proofs.lemmas.Bool.{eq-eqb, ne_eqb}
use Rattle.std.proofs.lemmas.Bool.Decides.{eqb_tells}
use Rattle.step_machine.specs.Below.{reserved_node, empty, Queue, Node, blank, Shared}
use Rattle.step_machine.specs.Places.{IsNull, IsEnd, IsChainBy, IsChain, IsQueueChain, one_if, times}
use Rattle.step_machine.specs.Chains.{last_node, is_shut_chain, queue_in}

-- the node of a number
abbrev pub node_in : List Node → ℕ → Node
node_in nodes k = get_or nodes (k - 1) blank

-- where the `next` of a node leads
abbrev pub next_in : List Node → ℕ → ℕ
next_in nodes k = (node_in nodes k).next.node

-- a node is this one, and counts once, or it is another, and does not count
pub one_if_tells : (n k : ℕ) → ((n ≡ k) × (one_if (nat_eq n k) ≡ 1)) ⊎ ((n ≢ k) × (one_if (nat_eq n k) ≡ 0))
one_if_tells n k = elim (eqb_tells n k) [ inl t ↦ inl (t.1, ap one_if t.0) | inr f ↦ inr (f.1, ap one_if f.0) ]

pub one_if_same : (n k : ℕ) → n ≡ k → one_if (nat_eq n k) ≡ 1
one_if_same n k e = elim (one_if_tells n k) [ inl t ↦ t.1 | inr f ↦ absurd (f.0 e) ]

pub one_if_other : (n k : ℕ) → n ≢ k → one_if (nat_eq n k) ≡ 0
one_if_other n k e = elim (one_if_tells n k) [ inl t ↦ absurd (e t.0) | inr f ↦ f.1 ]

-- the last node of a chain that is not empty stands in it
pub last_times : (n : ℕ) (ns : List ℕ) → 1 ≤ times (last_node (n ∷ ns)) (n ∷ ns)
last_times n [] = let one : one_if (nat_eq n n) ≡ 1 = one_if_same n n refl in omega arith
last_times n (m ∷ ms) = let more : 1 ≤ times (last_node (m ∷ ms)) (m ∷ ms) = last_times m ms in omega arith

-- no node is an end
abbrev pub EndsApart : (End : ℕ → Type 0) → List Node → Type 0
EndsApart End nodes = (n : ℕ) → End n → (1 ≤ n) × (n ≤ length nodes) → ⊥

pub null_apart : (nodes : List Node) → EndsApart IsNull nodes
null_apart nodes n null within = omega (arith, null, within.0)

pub ends_apart : (bits : ℕ) (nodes : List Node) → length nodes < reserved_node bits → EndsApart (IsEnd bits) nodes
ends_apart bits nodes few n (inl null) within = omega (arith, null, within.0)
ends_apart bits nodes few n (inr closed) within = omega (arith, few, closed, within.1)

-- an end that isn't closed is null
pub end_is_null : (bits n : ℕ) → n ≢ reserved_node bits → IsEnd bits n → n ≡ 0
end_is_null bits n other (inl null) = null
end_is_null bits n other (inr closed) = absurd (other closed)

-- a number above null that isn't the closed end is no end
pub no_end : (bits n : ℕ) → 1 ≤ n → n ≢ reserved_node bits → IsEnd bits n → ⊥
no_end bits n some other end = let null : n ≡ 0 = end_is_null bits n other end in omega arith

-- a chain to null starts at no closed end
pub starts_open : (bits : ℕ) (nodes : List Node) (n : ℕ) (ns : List ℕ) → length nodes < reserved_node bits → IsChain nodes n ns → n ≢ reserved_node bits
starts_open bits nodes n [] few h closed = omega (arith, h, closed)
starts_open bits nodes n (x ∷ xs) few h closed = omega (arith, few, h.0, h.2, closed)

-- behind its first node is no closed end
pub free_goes_on : (bits : ℕ) (nodes : List Node) (n : ℕ) (ns : List ℕ) → length nodes < reserved_node bits → 1 ≤ n → IsChain nodes n ns → next_in nodes n ≢ reserved_node bits
free_goes_on bits nodes n [] few some h = absurd (omega (arith, h, some))
free_goes_on bits nodes n (x ∷ xs) few some h = subst (λ y. next_in nodes y ≢ reserved_node bits) (sym h.0) (starts_open bits nodes (next_in nodes x) xs few h.3)

-- the last node once one more is linked
pub last_linked : (n : ℕ) (ns : List ℕ) (x : ℕ) → last_node (n ∷ ns ++ x ∷ []) ≡ x
last_linked n [] x = refl
last_linked n (m ∷ ms) x = last_linked m ms x

-- how often a node stands in two lists
pub times-append : (k : ℕ) (ns ms : List ℕ) → times k (ns ++ ms) ≡ times k ns + times k ms
times-append k [] ms = omega arith
times-append k (n ∷ ns) ms = let rest : times k (ns ++ ms) ≡ times k ns + times k ms = times-append k ns ms in omega arith

-- the first node of a list in which none stands twice isn't the last one, where there is another one
first_not_last : (n m : ℕ) (ms : List ℕ) → ((j : ℕ) → times j (n ∷ m ∷ ms) ≤ 1) → n ≢ last_node (m ∷ ms)
first_not_last n m ms once e =
    let a : 1 ≤ times (last_node (m ∷ ms)) (m ∷ ms) = last_times m ms in
    let b : times (last_node (m ∷ ms)) (n ∷ m ∷ ms) ≤ 1 = once (last_node (m ∷ ms)) in
    let c : one_if (nat_eq (last_node (m ∷ ms)) n) ≡ 1 = one_if_same (last_node (m ∷ ms)) n (sym e) in
    omega arith

-- chains by an end
module _ (End : ℕ → Type 0) where
  -- a chain stays where the `next` of each of its nodes stays
  pub chain_kept : (nodes nodz : List Node) (ns : List ℕ) (n : ℕ) → length nodz ≡ length nodes
      → ((k : ℕ) → 1 ≤ k → 1 ≤ times k ns → next_in nodz k ≡ next_in nodes k) → IsChainBy End nodes n ns → IsChainBy End nodz n ns
  chain_kept nodes nodz [] n same each h = h
  chain_kept nodes nodz (x ∷ xs) n same each h = (
    h.0,
    h.1,
    let low : x ≤ length nodes = h.2 in omega arith,
    subst (λ y. IsChainBy End nodz y xs) (sym (each x h.1 (let one : one_if (nat_eq x x) ≡ 1 = one_if_same x x refl in omega arith)))
        (chain_kept nodes nodz xs _ same (λ k one more. each k one (omega arith)) h.3),
  )

  -- a chain that does not start at an end is not empty
  pub chain_some : (nodes : List Node) (n : ℕ) (ns : List ℕ) → (End n → ⊥) → IsChainBy End nodes n ns → (rest : List ℕ) × (ns ≡ n ∷ rest)
  chain_some nodes n [] some h = absurd (some h)
  chain_some nodes n (x ∷ xs) some h = (xs, ap (λ y. y ∷ xs) (sym h.0))

  -- a chain that starts at null is empty
  pub chain_none : (nodes : List Node) (n : ℕ) (ns : List ℕ) → n ≡ 0 → IsChainBy End nodes n ns → ns ≡ []
  chain_none nodes n [] none h = refl
  chain_none nodes n (x ∷ xs) none h = absurd (let same : n ≡ x = h.0 in let some : 1 ≤ x = h.1 in omega arith)

  -- an end is behind the last node
  pub last_leads : (nodes : List Node) (n : ℕ) (ns : List ℕ) (k : ℕ) → IsChainBy End nodes k (n ∷ ns) → End (next_in nodes (last_node (n ∷ ns)))
  last_leads nodes n [] k h = h.3
  last_leads nodes n (m ∷ ms) k h = last_leads nodes m ms _ h.3

  -- the nodes of a chain are from 1 up to their number
  pub last_within : (nodes : List Node) (n : ℕ) (ns : List ℕ) (k : ℕ) → IsChainBy End nodes k (n ∷ ns) → (1 ≤ last_node (n ∷ ns)) × (last_node (n ∷ ns) ≤ length nodes)
  last_within nodes n [] k h = (h.1, h.2)
  last_within nodes n (m ∷ ms) k h = last_within nodes m ms _ h.3

  -- a chain from a place is the only one, where no node is an end
  pub chain_same : (nodes : List Node) (ns ms : List ℕ) (n : ℕ) → EndsApart End nodes → IsChainBy End nodes n ns → IsChainBy End nodes n ms → ns ≡ ms
  chain_same nodes [] [] n apart h g = refl
  chain_same nodes [] (y ∷ ys) n apart h g = absurd (apart n h (subst (λ k. (1 ≤ k) × (k ≤ length nodes)) (sym g.0) (g.1, g.2)))
  chain_same nodes (x ∷ xs) [] n apart h g = absurd (apart n g (subst (λ k. (1 ≤ k) × (k ≤ length nodes)) (sym h.0) (h.1, h.2)))
  chain_same nodes (x ∷ xs) (y ∷ ys) n apart h g =
      let e : y ≡ x = sym g.0 ∙ h.0 in
      ap (λ z. z ∷ xs) (sym e) ∙ ap (λ z. y ∷ z) (chain_same nodes xs ys (next_in nodes x) apart h.3 (subst (λ z. IsChainBy End nodes (next_in nodes z) ys) e g.3))

  -- a chain stays where another end comes behind its last node
  pub chain_ended : (nodes nodz : List Node) (n : ℕ) (ns : List ℕ) (k : ℕ) → length nodz ≡ length nodes
      → ((j : ℕ) → 1 ≤ j → j ≢ last_node (n ∷ ns) → next_in nodz j ≡ next_in nodes j) → ((j : ℕ) → times j (n ∷ ns) ≤ 1)
      → End (next_in nodz (last_node (n ∷ ns))) → IsChainBy End nodes k (n ∷ ns) → IsChainBy End nodz k (n ∷ ns)
  chain_ended nodes nodz n [] k same each once end h = (h.0, h.1, let l : n ≤ length nodes = h.2 in omega arith, end)
  chain_ended nodes nodz n (m ∷ ms) k same each once end h = (
    h.0,
    h.1,
    let l : n ≤ length nodes = h.2 in omega arith,
    subst (λ y. IsChainBy End nodz y (m ∷ ms)) (sym (each n h.1 (first_not_last n m ms once)))
        (chain_ended nodes nodz m ms _ same each (λ j. let o : times j (n ∷ m ∷ ms) ≤ 1 = once j in omega arith) end h.3),
  )

  -- one more node is behind the last one, where that one's `next` leads to it and an end is behind it
  pub chain_linked : (nodes nodz : List Node) (n : ℕ) (ns : List ℕ) (k x : ℕ) → length nodz ≡ length nodes
      → ((j : ℕ) → 1 ≤ j → j ≢ last_node (n ∷ ns) → next_in nodz j ≡ next_in nodes j) → next_in nodz (last_node (n ∷ ns)) ≡ x → ((j : ℕ) → times j (n ∷ ns) ≤ 1)
      → 1 ≤ x → x ≤ length nodes → End (next_in nodz x) → IsChainBy End nodes k (n ∷ ns) → IsChainBy End nodz k (n ∷ ns ++ x ∷ [])
  chain_linked nodes nodz n [] k x same each leads once some low end h = (
    h.0,
    h.1,
    let l : n ≤ length nodes = h.2 in omega arith,
    (leads, some, omega arith, end),
  )
  chain_linked nodes nodz n (m ∷ ms) k x same each leads once some low end h = (
    h.0,
    h.1,
    let l : n ≤ length nodes = h.2 in omega arith,
    subst (λ y. IsChainBy End nodz y (m ∷ ms ++ x ∷ [])) (sym (each n h.1 (first_not_last n m ms once)))
        (chain_linked nodes nodz m ms _ x same each leads (λ j. let o : times j (n ∷ m ∷ ms) ≤ 1 = once j in omega arith) some low end h.3),
  )

  -- null stands in no chain
  pub null_times : (nodes : List Node) (ns : List ℕ) (n : ℕ) → IsChainBy End nodes n ns → times 0 ns ≡ 0
  null_times nodes [] n h = refl
  null_times nodes (x ∷ xs) n h =
      let some : 1 ≤ x = h.1 in
      omega (arith, one_if_other 0 x (omega arith), null_times nodes xs (next_in nodes x) h.3)

  -- behind the first node is the second one, or an end
  pub second_or_end : (nodes : List Node) (k h : ℕ) (ns : List ℕ) → IsChainBy End nodes k (h ∷ ns) → ((rest : List ℕ) × (ns ≡ next_in nodes h ∷ rest)) ⊎ End (next_in nodes h)
  second_or_end nodes k h [] c = inr c.3
  second_or_end nodes k h (x ∷ xs) c = inl (xs, ap (λ y. y ∷ xs) (sym c.3.0))

  -- so the node behind the first is the second one, unless it is an end
  pub second_leads : (nodes : List Node) (k h x : ℕ) (ns : List ℕ) → IsChainBy End nodes k (h ∷ ns) → next_in nodes h ≡ x → (End x → ⊥) → (rest : List ℕ) × (ns ≡ x ∷ rest)
  second_leads nodes k h x ns c e some = chain_some nodes x ns some (subst (λ y. IsChainBy End nodes y ns) e c.3)

-- the closed end is one
pub closed_shut : (bits : ℕ) → nat_eq (reserved_node bits) (reserved_node bits) ≡ true
closed_shut bits = eq-eqb (reserved_node bits) (reserved_node bits) refl

-- a chain whose first node leads to the closed end has no other node, and holds a queue that is shut
pub alone_at_end : (bits : ℕ) (nodes : List Node) (k front : ℕ) (rest : List ℕ) → length nodes < reserved_node bits → IsQueueChain bits nodes k (front ∷ rest)
    → next_in nodes front ≡ reserved_node bits → rest ≡ []
alone_at_end bits nodes k front rest few chain closed = chain_same (IsEnd bits) nodes rest [] (next_in nodes front) (ends_apart bits nodes few) chain.3 (inr closed)

pub shut_alone : (bits : ℕ) (m : Shared) (k front : ℕ) (rest : List ℕ) → length m.nodes < reserved_node bits → IsQueueChain bits m.nodes k (front ∷ rest)
    → next_in m.nodes front ≡ reserved_node bits → is_shut_chain bits m (front ∷ rest) ≡ true
shut_alone bits m k front rest few chain closed =
    ap (λ ns. is_shut_chain bits m (front ∷ ns)) (alone_at_end bits m.nodes k front rest few chain closed) ∙ ap (λ n. nat_eq n (reserved_node bits)) closed ∙ closed_shut bits

-- null is no closed end, since some number is below that
pub null_open : (bits n : ℕ) → n < reserved_node bits → nat_eq 0 (reserved_node bits) ≡ false
null_open bits n low = ne_eqb 0 (reserved_node bits) (λ e. omega (arith, low, e))

-- the queue of no values whose chain ends at this number
abbrev pub ended_at : (bits : ℕ) → ℕ → Queue
ended_at bits n = record { values = []; shut = nat_eq n (reserved_node bits) }

-- where it ends at null, it is the empty one
pub null_ended : (bits n : ℕ) → n < reserved_node bits → ended_at bits 0 ≡ empty
null_ended bits n low = ap ends (null_open bits n low)
  where
    ends : Bool → Queue
    ends flag = record { values = []; shut = flag }

-- a chain whose first node leads to null holds the empty queue
pub empty_behind : (bits : ℕ) (m : Shared) (front : ℕ) (rest : List ℕ) → length m.nodes < reserved_node bits
    → IsQueueChain bits m.nodes m.head.node (front ∷ rest) → next_in m.nodes front ≡ 0 → queue_in bits m (front ∷ rest) ≡ empty
empty_behind bits m front [] few chain null = ap (ended_at bits) null ∙ null_ended bits (length m.nodes) few
empty_behind bits m front (x ∷ xs) few chain null = absurd (omega (arith, null, chain.3.0, chain.3.1))
