-- What the steps do with the chains and with the places of nodes, one lemma for each kind of effect, for both queues.
--
-- `Shape m E queue free` says that `queue` is the chain from Head and `free` the one from Free, and that each node used
-- stands once, in one of them or elsewhere, as `E` counts; take `E = elsewhere w`. A `Turn` is what a step does with
-- the words, the chains and the actor's nodes. Each effect makes one:
--   `turn_words`     no node, no Fresh: all that only loads, locks, Tail, lost exchanges, pocket and hand
--   `turn_aside`     the node in hand is set aside
--   `turn_claim`     Fresh goes up by one, and that node comes into the hand
--   `turn_take`      the first free node comes into the hand
--   `turn_giveback`  the node in hand goes before the free ones
--   `turn_node`      a word of the node in hand is written
--   `turn_link`      the node in hand goes behind the last one of the queue
--   `turn_shut`      the last node of the queue comes to lead to the closed end
--   `turn_pop`       the dummy comes into the hand, and the second node of the queue is the dummy
-- `shape_turned` is the shape after a step, `hand_kept` says that others' nodes stay as they are, and `free_kept`,
-- `queue_kept` and `value_kept` that those of the chains do.
use Rattle.std.proofs.Common.{◌≡◌, ◌≢◌, ℕ, zero, suc, ◌+◌, ◌-◌, ◌≤◌, nat_eq, List, [], ◌∷◌, ◌++◌, length, set, Option, Some, None, refl, sym, ap, ◌∙◌}
use Rattle.std.proofs.Common.{subst, arith, get_or-set_other, get_or-set_same, ◌⊎◌, inl, inr}
use Rattle.std.proofs.Math.ListN.{length-set}
use Rattle.step_machine.specs.Below.{Ref, Node, Actor, blank, Shared, node_at, put, Fresh, Free, Head, Next}
use Rattle.step_machine.specs.Places.{IsNull, IsEnd, IsChainBy, IsChain, IsQueueChain, one_if, times}
use Rattle.step_machine.specs.Chains.{last_node, values_of}
use Rattle.step_machine.proofs.Chains.{node_in, next_in, one_if_same, chain_kept, chain_ended, chain_linked, last_times, last_within, null_times, times-append}
use Rattle.step_machine.proofs.Counting.{holds, asides, used, used_more, used_most}
use Rattle.step_machine.proofs.StampsLists.{same_or_not}

-- the chains, and that each node used stands in one place, once
pub record Shape (bits : ℕ) (m : Shared) (E : ℕ → ℕ) (queue free : List ℕ) : Type 0 where
  pub queue_chain : IsQueueChain bits m.nodes m.head.node queue
  pub free_chain : IsChain m.nodes m.free.node free
  pub once : (n : ℕ) → 1 ≤ n → times n queue + times n free + E n ≡ used n m.fresh

-- whose node a step writes: none, one of the actor's, or the `next` of the last one of the queue, which was null
abbrev pub OwnerOf : (m m' : Shared) → List ℕ → Actor → ℕ → Type 0
OwnerOf m m' queue a k =
    (k ≡ 0) ⊎ ((1 ≤ holds k a) ⊎ ((k ≡ last_node queue) × (1 ≤ k) × ((node_at m' k).value ≡ (node_at m k).value) × (next_in m.nodes k ≡ 0)))

-- a step writes at most one node
pub record WritesOneNode (m m' : Shared) (queue : List ℕ) (a : Actor) : Type 0 where
  pub node : ℕ
  pub others : (n : ℕ) → 1 ≤ n → n ≢ node → node_at m' n ≡ node_at m n
  pub whose : OwnerOf m m' queue a node

-- what a step of an actor, which was `a` and is `b`, does with the chains and the nodes
pub record Turn (bits : ℕ) (m m' : Shared) (queue free queue' free' : List ℕ) (a b : Actor) (aside : Option ℕ) : Type 0 where
  pub queue_chain : IsQueueChain bits m'.nodes m'.head.node queue'
  pub free_chain : IsChain m'.nodes m'.free.node free'
  pub counts : (n : ℕ) → 1 ≤ n → times n queue' + times n free' + holds n b + asides n aside + used n m.fresh ≡ times n queue + times n free + holds n a + used n m'.fresh
  pub writes : WritesOneNode m m' queue a

-- the nodes with one of them given anew
abbrev pub with_node : Shared → ℕ → Node → Shared
with_node m k x = record m { nodes = set m.nodes (k - 1) x }

-- the other ones stay
pub others_stay : (nodes : List Node) (k n : ℕ) (x : Node) → 1 ≤ k → 1 ≤ n → n ≢ k → node_in (set nodes (k - 1) x) n ≡ node_in nodes n
others_stay nodes k n x p q d = let e : n - 1 ≢ k - 1 = omega arith in get_or-set_other nodes (k - 1) (n - 1) x blank e

-- it is the one written
pub written : (nodes : List Node) (k : ℕ) (x : Node) → 1 ≤ k → k ≤ length nodes → node_in (set nodes (k - 1) x) k ≡ x
written nodes k x p h = get_or-set_same nodes (k - 1) x blank (omega arith)

-- a write to a `next` changes no value
pub next_keeps_value : (m : Shared) (k : ℕ) (r : Ref) (n : ℕ) → 1 ≤ k → k ≤ length m.nodes → 1 ≤ n → (node_at (put (Next k) r m) n).value ≡ (node_at m n).value
next_keeps_value m k r n some low one = go (same_or_not n k)
  where
    go : (n ≡ k) ⊎ (n ≢ k) → (node_at (put (Next k) r m) n).value ≡ (node_at m n).value
    go (inl q) = subst (λ j. (node_at (put (Next k) r m) j).value ≡ (node_at m j).value) (sym q) (ap (λ (y : Node). y.value) (written m.nodes k _ some low))
    go (inr d) = ap (λ (y : Node). y.value) (others_stay m.nodes k n _ some one d)

-- a node of the hand is in no chain
pub not_linked : (bits : ℕ) (m : Shared) (E : ℕ → ℕ) (queue free : List ℕ) → Shape bits m E queue free → (k : ℕ) → 1 ≤ k → 1 ≤ E k → (times k queue ≡ 0) × (times k free ≡ 0)
not_linked bits m E queue free sh k some here =
    let s : times k queue + times k free + E k ≡ used k m.fresh = sh.once k some in
    let u : used k m.fresh ≤ 1 = used_most k m.fresh in
    (omega arith, omega arith)

-- no node stands twice in the queue
pub once_queued : (bits : ℕ) (m : Shared) (E : ℕ → ℕ) (queue free : List ℕ) → Shape bits m E queue free → (n : ℕ) → 1 ≤ n → times n queue ≤ 1
once_queued bits m E queue free sh n some = omega (arith, sh.once n some, used_most n m.fresh)

-- no number stands twice in the queue
pub queued_once : (bits : ℕ) (m : Shared) (E : ℕ → ℕ) (queue free : List ℕ) → Shape bits m E queue free → (n : ℕ) → times n queue ≤ 1
queued_once bits m E queue free sh n = go n (null_times (IsEnd bits) m.nodes queue m.head.node sh.queue_chain)
  where
    go : (n : ℕ) → times 0 queue ≡ 0 → times n queue ≤ 1
    go zero none = omega arith
    go (suc n) none = once_queued bits m E queue free sh (suc n) (omega arith)

-- what is written into no node
pub writes_none : (m m' : Shared) (queue : List ℕ) (a : Actor) → m'.nodes ≡ m.nodes → WritesOneNode m m' queue a
writes_none m m' queue a e = record { node = 0; others = λ n some d. ap (λ ns. node_in ns n) e; whose = inl refl }

-- words other than nodes, Fresh and the starts of the chains
pub turn_words : (bits : ℕ) (m m' : Shared) (E : ℕ → ℕ) (queue free : List ℕ) (a b : Actor) → Shape bits m E queue free → m'.nodes ≡ m.nodes
    → m'.head.node ≡ m.head.node → m'.free.node ≡ m.free.node → m'.fresh ≡ m.fresh → ((n : ℕ) → holds n b ≡ holds n a)
    → Turn bits m m' queue free queue free a b None
turn_words bits m m' E queue free a b sh nodes head top fresh same =
    record {
      queue_chain = subst (λ ns. IsQueueChain bits ns m'.head.node queue) (sym nodes) (subst (λ k. IsQueueChain bits m.nodes k queue) (sym head) sh.queue_chain);
      free_chain = subst (λ ns. IsChain ns m'.free.node free) (sym nodes) (subst (λ k. IsChain m.nodes k free) (sym top) sh.free_chain);
      counts = λ n some. omega (arith, same n, ap (used n) fresh);
      writes = writes_none m m' queue a nodes;
    }

-- the node in hand is set aside
pub turn_aside : (bits : ℕ) (m : Shared) (E : ℕ → ℕ) (queue free : List ℕ) (a b : Actor) (k : ℕ) → Shape bits m E queue free
    → ((n : ℕ) → holds n b + one_if (nat_eq n k) ≡ holds n a) → Turn bits m m queue free queue free a b (Some k)
turn_aside bits m E queue free a b k sh away =
    record {
      queue_chain = sh.queue_chain;
      free_chain = sh.free_chain;
      counts = λ n some. omega (arith, away n);
      writes = writes_none m m queue a refl;
    }

-- a node that was never used comes into the hand
pub turn_claim : (bits : ℕ) (m : Shared) (E : ℕ → ℕ) (queue free : List ℕ) (a b : Actor) (c : ℕ) → Shape bits m E queue free → c ≡ m.fresh + 1
    → ((n : ℕ) → holds n b ≡ holds n a + one_if (nat_eq n (m.fresh + 1))) → Turn bits m (put Fresh c m) queue free queue free a b None
turn_claim bits m E queue free a b c sh e more =
    record {
      queue_chain = sh.queue_chain;
      free_chain = sh.free_chain;
      counts = λ n some. omega (arith, more n, used_more n m.fresh, ap (used n) e);
      writes = writes_none m (put Fresh c m) queue a refl;
    }

-- the first free node comes into the hand
pub record Took (bits : ℕ) (m : Shared) (r : Ref) (queue free : List ℕ) (a b : Actor) : Type 0 where
  pub rest : List ℕ
  pub was : free ≡ m.free.node ∷ rest
  pub turn : Turn bits m (put Free r m) queue free queue rest a b None

pub turn_take : (bits : ℕ) (m : Shared) (E : ℕ → ℕ) (queue free : List ℕ) (a b : Actor) (r : Ref) → Shape bits m E queue free → 1 ≤ m.free.node
    → r.node ≡ next_in m.nodes m.free.node → ((n : ℕ) → holds n b ≡ holds n a + one_if (nat_eq n m.free.node)) → Took bits m r queue free a b
turn_take bits m E queue [] a b r sh some e more = absurd (let none : m.free.node ≡ 0 = sh.free_chain in omega arith)
turn_take bits m E queue (x ∷ xs) a b r sh some e more =
    let at : m.free.node ≡ x = sh.free_chain.0 in
    record {
      rest = xs;
      was = ap (λ y. y ∷ xs) (sym at);
      turn =
          record {
            queue_chain = sh.queue_chain;
            free_chain = subst (λ y. IsChain m.nodes y xs) (ap (next_in m.nodes) (sym at) ∙ sym e) sh.free_chain.3;
            counts = λ n one. omega (arith, more n, ap (λ y. one_if (nat_eq n y)) at);
            writes = writes_none m (put Free r m) queue a refl;
          };
    }

-- the node in hand goes before the free ones
pub turn_giveback : (bits : ℕ) (m : Shared) (E : ℕ → ℕ) (queue free : List ℕ) (a b : Actor) (r : Ref) (k : ℕ) → Shape bits m E queue free → 1 ≤ k
    → k ≤ length m.nodes → next_in m.nodes k ≡ m.free.node → r.node ≡ k → ((n : ℕ) → holds n b + one_if (nat_eq n k) ≡ holds n a)
    → Turn bits m (put Free r m) queue free queue (k ∷ free) a b None
turn_giveback bits m E queue free a b r k sh some low leads e away =
    record {
      queue_chain = sh.queue_chain;
      free_chain = (e, some, low, subst (λ y. IsChain m.nodes y free) (sym leads) sh.free_chain);
      counts = λ n one. omega (arith, away n);
      writes = writes_none m (put Free r m) queue a refl;
    }

-- a chain in which a node isn't stays when that node is written
chain_apart : (End : ℕ → Type 0) (nodes : List Node) (k : ℕ) (x : Node) (n : ℕ) (ns : List ℕ) → 1 ≤ k → times k ns ≡ 0 → IsChainBy End nodes n ns → IsChainBy End (set nodes (k - 1) x) n ns
chain_apart End nodes k x n ns some none h =
    chain_kept End nodes (set nodes (k - 1) x) ns n (length-set nodes (k - 1) x)
    (λ j one here. ap (λ (y : Node). y.next.node) (others_stay nodes k j x some one (λ e. let z : times j ns ≡ times k ns = ap (λ i. times i ns) e in omega arith)))
    h

-- the node in hand is written
pub turn_node : (bits : ℕ) (m : Shared) (E : ℕ → ℕ) (queue free : List ℕ) (a b : Actor) (k : ℕ) (x : Node) → Shape bits m E queue free
    → ((n : ℕ) → holds n a ≤ E n) → 1 ≤ k → 1 ≤ holds k a → ((n : ℕ) → holds n b ≡ holds n a) → Turn bits m (with_node m k x) queue free queue free a b None
turn_node bits m E queue free a b k x sh mine some here same =
    let h : holds k a ≤ E k = mine k in
    let apart : (times k queue ≡ 0) × (times k free ≡ 0) = not_linked bits m E queue free sh k some (omega arith) in
    record {
      queue_chain = chain_apart (IsEnd bits) m.nodes k x m.head.node queue some apart.0 sh.queue_chain;
      free_chain = chain_apart IsNull m.nodes k x m.free.node free some apart.1 sh.free_chain;
      counts = λ n one. omega (arith, same n);
      writes = record { node = k; others = λ n one d. others_stay m.nodes k n x some one d; whose = inr (inl here) };
    }

-- the last node of the queue is there
pub last_there : (bits : ℕ) (m : Shared) (E : ℕ → ℕ) (h : ℕ) (rest free : List ℕ) (k : ℕ) → Shape bits m E (h ∷ rest) free → k ≡ last_node (h ∷ rest)
    → (1 ≤ k) × (k ≤ length m.nodes) × (1 ≤ times k (h ∷ rest))
last_there bits m E h rest free k sh at =
    let within : (1 ≤ last_node (h ∷ rest)) × (last_node (h ∷ rest) ≤ length m.nodes) = last_within (IsEnd bits) m.nodes h rest m.head.node sh.queue_chain in
    (subst (λ j. 1 ≤ j) (sym at) within.0, subst (λ j. j ≤ length m.nodes) (sym at) within.1, subst (λ j. 1 ≤ times j (h ∷ rest)) (sym at) (last_times h rest))

-- where its `next` was null, that is all that a write to it changes
writes_last : (bits : ℕ) (m : Shared) (E : ℕ → ℕ) (h : ℕ) (rest free : List ℕ) (a : Actor) (k : ℕ) (r : Ref) → Shape bits m E (h ∷ rest) free
    → k ≡ last_node (h ∷ rest) → next_in m.nodes k ≡ 0 → WritesOneNode m (put (Next k) r m) (h ∷ rest) a
writes_last bits m E h rest free a k r sh at unlinked =
    let there : (1 ≤ k) × (k ≤ length m.nodes) × (1 ≤ times k (h ∷ rest)) = last_there bits m E h rest free k sh at in
    record {
      node = k;
      others = λ n one d. others_stay m.nodes k n _ there.0 one d;
      whose = inr (inr (at, there.0, ap (λ (z : Node). z.value) (written m.nodes k _ there.0 there.1), unlinked));
    }

-- the last node of the queue, which leads to null, comes to lead to an end
pub turn_shut : (bits : ℕ) (m : Shared) (E : ℕ → ℕ) (h : ℕ) (rest free : List ℕ) (a b : Actor) (k : ℕ) (r : Ref) → Shape bits m E (h ∷ rest) free
    → k ≡ last_node (h ∷ rest) → next_in m.nodes k ≡ 0 → IsEnd bits r.node → ((n : ℕ) → holds n b ≡ holds n a)
    → Turn bits m (put (Next k) r m) (h ∷ rest) free (h ∷ rest) free a b None
turn_shut bits m E h rest free a b k r sh at unlinked end same =
    let there : (1 ≤ k) × (k ≤ length m.nodes) × (1 ≤ times k (h ∷ rest)) = last_there bits m E h rest free k sh at in
    record {
      queue_chain =
          chain_ended (IsEnd bits) m.nodes (set m.nodes (k - 1) y) h rest m.head.node (length-set m.nodes (k - 1) y)
          (λ j one d. ap (λ (z : Node). z.next.node) (others_stay m.nodes k j y there.0 one (λ q. d (q ∙ at))))
          (queued_once bits m E (h ∷ rest) free sh)
          (subst (λ j. IsEnd bits (next_in (set m.nodes (k - 1) y) j)) at (subst (λ (z : Node). IsEnd bits z.next.node) (sym (written m.nodes k y there.0 there.1)) end))
          sh.queue_chain;
      free_chain = chain_apart IsNull m.nodes k y m.free.node free there.0 (omega (arith, sh.once k there.0, used_most k m.fresh, there.2)) sh.free_chain;
      counts = λ n one. omega (arith, same n);
      writes = writes_last bits m E h rest free a k r sh at unlinked;
    }
  where
    y : Node
    y = record (node_at m k) { next = r }

-- the last node of the queue, which leads to null, is linked to the node in hand, which does too
pub turn_link : (bits : ℕ) (m : Shared) (E : ℕ → ℕ) (h : ℕ) (rest free : List ℕ) (a b : Actor) (k x : ℕ) (r : Ref) → Shape bits m E (h ∷ rest) free
    → ((n : ℕ) → holds n a ≤ E n) → k ≡ last_node (h ∷ rest) → next_in m.nodes k ≡ 0 → 1 ≤ x → x ≤ length m.nodes → 1 ≤ holds x a → next_in m.nodes x ≡ 0
    → r.node ≡ x → ((n : ℕ) → holds n b + one_if (nat_eq n x) ≡ holds n a) → Turn bits m (put (Next k) r m) (h ∷ rest) free (h ∷ rest ++ x ∷ []) free a b None
turn_link bits m E h rest free a b k x r sh mine at unlinked some low here null e away =
    record {
      queue_chain =
          chain_linked (IsEnd bits) m.nodes nodz h rest m.head.node x (length-set m.nodes (k - 1) y)
          (λ j one d. ap (λ (z : Node). z.next.node) (others_stay m.nodes k j y some_k one (λ q. d (q ∙ at))))
          (ap (next_in nodz) (sym at) ∙ ap (λ (z : Node). z.next.node) (written m.nodes k y some_k low_k) ∙ e)
          (queued_once bits m E (h ∷ rest) free sh) some low
          (inl (ap (λ (z : Node). z.next.node) (others_stay m.nodes k x y some_k some other) ∙ null))
          sh.queue_chain;
      free_chain = chain_apart IsNull m.nodes k y m.free.node free some_k (omega (arith, sh.once k some_k, used_most k m.fresh, stands)) sh.free_chain;
      counts = λ n one. omega (arith, away n, times-append n (h ∷ rest) (x ∷ []));
      writes = writes_last bits m E h rest free a k r sh at unlinked;
    }
  where
    y : Node
    y = record (node_at m k) { next = r }

    nodz : List Node
    nodz = set m.nodes (k - 1) y

    there : (1 ≤ k) × (k ≤ length m.nodes) × (1 ≤ times k (h ∷ rest))
    there = last_there bits m E h rest free k sh at

    some_k : 1 ≤ k
    some_k = there.0

    low_k : k ≤ length m.nodes
    low_k = there.1

    stands : 1 ≤ times k (h ∷ rest)
    stands = there.2

    other : x ≢ k
    other q =
        let a1 : holds x a ≤ E x = mine x in
        let a2 : times x (h ∷ rest) ≡ 0 = (not_linked bits m E (h ∷ rest) free sh x some (omega arith)).0 in
        let a3 : 1 ≤ times x (h ∷ rest) = subst (λ j. 1 ≤ times j (h ∷ rest)) (sym q) stands in
        omega arith

-- the dummy comes into the hand, and the node behind it is the dummy
pub turn_pop : (bits : ℕ) (m : Shared) (E : ℕ → ℕ) (h x : ℕ) (rest free : List ℕ) (a b : Actor) (r : Ref) → Shape bits m E (h ∷ x ∷ rest) free → r.node ≡ x
    → ((n : ℕ) → holds n b ≡ holds n a + one_if (nat_eq n h)) → Turn bits m (put Head r m) (h ∷ x ∷ rest) free (x ∷ rest) free a b None
turn_pop bits m E h x rest free a b r sh e more =
    let c : IsQueueChain bits m.nodes (next_in m.nodes h) (x ∷ rest) = sh.queue_chain.3 in
    record {
      queue_chain = (e, c.1, c.2, c.3);
      free_chain = sh.free_chain;
      counts = λ n one. omega (arith, more n);
      writes = writes_none m (put Head r m) (h ∷ x ∷ rest) a refl;
    }

-- the shape after a step, where nodes stand elsewhere by what the actor held and holds
pub shape_turned : (bits : ℕ) (m m' : Shared) (E E' : ℕ → ℕ) (queue free queue' free' : List ℕ) (a b : Actor) (aside : Option ℕ) → Shape bits m E queue free
    → Turn bits m m' queue free queue' free' a b aside → ((n : ℕ) → 1 ≤ n → E' n + holds n a ≡ E n + holds n b + asides n aside) → Shape bits m' E' queue' free'
shape_turned bits m m' E E' queue free queue' free' a b aside sh t moves =
    record {
      queue_chain = t.queue_chain;
      free_chain = t.free_chain;
      once = λ n some. omega (arith, t.counts n some, sh.once n some, moves n some);
    }

-- a node that is not the actor's, and that isn't the last one of the queue with null behind it, is not written
stays : (m m' : Shared) (queue : List ℕ) (a : Actor) (n : ℕ) → WritesOneNode m m' queue a → 1 ≤ n → holds n a ≡ 0 → (n ≡ last_node queue → next_in m.nodes n ≢ 0) → node_at m' n ≡ node_at m n
stays m m' queue a n w some none other = w.others n some (go w.whose)
  where
    go : OwnerOf m m' queue a w.node → n ≢ w.node
    go (inl z) q = let e : n ≡ 0 = q ∙ z in omega arith
    go (inr (inl mine)) q = let e : holds n a ≡ holds w.node a = ap (λ k. holds k a) q in omega arith
    go (inr (inr last)) q = other (q ∙ last.0) (ap (next_in m.nodes) q ∙ last.3)

-- a node that is not the actor's keeps its value
value_stays : (m m' : Shared) (queue : List ℕ) (a : Actor) (n : ℕ) → WritesOneNode m m' queue a → 1 ≤ n → holds n a ≡ 0 → (node_at m' n).value ≡ (node_at m n).value
value_stays m m' queue a n w some none = go w.whose (same_or_not n w.node)
  where
    go : OwnerOf m m' queue a w.node → (n ≡ w.node) ⊎ (n ≢ w.node) → (node_at m' n).value ≡ (node_at m n).value
    go x (inr d) = ap (λ (y : Node). y.value) (w.others n some d)
    go (inl z) (inl q) = absurd (let e : n ≡ 0 = q ∙ z in omega arith)
    go (inr (inl own)) (inl q) = absurd (let e : holds n a ≡ holds w.node a = ap (λ k. holds k a) q in omega arith)
    go (inr (inr last)) (inl q) = subst (λ k. (node_at m' k).value ≡ (node_at m k).value) (sym q) last.2

-- the last node of the queue is in no hand and not free
last_apart : (bits : ℕ) (m : Shared) (E : ℕ → ℕ) (h : ℕ) (rest free : List ℕ) → Shape bits m E (h ∷ rest) free → (n : ℕ) → 1 ≤ n → 1 ≤ times n free + E n → n ≢ last_node (h ∷ rest)
last_apart bits m E h rest free sh n some here q =
    let e : 1 ≤ times n (h ∷ rest) = subst (λ k. 1 ≤ times k (h ∷ rest)) (sym q) (last_times h rest) in
    omega (arith, sh.once n some, used_most n m.fresh)

-- the nodes of another actor stay as they are
pub hand_kept : (bits : ℕ) (m m' : Shared) (E : ℕ → ℕ) (h : ℕ) (rest free : List ℕ) (a c : Actor) → Shape bits m E (h ∷ rest) free
    → WritesOneNode m m' (h ∷ rest) a → ((n : ℕ) → holds n a + holds n c ≤ E n) → (n : ℕ) → 1 ≤ n → 1 ≤ holds n c → node_at m' n ≡ node_at m n
hand_kept bits m m' E h rest free a c sh w both n some here =
    stays m m' (h ∷ rest) a n w some (omega (arith, both n, sh.once n some, used_most n m.fresh))
    (λ q. absurd (last_apart bits m E h rest free sh n some (omega (arith, both n)) q))

-- the free nodes stay as they are
pub free_kept : (bits : ℕ) (m m' : Shared) (E : ℕ → ℕ) (h : ℕ) (rest free : List ℕ) (a : Actor) → Shape bits m E (h ∷ rest) free
    → WritesOneNode m m' (h ∷ rest) a → ((n : ℕ) → holds n a ≤ E n) → (n : ℕ) → 1 ≤ n → 1 ≤ times n free → node_at m' n ≡ node_at m n
free_kept bits m m' E h rest free a sh w mine n some here =
    stays m m' (h ∷ rest) a n w some (omega (arith, mine n, sh.once n some, used_most n m.fresh))
    (λ q. absurd (last_apart bits m E h rest free sh n some (omega arith) q))

-- a node of the queue that doesn't lead to null stays as it is
pub queue_kept : (bits : ℕ) (m m' : Shared) (E : ℕ → ℕ) (h : ℕ) (rest free : List ℕ) (a : Actor) → Shape bits m E (h ∷ rest) free
    → WritesOneNode m m' (h ∷ rest) a → ((n : ℕ) → holds n a ≤ E n) → (n : ℕ) → 1 ≤ n → 1 ≤ times n (h ∷ rest) → 1 ≤ next_in m.nodes n
    → node_at m' n ≡ node_at m n
queue_kept bits m m' E h rest free a sh w mine n some here leads =
    stays m m' (h ∷ rest) a n w some (omega (arith, mine n, sh.once n some, used_most n m.fresh)) (λ last null. omega (arith, leads, null))

-- each node of the queue keeps its value
pub value_kept : (bits : ℕ) (m m' : Shared) (E : ℕ → ℕ) (queue free : List ℕ) (a : Actor) → Shape bits m E queue free → WritesOneNode m m' queue a
    → ((n : ℕ) → holds n a ≤ E n) → (n : ℕ) → 1 ≤ n → 1 ≤ times n queue → (node_at m' n).value ≡ (node_at m n).value
value_kept bits m m' E queue free a sh w mine n some here =
    value_stays m m' queue a n w some (omega (arith, mine n, sh.once n some, used_most n m.fresh))

-- so the values of nodes that stand in the queue are kept
pub values_kept : (bits : ℕ) (m m' : Shared) (E : ℕ → ℕ) (queue free : List ℕ) (a : Actor) → Shape bits m E queue free → WritesOneNode m m' queue a
    → ((n : ℕ) → holds n a ≤ E n) → (ns : List ℕ) → ((n : ℕ) → 1 ≤ times n ns → (1 ≤ n) × (1 ≤ times n queue)) → values_of m' ns ≡ values_of m ns
values_kept bits m m' E queue free a sh w mine [] within = refl
values_kept bits m m' E queue free a sh w mine (x ∷ xs) within =
    let here : (1 ≤ x) × (1 ≤ times x queue) = within x (omega (arith, one_if_same x x refl)) in
    cc (value_kept bits m m' E queue free a sh w mine x here.0 here.1, values_kept bits m m' E queue free a sh w mine xs (λ n more. within n (omega arith)))
