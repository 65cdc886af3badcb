-- Where Tail is in the queue that lets it lag, and what that says of the nodes behind Head and behind Tail.
use Rattle.std.proofs.Common.{◌≡◌, ◌≢◌, ℕ, ◌+◌, ◌≤◌, ◌<◌, true, nat_eq, List, [], ◌∷◌, ◌++◌, length, refl, sym, ap, ◌∙◌, subst, arith, append_assoc, length-append, inr}
use Rattle.step_machine.specs.Below.{reserved_node, Ref, Node, Shared, put, Head, Tail}
use Rattle.step_machine.specs.Places.{IsEnd, IsQueueChain, one_if, times}
use Rattle.step_machine.specs.Chains.{last_node, is_shut_chain}
use Rattle.step_machine.specs.Lag.{TailLags}
use Rattle.step_machine.proofs.Chains.{next_in, one_if_same, ends_apart, chain_same, closed_shut, last_linked, times-append}
use Rattle.step_machine.proofs.Assertions.{next_of}

-- a chain goes on behind each of its nodes
pub chain_behind : (bits : ℕ) (nodes : List Node) (before : List ℕ) (x : ℕ) (after : List ℕ) (n : ℕ) → IsQueueChain bits nodes n (before ++ x ∷ after)
    → (1 ≤ x) × (x ≤ length nodes) × IsQueueChain bits nodes (next_in nodes x) after
chain_behind bits nodes [] x after n h = (h.1, h.2, h.3)
chain_behind bits nodes (y ∷ ys) x after n h = chain_behind bits nodes ys x after (next_in nodes y) h.3

-- the last node of a list that ends in it
pub last_end : (before : List ℕ) (x : ℕ) → last_node (before ++ x ∷ []) ≡ x
last_end [] x = refl
last_end (y ∷ ys) x = last_linked y ys x

-- a node stands in a list that goes on with it
pub times_there : (before : List ℕ) (x : ℕ) (after : List ℕ) → 1 ≤ times x (before ++ x ∷ after)
times_there before x after = omega (arith, times-append x before (x ∷ after), one_if_same x x refl)

-- Tail's node is in the queue
pub tail_times : (m : Shared) (queue : List ℕ) → TailLags m queue → 1 ≤ times m.tail.node queue
tail_times m queue h = subst (λ ns. 1 ≤ times m.tail.node ns) (sym h.chain) (times_there h.before m.tail.node h.after)

-- a chain goes on behind Tail's node
pub behind_tail : (bits : ℕ) (m : Shared) (queue : List ℕ) (n : ℕ) → IsQueueChain bits m.nodes n queue → (h : TailLags m queue)
    → (1 ≤ m.tail.node) × (m.tail.node ≤ length m.nodes) × IsQueueChain bits m.nodes (next_in m.nodes m.tail.node) h.after
behind_tail bits m queue n c h = chain_behind bits m.nodes h.before m.tail.node h.after n (subst (λ ns. IsQueueChain bits m.nodes n ns) h.chain c)

-- where null follows Tail's node, it is the last one
pub nothing_after : (bits : ℕ) (m : Shared) (queue : List ℕ) (n : ℕ) → IsQueueChain bits m.nodes n queue → (h : TailLags m queue) → (next_of m m.tail.node).node ≡ 0 → h.after ≡ []
nothing_after bits m queue n c h none = go h.after (behind_tail bits m queue n c h).2
  where
    go : (after : List ℕ) → IsQueueChain bits m.nodes (next_in m.nodes m.tail.node) after → after ≡ []
    go [] g = refl
    go (x ∷ xs) g = absurd (let same : (next_of m m.tail.node).node ≡ x = g.0 in let some : 1 ≤ x = g.1 in omega arith)

pub tail_is_last : (bits : ℕ) (m : Shared) (queue : List ℕ) (n : ℕ) → IsQueueChain bits m.nodes n queue → TailLags m queue → (next_of m m.tail.node).node ≡ 0 → last_node queue ≡ m.tail.node
tail_is_last bits m queue n c h none =
    ap last_node (h.chain ∙ ap (λ ns. h.before ++ m.tail.node ∷ ns) (nothing_after bits m queue n c h none)) ∙ last_end h.before m.tail.node

-- the same of any end, where no node is one
pub ends_after : (bits : ℕ) (m : Shared) (queue : List ℕ) (n : ℕ) → length m.nodes < reserved_node bits → IsQueueChain bits m.nodes n queue
    → (h : TailLags m queue) → IsEnd bits (next_of m m.tail.node).node → h.after ≡ []
ends_after bits m queue n few c h end = chain_same (IsEnd bits) m.nodes h.after [] (next_in m.nodes m.tail.node) (ends_apart bits m.nodes few) (behind_tail bits m queue n c h).2 end

pub tail_at_end : (bits : ℕ) (m : Shared) (queue : List ℕ) (n : ℕ) → length m.nodes < reserved_node bits → IsQueueChain bits m.nodes n queue → TailLags m queue
    → IsEnd bits (next_of m m.tail.node).node → last_node queue ≡ m.tail.node
tail_at_end bits m queue n few c h end =
    ap last_node (h.chain ∙ ap (λ ns. h.before ++ m.tail.node ∷ ns) (ends_after bits m queue n few c h end)) ∙ last_end h.before m.tail.node

-- where the closed end follows Tail's node, the queue is shut
pub shut_behind : (bits : ℕ) (m : Shared) (queue : List ℕ) (n : ℕ) → length m.nodes < reserved_node bits → IsQueueChain bits m.nodes n queue → TailLags m queue
    → (next_of m m.tail.node).node ≡ reserved_node bits → is_shut_chain bits m queue ≡ true
shut_behind bits m queue n few c h closed =
    ap (λ j. nat_eq (next_of m j).node (reserved_node bits)) (tail_at_end bits m queue n few c h (inr closed)) ∙ ap (λ j. nat_eq j (reserved_node bits)) closed ∙ closed_shut bits

-- where a node follows Tail's, and no end, it is the last one
pub one_after : (bits : ℕ) (m : Shared) (queue : List ℕ) (n to : ℕ) → IsQueueChain bits m.nodes n queue → (h : TailLags m queue)
    → (next_of m m.tail.node).node ≡ to → (IsEnd bits to → ⊥) → h.after ≡ to ∷ []
one_after bits m queue n to c h leads some = go h.after (behind_tail bits m queue n c h).2 h.by_one
  where
    go : (after : List ℕ) → IsQueueChain bits m.nodes (next_in m.nodes m.tail.node) after → length after ≤ 1 → after ≡ to ∷ []
    go [] g few = absurd (some (subst (IsEnd bits) leads g))
    go (x ∷ []) g few = ap (λ y. y ∷ []) (sym (let e : (next_of m m.tail.node).node ≡ x = g.0 in e) ∙ leads)
    go (x ∷ y ∷ ys) g few = absurd (omega arith)

-- what is known where Tail's node is not the first one
pub record IsOff (m : Shared) (front : ℕ) (rest : List ℕ) : Type 0 where
  pub before : List ℕ
  pub after : List ℕ
  pub chain : rest ≡ before ++ m.tail.node ∷ after
  pub by_one : length after ≤ 1
  pub count : m.tail.count ≡ m.head.count + 1 + length before

pub off : (m : Shared) (front : ℕ) (rest : List ℕ) → TailLags m (front ∷ rest) → m.tail.node ≢ front → IsOff m front rest
off m front rest h d = go h.before h.chain h.count
  where
    go : (before : List ℕ) → (front ∷ rest) ≡ before ++ m.tail.node ∷ h.after → m.tail.count ≡ m.head.count + length before → IsOff m front rest
    go [] e c = absurd (d (sym (first e)))
      where
        first : (front ∷ rest) ≡ m.tail.node ∷ h.after → front ≡ m.tail.node
        first f = ap first_of f
          where
            first_of : List ℕ → ℕ
            first_of [] = 0
            first_of (x ∷ xs) = x
    go (x ∷ xs) e c = record { before = xs; after = h.after; chain = ap others e; by_one = h.by_one; count = omega arith }
      where
        others : List ℕ → List ℕ
        others [] = []
        others (y ∷ ys) = ys

-- then a node follows the first one, and Head's count is below Tail's
pub off_count : (m : Shared) (front : ℕ) (rest : List ℕ) → IsOff m front rest → m.head.count < m.tail.count
off_count m front rest h = let c : m.tail.count ≡ m.head.count + 1 + length h.before = h.count in omega arith

pub off_leads : (bits : ℕ) (m : Shared) (front n : ℕ) (rest : List ℕ) → IsQueueChain bits m.nodes n (front ∷ rest) → IsOff m front rest → 1 ≤ (next_of m front).node
off_leads bits m front n rest c h = go h.before (subst (λ ns. IsQueueChain bits m.nodes (next_in m.nodes front) ns) h.chain c.3)
  where
    go : (before : List ℕ) → IsQueueChain bits m.nodes (next_in m.nodes front) (before ++ m.tail.node ∷ h.after) → 1 ≤ (next_of m front).node
    go [] g = let e : (next_of m front).node ≡ m.tail.node = g.0 in let some : 1 ≤ m.tail.node = g.1 in omega arith
    go (x ∷ xs) g = let e : (next_of m front).node ≡ x = g.0 in let some : 1 ≤ x = g.1 in omega arith

-- which is no end
pub off_open : (bits : ℕ) (m : Shared) (front n : ℕ) (rest : List ℕ) → length m.nodes < reserved_node bits → IsQueueChain bits m.nodes n (front ∷ rest)
    → IsOff m front rest → (next_of m front).node ≢ reserved_node bits
off_open bits m front n rest few c h closed = omega (arith, few, closed, go h.before (subst (λ ns. IsQueueChain bits m.nodes (next_in m.nodes front) ns) h.chain c.3))
  where
    go : (before : List ℕ) → IsQueueChain bits m.nodes (next_in m.nodes front) (before ++ m.tail.node ∷ h.after) → (next_of m front).node ≤ length m.nodes
    go [] g = omega (arith, g.0, g.2)
    go (x ∷ xs) g = omega (arith, g.0, g.2)

-- and it is the second one
pub off_second : (bits : ℕ) (m : Shared) (front n x : ℕ) (rest : List ℕ) → IsQueueChain bits m.nodes n (front ∷ rest) → IsOff m front rest
    → (next_of m front).node ≡ x → (ns : List ℕ) × (rest ≡ x ∷ ns)
off_second bits m front n x rest c h leads = go h.before h.chain (subst (λ ns. IsQueueChain bits m.nodes (next_in m.nodes front) ns) h.chain c.3)
  where
    go : (before : List ℕ) → rest ≡ before ++ m.tail.node ∷ h.after → IsQueueChain bits m.nodes (next_in m.nodes front) (before ++ m.tail.node ∷ h.after) → (ns : List ℕ) × (rest ≡ x ∷ ns)
    go [] e g = (h.after, e ∙ ap (λ y. y ∷ h.after) (sym g.0 ∙ leads))
    go (y ∷ ys) e g = (ys ++ m.tail.node ∷ h.after, e ∙ ap (λ z. z ∷ ys ++ m.tail.node ∷ h.after) (sym g.0 ∙ leads))

-- the lag after Tail went on to the node behind it
pub lag_swung : (m : Shared) (queue : List ℕ) (r : Ref) → (h : TailLags m queue) → h.after ≡ r.node ∷ [] → r.count ≡ m.tail.count + 1 → TailLags (put Tail r m) queue
lag_swung m queue r h e c =
    record {
      before = h.before ++ m.tail.node ∷ [];
      after = [];
      chain = h.chain ∙ ap (λ ns. h.before ++ m.tail.node ∷ ns) e ∙ sym (append_assoc h.before (m.tail.node ∷ []) (r.node ∷ []));
      by_one = omega arith;
      count =
          let l : length (h.before ++ m.tail.node ∷ []) ≡ length h.before + 1 = length-append h.before (m.tail.node ∷ []) in
          let was : m.tail.count ≡ m.head.count + length h.before = h.count in
          omega arith;
    }

-- the lag after the first node was taken away
pub lag_popped : (m : Shared) (front : ℕ) (rest : List ℕ) (r : Ref) → IsOff m front rest → r.count ≡ m.head.count + 1 → TailLags (put Head r m) rest
lag_popped m front rest r h c =
    record {
      before = h.before;
      after = h.after;
      chain = h.chain;
      by_one = h.by_one;
      count = let was : m.tail.count ≡ m.head.count + 1 + length h.before = h.count in omega arith;
    }

-- a lag says nothing of the nodes' words, of Fresh and of Free
pub lag_same : (m m' : Shared) (queue : List ℕ) → m'.tail ≡ m.tail → m'.head ≡ m.head → TailLags m queue → TailLags m' queue
lag_same m m' queue t p h =
    record {
      before = h.before;
      after = h.after;
      chain = h.chain ∙ ap (λ (r : Ref). h.before ++ r.node ∷ h.after) (sym t);
      by_one = h.by_one;
      count = ap (λ (r : Ref). r.count) t ∙ h.count ∙ ap (λ (r : Ref). r.count + length h.before) (sym p);
    }

-- the lag after a node was linked behind the last one
pub lag_linked : (m m' : Shared) (queue : List ℕ) (x : ℕ) → m'.tail ≡ m.tail → m'.head ≡ m.head → (h : TailLags m queue) → h.after ≡ [] → TailLags m' (queue ++ x ∷ [])
lag_linked m m' queue x t p h e =
    lag_same m m' (queue ++ x ∷ []) t p
    (record {
      before = h.before;
      after = x ∷ [];
      chain =
          ap (λ ns. ns ++ x ∷ []) (h.chain ∙ ap (λ ns. h.before ++ m.tail.node ∷ ns) e) ∙ append_assoc h.before (m.tail.node ∷ []) (x ∷ []);
      by_one = omega arith;
      count = h.count;
    })

-- the node behind Tail is not the first one, where no node stands twice
pub after_not_first : (m : Shared) (front to : ℕ) (rest : List ℕ) → ((n : ℕ) → times n (front ∷ rest) ≤ 1) → (h : TailLags m (front ∷ rest)) → h.after ≡ to ∷ [] → to ≢ front
after_not_first m front to rest once h e same = go h.before (h.chain ∙ ap (λ ns. h.before ++ m.tail.node ∷ ns) e)
  where
    few : one_if (nat_eq to front) + times to rest ≤ 1
    few = once to

    one : one_if (nat_eq to front) ≡ 1
    one = one_if_same to front same

    others : List ℕ → List ℕ
    others [] = []
    others (y ∷ ys) = ys

    go : (before : List ℕ) → (front ∷ rest) ≡ before ++ m.tail.node ∷ to ∷ [] → ⊥
    go [] f =
        let there : 1 ≤ times to rest = subst (λ ns. 1 ≤ times to ns) (sym (ap others f)) (times_there [] to []) in
        omega (arith, few, one)
    go (x ∷ xs) f =
        let there : 1 ≤ times to rest = subst (λ ns. 1 ≤ times to ns) (sym (ap others f))
        (subst (λ ns. 1 ≤ times to ns) (append_assoc xs (m.tail.node ∷ []) (to ∷ [])) (times_there (xs ++ m.tail.node ∷ []) to [])) in
        omega (arith, few, one)
