-- What an actor of the two-lock queue knows of the shared words before a line of its own, and that steps of others keep it.
use Rattle.std.proofs.Common.{◌≡◌, ℕ, ◌≤◌, Bool, true, false, List, ◌∷◌, Option, Some, None, refl, sym, ap, ◌∙◌, subst, arith}
use Rattle.step_machine.specs.Below.{reserved_node, Ref, TwoLock, Line, N1, A2, A3, A4, A5, A6, A7, B3, B4, B5, B6, S7, S8, S9, Reply, Empty, Refused, Closed, Setup, Node, Actor, Shared, node_at}
use Rattle.step_machine.specs.ProgramCounters.{NonNullAt}
use Rattle.step_machine.specs.Chains.{last_node}
use Rattle.step_machine.proofs.Chains.{last_times}
use Rattle.step_machine.proofs.Counting.{holds, holds_own}
use Rattle.step_machine.proofs.Fixed.{FixedAt}
use Rattle.step_machine.proofs.Assertions.{Owns, OwnsAt, has_tail, has_head, NodesRely, Queue, Knows}

-- the node in hand has the actor's value, and leads to null
abbrev pub Ready : Shared → Actor → Type 0
Ready m a = ((node_at m a.node).value ≡ a.val) × ((node_at m a.node).next.node ≡ 0)

-- what an actor knows that lets the tail lock go: where its call is refused, the closed end is behind the last node
abbrev pub Leaves : (bits : ℕ) → Shared → (last : ℕ) → Option Reply → Type 0
Leaves bits m last (Some (Refused refusal)) = (node_at m last).next.node ≡ reserved_node bits
Leaves bits m last _ = Unit {0}

-- what an actor knows that lets the head lock go, by what its call has earned: the closed end is behind the dummy, Head is
-- worn out, or the queue was empty at the number noted, of which `Z` says what that means
abbrev pub Unlocks : (bits : ℕ) (Z : ℕ → Type 0) (limit : ℕ) → Shared → (empty_at : ℕ) → Option Reply → Type 0
Unlocks bits Z limit m empty_at (Some Empty) = Z empty_at
Unlocks bits Z limit m empty_at (Some (Refused Closed)) = (1 ≤ (node_at m m.head.node).next.node) × ((node_at m m.head.node).next.node ≡ reserved_node bits)
Unlocks bits Z limit m empty_at (Some (Refused refusal)) = m.head.count ≡ limit
Unlocks bits Z limit m empty_at _ = Unit {0}

-- what an actor knows before a line of its own; `last` is the last node of the queue
abbrev pub OwnAt : (Z : ℕ → Type 0) → Setup → Shared → (last : ℕ) → Actor → Option Line → Type 0
OwnAt Z s m last a (Some A2) = (node_at m a.node).value ≡ a.val
OwnAt Z s m last a (Some A3) = Ready m a
OwnAt Z s m last a (Some A4) = Ready m a × (last ≡ m.tail.node)
OwnAt Z s m last a (Some A5) = Ready m a × (last ≡ m.tail.node) × (m.tail ≡ a.tail)
OwnAt Z s m last a (Some A6) = last ≡ a.node
OwnAt Z s m last a (Some A7) = (last ≡ m.tail.node) × Leaves s.bits m last a.due
OwnAt Z s m last a (Some B3) = m.head ≡ a.head
OwnAt Z s m last a (Some B4) = (m.head ≡ a.head) × ((node_at m a.head.node).next ≡ a.next)
OwnAt Z s m last a (Some B5) = (m.head ≡ a.head) × ((node_at m a.head.node).next ≡ a.next) × ((node_at m a.next.node).value ≡ a.val)
OwnAt Z s m last a (Some B6) = Unlocks s.bits Z s.limit m a.empty_at a.due
OwnAt Z s m last a (Some S7) = last ≡ m.tail.node
OwnAt Z s m last a (Some S8) = (last ≡ m.tail.node) × (m.tail ≡ a.tail)
OwnAt Z s m last a (Some S9) = (last ≡ m.tail.node) × Leaves s.bits m last a.due
OwnAt Z s m last a _ = Unit {0}

-- where its operation stands says nothing of what an actor knows
pub own_entry : (Z : ℕ → Type 0) (s : Setup) (m : Shared) (last : ℕ) (a : Actor) (entry : Option ℕ) (l : Option Line) → OwnAt Z s m last a l → OwnAt Z s m last (record a { entry = entry }) l
own_entry Z s m last a entry None h = h
own_entry Z s m last a entry (Some N1) h = h
own_entry Z s m last a entry (Some _) h = h

-- the same where more is known of the number noted
pub own_more : (Y Z : ℕ → Type 0) (s : Setup) (m : Shared) (last : ℕ) (a : Actor) (l : Option Line) → ((k : ℕ) → Y k → Z k) → OwnAt Y s m last a l → OwnAt Z s m last a l
own_more Y Z s m last a None f h = h
own_more Y Z s m last a (Some B6) f h = unlocks a.due h
  where
    unlocks : (due : Option Reply) → Unlocks s.bits Y s.limit m a.empty_at due → Unlocks s.bits Z s.limit m a.empty_at due
    unlocks (Some Empty) g = f a.empty_at g
    unlocks (Some (Refused Closed)) g = g
    unlocks (Some (Refused refusal)) g = g
    unlocks _ g = tt
own_more Y Z s m last a (Some _) f h = h

-- what steps of others keep for the holder of a lock; `last` and `last'` are the last node of the queue
pub record LocksRely (m m' : Shared) (last last' you : ℕ) : Type 0 where
  pub tail : m.tail_lock ≡ you → (m'.tail_lock ≡ you) × (m'.tail ≡ m.tail) × (last' ≡ last) × ((node_at m' last).next ≡ (node_at m last).next)
  pub tail_back : m'.tail_lock ≡ you → m.tail_lock ≡ you
  pub head : m.head_lock ≡ you → (m'.head_lock ≡ you) × (m'.head ≡ m.head)
  pub head_back : m'.head_lock ≡ you → m.head_lock ≡ you

owns_kept : (lock lock' you : ℕ) (b : Bool) → (lock ≡ you → lock' ≡ you) → (lock' ≡ you → lock ≡ you) → Owns lock you b → Owns lock' you b
owns_kept lock lock' you true there back h = there h
owns_kept lock lock' you false there back h = λ e. h (back e)

-- an actor keeps the locks of its line
pub locks_kept : (m m' : Shared) (last last' you : ℕ) (l : Option Line) → LocksRely m m' last last' you → OwnsAt m you l → OwnsAt m' you l
locks_kept m m' last last' you l k h = (
  owns_kept m.tail_lock m'.tail_lock you (has_tail l) (λ e. (k.tail e).0) k.tail_back h.0,
  owns_kept m.head_lock m'.head_lock you (has_head l) (λ e. (k.head e).0) k.head_back h.1,
)

module _ (Z : ℕ → Type 0) (s : Setup) (m m' : Shared) (last last' you : ℕ) (c : Actor) where
  -- the node in hand stays as it is
  hand_stays : NodesRely m m' c → c.holds ≡ true → c.pocket ≡ None → 1 ≤ c.node → node_at m' c.node ≡ node_at m c.node
  hand_stays n h p some = n.hand c.node some (let one : holds c.node c ≡ 1 = holds_own c h p in omega arith)

  -- and ready
  ready_kept : node_at m' c.node ≡ node_at m c.node → Ready m c → Ready m' c
  ready_kept e h = (ap (λ (x : Node). x.value) e ∙ h.0, ap (λ (x : Node). x.next.node) e ∙ h.1)

  -- Tail still names the last node
  tail_kept : LocksRely m m' last last' you → m.tail_lock ≡ you → last ≡ m.tail.node → last' ≡ m'.tail.node
  tail_kept k mine h = (k.tail mine).2 ∙ h ∙ sym (ap (λ (r : Ref). r.node) (k.tail mine).1)

  -- the closed end is still behind it
  leaves_kept : LocksRely m m' last last' you → m.tail_lock ≡ you → (due : Option Reply) → Leaves s.bits m last due → Leaves s.bits m' last' due
  leaves_kept k mine (Some (Refused refusal)) h = ap (λ j. (node_at m' j).next.node) (k.tail mine).2 ∙ ap (λ (r : Ref). r.node) (k.tail mine).3 ∙ h
  leaves_kept k mine _ h = tt

  -- the dummy still leads to the node read
  leads_kept : NodesRely m m' c → 1 ≤ c.next.node → (m.head ≡ c.head) × ((node_at m c.head.node).next ≡ c.next) → (1 ≤ (node_at m m.head.node).next.node) × ((node_at m' c.head.node).next ≡ c.next)
  leads_kept n some h =
      let leads : 1 ≤ (node_at m m.head.node).next.node = subst (λ (r : Ref). 1 ≤ (node_at m r.node).next.node) (sym h.0) (subst (λ (r : Ref). 1 ≤ r.node) (sym h.1) some) in
      (leads, ap (λ (x : Node). x.next) (subst (λ (r : Ref). node_at m' r.node ≡ node_at m r.node) h.0 (n.dummy leads)) ∙ h.1)

  -- an actor still knows what it knew
  pub own_kept : (l : Line) → LocksRely m m' last last' you → NodesRely m m' c → FixedAt s.limit you c (Some l) → NonNullAt s.bits l c → OwnsAt m you (Some l)
      → OwnAt Z s m last c (Some l) → OwnAt Z s m' last' c (Some l)
  own_kept A2 k n f p o h = ap (λ (x : Node). x.value) (hand_stays n f.hand f.pocket p) ∙ h
  own_kept A3 k n f p o h = ready_kept (hand_stays n f.hand f.pocket p) h
  own_kept A4 k n f p o h = (ready_kept (hand_stays n f.hand f.pocket p) h.0, tail_kept k o.0 h.1)
  own_kept A5 k n f p o h = (ready_kept (hand_stays n f.hand f.pocket p.0) h.0, tail_kept k o.0 h.1, (k.tail o.0).1 ∙ h.2)
  own_kept A6 k n f p o h = (k.tail o.0).2 ∙ h
  own_kept A7 k n f p o h = (tail_kept k o.0 h.0, leaves_kept k o.0 c.due h.1)
  own_kept B3 k n f p o h = (k.head o.1).1 ∙ h
  own_kept B4 k n f p o h = ((k.head o.1).1 ∙ h.0, (leads_kept n p.1 h).1)
  own_kept B5 k n f p o h = (
    (k.head o.1).1 ∙ h.0,
    (leads_kept n p.1 (h.0, h.1)).1,
    subst (λ j. (node_at m' j).value ≡ (node_at m j).value) front (n.front (leads_kept n p.1 (h.0, h.1)).0) ∙ h.2,
  )
    where
      front : (node_at m m.head.node).next.node ≡ c.next.node
      front = ap (λ (r : Ref). (node_at m r.node).next.node) h.0 ∙ ap (λ (r : Ref). r.node) h.1
  own_kept B6 k n f p o h = unlocks c.due h
    where
      unlocks : (due : Option Reply) → Unlocks s.bits Z s.limit m c.empty_at due → Unlocks s.bits Z s.limit m' c.empty_at due
      unlocks (Some Empty) g = g
      unlocks (Some (Refused Closed)) g =
          let same : (node_at m' m'.head.node).next.node ≡ (node_at m m.head.node).next.node = ap (λ (r : Ref). (node_at m' r.node).next.node)
          (k.head o.1).1 ∙ ap (λ (x : Node). x.next.node) (n.dummy g.0) in
          (omega (arith, same, g.0), same ∙ g.1)
      unlocks (Some (Refused refusal)) g = ap (λ (r : Ref). r.count) (k.head o.1).1 ∙ g
      unlocks _ g = tt
  own_kept S7 k n f p o h = tail_kept k o.0 h
  own_kept S8 k n f p o h = (tail_kept k o.0 h.0, (k.tail o.0).1 ∙ h.1)
  own_kept S9 k n f p o h = (tail_kept k o.0 h.0, leaves_kept k o.0 c.due h.1)
  own_kept _ k n f p o h = tt

-- while no actor has the tail lock, Tail names the last node; and no `next` has a count
pub record TailLast (s : Setup) (m : Shared) (queue : List ℕ) : Type 0 where
  pub tail_last : m.tail_lock ≡ 0 → last_node queue ≡ m.tail.node
  pub no_counts : (n : ℕ) → 1 ≤ n → (node_at m n).next.count ≡ 0

-- what the two-lock queue asserts alone
abbrev pub two_lock : Queue
two_lock =
    record {
      kind = TwoLock;
      Words = TailLast;
      OwnAt = OwnAt;
      Rely = LocksRely;
      own_entry = own_entry;
      own_more = own_more;
      own_kept = own_kept;
      locks_kept = locks_kept;
      words_stay = λ s m m' front rest k h. record {
        tail_last = λ e. h.tail_last (sym k.tail_lock ∙ e) ∙ sym (ap (λ (r : Ref). r.node) k.tail);
        no_counts = λ n some. k.counts n some ∙ h.no_counts n some;
      };
      relies = λ s m m' front rest k h you.
          record {
            tail = λ e. (k.tail_lock ∙ e, k.tail, refl, ap (λ (x : Node). x.next) (k.nodes (last_node (front ∷ rest)) (last_times front rest)));
            tail_back = λ e. sym k.tail_lock ∙ e;
            head = λ e. (k.head_lock ∙ e, k.head);
            head_back = λ e. sym k.head_lock ∙ e;
          };
    }

-- what an actor knows before its line
abbrev pub InvariantAt : (Z : ℕ → Type 0) → Setup → Shared → (last : ℕ) → Actor → Option Line → Type 0
InvariantAt Z s m last a l = Knows two_lock Z s m last a l
