-- What an actor of the non-blocking queue knows of the shared words before a line of its own, and that steps of others
-- keep it.
use Rattle.std.proofs.Common.{◌≡◌, ◌≢◌, ℕ, ◌≤◌, ◌<◌, true, false, nat_eq, List, ◌∷◌, Option, Some, None, sym, ap, ◌∙◌, subst, arith, ◌⊎◌, inl, inr}
use Rattle.step_machine.specs.Below.{Ref, reserved_node, NonBlocking, Line, N1, E3, E5, E6, E7, E9, E13, E17, D3, D4, D5, D10, D12, D13, S2, S3, S4, S5, Node, Actor, Setup, Shared, node_at}
use Rattle.step_machine.specs.ProgramCounters.{NonNullAt}
use Rattle.step_machine.specs.Chains.{last_node, is_shut_chain}
use Rattle.step_machine.specs.Lag.{TailLags}
use Rattle.step_machine.proofs.Chains.{last_times}
use Rattle.step_machine.proofs.Counting.{holds, holds_own}
use Rattle.step_machine.proofs.Fixed.{FixedAt}
use Rattle.step_machine.proofs.StaleReferences.{Rises, IsCurrentOrStale, was_on, still_there}
use Rattle.step_machine.proofs.NonBlockingLag.{tail_times, lag_same}
use Rattle.step_machine.proofs.Assertions.{next_of, has_tail, has_head, Owns, OwnsAt, NodesRely, QueueStays, Queue, Knows}

-- the node in hand has the actor's value and leads to null, and its `next` is not worn out
abbrev pub Ready : (limit : ℕ) → Shared → Actor → Type 0
Ready limit m a = ((node_at m a.node).value ≡ a.val) × ((next_of m a.node).node ≡ 0) × (a.mark ≢ limit)

-- the register `next` was read from the node of the register `tail`: it is still there, or it was null, and the
-- count is higher
abbrev pub WasNext : Shared → Actor → Type 0
WasNext m a = (next_of m a.tail.node ≡ a.next) ⊎ ((a.next.node ≡ 0) × (a.next.count < (next_of m a.tail.node).count))

pub next_stays_there : (m : Shared) (a : Actor) → a.next.node ≢ 0 → WasNext m a → next_of m a.tail.node ≡ a.next
next_stays_there m a some (inl here) = here
next_stays_there m a some (inr gone) = absurd (some gone.0)

-- Tail may go on to a node: if the register `tail` is in the word still, that node follows
abbrev pub MayGoOn : Shared → Actor → (to : ℕ) → Type 0
MayGoOn m a to = IsCurrentOrStale m.tail a.tail × (m.tail ≡ a.tail → (next_of m a.tail.node).node ≡ to)

-- the first node may be taken away: if the register `head` is in the word still, the register `next` follows, and Tail
-- is elsewhere
abbrev pub MayTake : Shared → Actor → Type 0
MayTake m a =
    IsCurrentOrStale m.head a.head × (m.head ≡ a.head → (next_of m a.head.node ≡ a.next) × (m.tail.node ≢ a.head.node))

-- what a dequeue knows that read Head, Tail and the node after
abbrev pub Looked : (bits : ℕ) → Shared → Actor → Type 0
Looked bits m a =
    (m.head ≡ a.head → (1 ≤ a.next.node → next_of m a.head.node ≡ a.next) × (a.tail.node ≢ a.head.node → (m.tail.node ≢ a.head.node) × (1 ≤ a.next.node) × (a.next.node ≢ reserved_node bits)))

-- what an actor knows before a line of its own; `Z` is what is known of a number at which the queue was found empty
abbrev pub OwnAt : (Z : ℕ → Type 0) → Setup → Shared → (last : ℕ) → Actor → Option Line → Type 0
OwnAt Z s m last a (Some E3) = (node_at m a.node).value ≡ a.val
OwnAt Z s m last a (Some E5) = Ready s.limit m a
OwnAt Z s m last a (Some E6) = Ready s.limit m a × IsCurrentOrStale m.tail a.tail
OwnAt Z s m last a (Some E7) = Ready s.limit m a × IsCurrentOrStale m.tail a.tail × (m.tail ≡ a.tail → WasNext m a)
OwnAt Z s m last a (Some E9) =
    Ready s.limit m a × (a.next.node ≡ 0) × ((a.next.count < (next_of m a.tail.node).count) ⊎ ((m.tail ≡ a.tail) × (next_of m a.tail.node ≡ a.next)))
OwnAt Z s m last a (Some E13) = Ready s.limit m a × MayGoOn m a a.next.node
OwnAt Z s m last a (Some E17) = MayGoOn m a a.node
OwnAt Z s m last a (Some D3) = IsCurrentOrStale m.head a.head
OwnAt Z s m last a (Some D4) =
    IsCurrentOrStale m.head a.head × IsCurrentOrStale m.tail a.tail × (m.head ≡ a.head → a.tail.node ≢ a.head.node → m.tail.node ≢ a.head.node)
OwnAt Z s m last a (Some D5) =
    IsCurrentOrStale m.head a.head × IsCurrentOrStale m.tail a.tail × Looked s.bits m a × (m.head ≡ a.head → a.next.node ≡ 0 → Z a.empty_at)
OwnAt Z s m last a (Some D10) = MayGoOn m a a.next.node
OwnAt Z s m last a (Some D12) = MayTake m a
OwnAt Z s m last a (Some D13) = MayTake m a × (m.head ≡ a.head → (node_at m a.next.node).value ≡ a.val)
OwnAt Z s m last a (Some S2) = IsCurrentOrStale m.tail a.tail
OwnAt Z s m last a (Some S3) = IsCurrentOrStale m.tail a.tail × (m.tail ≡ a.tail → WasNext m a)
OwnAt Z s m last a (Some S4) =
    (a.next.node ≡ 0) × ((a.next.count < (next_of m a.tail.node).count) ⊎ ((m.tail ≡ a.tail) × (next_of m a.tail.node ≡ a.next)))
OwnAt Z s m last a (Some S5) = MayGoOn m a a.next.node
OwnAt Z s m last a _ = Unit {0}

-- where its operation stands says nothing of what an actor knows
pub own_entry : (Z : ℕ → Type 0) (s : Setup) (m : Shared) (last : ℕ) (a : Actor) (entry : Option ℕ) (l : Option Line) → OwnAt Z s m last a l → OwnAt Z s m last (record a { entry = entry }) l
own_entry Z s m last a entry None h = h
own_entry Z s m last a entry (Some N1) h = h
own_entry Z s m last a entry (Some _) h = h

-- so it does where more is known of the number noted
pub own_more : (Y Z : ℕ → Type 0) (s : Setup) (m : Shared) (last : ℕ) (a : Actor) (l : Option Line) → ((k : ℕ) → Y k → Z k) → OwnAt Y s m last a l → OwnAt Z s m last a l
own_more Y Z s m last a None more h = h
own_more Y Z s m last a (Some D5) more h = (h.0, h.1, h.2, λ e n. more a.empty_at (h.3 e n))
own_more Y Z s m last a (Some N1) more h = h
own_more Y Z s m last a (Some _) more h = h

-- what each step does with the words, for all actors
pub record Guarantee (m m' : Shared) : Type 0 where
  pub locks : (m'.tail_lock ≡ m.tail_lock) × (m'.head_lock ≡ m.head_lock)
  pub head : Rises m.head m'.head
  pub tail : Rises m.tail m'.tail
  pub tail_on : (m'.tail ≡ m.tail) ⊎ (1 ≤ (next_of m m.tail.node).node)
  pub tail_next : (next_of m' m.tail.node ≡ next_of m m.tail.node) ⊎ (((next_of m m.tail.node).node ≡ 0) × ((next_of m m.tail.node).count < (next_of m' m.tail.node).count))
  pub off : m'.head ≡ m.head → m.tail.node ≢ m.head.node → m'.tail.node ≢ m.head.node
  pub counts : (n : ℕ) → 1 ≤ n → (next_of m n).count ≤ (next_of m' n).count

module _ (s : Setup) (m m' : Shared) (c : Actor) (g : Guarantee m m') (n : NodesRely m m' c) where
  same_next : (j : ℕ) → node_at m' j ≡ node_at m j → next_of m' j ≡ next_of m j
  same_next j e = ap (λ (x : Node). x.next) e

  -- an actor with a node in its hand has it still as it was
  own : c.holds ≡ true → c.pocket ≡ None → 1 ≤ c.node → node_at m' c.node ≡ node_at m c.node
  own h p some = n.hand c.node some (let one : holds c.node c ≡ 1 = holds_own c h p in omega arith)

  ready : node_at m' c.node ≡ node_at m c.node → Ready s.limit m c → Ready s.limit m' c
  ready e h = (ap (λ (x : Node). x.value) e ∙ h.0, ap (λ (x : Node). x.next.node) e ∙ h.1, h.2)

  head_is : IsCurrentOrStale m.head c.head → m'.head ≡ c.head → m'.head ≡ m.head
  head_is h e = still_there m.head m'.head c.head g.head h e

  tail_is : IsCurrentOrStale m.tail c.tail → m'.tail ≡ c.tail → m'.tail ≡ m.tail
  tail_is h e = still_there m.tail m'.tail c.tail g.tail h e

  -- what follows Tail's node, where that is not null
  may_go_on : (to : ℕ) → 1 ≤ to → MayGoOn m c to → MayGoOn m' c to
  may_go_on to some h = (was_on m.tail m'.tail c.tail g.tail h.0, λ e. go (sym (tail_is h.0 e) ∙ e) g.tail_next)
    where
      go : m.tail ≡ c.tail
          → (next_of m' m.tail.node ≡ next_of m m.tail.node) ⊎ (((next_of m m.tail.node).node ≡ 0) × ((next_of m m.tail.node).count < (next_of m' m.tail.node).count))
          → (next_of m' c.tail.node).node ≡ to
      go was (inl same) =
          ap (λ (r : Ref). r.node) (subst (λ (r : Ref). next_of m' r.node ≡ next_of m r.node) was same) ∙ h.1 was
      go was (inr linked) =
          absurd (let none : (next_of m c.tail.node).node ≡ 0 = subst (λ (r : Ref). (next_of m r.node).node ≡ 0) was linked.0 in let leads : (next_of m c.tail.node).node ≡ to = h.1 was in omega arith)

  -- the `next` of Head's node stays where it is not null
  next_stays : (r : Ref) → 1 ≤ r.node → m.head ≡ c.head → next_of m c.head.node ≡ r → next_of m' c.head.node ≡ r
  next_stays r some was leads =
      same_next c.head.node (subst (λ (q : Ref). node_at m' q.node ≡ node_at m q.node) was (n.dummy (follows r some was leads))) ∙ leads
    where
      follows : (r : Ref) → 1 ≤ r.node → m.head ≡ c.head → next_of m c.head.node ≡ r → 1 ≤ (next_of m m.head.node).node
      follows r some was leads = subst (λ (q : Ref). 1 ≤ (next_of m q.node).node) (sym was) (subst (λ (q : Ref). 1 ≤ q.node) (sym leads) some)

  -- Tail stays elsewhere than Head
  off_stays : m'.head ≡ m.head → m.head ≡ c.head → m.tail.node ≢ c.head.node → m'.tail.node ≢ c.head.node
  off_stays same was off =
      subst (λ (r : Ref). m'.tail.node ≢ r.node) was (g.off same (subst (λ (r : Ref). m.tail.node ≢ r.node) (sym was) off))

  may_take : 1 ≤ c.next.node → MayTake m c → MayTake m' c
  may_take some h = (
    was_on m.head m'.head c.head g.head h.0,
    λ e. let same : m'.head ≡ m.head = head_is h.0 e in let was : m.head ≡ c.head = sym same ∙ e in (next_stays c.next some was (h.1 was).0, off_stays same was (h.1 was).1),
  )

  linked_next : (E9_next : Ref) → (a : (E9_next.count < (next_of m c.tail.node).count) ⊎ ((m.tail ≡ c.tail) × (next_of m c.tail.node ≡ E9_next)))
      → 1 ≤ c.tail.node → E9_next.node ≡ 0 → (E9_next.count < (next_of m' c.tail.node).count) ⊎ ((m'.tail ≡ c.tail) × (next_of m' c.tail.node ≡ E9_next))
  linked_next r (inl low) some none = inl (let more : (next_of m c.tail.node).count ≤ (next_of m' c.tail.node).count = g.counts c.tail.node some in omega arith)
  linked_next r (inr was) some none = go g.tail_next g.tail_on
    where
      null : (next_of m m.tail.node).node ≡ 0
      null = ap (λ (q : Ref). (next_of m q.node).node) was.0 ∙ ap (λ (q : Ref). q.node) was.1 ∙ none

      go : (next_of m' m.tail.node ≡ next_of m m.tail.node) ⊎ (((next_of m m.tail.node).node ≡ 0) × ((next_of m m.tail.node).count < (next_of m' m.tail.node).count))
          → (m'.tail ≡ m.tail) ⊎ (1 ≤ (next_of m m.tail.node).node)
          → (r.count < (next_of m' c.tail.node).count) ⊎ ((m'.tail ≡ c.tail) × (next_of m' c.tail.node ≡ r))
      go (inr more) t =
          inl (let up : (next_of m c.tail.node).count < (next_of m' c.tail.node).count =
          subst (λ (q : Ref). (next_of m q.node).count < (next_of m' q.node).count) was.0 more.1 in let at : (next_of m c.tail.node).count ≡
          r.count = ap (λ (q : Ref). q.count) was.1 in omega arith)
      go (inl same) (inl t) = inr (t ∙ was.0, subst (λ (q : Ref). next_of m' q.node ≡ next_of m q.node) was.0 same ∙ was.1)
      go (inl same) (inr some_next) = absurd (omega (arith, null))

  was_next : m.tail ≡ c.tail → WasNext m c → WasNext m' c
  was_next was (inl here) = go g.tail_next
    where
      go : (next_of m' m.tail.node ≡ next_of m m.tail.node) ⊎ (((next_of m m.tail.node).node ≡ 0) × ((next_of m m.tail.node).count < (next_of m' m.tail.node).count)) → WasNext m' c
      go (inl same) = inl (subst (λ (q : Ref). next_of m' q.node ≡ next_of m q.node) was same ∙ here)
      go (inr more) =
          let up : (next_of m c.tail.node).count < (next_of m' c.tail.node).count = subst (λ (q : Ref). (next_of m q.node).count < (next_of m' q.node).count) was more.1 in
          let none : (next_of m c.tail.node).node ≡ 0 = subst (λ (q : Ref). (next_of m q.node).node ≡ 0) was more.0 in
          let at : (next_of m c.tail.node).count ≡ c.next.count = ap (λ (q : Ref). q.count) here in
          inr (sym (ap (λ (q : Ref). q.node) here) ∙ none, omega arith)
  was_next was (inr gone) = go g.tail_next
    where
      go : (next_of m' m.tail.node ≡ next_of m m.tail.node) ⊎ (((next_of m m.tail.node).node ≡ 0) × ((next_of m m.tail.node).count < (next_of m' m.tail.node).count)) → WasNext m' c
      go (inl same) = inr (gone.0, subst (λ (q : Ref). c.next.count < q.count) (sym (subst (λ (q : Ref). next_of m' q.node ≡ next_of m q.node) was same)) gone.1)
      go (inr more) =
          let up : (next_of m c.tail.node).count < (next_of m' c.tail.node).count = subst (λ (q : Ref). (next_of m q.node).count < (next_of m' q.node).count) was more.1 in
          let low : c.next.count < (next_of m c.tail.node).count = gone.1 in
          inr (gone.0, omega arith)

  -- an actor still knows what it knew
  still_knows : (Z : ℕ → Type 0) (last last' me : ℕ) (l : Line) → FixedAt s.limit me c (Some l) → NonNullAt s.bits l c → OwnAt Z s m last c (Some l) → OwnAt Z s m' last' c (Some l)
  still_knows Z last last' me E3 f p h = ap (λ (x : Node). x.value) (own f.hand f.pocket p) ∙ h
  still_knows Z last last' me E5 f p h = ready (own f.hand f.pocket p) h
  still_knows Z last last' me E6 f p h = (ready (own f.hand f.pocket p.0) h.0, was_on m.tail m'.tail c.tail g.tail h.1)
  still_knows Z last last' me E7 f p h = (
    ready (own f.hand f.pocket p.0) h.0,
    was_on m.tail m'.tail c.tail g.tail h.1,
    λ e. let was : m.tail ≡ c.tail = sym (tail_is h.1 e) ∙ e in was_next was (h.2 was),
  )
  still_knows Z last last' me E9 f p h = (ready (own f.hand f.pocket p.0) h.0, h.1, linked_next c.next h.2 p.1 h.1)
  still_knows Z last last' me E13 f p h = (ready (own f.hand f.pocket p.0) h.0, may_go_on c.next.node p.2 h.1)
  still_knows Z last last' me E17 f p h = may_go_on c.node p.0 h
  still_knows Z last last' me D3 f p h = was_on m.head m'.head c.head g.head h
  still_knows Z last last' me D4 f p h = (
    was_on m.head m'.head c.head g.head h.0,
    was_on m.tail m'.tail c.tail g.tail h.1,
    λ e d. let same : m'.head ≡ m.head = head_is h.0 e in let was : m.head ≡ c.head = sym same ∙ e in off_stays same was (h.2 was d),
  )
  still_knows Z last last' me D5 f p h = (
    was_on m.head m'.head c.head g.head h.0,
    was_on m.tail m'.tail c.tail g.tail h.1,
    λ e. let same : m'.head ≡ m.head = head_is h.0 e in let was : m.head ≡ c.head = sym same ∙ e in (
      λ some. next_stays c.next some was ((h.2 was).0 some),
      λ d. (off_stays same was ((h.2 was).1 d).0, ((h.2 was).1 d).1, ((h.2 was).1 d).2),
    ),
    λ e none. h.3 (sym (head_is h.0 e) ∙ e) none,
  )
  still_knows Z last last' me D10 f p h = may_go_on c.next.node p.1 h
  still_knows Z last last' me D12 f p h = may_take p.1 h
  still_knows Z last last' me D13 f p h = (
    may_take p.1 h.0,
    λ e. let was : m.head ≡ c.head = sym (head_is h.0.0 e) ∙ e in subst (λ j. (node_at m' j).value ≡ (node_at m j).value) (at was) (n.front (leads was)) ∙ h.1 was,
  )
    where
      at : m.head ≡ c.head → (next_of m m.head.node).node ≡ c.next.node
      at was = ap (λ (r : Ref). (next_of m r.node).node) was ∙ ap (λ (r : Ref). r.node) (h.0.1 was).0

      leads : m.head ≡ c.head → 1 ≤ (next_of m m.head.node).node
      leads was = let e : (next_of m m.head.node).node ≡ c.next.node = at was in let some : 1 ≤ c.next.node = p.1 in omega arith
  still_knows Z last last' me S2 f p h = was_on m.tail m'.tail c.tail g.tail h
  still_knows Z last last' me S3 f p h = (
    was_on m.tail m'.tail c.tail g.tail h.0,
    λ e. let was : m.tail ≡ c.tail = sym (tail_is h.0 e) ∙ e in was_next was (h.1 was),
  )
  still_knows Z last last' me S4 f p h = (h.0, linked_next c.next h.1 p h.0)
  still_knows Z last last' me S5 f p h = may_go_on c.next.node p.1 h
  still_knows Z last last' me _ f p h = tt

-- where Tail is: at the last node once the queue is shut; and that the `next` of the last node is not worn out before
pub record LagsWithRoom (s : Setup) (m : Shared) (queue : List ℕ) : Type 0 where
  pub lag : TailLags m queue
  pub last_room : is_shut_chain s.bits m queue ≡ false → (next_of m (last_node queue)).count ≢ s.limit
  pub shut_last : is_shut_chain s.bits m queue ≡ true → m.tail.node ≡ last_node queue

pub own_kept : (Z : ℕ → Type 0) (s : Setup) (m m' : Shared) (last last' you : ℕ) (c : Actor) (l : Line) → Guarantee m m' → NodesRely m m' c
    → FixedAt s.limit you c (Some l) → NonNullAt s.bits l c → OwnsAt m you (Some l) → OwnAt Z s m last c (Some l) → OwnAt Z s m' last' c (Some l)
own_kept Z s m m' last last' you c l g n f p o h = still_knows s m m' c g n Z last last' you l f p h

-- the locks stay
pub locks_kept : (m m' : Shared) (you : ℕ) (l : Option Line) → Guarantee m m' → OwnsAt m you l → OwnsAt m' you l
locks_kept m m' you l g h = (subst (λ k. Owns k you (has_tail l)) (sym g.locks.0) h.0, subst (λ k. Owns k you (has_head l)) (sym g.locks.1) h.1)

-- a step that changes no word of the queue
pub moves_nothing : (s : Setup) (m m' : Shared) (front : ℕ) (rest : List ℕ) → QueueStays m m' (front ∷ rest) → LagsWithRoom s m (front ∷ rest) → Guarantee m m'
moves_nothing s m m' front rest k h =
    record {
      locks = (k.tail_lock, k.head_lock);
      head = inl k.head;
      tail = inl k.tail;
      tail_on = inl k.tail;
      tail_next = inl (ap (λ (x : Node). x.next) (k.nodes m.tail.node (tail_times m (front ∷ rest) h.lag)));
      off = λ e d. subst (λ (r : Ref). r.node ≢ m.head.node) (sym k.tail) d;
      counts = λ n one. omega (arith, k.counts n one);
    }

pub words_stay : (s : Setup) (m m' : Shared) (front : ℕ) (rest : List ℕ) → QueueStays m m' (front ∷ rest) → LagsWithRoom s m (front ∷ rest) → LagsWithRoom s m' (front ∷ rest)
words_stay s m m' front rest k h =
    record {
      lag = lag_same m m' (front ∷ rest) k.tail k.head h.lag;
      last_room = subst (λ (x : Node). nat_eq x.next.node (reserved_node s.bits) ≡ false → x.next.count ≢ s.limit) (sym last) h.last_room;
      shut_last = λ e. ap (λ (r : Ref). r.node) k.tail ∙ h.shut_last (ap (λ (x : Node). nat_eq x.next.node (reserved_node s.bits)) (sym last) ∙ e);
    }
  where
    last : node_at m' (last_node (front ∷ rest)) ≡ node_at m (last_node (front ∷ rest))
    last = k.nodes (last_node (front ∷ rest)) (last_times front rest)

-- what the non-blocking queue asserts alone
abbrev pub non_blocking : Queue
non_blocking =
    record {
      kind = NonBlocking;
      Words = LagsWithRoom;
      OwnAt = OwnAt;
      Rely = λ m m' last last' you. Guarantee m m';
      own_entry = own_entry;
      own_more = own_more;
      own_kept = own_kept;
      locks_kept = λ m m' last last' you l g h. locks_kept m m' you l g h;
      words_stay = words_stay;
      relies = λ s m m' front rest k h you. moves_nothing s m m' front rest k h;
    }

-- what an actor knows before its line
abbrev pub InvariantAt : (Z : ℕ → Type 0) → Setup → Shared → (last : ℕ) → Actor → Option Line → Type 0
InvariantAt Z s m last a l = Knows non_blocking Z s m last a l
