-- What each effect of a step does with the words, the chains, the marks and what is known, for both queues; and so the
-- steps of the free list's lines, and each giving up.
use Rattle.std.proofs.Common.{◌≡◌, ◌≢◌, ℕ, zero, suc, ◌+◌, ◌≤◌, true, false, nat_eq, nat_lt, List, [], ◌∷◌, ◌++◌, length, Option, Some, None, IfSome, refl, sym, ap, ◌∙◌, subst, arith, ◌⊎◌, inl, inr}
use Rattle.std.proofs.lemmas.Bool.{eqb-true, true≢false}
use Rattle.step_machine.specs.Below.{Ref, ref, is_null, same_ref, Kind, TwoLock, NonBlocking, Line, N1, N2, N3, N4, N5, F1, F2, F3, E5, D2, A3, B1}
use Rattle.step_machine.specs.Below.{S1, S6, OfFree, Refusal, NoNode, WornOut, Busy, Closed, Deq, Shut, Reply, Done, Value, Refused, leaves, Node}
use Rattle.step_machine.specs.Below.{Actor, Outcome, Setup, Shared, node_at, put, performed, found, Fresh, Free, Head, Next, action, outcome, raised}
use Rattle.step_machine.specs.Below.{reserved_node, goes, freed, sets_aside, fills_hand, empties_hand, to_pocket, with_node, busy_or, gives_up}
use Rattle.counted_ref.proofs.Words.{same_ref-true}
use Rattle.step_machine.specs.Completion.{decided_reply, completed_reply}
use Rattle.step_machine.specs.Places.{IsEnd, one_if, times}
use Rattle.step_machine.specs.Chains.{last_node, queue_values, is_shut_chain}
use Rattle.step_machine.proofs.Choices.{either, tried}
use Rattle.step_machine.proofs.Chains.{last_within, last_times, last_linked, null_times, free_goes_on, null_open, closed_shut}
use Rattle.step_machine.proofs.Counting.{holds, asides, holds_hand, holds_none, holds_own}
use Rattle.step_machine.proofs.Effects.{Shape, Turn, Took, others_stay, written, next_keeps_value, not_linked, last_there, turn_words, turn_aside}
use Rattle.step_machine.proofs.Effects.{turn_claim, turn_take, turn_giveback, turn_node, turn_link, turn_shut, turn_pop, with_node as with_new}
use Rattle.step_machine.proofs.Fixed.{FixedAt, Pushes, DecidedFreeing}
use Rattle.step_machine.proofs.LinearizationSteps.{LinearizationStep, KeepsReply, stutters, refused, closed, pushed, popped, shut, raised_node, raised_count}
use Rattle.step_machine.proofs.StaleReferences.{Rises}
use Rattle.step_machine.proofs.StampsLists.{same_or_not}
use Rattle.step_machine.proofs.Assertions.{next_of, OwnsAt, IsMark, Marked, QueueStays, Queue, Knows, Found, Before, After, AtLine, Steps, marks_kept}

-- what an exchange writes rises, where its count is not at the limit
raised_rises : (s : Setup) (old r : Ref) (to : ℕ) → to ≢ reserved_node s.bits → old ≡ r → r.count ≢ s.limit → Rises old (raised s r to)
raised_rises s old r to n e d = inr (let up : (raised s r to).count ≡ r.count + 1 = raised_count s r to n d in let c : old.count ≡ r.count = ap (λ (x : Ref). x.count) e in omega arith)

-- an actor whose hand and pocket are empty has no marks
pub no_marks : (m : Shared) (b : Actor) → b.holds ≡ false → b.pocket ≡ None → Marked m b
no_marks m b h p = record { hand = λ e. absurd (true≢false (sym e ∙ h)); pocket = subst (λ x. IfSome x (λ held. IsMark m held.node held.mark)) (sym p) tt }

-- an actor with a node in its hand and an empty pocket has its mark
pub one_mark : (m : Shared) (b : Actor) → b.pocket ≡ None → IsMark m b.node b.mark → Marked m b
one_mark m b p h = record { hand = λ e. h; pocket = subst (λ x. IfSome x (λ held. IsMark m held.node held.mark)) (sym p) tt }

module _ (q : Queue) (b : Before q) where
  open b use {Z, s, m, E, front, rest, free, me, now, a, shape, unused, words, few_nodes, mine, low, hand_no_end, marked}

  -- the words become these, and the outcome is this one
  abbrev pub Goes : Shared → Outcome → Type 0
  Goes m' o = After q b m' o

  -- what the actor of an outcome knows then, where the queue has the last node that it had
  abbrev pub Learns : Shared → Outcome → Type 0
  Learns m' o = Knows q (Found s.bits m (front ∷ rest) now) s m' (last_node (front ∷ rest)) o.actor o.actor.line

  -- what the step means, where the queue's chain stays
  abbrev pub Means : Shared → Outcome → Type 0
  Means m' o = LinearizationStep s.bits Z me now m m' (front ∷ rest) (front ∷ rest) a o

  -- no word of the queue changes
  leaves_queue : (m' : Shared) (o : Outcome) (free' : List ℕ) → QueueStays m m' (front ∷ rest)
      → Turn s.bits m m' (front ∷ rest) free (front ∷ rest) free' a o.actor o.aside → IfSome o.aside (λ k. (1 ≤ k) × (1 ≤ holds k a)) → Rises m.free m'.free
      → Marked m' o.actor → Learns m' o → OwnsAt m' me o.actor.line → Means m' o → Goes m' o
  leaves_queue m' o free' stays turn own up marks knows owns account =
      record {
        front' = front;
        rest' = rest;
        free' = free';
        turn = turn;
        own_aside = own;
        rises = up;
        relies = λ you one other. q.relies s m m' front rest stays words you;
        words = q.words_stay s m m' front rest stays words;
        marked = marks;
        knows = knows;
        owns = owns;
        linearizes = account;
      }

  -- no node is set aside
  none_aside : (o : Outcome) → o.aside ≡ None → IfSome o.aside (λ k. (1 ≤ k) × (1 ≤ holds k a))
  none_aside o none = subst (λ x. IfSome x (λ k. (1 ≤ k) × (1 ≤ holds k a))) (sym none) tt

  turn_none : (m' : Shared) (o : Outcome) (front' : ℕ) (rest' free' : List ℕ) → o.aside ≡ None
      → Turn s.bits m m' (front ∷ rest) free (front' ∷ rest') free' a o.actor None
      → Turn s.bits m m' (front ∷ rest) free (front' ∷ rest') free' a o.actor o.aside
  turn_none m' o front' rest' free' none = subst (λ x. Turn s.bits m m' (front ∷ rest) free (front' ∷ rest') free' a o.actor x) (sym none)

  -- Free and Fresh are no words of the queue
  queue_stays : (top : Ref) (fresh : ℕ) → QueueStays m (record m { free = top; fresh = fresh }) (front ∷ rest)
  queue_stays top fresh = record { head = refl; tail = refl; tail_lock = refl; head_lock = refl; nodes = λ n here. refl; counts = λ n one. refl }

  -- an outcome in which the actor holds what it held, and no word is written
  pub still : (o : Outcome) → ((n : ℕ) → holds n o.actor ≡ holds n a) → o.aside ≡ None → Marked m o.actor → Learns m o → OwnsAt m me o.actor.line → Means m o → Goes m o
  still o same none =
      leaves_queue m o free (queue_stays m.free m.fresh) (turn_none m o front rest free none
      (turn_words s.bits m m E (front ∷ rest) free a o.actor shape refl refl refl refl same)) (none_aside o none) (inl refl)

  -- the call goes on, and has earned nothing
  pub on : (o : Outcome) → decided_reply a.due ≡ None → o.at ≡ None → ((n : ℕ) → holds n o.actor ≡ holds n a) → o.aside ≡ None → Marked m o.actor → Learns m o → OwnsAt m me o.actor.line → Goes m o
  on o u at same none marks knows owns = still o same none marks knows owns (stutters refl refl refl at (inl u))

  -- the call ends with a refusal
  pub refuses : (o : Outcome) (refusal : Refusal) → decided_reply a.due ≡ None → o.at ≡ Some now → o.reply ≡ Some (Refused refusal) → leaves refusal ≡ true
      → ((n : ℕ) → holds n o.actor ≡ holds n a) → o.aside ≡ None → Marked m o.actor → o.actor.line ≡ None → OwnsAt m me None → Goes m o
  refuses o refusal u at reply ok same none marks over owns =
      still o same none marks (subst (Knows q (Found s.bits m (front ∷ rest) now) s m (last_node (front ∷ rest)) o.actor) (sym over) tt)
      (subst (OwnsAt m me) (sym over) owns) (refused refusal refl refl refl at reply ok u)

  -- so it does since the queue is shut, to a pop where it has no value
  pub finds_shut : (o : Outcome) → decided_reply a.due ≡ None → o.at ≡ Some now → o.reply ≡ Some (Refused Closed) → is_shut_chain s.bits m (front ∷ rest) ≡ true
      → (a.op ≡ Deq → queue_values m (front ∷ rest) ≡ []) → ((n : ℕ) → holds n o.actor ≡ holds n a) → o.aside ≡ None → Marked m o.actor → o.actor.line ≡ None
      → OwnsAt m me None → Goes m o
  finds_shut o u at reply is_shut no_values same none marks over owns =
      still o same none marks (subst (Knows q (Found s.bits m (front ∷ rest) now) s m (last_node (front ∷ rest)) o.actor) (sym over) tt)
      (subst (OwnsAt m me) (sym over) owns) (closed refl refl refl at reply is_shut no_values u)

  -- the node in hand is in the hand once
  own : a.holds ≡ true → a.pocket ≡ None → 1 ≤ holds a.node a
  own h p = let one : holds a.node a ≡ 1 = holds_own a h p in omega arith

  -- the hand of an actor that lets its node go
  let_go : (c : Actor) → a.holds ≡ true → a.pocket ≡ None → c.holds ≡ false → c.pocket ≡ None → (n : ℕ) → holds n c + one_if (nat_eq n a.node) ≡ holds n a
  let_go c h p g r n = omega (arith, holds_none n c g r, holds_hand n a h p)

  -- the hand of an actor that takes a node
  took : (c : Actor) (k : ℕ) → a.holds ≡ false → a.pocket ≡ None → c.holds ≡ true → c.pocket ≡ None → c.node ≡ k → (n : ℕ) → holds n c ≡ holds n a + one_if (nat_eq n k)
  took c k h p g r e n =
      let at : one_if (nat_eq n c.node) ≡ one_if (nat_eq n k) = ap (λ j. one_if (nat_eq n j)) e in
      omega (arith, holds_hand n c g r, holds_none n a h p, at)

  -- the node in hand is set aside
  aside : (o : Outcome) → a.holds ≡ true → a.pocket ≡ None → 1 ≤ a.node → o.actor.holds ≡ false → o.actor.pocket ≡ None → o.aside ≡ Some a.node → Learns m o
      → OwnsAt m me o.actor.line → o.at ≡ None → KeepsReply a o → Goes m o
  aside o h p some g r e knows owns at keeps =
      leaves_queue m o free (queue_stays m.free m.fresh)
      (subst (λ x. Turn s.bits m m (front ∷ rest) free (front ∷ rest) free a o.actor x) (sym e) (turn_aside s.bits m E (front ∷ rest) free a o.actor a.node shape (let_go o.actor h p g r)))
      (subst (λ x. IfSome x (λ k. (1 ≤ k) × (1 ≤ holds k a))) (sym e) (some, own h p)) (inl refl) (no_marks m o.actor g r) knows owns (stutters refl refl refl at keeps)

  aside_freed : (kind : Kind) (due : Option Reply) (top : Ref) → a.due ≡ due → DecidedFreeing due → a.holds ≡ true → a.pocket ≡ None → 1 ≤ a.node
      → OwnsAt m me None → Goes m (sets_aside (freed kind now due (record a { top = top })))
  aside_freed TwoLock None top d f h p some g = aside _ h p some refl p refl tt g refl (inr (λ n. refl))
  aside_freed NonBlocking None top d f h p some g = aside _ h p some refl p refl tt g refl (inr (λ n. refl))
  aside_freed kind (Some (Value v)) top d f h p some g = aside _ h p some refl p refl tt g refl (inr (λ n. sym (ap decided_reply d)))
  aside_freed kind _ top d f h p some g = absurd f

  -- the node in hand goes before the free ones
  gives_back : (o : Outcome) → a.holds ≡ true → a.pocket ≡ None → 1 ≤ a.node → m.free ≡ a.top → a.top.count ≢ s.limit → next_of m a.node ≡ ref a.top.node a.mark
      → o.actor.holds ≡ false → o.actor.pocket ≡ None → o.aside ≡ None → Learns (put Free (raised s a.top a.node) m) o → OwnsAt m me o.actor.line → o.at ≡ None
      → KeepsReply a o → Goes (put Free (raised s a.top a.node) m) o
  gives_back o h p some was room leads g r none knows owns no_at keeps =
      leaves_queue (put Free (raised s a.top a.node) m) o (a.node ∷ free) (queue_stays (raised s a.top a.node) m.fresh)
      (turn_none (put Free (raised s a.top a.node) m) o front rest (a.node ∷ free) none
      (turn_giveback s.bits m E (front ∷ rest) free a o.actor (raised s a.top a.node) a.node shape some low
      (ap (λ (x : Ref). x.node) leads ∙ sym (ap (λ (x : Ref). x.node) was)) (raised_node s a.top a.node hand_no_end room)
      (let_go o.actor h p g r)))
      (none_aside o none) (raised_rises s m.free a.top a.node hand_no_end was room) (no_marks (put Free (raised s a.top a.node) m) o.actor g r) knows owns (stutters refl refl refl no_at keeps)

  gives_back_freed : (kind : Kind) (due : Option Reply) → a.due ≡ due → DecidedFreeing due → a.holds ≡ true → a.pocket ≡ None → 1 ≤ a.node → m.free ≡ a.top
      → a.top.count ≢ s.limit → next_of m a.node ≡ ref a.top.node a.mark → OwnsAt m me None
      → Goes (put Free (raised s a.top a.node) m) (freed kind now due (empties_hand a))
  gives_back_freed TwoLock None d f h p some was room leads g = gives_back _ h p some was room leads refl p refl tt g refl (inr (λ n. refl))
  gives_back_freed NonBlocking None d f h p some was room leads g = gives_back _ h p some was room leads refl p refl tt g refl (inr (λ n. refl))
  gives_back_freed kind (Some (Value v)) d f h p some was room leads g = gives_back _ h p some was room leads refl p refl tt g refl (inr (λ n. sym (ap decided_reply d)))
  gives_back_freed kind _ d f h p some was room leads g = absurd f

  -- the node in hand is no node of the queue
  node_stays : (k : ℕ) (x : Node) → 1 ≤ k → k ≤ length m.nodes → 1 ≤ holds k a → x.next.count ≡ (next_of m k).count → QueueStays m (with_new m k x) (front ∷ rest)
  node_stays k x some within here e =
      record {
        head = refl;
        tail = refl;
        tail_lock = refl;
        head_lock = refl;
        nodes = λ n queued. others_stay m.nodes k n x some (not_null n queued) (λ d. let there : 1 ≤ times k (front ∷ rest) = subst (λ j. 1 ≤ times j (front ∷ rest)) d queued in omega (arith, apart));
        counts = λ n one. go n one (same_or_not n k);
      }
    where
      apart : times k (front ∷ rest) ≡ 0
      apart = (not_linked s.bits m E (front ∷ rest) free shape k some (omega (arith, mine k))).0

      not_null : (n : ℕ) → 1 ≤ times n (front ∷ rest) → 1 ≤ n
      not_null zero queued = absurd (let none : times 0 (front ∷ rest) ≡ 0 = null_times (IsEnd s.bits) m.nodes (front ∷ rest) m.head.node shape.queue_chain in omega arith)
      not_null (suc n) queued = omega arith

      go : (n : ℕ) → 1 ≤ n → (n ≡ k) ⊎ (n ≢ k) → (next_of (with_new m k x) n).count ≡ (next_of m n).count
      go n one (inl d) =
          subst (λ j. (next_of (with_new m k x) j).count ≡ (next_of m j).count) (sym d) (ap (λ (y : Node). y.next.count) (written m.nodes k x some within) ∙ e)
      go n one (inr d) = ap (λ (y : Node). y.next.count) (others_stay m.nodes k n x some one d)

  -- so the queue's chain keeps its end where the node in hand is written
  pub hand_flag : (x : Node) → a.holds ≡ true → a.pocket ≡ None → 1 ≤ a.node → x.next.count ≡ (next_of m a.node).count
      → is_shut_chain s.bits (with_new m a.node x) (front ∷ rest) ≡ is_shut_chain s.bits m (front ∷ rest)
  hand_flag x h p some count =
      ap (λ (n : Node). nat_eq n.next.node (reserved_node s.bits)) ((node_stays a.node x some low (own h p) count).nodes (last_node (front ∷ rest)) (last_times front rest))

  -- the node in hand is written, and its count stays; it may be set aside
  writes_any : (o : Outcome) (x : Node) → a.holds ≡ true → a.pocket ≡ None → 1 ≤ a.node → x.next.count ≡ (next_of m a.node).count
      → ((n : ℕ) → holds n o.actor + asides n o.aside ≡ holds n a) → IfSome o.aside (λ k. (1 ≤ k) × (1 ≤ holds k a)) → Marked (with_new m a.node x) o.actor
      → Learns (with_new m a.node x) o → OwnsAt m me o.actor.line → Means (with_new m a.node x) o → Goes (with_new m a.node x) o
  writes_any o x h p some count away kept =
      leaves_queue (with_new m a.node x) o free (node_stays a.node x some low (own h p) count)
      (record {
        queue_chain = t.queue_chain;
        free_chain = t.free_chain;
        counts = λ n one. omega (arith, t.counts n one, away n);
        writes = t.writes;
      })
      kept (inl refl)
    where
      t : Turn s.bits m (with_new m a.node x) (front ∷ rest) free (front ∷ rest) free a a None
      t = turn_node s.bits m E (front ∷ rest) free a a a.node x shape mine some (own h p) (λ n. refl)

  -- it stays in the hand
  pub writes : (o : Outcome) (x : Node) → a.holds ≡ true → a.pocket ≡ None → 1 ≤ a.node → x.next.count ≡ (next_of m a.node).count → o.actor.holds ≡ true
      → o.actor.pocket ≡ None → o.actor.node ≡ a.node → o.actor.mark ≡ x.next.count → o.aside ≡ None → Learns (with_new m a.node x) o → OwnsAt m me o.actor.line
      → o.at ≡ None → KeepsReply a o → Goes (with_new m a.node x) o
  writes o x h p some count g r at mark none knows owns no_at keeps =
      writes_any o x h p some count same (none_aside o none)
      (one_mark (with_new m a.node x) o.actor r (
        subst (λ k. 1 ≤ k) (sym at) some,
        ap (λ k. (next_of (with_new m a.node x) k).count) at ∙ ap
            (λ (y : Node). y.next.count) (written m.nodes a.node x some low) ∙ sym mark,
      )) knows owns
      (stutters refl refl (hand_flag x h p some count) no_at keeps)
    where
      same : (n : ℕ) → holds n o.actor + asides n o.aside ≡ holds n a
      same n =
          let zero_asides : asides n o.aside ≡ 0 = ap (asides n) none in
          let at_one : one_if (nat_eq n o.actor.node) ≡ one_if (nat_eq n a.node) = ap (λ j. one_if (nat_eq n j)) at in
          omega (arith, holds_hand n o.actor g r, holds_hand n a h p)

  -- it is set aside
  pub writes_aside : (o : Outcome) (x : Node) → a.holds ≡ true → a.pocket ≡ None → 1 ≤ a.node → x.next.count ≡ (next_of m a.node).count → o.actor.holds ≡ false
      → o.actor.pocket ≡ None → o.aside ≡ Some a.node → Learns (with_new m a.node x) o → OwnsAt m me o.actor.line → Means (with_new m a.node x) o
      → Goes (with_new m a.node x) o
  writes_aside o x h p some count g r put_there =
      writes_any o x h p some count same (subst (λ y. IfSome y (λ j. (1 ≤ j) × (1 ≤ holds j a))) (sym put_there) (some, own h p))
      (no_marks (with_new m a.node x) o.actor g r)
    where
      same : (n : ℕ) → holds n o.actor + asides n o.aside ≡ holds n a
      same n =
          let one : asides n o.aside ≡ one_if (nat_eq n a.node) = ap (asides n) put_there in
          omega (arith, let_go o.actor h p g r n)

  -- the first free node comes into the hand
  takes_node : (to : Line) → a.holds ≡ false → a.pocket ≡ None → 1 ≤ a.top.node → m.free ≡ a.top → a.top.count ≢ s.limit → next_of m a.top.node ≡ a.next
      → decided_reply a.due ≡ None → Learns (put Free (raised s a.top a.next.node) m) (goes to (fills_hand a.top.node a.next.count a)) → OwnsAt m me (Some to)
      → Goes (put Free (raised s a.top a.next.node) m) (goes to (fills_hand a.top.node a.next.count a))
  takes_node to h p some was room next u knows owns =
      leaves_queue (put Free (raised s a.top a.next.node) m) (goes to c) free_nodes.rest (queue_stays (raised s a.top a.next.node) m.fresh)
      free_nodes.turn tt (raised_rises s m.free a.top a.next.node goes_on was room)
      (one_mark (put Free (raised s a.top a.next.node) m) (goes to c).actor p (some, ap (λ (r : Ref). r.count) next)) knows owns (stutters refl refl refl refl (inl u))
    where
      c : Actor
      c = fills_hand a.top.node a.next.count a

      -- the free chain ends at null, so no free node leads to the closed end
      goes_on : a.next.node ≢ reserved_node s.bits
      goes_on =
          subst (λ (r : Ref). r.node ≢ reserved_node s.bits) (ap (λ (r : Ref). next_of m r.node) was ∙ next)
          (free_goes_on s.bits m.nodes m.free.node free few_nodes (subst (λ (r : Ref). 1 ≤ r.node) (sym was) some) shape.free_chain)

      free_nodes : Took s.bits m (raised s a.top a.next.node) (front ∷ rest) free a (goes to c).actor
      free_nodes =
          turn_take s.bits m E (front ∷ rest) free a (goes to c).actor (raised s a.top a.next.node) shape (subst (λ (r : Ref). 1 ≤ r.node) (sym was) some)
          (raised_node s a.top a.next.node goes_on room ∙ sym (ap (λ (r : Ref). r.node) (ap (λ (r : Ref). next_of m r.node) was ∙ next)))
          (took (goes to c).actor m.free.node h p refl p (sym (ap (λ (r : Ref). r.node) was)))

  takes_to : (kind : Kind) → a.holds ≡ false → a.pocket ≡ None → 1 ≤ a.top.node → m.free ≡ a.top → a.top.count ≢ s.limit → next_of m a.top.node ≡ a.next
      → decided_reply a.due ≡ None → OwnsAt m me None
      → Goes (put Free (raised s a.top a.next.node) m) (goes (with_node kind) (fills_hand a.top.node a.next.count a))
  takes_to TwoLock h p some was room next u g = takes_node (with_node TwoLock) h p some was room next u tt g
  takes_to NonBlocking h p some was room next u g = takes_node (with_node NonBlocking) h p some was room next u tt g

  -- a node never used comes into the hand
  claims_node : (to : Line) → a.holds ≡ false → a.pocket ≡ None → m.fresh ≡ a.f → decided_reply a.due ≡ None
      → Learns (put Fresh (a.f + 1) m) (goes to (fills_hand (a.f + 1) 0 a)) → OwnsAt m me (Some to)
      → Goes (put Fresh (a.f + 1) m) (goes to (fills_hand (a.f + 1) 0 a))
  claims_node to h p was u knows owns =
      let c : Actor = (goes to (fills_hand (a.f + 1) 0 a)).actor in
      leaves_queue (put Fresh (a.f + 1) m) (goes to (fills_hand (a.f + 1) 0 a)) free (queue_stays m.free (a.f + 1))
      (turn_claim s.bits m E (front ∷ rest) free a c (a.f + 1) shape (ap (λ k. k + 1) (sym was)) (took c (m.fresh + 1) h p refl p (ap (λ k. k + 1) (sym was)))) tt (inl refl)
      (one_mark (put Fresh (a.f + 1) m) c p (omega arith, unused (a.f + 1) (omega (arith, was)))) knows owns (stutters refl refl refl refl (inl u))

  claims_to : (kind : Kind) → a.holds ≡ false → a.pocket ≡ None → m.fresh ≡ a.f → decided_reply a.due ≡ None → OwnsAt m me None
      → Goes (put Fresh (a.f + 1) m) (goes (with_node kind) (fills_hand (a.f + 1) 0 a))
  claims_to TwoLock h p was u g = claims_node (with_node TwoLock) h p was u tt g
  claims_to NonBlocking h p was u g = claims_node (with_node NonBlocking) h p was u tt g

  -- a word is written that starts no chain and is no node
  pub writes_word : (m' : Shared) (o : Outcome) → m'.nodes ≡ m.nodes → m'.head ≡ m.head → m'.free ≡ m.free → m'.fresh ≡ m.fresh
      → ((n : ℕ) → holds n o.actor ≡ holds n a) → o.aside ≡ None
      → ((you : ℕ) → 1 ≤ you → you ≢ me → q.Rely m m' (last_node (front ∷ rest)) (last_node (front ∷ rest)) you) → q.Words s m' (front ∷ rest)
      → Marked m' o.actor → Learns m' o → OwnsAt m' me o.actor.line → Means m' o → Goes m' o
  writes_word m' o nodes head top fresh same none relies wordz marks knows owns account =
      record {
        front' = front;
        rest' = rest;
        free' = free;
        turn = turn_none m' o front rest free none (turn_words s.bits m m' E (front ∷ rest) free a o.actor shape nodes (ap (λ (r : Ref). r.node) head) (ap (λ (r : Ref). r.node) top) fresh same);
        own_aside = none_aside o none;
        rises = inl top;
        relies = relies;
        words = wordz;
        marked = marks;
        knows = knows;
        owns = owns;
        linearizes = account;
      }

  -- what holds where the `next` of a node becomes a reference, so that the node in hand is the last one of the queue
  pub record Links (k : ℕ) (r : Ref) (o : Outcome) : Type 0 where
    pub last : k ≡ last_node (front ∷ rest)
    pub unlinked : (next_of m k).node ≡ 0
    pub hand : a.holds ≡ true
    pub pocket : a.pocket ≡ None
    pub some_node : 1 ≤ a.node
    pub ready : ((node_at m a.node).value ≡ a.val) × ((next_of m a.node).node ≡ 0)
    pub names : r.node ≡ a.node
    pub let_go : o.actor.holds ≡ false
    pub empty : o.actor.pocket ≡ None
    pub no_aside : o.aside ≡ None
    pub relies : (you : ℕ) → 1 ≤ you → you ≢ me → q.Rely m (put (Next k) r m) (last_node (front ∷ rest)) (last_node (front ∷ rest ++ a.node ∷ [])) you
    pub words_then : q.Words s (put (Next k) r m) (front ∷ rest ++ a.node ∷ [])
    pub knows : Knows q (Found s.bits m (front ∷ rest) now) s (put (Next k) r m) (last_node (front ∷ rest ++ a.node ∷ [])) o.actor o.actor.line
    pub owns : OwnsAt m me o.actor.line
    pub at : o.at ≡ Some now
    pub earns : completed_reply o.reply (Some now) o.actor.due ≡ Some Done
    pub pushes : Pushes me a.op a.val
    pub undecided : decided_reply a.due ≡ None

  pub links : (k : ℕ) (r : Ref) (o : Outcome) → Links k r o → Goes (put (Next k) r m) o
  links k r o h =
      record {
        front' = front;
        rest' = rest ++ a.node ∷ [];
        free' = free;
        turn =
            turn_none (put (Next k) r m) o front (rest ++ a.node ∷ []) free h.no_aside
            (turn_link s.bits m E front rest free a o.actor k a.node r shape mine h.last h.unlinked h.some_node low (own h.hand h.pocket) h.ready.1
            h.names (let_go o.actor h.hand h.pocket h.let_go h.empty));
        own_aside = none_aside o h.no_aside;
        rises = inl refl;
        relies = h.relies;
        words = h.words_then;
        marked = no_marks (put (Next k) r m) o.actor h.let_go h.empty;
        knows = h.knows;
        owns = h.owns;
        linearizes = pushed refl refl open_before open_after h.at h.earns (next_keeps_value m k r a.node within.0 within.1 h.some_node ∙ h.ready.0) h.pushes h.undecided;
      }
    where
      within : (1 ≤ k) × (k ≤ length m.nodes)
      within = subst (λ j. (1 ≤ j) × (j ≤ length m.nodes)) (sym h.last) (last_within (IsEnd s.bits) m.nodes front rest m.head.node shape.queue_chain)

      -- the last node before and after led to null
      open_before : is_shut_chain s.bits m (front ∷ rest) ≡ false
      open_before = ap (λ n. nat_eq n (reserved_node s.bits)) (ap (λ j. (next_of m j).node) (sym h.last) ∙ h.unlinked) ∙ null_open s.bits (length m.nodes) few_nodes

      other : a.node ≢ k
      other e = omega (
        arith,
        (not_linked s.bits m E (front ∷ rest) free shape a.node h.some_node
            (let here : holds a.node a ≤ E a.node = mine a.node in omega (arith, own h.hand h.pocket))).0,
        ap (λ j. times j (front ∷ rest)) (e ∙ h.last),
        last_times front rest,
      )

      open_after : is_shut_chain s.bits (put (Next k) r m) (front ∷ rest ++ a.node ∷ []) ≡ false
      open_after =
          ap (λ n. nat_eq n (reserved_node s.bits))
          (ap (λ j. (next_of (put (Next k) r m) j).node) (last_linked front rest a.node)
          ∙ ap (λ (y : Node). y.next.node) (others_stay m.nodes k a.node (record (node_at m k) { next = r }) within.0 h.some_node other)
          ∙ h.ready.1) ∙
          null_open s.bits (length m.nodes) few_nodes

  -- what holds where the `next` of the last node, which was null, becomes a closed end
  pub record Shuts (k : ℕ) (r : Ref) (o : Outcome) : Type 0 where
    pub last : k ≡ last_node (front ∷ rest)
    pub unlinked : (next_of m k).node ≡ 0
    pub closes : r.node ≡ reserved_node s.bits
    pub same : (n : ℕ) → holds n o.actor ≡ holds n a
    pub no_aside : o.aside ≡ None
    pub relies : (you : ℕ) → 1 ≤ you → you ≢ me → q.Rely m (put (Next k) r m) (last_node (front ∷ rest)) (last_node (front ∷ rest)) you
    pub words_then : q.Words s (put (Next k) r m) (front ∷ rest)
    pub keeps_marks : Marked (put (Next k) r m) a → Marked (put (Next k) r m) o.actor
    pub knows : Learns (put (Next k) r m) o
    pub owns : OwnsAt m me o.actor.line
    pub at : o.at ≡ Some now
    pub earns : completed_reply o.reply (Some now) o.actor.due ≡ Some Done
    pub call : a.op ≡ Shut
    pub undecided : decided_reply a.due ≡ None

  pub shuts : (k : ℕ) (r : Ref) (o : Outcome) → Shuts k r o → Goes (put (Next k) r m) o
  shuts k r o h =
      record {
        front' = front;
        rest' = rest;
        free' = free;
        turn = turn_none (put (Next k) r m) o front rest free h.no_aside (turn_shut s.bits m E front rest free a o.actor k r shape h.last h.unlinked (inr h.closes) h.same);
        own_aside = none_aside o h.no_aside;
        rises = inl refl;
        relies = h.relies;
        words = h.words_then;
        marked = h.keeps_marks (marks_kept m (put (Next k) r m) a hand_stays marked);
        knows = h.knows;
        owns = h.owns;
        linearizes = shut refl refl open_before shut_then h.at h.earns h.call h.undecided;
      }
    where
      there : (1 ≤ k) × (k ≤ length m.nodes) × (1 ≤ times k (front ∷ rest))
      there = last_there s.bits m E front rest free k shape h.last

      hand_stays : (n : ℕ) → 1 ≤ n → 1 ≤ holds n a → node_at (put (Next k) r m) n ≡ node_at m n
      hand_stays n some here =
          others_stay m.nodes k n (record (node_at m k) { next = r }) there.0 some
          (λ e. omega (arith, (not_linked s.bits m E (front ∷ rest) free shape n some (let held : holds n a ≤ E n = mine n in omega arith)).0, ap (λ j. times j (front ∷ rest)) e, there.2))

      open_before : is_shut_chain s.bits m (front ∷ rest) ≡ false
      open_before = ap (λ n. nat_eq n (reserved_node s.bits)) (ap (λ j. (next_of m j).node) (sym h.last) ∙ h.unlinked) ∙ null_open s.bits (length m.nodes) few_nodes

      shut_then : is_shut_chain s.bits (put (Next k) r m) (front ∷ rest) ≡ true
      shut_then =
          ap (λ n. nat_eq n (reserved_node s.bits))
          (ap (λ j. (next_of (put (Next k) r m) j).node) (sym h.last) ∙ ap (λ (y : Node). y.next.node) (written m.nodes k (record (node_at m k) { next = r }) there.0 there.1) ∙ h.closes) ∙
          closed_shut s.bits

  -- what holds where Head becomes a reference to the node behind the first one, which comes into the hand
  pub record Pops (x : ℕ) (ns : List ℕ) (r : Ref) (o : Outcome) : Type 0 where
    pub behind : rest ≡ x ∷ ns
    pub names : r.node ≡ x
    pub raises : r.count ≡ m.head.count + 1
    pub hand : a.holds ≡ false
    pub pocket : a.pocket ≡ None
    pub some_node : 1 ≤ o.actor.node
    pub takes : o.actor.node ≡ front
    pub mark : (next_of m front).count ≡ o.actor.mark
    pub full : o.actor.holds ≡ true
    pub empty : o.actor.pocket ≡ None
    pub no_aside : o.aside ≡ None
    pub relies : (last you : ℕ) → you ≢ me → q.Rely m (put Head r m) last last you
    pub words_then : q.Words s (put Head r m) rest
    pub knows : Knows q (Found s.bits m (front ∷ rest) now) s (put Head r m) (last_node (x ∷ ns)) o.actor o.actor.line
    pub owns : OwnsAt m me o.actor.line
    pub at : o.at ≡ Some now
    pub earns : completed_reply o.reply (Some now) o.actor.due ≡ Some (Value (node_at m x).value)
    pub dequeues : a.op ≡ Deq
    pub undecided : decided_reply a.due ≡ None

  pub pops : (x : ℕ) (ns : List ℕ) (r : Ref) (o : Outcome) → Pops x ns r o → Goes (put Head r m) o
  pops x ns r o h =
      record {
        front' = x;
        rest' = ns;
        free' = free;
        turn =
            turn_none (put Head r m) o x ns free h.no_aside
            (subst (λ ys. Turn s.bits m (put Head r m) (front ∷ ys) free (x ∷ ns) free a o.actor None) (sym h.behind)
            (turn_pop s.bits m E front x ns free a o.actor r (subst (λ ys. Shape s.bits m E (front ∷ ys) free) h.behind shape) h.names (took o.actor front h.hand h.pocket h.full h.empty h.takes)));
        own_aside = none_aside o h.no_aside;
        rises = inl refl;
        relies = λ you one other. subst (λ n. q.Rely m (put Head r m) n (last_node (x ∷ ns)) you) (sym (ap (λ ys. last_node (front ∷ ys)) h.behind)) (h.relies (last_node (x ∷ ns)) you other);
        words = subst (q.Words s (put Head r m)) h.behind h.words_then;
        marked = one_mark (put Head r m) o.actor h.empty (h.some_node, ap (λ k. (next_of m k).count) h.takes ∙ h.mark);
        knows = h.knows;
        owns = h.owns;
        linearizes = popped front x ns (ap (λ ys. front ∷ ys) h.behind) refl h.raises (ap (λ ys. is_shut_chain s.bits m (front ∷ ys)) (sym h.behind)) h.at h.earns h.dequeues h.undecided;
      }

  -- what an actor holds whose node goes to its pocket
  pub to_pocket_holds : a.holds ≡ true → a.pocket ≡ None → (n : ℕ) → holds n (to_pocket a) ≡ holds n a
  to_pocket_holds h p n = omega (arith, holds_hand n a h p)

  pub to_pocket_marks : a.holds ≡ true → Marked m (to_pocket a)
  to_pocket_marks h = record { hand = λ e. absurd (true≢false (sym e)); pocket = marked.hand h }

  gives_free : (due : Option Reply) → a.due ≡ due → DecidedFreeing due → a.holds ≡ true → a.pocket ≡ None → OwnsAt m me None → IfSome (busy_or now due (to_pocket a)) (Goes m)
  gives_free None d f h p g = refuses _ Busy (ap decided_reply d) refl refl refl (to_pocket_holds h p) refl (to_pocket_marks h) refl g
  gives_free (Some (Value v)) d f h p g = still _ (to_pocket_holds h p) refl (to_pocket_marks h) tt g (stutters refl refl refl refl (inr (λ n. sym (ap decided_reply d))))
  gives_free _ d f h p g = absurd f

  -- an actor that gives up changes no word
  pub gives : (l : Line) → FixedAt s.limit me a (Some l) → OwnsAt m me (Some l) → IfSome (gives_up now a l) (Goes m)
  gives N1 f g = refuses _ Busy (ap decided_reply f.earned) refl refl refl (λ n. refl) refl marked refl g
  gives F1 f g = gives_free a.due refl f.earned f.hand f.pocket g
  gives E5 f g = refuses _ Busy (ap decided_reply f.earned) refl refl refl (to_pocket_holds f.hand f.pocket) refl (to_pocket_marks f.hand) refl g
  gives D2 f g = refuses _ Busy (ap decided_reply f.earned) refl refl refl (λ n. refl) refl marked refl g
  gives A3 f g = refuses _ Busy (ap decided_reply f.earned) refl refl refl (to_pocket_holds f.hand f.pocket) refl (to_pocket_marks f.hand) refl g
  gives B1 f g = refuses _ Busy (ap decided_reply f.earned) refl refl refl (λ n. refl) refl marked refl g
  gives S1 f g = refuses _ Busy (ap decided_reply f.earned) refl refl refl (λ n. refl) refl marked refl g
  gives S6 f g = refuses _ Busy (ap decided_reply f.earned) refl refl refl (λ n. refl) refl marked refl g
  gives _ f g = tt

-- the step of each line does one of these
module _ (q : Queue) (steps : Steps q) (b : Before q) where
  open b use {s, m, me, now, a, marked, low}

  pub does : (l : Line) → AtLine q b l → After q b (performed (action s me a l) m) (outcome s now me a l (found (action s me a l) m))
  does N1 t = on q b _ (ap decided_reply t.fixed.earned) refl (λ n. refl) refl marked tt t.owns
  does N2 t =
      either (After q b m) (is_null m.free)
      (λ n. either (After q b m) (nat_lt a.f s.size) (λ e. on q b _ (ap decided_reply t.fixed.earned) refl (λ n. refl) refl marked tt t.owns)
      (λ e. refuses q b _ NoNode (ap decided_reply t.fixed.earned) refl refl refl (λ n. refl) refl marked refl t.owns))
      (λ n. either (After q b m) (nat_eq m.free.count s.limit) (λ e. refuses q b _ (WornOut OfFree) (ap decided_reply t.fixed.earned) refl refl refl (λ n. refl) refl marked refl t.owns)
      (λ e. on q b _ (ap decided_reply t.fixed.earned) refl (λ n. refl) refl marked (inl refl) t.owns))
  does N3 t = on q b _ (ap decided_reply t.fixed.earned) refl (λ n. refl) refl marked (t.knows, λ e. refl) t.owns
  does N4 t =
      tried (After q b) (same_ref m.free a.top)
      (λ e. let was : m.free ≡ a.top = same_ref-true m.free a.top e in takes_to q b s.kind t.fixed.hand t.fixed.pocket t.nodes was t.fixed.room
      (t.knows.1 was) (ap decided_reply t.fixed.earned) t.owns)
      (λ e. on q b _ (ap decided_reply t.fixed.earned) refl (λ n. refl) refl marked tt t.owns)
  does N5 t =
      tried (After q b) (nat_eq m.fresh a.f) (λ e. claims_to q b s.kind t.fixed.hand t.fixed.pocket (eqb-true m.fresh a.f e) (ap decided_reply t.fixed.earned) t.owns)
      (λ e. on q b _ (ap decided_reply t.fixed.earned) refl (λ n. refl) refl marked tt t.owns)
  does F1 t =
      either (After q b m) (nat_eq m.free.count s.limit) (λ e. aside_freed q b s.kind a.due m.free refl t.fixed.earned t.fixed.hand t.fixed.pocket t.nodes t.owns)
      (λ e. still q b _ (λ n. refl) refl marked tt t.owns (stutters refl refl refl refl (inr (λ n. refl))))
  does F2 t =
      writes q b _ (record (node_at m a.node) { next = ref a.top.node a.mark }) t.fixed.hand t.fixed.pocket t.nodes (sym (marked.hand t.fixed.hand).1) t.fixed.hand t.fixed.pocket refl refl refl
      (ap (λ (x : Node). x.next) (written m.nodes a.node (record (node_at m a.node) { next = ref a.top.node a.mark }) t.nodes low)) t.owns refl (inr (λ n. refl))
  does F3 t =
      tried (After q b) (same_ref m.free a.top)
      (λ e. gives_back_freed q b s.kind a.due refl t.fixed.earned t.fixed.hand t.fixed.pocket t.nodes (same_ref-true m.free a.top e) t.fixed.room t.knows t.owns)
      (λ e. still q b _ (λ n. refl) refl marked tt t.owns (stutters refl refl refl refl (inr (λ n. refl))))
  does l t = steps.does b l t.runs t
