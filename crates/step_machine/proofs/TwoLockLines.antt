-- The step of each line of its own in the two-lock queue: which effect it has, and what its actor knows then.
use Rattle.std.proofs.Common.{◌≡◌, ◌≢◌, ℕ, ◌+◌, ◌-◌, ◌≤◌, true, false, nat_eq, List, ◌∷◌, length, set, Option, Some, None, refl, sym, ap, ◌∙◌, subst, arith, ◌⊎◌, inl, inr}
use Rattle.std.proofs.lemmas.Bool.{eqb-true, true≢false}
use Rattle.step_machine.specs.Below.{reserved_node, Ref, ref, null, shut_ref, is_null, is_shut, same_ref, TwoLock, Line, D5, A1, A2, A3, A4, A5, A6}
use Rattle.step_machine.specs.Below.{A7, B1, B2, B3, B4, B5, B6, S6, S7, S8, S9, section_of, Reply, Done, Value, Empty, Refused, leaves, empty, Setup}
use Rattle.step_machine.specs.Below.{Node, Actor, Outcome, Shared, node_at, put, Head, Tail, Tail_lock, Head_lock, Next, found, performed, action}
use Rattle.step_machine.specs.Below.{outcome, raised, unlocked, left, left_with_node}
use Rattle.step_machine.specs.ProgramCounters.{IsRunBy}
use Rattle.step_machine.specs.Places.{IsEnd}
use Rattle.step_machine.specs.Chains.{last_node, queue_in, queue_values}
use Rattle.step_machine.specs.Completion.{decided_reply}
use Rattle.step_machine.proofs.Choices.{either, tried}
use Rattle.step_machine.proofs.Chains.{node_in, next_in, no_end, alone_at_end, shut_alone, closed_shut, empty_behind, last_leads, last_within, last_linked, second_leads}
use Rattle.step_machine.proofs.Counting.{holds}
use Rattle.step_machine.proofs.Effects.{written, others_stay}
use Rattle.step_machine.proofs.Fixed.{push_is_no_pop, shut_is_no_pop, DecidedUnlocking, DecidedLeaving, keeps_after}
use Rattle.step_machine.proofs.LinearizationSteps.{stutters, refused, closed, found_empty, raised_node, raised_count}
use Rattle.step_machine.proofs.ProgramCounters.{FoundANode}
use Rattle.step_machine.proofs.Assertions.{blank_counts, Found, Before, After, AtLine, IsOwnOf, Knows, Marked, OwnsAt, Steps}
use Rattle.step_machine.proofs.StepEffects.{Learns, Means, on, writes, writes_word, links, shuts, pops, to_pocket_holds, to_pocket_marks}
use Rattle.step_machine.proofs.TwoLockAtLines.{Leaves, Unlocks, LocksRely, two_lock}
use Rattle.step_machine.proofs.StampsLists.{same_or_not}
use Rattle.counted_ref.proofs.Words.{same_ref-true, equal_refs}

-- what the holder of the tail lock writes into it, into Tail and behind the last node says nothing to others
tail_alone : (m m' : Shared) (last last' me you : ℕ) → m.tail_lock ≡ me → you ≢ me → m'.tail_lock ≢ you → m'.head_lock ≡ m.head_lock → m'.head ≡ m.head → LocksRely m m' last last' you
tail_alone m m' last last' me you mine other none lock head =
    record { tail = λ e. absurd (other (sym e ∙ mine)); tail_back = λ e. absurd (none e); head = λ e. (lock ∙ e, head); head_back = λ e. sym lock ∙ e }

head_alone : (m m' : Shared) (last me you : ℕ) → m.head_lock ≡ me → you ≢ me → m'.head_lock ≢ you → m'.tail_lock ≡ m.tail_lock → m'.tail ≡ m.tail → m'.nodes ≡ m.nodes → LocksRely m m' last last you
head_alone m m' last me you mine other none lock tail nodes =
    record { tail = λ e. (lock ∙ e, tail, refl, ap (λ ns. (node_in ns last).next) nodes); tail_back = λ e. sym lock ∙ e; head = λ e. absurd (other (sym e ∙ mine)); head_back = λ e. absurd (none e) }

module _ (b : Before two_lock) where
  open b use {Z, s, m, front, rest, me, now, a, shape, few_nodes, words, low, marked, some}

  -- a lock is taken or let go, or Tail is written
  writes_lock : (m' : Shared) (o : Outcome) → m'.nodes ≡ m.nodes → m'.head ≡ m.head → m'.free ≡ m.free → m'.fresh ≡ m.fresh
      → ((n : ℕ) → holds n o.actor ≡ holds n a) → o.aside ≡ None → ((last you : ℕ) → 1 ≤ you → you ≢ me → LocksRely m m' last last you)
      → (m'.tail_lock ≡ 0 → last_node (front ∷ rest) ≡ m'.tail.node) → Marked m' o.actor → Learns two_lock b m' o → OwnsAt m' me o.actor.line
      → Means two_lock b m' o → After two_lock b m' o
  writes_lock m' o nodes head top fresh same none relies settled =
      writes_word two_lock b m' o nodes head top fresh same none (λ you one other. relies (last_node (front ∷ rest)) you one other)
      (record { tail_last = settled; no_counts = λ n one. ap (λ ns. (node_in ns n).next.count) nodes ∙ words.no_counts n one })

  -- the head lock is let go, by what the call has earned
  lets_head_go : (o : Outcome) → AtLine two_lock b B6 → ((n : ℕ) → holds n o.actor ≡ holds n a) → o.aside ≡ None → Marked m o.actor
      → Learns two_lock b (put Head_lock 0 m) o → OwnsAt (put Head_lock 0 m) me o.actor.line → Means two_lock b (put Head_lock 0 m) o
      → After two_lock b (put Head_lock 0 m) o
  lets_head_go o t same none =
      writes_lock (put Head_lock 0 m) o refl refl refl refl same none
      (λ last you one other. head_alone m (put Head_lock 0 m) last me you t.owns.1 other (λ e. omega arith) refl refl refl) words.tail_last

  unlocks : (due : Option Reply) → AtLine two_lock b B6 → a.due ≡ due → DecidedUnlocking due → After two_lock b (put Head_lock 0 m) (unlocked now due a)
  unlocks (Some (Value v)) t d e = lets_head_go _ t (λ n. refl) refl marked tt (t.owns.0, λ f. omega arith) (stutters refl refl refl refl (inr (λ n. refl)))
  unlocks (Some Empty) t d e =
      lets_head_go _ t (λ n. refl) refl marked tt (t.owns.0, λ f. omega arith)
      (found_empty refl refl refl refl refl t.fixed.call (ap decided_reply d) (subst (Unlocks s.bits Z s.limit m a.empty_at) d t.knows))
  unlocks (Some (Refused refusal)) t d (inl e) =
      lets_head_go _ t (λ n. refl) refl marked tt (t.owns.0, λ f. omega arith) (refused refusal refl refl refl refl refl (ap leaves e) (ap decided_reply d))
  unlocks (Some (Refused refusal)) t d (inr e) =
      lets_head_go _ t (λ n. refl) refl marked tt (t.owns.0, λ f. omega arith)
      (closed refl refl refl refl (ap (λ x. Some (Refused x)) e) (shut_alone s.bits m m.head.node front rest few_nodes shape.queue_chain ends)
      (λ o. ap (λ ys. queue_values m (front ∷ ys)) (alone_at_end s.bits m.nodes m.head.node front rest few_nodes shape.queue_chain ends))
      (ap decided_reply d))
    where
      ends : (node_at m front).next.node ≡ reserved_node s.bits
      ends = ap (next_in m.nodes) (sym shape.queue_chain.0) ∙ (subst (Unlocks s.bits Z s.limit m a.empty_at) (d ∙ ap (λ x. Some (Refused x)) e) t.knows).1
  unlocks _ t d e = absurd e

  -- the tail lock is taken
  takes_tail : (o : Outcome) → m.tail_lock ≡ 0 → ((n : ℕ) → holds n o.actor ≡ holds n a) → o.aside ≡ None → Marked m o.actor
      → Learns two_lock b (put Tail_lock me m) o → OwnsAt (put Tail_lock me m) me o.actor.line → Means two_lock b (put Tail_lock me m) o
      → After two_lock b (put Tail_lock me m) o
  takes_tail o free same none =
      writes_lock (put Tail_lock me m) o refl refl refl refl same none
      (λ last you one other. record {
        tail = λ f. absurd (omega arith);
        tail_back = λ f. absurd (other (sym f));
        head = λ f. (f, refl);
        head_back = λ f. f;
      })
      (λ f. absurd (omega arith))

  -- the tail lock is let go
  lets_tail_go : (o : Outcome) → m.tail_lock ≡ me → m.head_lock ≢ me → last_node (front ∷ rest) ≡ m.tail.node → ((n : ℕ) → holds n o.actor ≡ holds n a)
      → o.aside ≡ None → Marked m o.actor → o.actor.line ≡ None → Means two_lock b (put Tail_lock 0 m) o → After two_lock b (put Tail_lock 0 m) o
  lets_tail_go o mine not_head last same none marks over =
      writes_lock (put Tail_lock 0 m) o refl refl refl refl same none
      (λ end you one other. tail_alone m (put Tail_lock 0 m) end end me you mine other (λ e. omega arith) refl refl)
      (λ f. last) marks (subst (Knows two_lock (Found s.bits m (front ∷ rest) now) s (put Tail_lock 0 m) (last_node (front ∷ rest)) o.actor) (sym over) tt)
      (subst (OwnsAt (put Tail_lock 0 m) me) (sym over) ((λ f. omega arith), not_head))

  -- the call is done, or is refused since the queue is shut
  leaves_shut : (due : Option Reply) → AtLine two_lock b S9 → a.due ≡ due → DecidedLeaving due → After two_lock b (put Tail_lock 0 m) (left now due a)
  leaves_shut (Some Done) t d e = lets_tail_go _ t.owns.0 t.owns.1 t.knows.0 (λ n. refl) refl marked refl (stutters refl refl refl refl (inr (λ n. sym (ap decided_reply d))))
  leaves_shut (Some (Refused refusal)) t d e =
      lets_tail_go _ t.owns.0 t.owns.1 t.knows.0 (λ n. refl) refl marked refl
      (closed refl refl refl refl (ap (λ x. Some (Refused x)) e) (ap (λ n. nat_eq n (reserved_node s.bits))
      (subst (Leaves s.bits m (last_node (front ∷ rest))) d t.knows.1) ∙ closed_shut s.bits) (λ o. absurd (shut_is_no_pop a.op t.fixed.call o))
      (ap decided_reply d))
  leaves_shut _ t d e = absurd e

  leaves_push : (due : Option Reply) → AtLine two_lock b A7 → a.due ≡ due → DecidedLeaving due → After two_lock b (put Tail_lock 0 m) (left_with_node now due a)
  leaves_push (Some Done) t d e = lets_tail_go _ t.owns.0 t.owns.1 t.knows.0 (λ n. refl) refl marked refl (stutters refl refl refl refl (inr (λ n. sym (ap decided_reply d))))
  leaves_push (Some (Refused refusal)) t d e =
      lets_tail_go _ t.owns.0 t.owns.1 t.knows.0 (to_pocket_holds two_lock b in_hand t.fixed.pocket) refl (to_pocket_marks two_lock b in_hand) refl
      (closed refl refl refl refl (ap (λ x. Some (Refused x)) e) (ap (λ n. nat_eq n (reserved_node s.bits))
      (subst (Leaves s.bits m (last_node (front ∷ rest))) d t.knows.1) ∙ closed_shut s.bits)
      (λ o. absurd (push_is_no_pop me a.op a.val t.fixed.call o)) (ap decided_reply d))
    where
      in_hand : a.holds ≡ true
      in_hand = t.fixed.hand ∙ ap keeps_after d
  leaves_push _ t d e = absurd e

  -- what follows the last node, where that is not null without a count, is the closed end
  ends_closed : same_ref (node_at m (last_node (front ∷ rest))).next null ≡ false → (node_at m (last_node (front ∷ rest))).next.node ≡ reserved_node s.bits
  ends_closed lost = go (last_leads (IsEnd s.bits) m.nodes front rest m.head.node shape.queue_chain)
    where
      none : (node_at m (last_node (front ∷ rest))).next.count ≡ 0
      none = words.no_counts (last_node (front ∷ rest)) (last_within (IsEnd s.bits) m.nodes front rest m.head.node shape.queue_chain).0

      go : IsEnd s.bits (node_at m (last_node (front ∷ rest))).next.node → (node_at m (last_node (front ∷ rest))).next.node ≡ reserved_node s.bits
      go (inl zero) = absurd (true≢false (sym (ap (λ (r : Ref). same_ref r null) (equal_refs (node_at m (last_node (front ∷ rest))).next null zero none)) ∙ lost))
      go (inr end) = end

  -- no `next` has a count where the last one is written without
  still_none : (k : ℕ) (r : Ref) → 1 ≤ k → k ≤ length m.nodes → r.count ≡ 0 → (n : ℕ) → 1 ≤ n → (node_at (put (Next k) r m) n).next.count ≡ 0
  still_none k r one low zero n some = go (same_or_not n k)
    where
      go : (n ≡ k) ⊎ (n ≢ k) → (node_at (put (Next k) r m) n).next.count ≡ 0
      go (inl q) = ap (λ j. (node_at (put (Next k) r m) j).next.count) q ∙ ap (λ (x : Node). x.next.count) (written m.nodes k (record (node_at m k) { next = r }) one low) ∙ zero
      go (inr d) = ap (λ (x : Node). x.next.count) (others_stay m.nodes k n (record (node_at m k) { next = r }) one some d) ∙ words.no_counts n some

  -- the last node is one of the nodes
  last_low : (k : ℕ) → k ≡ last_node (front ∷ rest) → (1 ≤ k) × (k ≤ length m.nodes)
  last_low k at = subst (λ j. (1 ≤ j) × (j ≤ length m.nodes)) (sym at) (last_within (IsEnd s.bits) m.nodes front rest m.head.node shape.queue_chain)

  pub does : (l : Line) → IsOwnOf (section_of l) TwoLock → AtLine two_lock b l → After two_lock b (performed (action s me a l) m) (outcome s now me a l (found (action s me a l) m))
  does A1 r t =
      writes two_lock b _ (record (node_at m a.node) { value = a.val }) t.fixed.hand t.fixed.pocket t.nodes refl t.fixed.hand t.fixed.pocket refl (sym (marked.hand t.fixed.hand).1) refl
      (ap (λ (x : Node). x.value) (written m.nodes a.node (record (node_at m a.node) { value = a.val }) t.nodes low)) t.owns refl (inl (ap decided_reply t.fixed.earned))
  does A2 r t =
      writes two_lock b _ x t.fixed.hand t.fixed.pocket t.nodes refl t.fixed.hand t.fixed.pocket refl (sym (marked.hand t.fixed.hand).1) refl
      (ap (λ (y : Node). y.value) cleared ∙ t.knows, ap (λ (y : Node). y.next.node) cleared) t.owns refl (inl (ap decided_reply t.fixed.earned))
    where
      x : Node
      x = record (node_at m a.node) { next = record (node_at m a.node).next { node = 0 } }

      cleared : node_in (set m.nodes (a.node - 1) x) a.node ≡ x
      cleared = written m.nodes a.node x t.nodes low
  does A3 r t =
      tried (After two_lock b) (nat_eq m.tail_lock 0)
      (λ e. let none : m.tail_lock ≡ 0 = eqb-true m.tail_lock 0 e in
      takes_tail _ none (λ n. refl) refl marked (t.knows, words.tail_last none) (refl, t.owns.1) (stutters refl refl refl refl (inl (ap decided_reply t.fixed.earned))))
      (λ e. on two_lock b _ (ap decided_reply t.fixed.earned) refl (λ n. refl) refl marked t.knows t.owns)
  does A4 r t = on two_lock b _ (ap decided_reply t.fixed.earned) refl (λ n. refl) refl marked (t.knows.0, t.knows.1, refl) t.owns
  does A5 r t =
      tried (After two_lock b) (same_ref (node_at m a.tail.node).next null)
      (λ i.
      links two_lock b a.tail.node (ref a.node 0) _
      (record {
        last = last;
        unlinked = ap (λ (r : Ref). r.node) (same_ref-true (node_at m a.tail.node).next null i);
        hand = t.fixed.hand;
        pocket = t.fixed.pocket;
        some_node = t.nodes.0;
        ready = t.knows.0;
        names = refl;
        let_go = refl;
        empty = t.fixed.pocket;
        no_aside = refl;
        relies = λ you one other. tail_alone m (put (Next a.tail.node) (ref a.node 0) m) _ _ me you t.owns.0 other (λ e. other (sym e ∙ t.owns.0)) refl refl;
        words_then =
            record {
              tail_last = λ f. absurd (let mine : m.tail_lock ≡ me = t.owns.0 in omega arith);
              no_counts = still_none a.tail.node (ref a.node 0) (last_low a.tail.node last).0 (last_low a.tail.node last).1 refl;
            };
        knows = last_linked front rest a.node;
        owns = t.owns;
        at = refl;
        earns = refl;
        pushes = t.fixed.call;
        undecided = ap decided_reply t.fixed.earned;
      }))
      (λ i. on two_lock b _ (ap decided_reply t.fixed.earned) refl (λ n. refl) refl marked
      (t.knows.1, ends_closed (ap (λ k. same_ref (node_at m k).next null) (sym last) ∙ i)) t.owns)
    where
      last : a.tail.node ≡ last_node (front ∷ rest)
      last = sym (t.knows.1 ∙ ap (λ (r : Ref). r.node) t.knows.2)
  does A6 r t =
      writes_lock (put Tail (ref a.node 0) m) _ refl refl refl refl (λ n. refl) refl
      (λ last you one other. tail_alone m (put Tail (ref a.node 0) m) last last me you t.owns.0 other (λ e. other (sym e ∙ t.owns.0)) refl refl)
      (λ f. t.knows) marked (t.knows, subst (Leaves s.bits m (last_node (front ∷ rest))) (sym t.fixed.earned) tt) t.owns (stutters refl refl refl refl (inr (λ n. refl)))
  does A7 r t = leaves_push a.due t refl t.fixed.earned
  does B1 r t =
      tried (After two_lock b) (nat_eq m.head_lock 0)
      (λ e. let none : m.head_lock ≡ 0 = eqb-true m.head_lock 0 e in
      writes_lock (put Head_lock me m) _ refl refl refl refl (λ n. refl) refl
      (λ last you one other. record {
        tail = λ f. (f, refl, refl, refl);
        tail_back = λ f. f;
        head = λ f. absurd (omega arith);
        head_back = λ f. absurd (other (sym f));
      })
      words.tail_last marked tt (t.owns.0, refl) (stutters refl refl refl refl (inl (ap decided_reply t.fixed.earned))))
      (λ e. on two_lock b _ (ap decided_reply t.fixed.earned) refl (λ n. refl) refl marked tt t.owns)
  does B2 r t = on two_lock b _ (ap decided_reply t.fixed.earned) refl (λ n. refl) refl marked refl t.owns
  does B3 r t =
      either (After two_lock b m) (is_null (node_at m a.head.node).next)
      (λ e. on two_lock b _ (ap decided_reply t.fixed.earned) refl (λ n. refl) refl marked (none e, refl) t.owns)
      (λ e. either (After two_lock b m) (is_shut s.bits (node_at m a.head.node).next)
      (λ c. on two_lock b _ (ap decided_reply t.fixed.earned) refl (λ n. refl) refl marked (omega (arith, few_nodes, closed c), closed c) t.owns)
      (λ c. on two_lock b _ (ap decided_reply t.fixed.earned) refl (λ n. refl) refl marked (t.knows, refl) t.owns))
    where
      at : front ≡ a.head.node
      at = sym shape.queue_chain.0 ∙ ap (λ (r : Ref). r.node) t.knows

      closed : is_shut s.bits (node_at m a.head.node).next ≡ true → (node_at m m.head.node).next.node ≡ reserved_node s.bits
      closed c = ap (λ (r : Ref). (node_at m r.node).next.node) t.knows ∙ eqb-true (node_at m a.head.node).next.node (reserved_node s.bits) c

      none : is_null (node_at m a.head.node).next ≡ true → queue_in s.bits m (front ∷ rest) ≡ empty
      none e = empty_behind s.bits m front rest few_nodes shape.queue_chain (ap (next_in m.nodes) at ∙ eqb-true (node_at m a.head.node).next.node 0 e)
  does B4 r t =
      either (After two_lock b m) (nat_eq a.head.count s.limit)
      (λ e. on two_lock b _ (ap decided_reply t.fixed.earned) refl (λ n. refl) refl marked (ap (λ (r : Ref). r.count) t.knows.0 ∙ eqb-true a.head.count s.limit e) t.owns)
      (λ e. on two_lock b _ (ap decided_reply t.fixed.earned) refl (λ n. refl) refl marked (t.knows.0, t.knows.1, refl) t.owns)
  does B5 r t =
      pops two_lock b a.next.node second.0 (raised s a.head a.next.node) _
      (record {
        behind = second.1;
        names = raised_node s a.head a.next.node t.nodes.2 t.fixed.room;
        raises = raised_count s a.head a.next.node t.nodes.2 t.fixed.room ∙ ap (λ (r : Ref). r.count + 1) (sym t.knows.0);
        hand = t.fixed.hand;
        pocket = t.fixed.pocket;
        some_node = t.nodes.0;
        takes = sym at;
        mark = ap (λ k. (node_at m k).next.count) at ∙ ap (λ (r : Ref). r.count) t.knows.1;
        full = refl;
        empty = t.fixed.pocket;
        no_aside = refl;
        relies = λ last you other. head_alone m (put Head (raised s a.head a.next.node) m) last me you t.owns.1 other (λ e. other (sym e ∙ t.owns.1)) refl refl refl;
        words_then = record { tail_last = λ e. sym (ap (λ ys. last_node (front ∷ ys)) second.1 ∙ sym (ap last_node second.1)) ∙ words.tail_last e; no_counts = words.no_counts };
        knows = tt;
        owns = t.owns;
        at = refl;
        earns = ap (λ v. Some (Value v)) (sym t.knows.2);
        dequeues = t.fixed.call;
        undecided = ap decided_reply t.fixed.earned;
      })
    where
      at : front ≡ a.head.node
      at = sym shape.queue_chain.0 ∙ ap (λ (r : Ref). r.node) t.knows.0

      second : (ns : List ℕ) × (rest ≡ a.next.node ∷ ns)
      second = second_leads (IsEnd s.bits) m.nodes m.head.node front a.next.node rest shape.queue_chain
          (ap (next_in m.nodes) at ∙ ap (λ (r : Ref). r.node) t.knows.1) (no_end s.bits a.next.node t.nodes.1 t.nodes.2)
  does B6 r t = unlocks a.due t refl t.fixed.earned
  does S6 r t =
      tried (After two_lock b) (nat_eq m.tail_lock 0)
      (λ e. let none : m.tail_lock ≡ 0 = eqb-true m.tail_lock 0 e in takes_tail _ none (λ n. refl) refl marked (words.tail_last none) (refl, t.owns.1)
      (stutters refl refl refl refl (inl (ap decided_reply t.fixed.earned))))
      (λ e. on two_lock b _ (ap decided_reply t.fixed.earned) refl (λ n. refl) refl marked tt t.owns)
  does S7 r t = on two_lock b _ (ap decided_reply t.fixed.earned) refl (λ n. refl) refl marked (t.knows, refl) t.owns
  does S8 r t =
      tried (After two_lock b) (same_ref (node_at m a.tail.node).next null)
      (λ i.
      shuts two_lock b a.tail.node (shut_ref s.bits 0) _
      (record {
        last = last;
        unlinked = ap (λ (r : Ref). r.node) (same_ref-true (node_at m a.tail.node).next null i);
        closes = refl;
        same = λ n. refl;
        no_aside = refl;
        relies = λ you one other. tail_alone m (put (Next a.tail.node) (shut_ref s.bits 0) m) _ _ me you t.owns.0 other (λ e. other (sym e ∙ t.owns.0)) refl refl;
        words_then =
            record {
              tail_last = words.tail_last;
              no_counts = still_none a.tail.node (shut_ref s.bits 0) (last_low a.tail.node last).0 (last_low a.tail.node last).1 refl;
            };
        keeps_marks = λ h. record { hand = h.hand; pocket = h.pocket };
        knows = (t.knows.0, tt);
        owns = t.owns;
        at = refl;
        earns = refl;
        call = t.fixed.call;
        undecided = ap decided_reply t.fixed.earned;
      }))
      (λ i. on two_lock b _ (ap decided_reply t.fixed.earned) refl (λ n. refl) refl marked
      (t.knows.0, ends_closed (ap (λ k. same_ref (node_at m k).next null) (sym last) ∙ i)) t.owns)
    where
      last : a.tail.node ≡ last_node (front ∷ rest)
      last = sym (t.knows.0 ∙ ap (λ (r : Ref). r.node) t.knows.1)
  does S9 r t = leaves_shut a.due t refl t.fixed.earned
  does l r t = absurd r

-- no line of this queue is D5, where a dequeue may go on to take a value
found_a_node : (Z : ℕ → Type 0) (s : Setup) (me : ℕ) (m : Shared) (last : ℕ) (a : Actor) (l : Line) → IsRunBy (section_of l) TwoLock
    → Knows two_lock Z s m last a (Some l) → FoundANode s me a l (found (action s me a l) m)
found_a_node Z s me m last a D5 r k = absurd r
found_a_node Z s me m last a _ r k = tt

-- what the steps of its own lines do
pub two_lock_steps : Steps two_lock
two_lock_steps = record { starts = λ s actors h. record { tail_last = λ e. refl; no_counts = λ n one. blank_counts (n - 1) s.size }; found_a_node = found_a_node; does = does }
