-- The step of each line of its own in the non-blocking queue: which effect it has, and what its actor knows then.
use Rattle.std.proofs.Common.{◌≡◌, ◌≢◌, ℕ, ◌+◌, ◌-◌, ◌≤◌, ◌<◌, Bool, true, false, nat_eq, if◌then◌else◌, List, [], ◌∷◌, ◌++◌, length, set, Some, None, refl, sym, ap, ◌∙◌, subst, arith, ◌⊎◌, inl, inr}
use Rattle.std.proofs.lemmas.Bool.{eqb-true, eqb-false, ne_eqb, true≢false}
use Rattle.step_machine.specs.Below.{Ref, reserved_node, is_null, same_ref, NonBlocking, Line, F1, E2, E3, E5, E6, E7, E9, E13, E17, D2, D3, D4, D5}
use Rattle.step_machine.specs.Below.{D10, D12, D13, S1, S2, S3, S4, S5, is_shut, shut_ref, raised_end, section_of, OfNext, OfTail, OfHead, WornOut}
use Rattle.step_machine.specs.Below.{Done, Value, Setup, Node, Actor, Outcome, Shared, node_at, put, performed, found, Head, Tail, Next, action}
use Rattle.step_machine.specs.Below.{outcome, raised, goes, ends, effect, fills_hand, empties_hand}
use Rattle.counted_ref.proofs.Words.{same_ref-true}
use Rattle.step_machine.specs.ProgramCounters.{IsRunBy}
use Rattle.step_machine.specs.Completion.{decided_reply, completed_reply}
use Rattle.step_machine.specs.Chains.{last_node, queue_values, is_shut_chain}
use Rattle.step_machine.specs.Places.{times}
use Rattle.step_machine.proofs.Choices.{either, tried}
use Rattle.step_machine.proofs.Chains.{node_in, no_end, alone_at_end, shut_alone, null_open, closed_shut, empty_behind, last_linked}
use Rattle.step_machine.proofs.Counting.{holds, holds_own}
use Rattle.step_machine.proofs.Effects.{others_stay, written, queued_once, not_linked, with_node as with_new}
use Rattle.step_machine.proofs.LinearizationSteps.{KeepsReply, stutters, refused, found_empty, raised_node, raised_count}
use Rattle.step_machine.proofs.ProgramCounters.{FoundANode}
use Rattle.step_machine.proofs.StampsLists.{same_or_not}
use Rattle.step_machine.proofs.Fixed.{push_is_no_pop, shut_is_no_pop}
use Rattle.step_machine.proofs.Assertions.{next_of, blank_counts, Found, Marked, OwnsAt, Knows, Before, AtLine, IsOwnOf, Steps}
use Rattle.step_machine.proofs.StepEffects.{Goes, Learns, still, on, refuses, finds_shut, writes, writes_aside, writes_word, links, shuts, pops, to_pocket_holds, to_pocket_marks, hand_flag}
use Rattle.step_machine.proofs.NonBlockingAtLines.{WasNext, next_stays_there, MayGoOn, Guarantee, non_blocking}
use Rattle.step_machine.proofs.NonBlockingLag.{IsOff, behind_tail, nothing_after, tail_is_last, shut_behind, one_after, tail_times, lag_swung}
use Rattle.step_machine.proofs.NonBlockingLag.{lag_popped, lag_linked, lag_same, after_not_first, off, off_leads, off_open, off_second}

-- the `next` of Tail's node, which was null, is written
moves_link : (m : Shared) (k : ℕ) (r : Ref) → m.tail.node ≡ k → 1 ≤ k → k ≤ length m.nodes → (next_of m k).node ≡ 0 → (next_of m k).count < r.count → Guarantee m (put (Next k) r m)
moves_link m k r at some low null up =
    record {
      locks = (refl, refl);
      head = inl refl;
      tail = inl refl;
      tail_on = inl refl;
      tail_next = inr (subst (λ j. (next_of m j).node ≡ 0) (sym at) null, subst (λ j. (next_of m j).count < (next_of (put (Next k) r m) j).count) (sym at) more);
      off = λ q d. d;
      counts = λ n one. go n one (same_or_not n k);
    }
  where
    x : Node
    x = record (node_at m k) { next = r }

    now : (next_of (put (Next k) r m) k).count ≡ r.count
    now = ap (λ (y : Node). y.next.count) (written m.nodes k x some low)

    more : (next_of m k).count < (next_of (put (Next k) r m) k).count
    more = omega (arith, now)

    go : (n : ℕ) → 1 ≤ n → (n ≡ k) ⊎ (n ≢ k) → (next_of m n).count ≤ (next_of (put (Next k) r m) n).count
    go n one (inl q) = subst (λ j. (next_of m j).count ≤ (next_of (put (Next k) r m) j).count) (sym q) (omega (arith, more))
    go n one (inr d) =
        let w : (next_of (put (Next k) r m) n).count ≡ (next_of m n).count = ap (λ (y : Node). y.next.count) (others_stay m.nodes k n x some one d) in omega arith

module _ (b : Before non_blocking) where
  open b use {Z, s, m, E, front, rest, free, me, now, a, shape, few_nodes, words, low, marked, mine, hand_no_end}

  -- the first node of the queue is Head's
  is_first : m.head ≡ a.head → front ≡ a.head.node
  is_first was = sym shape.queue_chain.0 ∙ ap (λ (x : Ref). x.node) was

  -- Tail goes on to a node, where the register is in the word still
  swings : (to : ℕ) (o : Outcome) → m.tail ≡ a.tail → 1 ≤ to → to ≢ reserved_node s.bits → a.tail.count ≢ s.limit → MayGoOn m a to
      → ((n : ℕ) → holds n o.actor ≡ holds n a) → o.aside ≡ None → Marked m o.actor → Learns non_blocking b (put Tail (raised s a.tail to) m) o
      → OwnsAt m me o.actor.line → o.at ≡ None → KeepsReply a o → Goes non_blocking b (put Tail (raised s a.tail to) m) o
  swings to o was some other room may same none marks knows owns no_at keeps =
      writes_word non_blocking b (put Tail r m) o refl refl refl refl same none (λ you one other. moves)
      (record { lag = lag_swung m (front ∷ rest) r words.lag one up; last_room = words.last_room; shut_last = λ e. absurd (not_shut e) }) marks knows owns (stutters refl refl refl no_at keeps)
    where
      r : Ref
      r = raised s a.tail to

      up : r.count ≡ m.tail.count + 1
      up = raised_count s a.tail to other room ∙ ap (λ (x : Ref). x.count + 1) (sym was)

      leads : (next_of m m.tail.node).node ≡ r.node
      leads = ap (λ (x : Ref). (next_of m x.node).node) was ∙ may.1 was ∙ sym (raised_node s a.tail to other room)

      not_null : 1 ≤ r.node
      not_null = subst (λ k. 1 ≤ k) (sym (raised_node s a.tail to other room)) some

      one : words.lag.after ≡ r.node ∷ []
      one = one_after s.bits m (front ∷ rest) m.head.node r.node shape.queue_chain words.lag leads (no_end s.bits r.node not_null (λ e. other (sym (raised_node s a.tail to other room) ∙ e)))

      not_shut : is_shut_chain s.bits m (front ∷ rest) ≡ true → ⊥
      not_shut e =
          other (sym (raised_node s a.tail to other room) ∙ sym leads ∙ ap (λ j. (next_of m j).node) (words.shut_last e) ∙ eqb-true
          (next_of m (last_node (front ∷ rest))).node (reserved_node s.bits) e)

      moves : Guarantee m (put Tail r m)
      moves =
          record {
            locks = (refl, refl);
            head = inl refl;
            tail = inr (omega (arith, up));
            tail_on = inr (omega (arith, leads, not_null));
            tail_next = inl refl;
            off = λ e d. λ e. after_not_first m front r.node rest (queued_once s.bits m E (front ∷ rest) free shape) words.lag one (e ∙ shape.queue_chain.0);
            counts = λ n one. omega arith;
          }

  -- the `next` of the last node is not worn out
  last_is : m.tail ≡ a.tail → next_of m a.tail.node ≡ a.next → a.next.node ≡ 0 → last_node (front ∷ rest) ≡ a.tail.node
  last_is was same null =
      tail_is_last s.bits m (front ∷ rest) m.head.node shape.queue_chain words.lag (ap (λ (x : Ref). (next_of m x.node).node) was ∙ ap (λ (x : Ref). x.node) same ∙ null) ∙ ap (λ (x : Ref). x.node) was

  next_room : m.tail ≡ a.tail → next_of m a.tail.node ≡ a.next → a.next.node ≡ 0 → a.next.count ≢ s.limit
  next_room was same null =
      subst (λ (x : Ref). nat_eq x.node (reserved_node s.bits) ≡ false → x.count ≢ s.limit) (ap (next_of m) (last_is was same null) ∙ same) words.last_room
      (ap (λ n. nat_eq n (reserved_node s.bits)) null ∙ null_open s.bits (length m.nodes) few_nodes)

  -- where the closed end was read behind Tail's node, the queue is shut
  is_shut_behind : m.tail ≡ a.tail → next_of m a.tail.node ≡ a.next → a.next.node ≡ reserved_node s.bits → is_shut_chain s.bits m (front ∷ rest) ≡ true
  is_shut_behind was next end =
      shut_behind s.bits m (front ∷ rest) m.head.node few_nodes shape.queue_chain words.lag (ap (λ (x : Ref). (next_of m x.node).node) was ∙ ap (λ (x : Ref). x.node) next ∙ end)

  -- the same behind the dummy
  first_leads : m.head ≡ a.head → next_of m a.head.node ≡ a.next → a.next.node ≡ reserved_node s.bits → (next_of m front).node ≡ reserved_node s.bits
  first_leads was next end = ap (λ j. (next_of m j).node) (is_first was) ∙ ap (λ (x : Ref). x.node) next ∙ end

  -- what was read behind Tail's node, if null, is there still, or the count there is higher
  null_next : m.tail ≡ a.tail → WasNext m a → (a.next.count < (next_of m a.tail.node).count) ⊎ ((m.tail ≡ a.tail) × (next_of m a.tail.node ≡ a.next))
  null_next was (inl here) = inr (was, here)
  null_next was (inr gone) = inl gone.1

  -- so Tail is still what was read where it is there
  tail_still : next_of m a.tail.node ≡ a.next → (a.next.count < (next_of m a.tail.node).count) ⊎ ((m.tail ≡ a.tail) × (next_of m a.tail.node ≡ a.next)) → m.tail ≡ a.tail
  tail_still same (inl less) = absurd (let c : (next_of m a.tail.node).count ≡ a.next.count = ap (λ (x : Ref). x.count) same in omega arith)
  tail_still same (inr was) = was.0

  -- Tail's node is one of the nodes
  tail_there : m.tail ≡ a.tail → (1 ≤ a.tail.node) × (a.tail.node ≤ length m.nodes)
  tail_there was =
      subst (λ (x : Ref). (1 ≤ x.node) × (x.node ≤ length m.nodes)) was
      ((behind_tail s.bits m (front ∷ rest) m.head.node shape.queue_chain words.lag).0, (behind_tail s.bits m (front ∷ rest) m.head.node shape.queue_chain words.lag).1)

  -- the node in hand goes behind the last one of the queue
  links_hand : (o : Outcome) → AtLine non_blocking b E9 → m.tail ≡ a.tail → next_of m a.tail.node ≡ a.next → o.actor.holds ≡ false → o.actor.pocket ≡ None
      → o.aside ≡ None
      → Knows non_blocking (Found s.bits m (front ∷ rest) now) s (put (Next a.tail.node) (raised s a.next a.node) m) (last_node (front ∷ rest ++ a.node ∷ [])) o.actor o.actor.line
      → OwnsAt m me o.actor.line → o.at ≡ Some now → completed_reply o.reply (Some now) o.actor.due ≡ Some Done
      → Goes non_blocking b (put (Next a.tail.node) (raised s a.next a.node) m) o
  links_hand o t was next g z none knows owns at earns =
      links non_blocking b a.tail.node r o
      (record {
        last = sym (last_is was next null);
        unlinked = ap (λ (x : Ref). x.node) next ∙ null;
        hand = t.fixed.hand;
        pocket = t.fixed.pocket;
        some_node = t.nodes.0;
        ready = (t.knows.0.0, t.knows.0.1);
        names = raised_node s a.next a.node hand_no_end room;
        let_go = g;
        empty = z;
        no_aside = none;
        relies = λ you one other. moves_link m a.tail.node r (ap (λ (x : Ref). x.node) was) (tail_there was).0 (tail_there was).1 (ap (λ (x : Ref). x.node) next ∙ null) up;
        words_then =
            record {
              lag = lag_linked m (put (Next a.tail.node) r m) (front ∷ rest) a.node refl refl words.lag
                  (nothing_after s.bits m (front ∷ rest) m.head.node shape.queue_chain words.lag
                  (ap (λ (x : Ref). (next_of m x.node).node) was ∙ ap (λ (x : Ref). x.node) next ∙ null));
              last_room = λ unshut. subst (λ (y : Ref). y.count ≢ s.limit) (sym last_next) (λ e. t.knows.0.2 (sym (marked.hand t.fixed.hand).1 ∙ e));
              shut_last = λ e. absurd (true≢false (sym e ∙ ap (λ (y : Ref). nat_eq y.node (reserved_node s.bits)) last_next ∙ ap
                  (λ n. nat_eq n (reserved_node s.bits)) t.knows.0.1 ∙ null_open s.bits (length m.nodes) few_nodes));
            };
        knows = knows;
        owns = owns;
        at = at;
        earns = earns;
        pushes = t.fixed.call;
        undecided = ap decided_reply t.fixed.earned;
      })
    where
      r : Ref
      r = raised s a.next a.node

      null : a.next.node ≡ 0
      null = t.knows.1

      room : a.next.count ≢ s.limit
      room = next_room was next null

      up : (next_of m a.tail.node).count < r.count
      up = let more : r.count ≡ a.next.count + 1 = raised_count s a.next a.node hand_no_end room in let c : (next_of m a.tail.node).count ≡ a.next.count = ap (λ (x : Ref). x.count) next in omega arith

      other : a.node ≢ a.tail.node
      other e =
          let here : holds a.node a ≡ 1 = holds_own a t.fixed.hand t.fixed.pocket in
          let apart : times a.node (front ∷ rest) ≡ 0 = (not_linked s.bits m E (front ∷ rest) free shape a.node t.nodes.0 (omega (arith, mine a.node))).0 in
          let there : 1 ≤ times a.node (front ∷ rest) = subst (λ j. 1 ≤ times j (front ∷ rest)) (ap (λ (x : Ref). x.node) was ∙ sym e) (tail_times m (front ∷ rest) words.lag) in
          omega arith

      last_next : next_of (put (Next a.tail.node) r m) (last_node (front ∷ rest ++ a.node ∷ [])) ≡ next_of m a.node
      last_next =
          ap (next_of (put (Next a.tail.node) r m)) (last_linked front rest a.node)
          ∙ ap (λ (y : Node). y.next) (others_stay m.nodes a.tail.node a.node (record (node_at m a.tail.node) { next = r }) (tail_there was).0 t.nodes.0 other)

  -- the call ends then or goes on to swing Tail
  linked : (worn : Bool) → AtLine non_blocking b E9 → m.tail ≡ a.tail → next_of m a.tail.node ≡ a.next
      → Goes non_blocking b (put (Next a.tail.node) (raised s a.next a.node) m)
      (effect now (if worn then ends now Done (empties_hand (record a { due = Some Done })) else goes E17
      (empties_hand (record a { due = Some Done }))))
  linked true t was same = links_hand _ t was same refl t.fixed.pocket refl tt t.owns refl refl
  linked false t was same =
      links_hand _ t was same refl t.fixed.pocket refl (
        inl was,
        λ e. ap (λ (x : Node). x.next.node) (written m.nodes a.tail.node (record (node_at m a.tail.node) { next = raised s a.next a.node })
            (tail_there was).0 (tail_there was).1) ∙ raised_node s a.next a.node hand_no_end (next_room was same t.knows.1),
      )
      t.owns refl refl

  -- the first node comes into the hand
  takes_front : AtLine non_blocking b D13 → m.head ≡ a.head
      → Goes non_blocking b (put Head (raised s a.head a.next.node) m) (effect now (goes F1 (fills_hand a.head.node a.next.count (record a { due = Some (Value a.val) }))))
  takes_front t was =
      pops non_blocking b a.next.node second.0 r _
      (record {
        behind = second.1;
        names = raised_node s a.head a.next.node t.nodes.2 t.fixed.room;
        raises = up;
        hand = t.fixed.hand;
        pocket = t.fixed.pocket;
        some_node = t.nodes.0;
        takes = sym (is_first was);
        mark = ap (λ k. (next_of m k).count) (is_first was) ∙ ap (λ (x : Ref). x.count) (t.knows.0.1 was).0;
        full = refl;
        empty = t.fixed.pocket;
        no_aside = refl;
        relies = λ last you other. record {
          locks = (refl, refl);
          head = inr (omega (arith, up));
          tail = inl refl;
          tail_on = inl refl;
          tail_next = inl refl;
          off = λ e d. d;
          counts = λ n one. omega arith;
        };
        words_then =
            record {
              lag = lag_popped m front rest r away up;
              last_room =
                  subst (λ ys. is_shut_chain s.bits m ys ≡ false → (next_of m (last_node ys)).count ≢ s.limit) (sym second.1)
                  (subst (λ ys. is_shut_chain s.bits m (front ∷ ys) ≡ false → (next_of m (last_node (front ∷ ys))).count ≢ s.limit) second.1 words.last_room);
              shut_last =
                  subst (λ ys. is_shut_chain s.bits m ys ≡ true → m.tail.node ≡ last_node ys) (sym second.1)
                  (subst (λ ys. is_shut_chain s.bits m (front ∷ ys) ≡ true → m.tail.node ≡ last_node (front ∷ ys)) second.1 words.shut_last);
            };
        knows = tt;
        owns = t.owns;
        at = refl;
        earns = ap (λ v. Some (Value v)) (sym (t.knows.1 was));
        dequeues = t.fixed.call;
        undecided = ap decided_reply t.fixed.earned;
      })
    where
      r : Ref
      r = raised s a.head a.next.node

      up : r.count ≡ m.head.count + 1
      up = raised_count s a.head a.next.node t.nodes.2 t.fixed.room ∙ ap (λ (x : Ref). x.count + 1) (sym was)

      away : IsOff m front rest
      away = off m front rest words.lag (λ e. (t.knows.0.1 was).1 (e ∙ is_first was))

      second : (ns : List ℕ) × (rest ≡ a.next.node ∷ ns)
      second = off_second s.bits m front m.head.node a.next.node rest shape.queue_chain away (ap (λ k. (next_of m k).node) (is_first was) ∙ ap (λ (x : Ref). x.node) (t.knows.0.1 was).0)

  -- the last node of the queue comes to lead to the closed end
  closes : AtLine non_blocking b S4 → m.tail ≡ a.tail → next_of m a.tail.node ≡ a.next → Goes non_blocking b (put (Next a.tail.node) (raised_end s a.next) m) (effect now (ends now Done a))
  closes t was next =
      shuts non_blocking b a.tail.node r _
      (record {
        last = sym (last_is was next t.knows.0);
        unlinked = ap (λ (x : Ref). x.node) next ∙ t.knows.0;
        closes = ap (λ (x : Ref). x.node) raised;
        same = λ n. refl;
        no_aside = refl;
        relies = λ you one other. moves_link m a.tail.node r (ap (λ (x : Ref). x.node) was) (tail_there was).0 (tail_there was).1 (ap (λ (x : Ref). x.node) next ∙ t.knows.0) up;
        words_then =
            record {
              lag = lag_same m (put (Next a.tail.node) r m) (front ∷ rest) refl refl words.lag;
              last_room = λ unshut. absurd (true≢false (sym shut_then ∙ unshut));
              shut_last = λ e. ap (λ (x : Ref). x.node) was ∙ sym (last_is was next t.knows.0);
            };
        keeps_marks = λ h. record { hand = h.hand; pocket = h.pocket };
        knows = tt;
        owns = t.owns;
        at = refl;
        earns = refl;
        call = t.fixed.call;
        undecided = ap decided_reply t.fixed.earned;
      })
    where
      r : Ref
      r = raised_end s a.next

      raised : r ≡ shut_ref s.bits (a.next.count + 1)
      raised = ap (λ i. if i then a.next else shut_ref s.bits (a.next.count + 1)) (ne_eqb a.next.count s.limit (next_room was next t.knows.0))

      up : (next_of m a.tail.node).count < r.count
      up = omega (arith, ap (λ (x : Ref). x.count) raised, ap (λ (x : Ref). x.count) next)

      shut_then : is_shut_chain s.bits (put (Next a.tail.node) r m) (front ∷ rest) ≡ true
      shut_then =
          ap (λ n. nat_eq n (reserved_node s.bits))
          (ap (λ j. (next_of (put (Next a.tail.node) r m) j).node) (last_is was next t.knows.0)
          ∙ ap (λ (x : Node). x.next.node) (written m.nodes a.tail.node (record (node_at m a.tail.node) { next = r }) (tail_there was).0 (tail_there was).1)
          ∙ ap (λ (x : Ref). x.node) raised) ∙
          closed_shut s.bits

  -- an exchange after which the outcome is the same, whether it succeeds or not
  tried_same : (i : Bool) {m' m'' : Shared} {x : Outcome} → (i ≡ true → Goes non_blocking b m' x) → (i ≡ false → Goes non_blocking b m'' x) → Goes non_blocking b (if i then m' else m'') x
  tried_same i {x = x} hx hy = either (λ m'. Goes non_blocking b m' x) i hx hy

  -- the step of each line does one of these
  does : (l : Line) → IsOwnOf (section_of l) NonBlocking → AtLine non_blocking b l → Goes non_blocking b (performed (action s me a l) m) (outcome s now me a l (found (action s me a l) m))
  does E2 r t =
      writes non_blocking b _ (record (node_at m a.node) { value = a.val }) t.fixed.hand t.fixed.pocket t.nodes refl t.fixed.hand t.fixed.pocket refl (sym (marked.hand t.fixed.hand).1) refl
      (ap (λ (x : Node). x.value) (written m.nodes a.node (record (node_at m a.node) { value = a.val }) t.nodes low)) t.owns refl (inl (ap decided_reply t.fixed.earned))
  does E3 r t =
      either (Goes non_blocking b (with_new m a.node x)) (nat_eq (next_of m a.node).count s.limit)
      (λ i. writes_aside non_blocking b _ x t.fixed.hand t.fixed.pocket t.nodes refl refl t.fixed.pocket refl tt t.owns
      (refused (WornOut OfNext) refl refl (hand_flag non_blocking b x t.fixed.hand t.fixed.pocket t.nodes refl) refl refl refl
      (ap decided_reply t.fixed.earned)))
      (λ i. writes non_blocking b _ x t.fixed.hand t.fixed.pocket t.nodes refl t.fixed.hand t.fixed.pocket refl refl refl
      (ap (λ (y : Node). y.value) cleared ∙ t.knows, ap (λ (y : Node). y.next.node) cleared, eqb-false (next_of m a.node).count s.limit i) t.owns refl (inl (ap decided_reply t.fixed.earned)))
    where
      x : Node
      x = record (node_at m a.node) { next = record (next_of m a.node) { node = 0 } }

      cleared : node_in (set m.nodes (a.node - 1) x) a.node ≡ x
      cleared = written m.nodes a.node x t.nodes low
  does E5 r t = on non_blocking b _ (ap decided_reply t.fixed.earned) refl (λ n. refl) refl marked (t.knows, inl refl) t.owns
  does E6 r t = on non_blocking b _ (ap decided_reply t.fixed.earned) refl (λ n. refl) refl marked (t.knows.0, t.knows.1, λ q. inl refl) t.owns
  does E7 r t =
      either (Goes non_blocking b m) (same_ref m.tail a.tail)
      (λ i. let was : m.tail ≡ a.tail = same_ref-true m.tail a.tail i in
      either (Goes non_blocking b m) (is_null a.next) (λ n. on non_blocking b _ (ap decided_reply t.fixed.earned) refl (λ n. refl) refl marked
      (t.knows.0, eqb-true a.next.node 0 n, null_next was (t.knows.2 was)) t.owns)
      (λ n. let next : next_of m a.tail.node ≡ a.next = next_stays_there m a (eqb-false a.next.node 0 n) (t.knows.2 was) in
      either (Goes non_blocking b m) (is_shut s.bits a.next)
      (λ e. finds_shut non_blocking b _ (ap decided_reply t.fixed.earned) refl refl
      (is_shut_behind was next (eqb-true a.next.node (reserved_node s.bits) e)) (λ o. absurd (push_is_no_pop me a.op a.val t.fixed.call o))
      (to_pocket_holds non_blocking b t.fixed.hand t.fixed.pocket) refl (to_pocket_marks non_blocking b t.fixed.hand) refl t.owns)
      (λ e. either (Goes non_blocking b m) (nat_eq a.tail.count s.limit)
      (λ c. refuses non_blocking b _ (WornOut OfTail) (ap decided_reply t.fixed.earned) refl refl refl
      (to_pocket_holds non_blocking b t.fixed.hand t.fixed.pocket) refl (to_pocket_marks non_blocking b t.fixed.hand) refl t.owns)
      (λ c. on non_blocking b _ (ap decided_reply t.fixed.earned) refl (λ n. refl) refl marked (t.knows.0, (t.knows.1, λ q. ap (λ (x : Ref). x.node) next)) t.owns))))
      (λ i. on non_blocking b _ (ap decided_reply t.fixed.earned) refl (λ n. refl) refl marked t.knows.0 t.owns)
  does E9 r t =
      tried (Goes non_blocking b) (same_ref (next_of m a.tail.node) a.next)
      (λ i. let same : next_of m a.tail.node ≡ a.next = same_ref-true (next_of m a.tail.node) a.next i in
      linked (nat_eq a.tail.count s.limit) t (tail_still same t.knows.2) same)
      (λ i. on non_blocking b _ (ap decided_reply t.fixed.earned) refl (λ n. refl) refl marked t.knows.0 t.owns)
  does E13 r t =
      tried_same (same_ref m.tail a.tail)
      (λ i. swings a.next.node _ (same_ref-true m.tail a.tail i) t.nodes.2 t.nodes.3 t.fixed.room t.knows.1 (λ n. refl) refl marked t.knows.0 t.owns refl (inl (ap decided_reply t.fixed.earned)))
      (λ i. on non_blocking b _ (ap decided_reply t.fixed.earned) refl (λ n. refl) refl marked t.knows.0 t.owns)
  does E17 r t =
      tried_same (same_ref m.tail a.tail)
      (λ i. swings a.node _ (same_ref-true m.tail a.tail i) t.nodes.0 hand_no_end t.fixed.room t.knows (λ n. refl) refl marked tt t.owns refl (inr (λ n. sym (ap decided_reply t.fixed.earned))))
      (λ i. still non_blocking b _ (λ n. refl) refl marked tt t.owns (stutters refl refl refl refl (inr (λ n. sym (ap decided_reply t.fixed.earned)))))
  does D2 r t = on non_blocking b _ (ap decided_reply t.fixed.earned) refl (λ n. refl) refl marked (inl refl) t.owns
  does D3 r t = on non_blocking b _ (ap decided_reply t.fixed.earned) refl (λ n. refl) refl marked (t.knows, inl refl, λ q d. d) t.owns
  does D4 r t =
      on non_blocking b _ (ap decided_reply t.fixed.earned) refl (λ n. refl) refl marked (
        t.knows.0,
        t.knows.1,
        λ q. (λ some. refl, λ d. (t.knows.2 q d, leads q (t.knows.2 q d), goes_on q (t.knows.2 q d))),
        λ q none. (empty_behind s.bits m front rest few_nodes shape.queue_chain (ap (λ j. (next_of m j).node) (is_first q) ∙ none), refl),
      ) t.owns
    where
      leads : m.head ≡ a.head → m.tail.node ≢ a.head.node → 1 ≤ (next_of m a.head.node).node
      leads was away =
          subst (λ j. 1 ≤ (next_of m j).node) (is_first was) (off_leads s.bits m front m.head.node rest shape.queue_chain (off m front rest words.lag (λ q. away (q ∙ is_first was))))

      goes_on : m.head ≡ a.head → m.tail.node ≢ a.head.node → (next_of m a.head.node).node ≢ reserved_node s.bits
      goes_on was away =
          subst (λ j. (next_of m j).node ≢ reserved_node s.bits) (is_first was) (off_open s.bits m front m.head.node rest few_nodes shape.queue_chain
          (off m front rest words.lag (λ q. away (q ∙ is_first was))))
  does D5 r t =
      either (Goes non_blocking b m) (same_ref m.head a.head)
      (λ i. let was : m.head ≡ a.head = same_ref-true m.head a.head i in
      either (Goes non_blocking b m) (nat_eq a.head.node a.tail.node)
      (λ c. either (Goes non_blocking b m) (is_null a.next) (λ n. still non_blocking b _ (λ n. refl) refl marked tt t.owns
      (found_empty refl refl refl refl refl t.fixed.call (ap decided_reply t.fixed.earned) (t.knows.3 was (eqb-true a.next.node 0 n))))
      (λ n. let next : next_of m a.head.node ≡ a.next = (t.knows.2 was).0 (let some : a.next.node ≢ 0 = eqb-false a.next.node 0 n in omega arith) in
      either (Goes non_blocking b m) (is_shut s.bits a.next)
      (λ e. let ends : (next_of m front).node ≡ reserved_node s.bits = first_leads was next (eqb-true a.next.node (reserved_node s.bits) e) in
      finds_shut non_blocking b _ (ap decided_reply t.fixed.earned) refl refl (shut_alone s.bits m m.head.node front rest few_nodes shape.queue_chain ends)
      (λ o. ap (λ ys. queue_values m (front ∷ ys)) (alone_at_end s.bits m.nodes m.head.node front rest few_nodes shape.queue_chain ends)) (λ n. refl) refl marked refl t.owns)
      (λ e. either (Goes non_blocking b m) (nat_eq a.tail.count s.limit) (λ d. refuses non_blocking b _ (WornOut OfTail)
      (ap decided_reply t.fixed.earned) refl refl refl (λ n. refl) refl marked refl t.owns)
      (λ d. on non_blocking b _ (ap decided_reply t.fixed.earned) refl (λ n. refl) refl marked
      (t.knows.1, λ q. ap (λ j. (next_of m j).node) (sym (eqb-true a.head.node a.tail.node c)) ∙ ap (λ (x : Ref). x.node) next) t.owns))))
      (λ c. let other : a.tail.node ≢ a.head.node = λ q. eqb-false a.head.node a.tail.node c (sym q) in
      on non_blocking b _ (ap decided_reply t.fixed.earned) refl (λ n. refl) refl marked (inl was, λ q. ((t.knows.2 was).0 ((t.knows.2 was).1 other).1, ((t.knows.2 was).1 other).0)) t.owns))
      (λ i. on non_blocking b _ (ap decided_reply t.fixed.earned) refl (λ n. refl) refl marked tt t.owns)
  does D10 r t =
      tried_same (same_ref m.tail a.tail)
      (λ i. swings a.next.node _ (same_ref-true m.tail a.tail i) t.nodes.1 t.nodes.2 t.fixed.room t.knows (λ n. refl) refl marked tt t.owns refl (inl (ap decided_reply t.fixed.earned)))
      (λ i. on non_blocking b _ (ap decided_reply t.fixed.earned) refl (λ n. refl) refl marked tt t.owns)
  does D12 r t =
      either (Goes non_blocking b m) (nat_eq a.head.count s.limit) (λ i. refuses non_blocking b _ (WornOut OfHead) (ap decided_reply t.fixed.earned) refl refl refl (λ n. refl) refl marked refl t.owns)
      (λ i. on non_blocking b _ (ap decided_reply t.fixed.earned) refl (λ n. refl) refl marked (t.knows, λ q. refl) t.owns)
  does D13 r t =
      tried (Goes non_blocking b) (same_ref m.head a.head) (λ i. takes_front t (same_ref-true m.head a.head i))
      (λ i. on non_blocking b _ (ap decided_reply t.fixed.earned) refl (λ n. refl) refl marked tt t.owns)
  does S1 r t = on non_blocking b _ (ap decided_reply t.fixed.earned) refl (λ n. refl) refl marked (inl refl) t.owns
  does S2 r t = on non_blocking b _ (ap decided_reply t.fixed.earned) refl (λ n. refl) refl marked (t.knows, λ q. inl refl) t.owns
  does S3 r t =
      either (Goes non_blocking b m) (same_ref m.tail a.tail)
      (λ i. let was : m.tail ≡ a.tail = same_ref-true m.tail a.tail i in
      either (Goes non_blocking b m) (is_null a.next) (λ n. on non_blocking b _ (ap decided_reply t.fixed.earned) refl (λ n. refl) refl marked
      (eqb-true a.next.node 0 n, null_next was (t.knows.1 was)) t.owns)
      (λ n. let next : next_of m a.tail.node ≡ a.next = next_stays_there m a (eqb-false a.next.node 0 n) (t.knows.1 was) in
      either (Goes non_blocking b m) (is_shut s.bits a.next)
      (λ e. finds_shut non_blocking b _ (ap decided_reply t.fixed.earned) refl refl
      (is_shut_behind was next (eqb-true a.next.node (reserved_node s.bits) e)) (λ o. absurd (shut_is_no_pop a.op t.fixed.call o))
      (λ n. refl) refl marked refl t.owns)
      (λ e. either (Goes non_blocking b m) (nat_eq a.tail.count s.limit) (λ c. refuses non_blocking b _ (WornOut OfTail)
      (ap decided_reply t.fixed.earned) refl refl refl (λ n. refl) refl marked refl t.owns)
      (λ c. on non_blocking b _ (ap decided_reply t.fixed.earned) refl (λ n. refl) refl marked (t.knows.0, λ q. ap (λ (x : Ref). x.node) next) t.owns))))
      (λ i. on non_blocking b _ (ap decided_reply t.fixed.earned) refl (λ n. refl) refl marked tt t.owns)
  does S4 r t =
      tried (Goes non_blocking b) (same_ref (next_of m a.tail.node) a.next)
      (λ i. let same : next_of m a.tail.node ≡ a.next = same_ref-true (next_of m a.tail.node) a.next i in closes t (tail_still same t.knows.1) same)
      (λ i. on non_blocking b _ (ap decided_reply t.fixed.earned) refl (λ n. refl) refl marked tt t.owns)
  does S5 r t =
      tried_same (same_ref m.tail a.tail)
      (λ i. swings a.next.node _ (same_ref-true m.tail a.tail i) t.nodes.1 t.nodes.2 t.fixed.room t.knows (λ n. refl) refl marked tt t.owns refl (inl (ap decided_reply t.fixed.earned)))
      (λ i. on non_blocking b _ (ap decided_reply t.fixed.earned) refl (λ n. refl) refl marked tt t.owns)
  does l r t = absurd r

-- a dequeue that goes on to take a value has found a node
found_a_node : (Z : ℕ → Type 0) (s : Setup) (me : ℕ) (m : Shared) (last : ℕ) (a : Actor) (l : Line) → IsRunBy (section_of l) NonBlocking
    → Knows non_blocking Z s m last a (Some l) → FoundANode s me a l (found (action s me a l) m)
found_a_node Z s me m last a D5 r k = λ i c. let found : (m.tail.node ≢ a.head.node) × (1 ≤ a.next.node) × (a.next.node ≢ reserved_node s.bits) =
    (k.2 (same_ref-true m.head a.head i)).1 (λ q. eqb-false a.head.node a.tail.node c (sym q)) in (found.1, found.2)
found_a_node Z s me m last a _ r k = tt

-- what the steps of its own lines do
pub non_blocking_steps : Steps non_blocking
non_blocking_steps =
    record {
      starts = λ s actors h. record {
        lag = record { before = []; after = []; chain = refl; by_one = omega arith; count = omega arith };
        last_room = λ unshut e. let c : 1 ≤ s.limit = h.counts in omega (arith, blank_counts 0 s.size, e);
        shut_last = λ e. refl;
      };
      found_a_node = found_a_node;
      does = does;
    }
