-- That the operations of a world, by rising place and with the replies that their calls have earned, are what the queue
-- gives, and that the queue then has the values of the chain: kept by each step that has an `LinearizationStep`, in both queues.
use Rattle.std.proofs.Common.{◌≡◌, ℕ, zero, suc, ◌+◌, ◌≤◌, ◌<◌, Bool, true, inl, inr, false, nat_eq, Option, Some, None, is_some, List, [], ◌∷◌, ◌++◌}
use Rattle.std.proofs.Common.{drop, append-nil, refl, sym, ap, ◌∙◌, subst, arith}
use Rattle.std.specs.Prelude.{slice_get}
use Rattle.std.specs.List.{AllByRecursion, flat_map}
use Rattle.std.proofs.lemmas.Bool.{true≢false}
use Rattle.std.proofs.lemmas.List.{map-append}
use Rattle.std.proofs.lemmas.Grind.{flat_map-append}
use Rattle.step_machine.specs.Below.{Line, Refusal, Closed, Op, Enq, Deq, Shut, Taken, Reply, Done, Value, Empty, Refused, Stamped, Queue, empty}
use Rattle.step_machine.specs.Below.{response, front_of, Plays, point_or_zero, by_point, answer, AgreesWithQueue, IsSequentialRun, queue_after, Actor}
use Rattle.step_machine.specs.Below.{Outcome, Shared, node_at}
use Rattle.step_machine.specs.Machine.{World, actor_of, with_outcome, after_outcome}
use Rattle.step_machine.specs.Places.{IsEnd, one_if, times}
use Rattle.step_machine.specs.Chains.{values_of, queue_values, is_shut_chain, queue_in}
use Rattle.step_machine.specs.Completion.{decided_reply, completed_reply, is_value}
use Rattle.step_machine.specs.Entries.{entry_with, entry_of}
use Rattle.step_machine.proofs.Chains.{null_times}
use Rattle.step_machine.proofs.Counting.{holds, elsewhere}
use Rattle.step_machine.proofs.Effects.{Shape, WritesOneNode, values_kept}
use Rattle.step_machine.proofs.Fixed.{Pushes}
use Rattle.step_machine.proofs.LinearizationSteps.{LinearizationStep, stutters, refused, closed, found_empty, pushed, popped, shut}
use Rattle.step_machine.proofs.Replay.{place, before, inserted_last, rising_all, queue_after-append, replays_more, IsEmptyReply, empty_placed, empty_keeps, still_empty, still_empty_below, before_all}
use Rattle.step_machine.proofs.Gains.{gained, gained_at, completion_entries, Gains, nothing_inserted, plays-append, push_plays, shut_plays}
use Rattle.step_machine.proofs.CompletionSteps.{entered, bare_completion, taken, Simulates, Unchanged, Entered, unchanged, entered_at}

-- what holds of a world and its queue's chain
pub record SimulationRelation (w : World) (queue : List ℕ) : Type 0 where
  pub replays : IsSequentialRun empty (by_point (bare_completion w))
  pub list : queue_after empty (by_point (bare_completion w)) ≡ queue_in w.setup.bits w.shared queue
  pub plays : Plays empty (completion_entries w) (queue_in w.setup.bits w.shared queue)
  pub counted : w.shared.head.count ≡ taken (bare_completion w)
  pub calls : (me e : ℕ) (a : Actor) (l : Line) (s : Stamped) → actor_of w me ≡ Some a → a.line ≡ Some l → a.entry ≡ Some e → slice_get w.operations e ≡ Some s → s.op ≡ a.op

-- a number that was given, before which the queue was empty
abbrev pub WasEmpty : World → ℕ → Type 0
WasEmpty w k = (k ≤ w.steps) × (queue_after empty (before k (by_point (bare_completion w))) ≡ empty)

-- the values of the queue stay where its nodes do
same_values : (bits : ℕ) (m m' : Shared) (E : ℕ → ℕ) (h : ℕ) (rest free : List ℕ) (a : Actor) → Shape bits m E (h ∷ rest) free → WritesOneNode m m' (h ∷ rest) a
    → ((n : ℕ) → holds n a ≤ E n) → (ns : List ℕ) → ((n : ℕ) → times n ns ≤ times n rest) → values_of m' ns ≡ values_of m ns
same_values bits m m' E h rest free a sh w mine ns among = values_kept bits m m' E (h ∷ rest) free a sh w mine ns (λ n more. within n more)
  where
    within : (n : ℕ) → 1 ≤ times n ns → (1 ≤ n) × (1 ≤ times n (h ∷ rest))
    within zero more =
        absurd (let a : times 0 ns ≤ times 0 rest = among 0 in let b : times 0 (h ∷ rest) ≡ 0 = null_times (IsEnd bits) m.nodes (h ∷ rest) m.head.node sh.queue_chain in omega arith)
    within (suc n) more = (omega arith, let a : times (suc n) ns ≤ times (suc n) rest = among (suc n) in omega arith)

-- a queue, by whether it is shut
abbrev pub queue_with : Bool → List Taken → Queue
queue_with flag vs = record { values = vs; shut = flag }

-- what the queue gives a push and a shut, where it isn't shut, and a pop
pub push_gives : (me : ℕ) (op : Op) (v : Taken) (vs : List Taken) (flag : Bool) → flag ≡ false → Pushes me op v
    → (Done ≡ (response me op (queue_with flag vs)).reply) × ((response me op (queue_with flag vs)).after ≡ queue_with false (vs ++ v ∷ []))
push_gives me (Enq body) v vs false unshut h = (refl, ap (λ x. queue_with false (vs ++ x ∷ [])) (sym h))
push_gives me (Enq body) v vs true unshut h = absurd (true≢false unshut)
push_gives me Deq v vs flag unshut h = absurd h
push_gives me Shut v vs flag unshut h = absurd h

pub shut_gives : (me : ℕ) (vs : List Taken) (flag : Bool) → flag ≡ false → (Done ≡ (response me Shut (queue_with flag vs)).reply) × ((response me Shut (queue_with flag vs)).after ≡ queue_with true vs)
shut_gives me vs false unshut = (refl, refl)
shut_gives me vs true unshut = absurd (true≢false unshut)

pub pop_gives : (me : ℕ) (op : Op) (v : Taken) (vs : List Taken) (flag : Bool) (queue : Queue) → op ≡ Deq → queue ≡ queue_with flag (v ∷ vs)
    → (Value v ≡ (response me op queue).reply) × ((response me op queue).after ≡ queue_with flag vs)
pop_gives me op v vs flag queue e q =
    let g : response me op queue ≡ front_of (queue_with flag (v ∷ vs)) (v ∷ vs) = ap (λ x. response me x queue) e ∙ ap (λ (x : Queue). front_of x x.values) q in
    (sym (ap (λ x. x.reply) g), ap (λ x. x.after) g)

-- a shut queue refuses each call, but for a pop while it has values
pub closed_gives : (me : ℕ) (op : Op) (vs : List Taken) (flag : Bool) → flag ≡ true → (op ≡ Deq → vs ≡ []) → Refused Closed ≡ (response me op (queue_with flag vs)).reply
closed_gives me op vs false is none = absurd (true≢false (sym is))
closed_gives me (Enq body) vs true is none = refl
closed_gives me Shut vs true is none = refl
closed_gives me Deq [] true is none = refl
closed_gives me Deq (v ∷ vs) true is none = absurd (let e : v ∷ vs ≡ [] = none refl in cc)

-- what a step carries along
pub record AfterStep (w v : World) (queue' : List ℕ) : Type 0 where
  pub replays : IsSequentialRun empty (by_point (bare_completion v))
  pub list : queue_after empty (by_point (bare_completion v)) ≡ queue_in w.setup.bits v.shared queue'
  pub counted : v.shared.head.count ≡ taken (bare_completion v)
  pub still : (k : ℕ) → k ≤ w.steps + 1 → queue_after empty (before k (by_point (bare_completion w))) ≡ empty → queue_after empty (before k (by_point (bare_completion v))) ≡ empty

module _ (w : World) (me : ℕ) (a : Actor) (m' : Shared) (o : Outcome) (h : ℕ) (rest free : List ℕ)
    (sh : Shape w.setup.bits w.shared (elsewhere w) (h ∷ rest) free) (wr : WritesOneNode w.shared m' (h ∷ rest) a) (mine : (n : ℕ) → holds n a ≤ elsewhere w n)
    (b : Simulates w (after_outcome w me a m' o) me a o) (ac : SimulationRelation w (h ∷ rest)) where
  abbrev after : World
  after = after_outcome w me a m' o

  kept_values : values_of m' rest ≡ values_of w.shared rest
  kept_values = same_values w.setup.bits w.shared m' (elsewhere w) h rest free a sh wr mine rest (λ n. omega arith)

  -- the values after a push, and after a pop
  pushed_values : (node_at m' a.node).value ≡ a.val → values_of m' (rest ++ a.node ∷ []) ≡ values_of w.shared rest ++ a.val ∷ []
  pushed_values e =
      map-append (λ n. (node_at m' n).value) rest (a.node ∷ []) ∙ ap (λ vs. vs ++ (node_at m' a.node).value ∷ []) kept_values
      ∙ ap (λ v. values_of w.shared rest ++ v ∷ []) e

  popped_values : (first x : ℕ) (ns : List ℕ) → h ∷ rest ≡ first ∷ x ∷ ns → values_of m' ns ≡ values_of w.shared ns
  popped_values first x ns was =
      same_values w.setup.bits w.shared m' (elsewhere w) h rest free a sh wr mine ns
      (λ n. let e : times n rest ≡ one_if (nat_eq n x) + times n ns = ap (λ qs. times n (drop 1 qs)) was in omega arith)

  -- all places are numbers that were given
  below : AllByRecursion (λ p. place p < w.steps + 1) (by_point (bare_completion w))
  below = rising_all (λ p. place p < w.steps + 1) (bare_completion w) (λ i p got some. go i p got p.at refl some)
    where
      go : (i : ℕ) (p : Stamped) → slice_get (bare_completion w) i ≡ Some p → (at : Option ℕ) → p.at ≡ at → is_some at ≡ true → place p < w.steps + 1
      go i p got None e some = cc
      go i p got (Some n) e some =
          let low : n ≤ w.steps = b.within i n p got e in
          let is : place p ≡ n = ap point_or_zero e in
          omega arith

  -- a queue that is empty now is empty before the next number
  pub empty_now : queue_in w.setup.bits w.shared (h ∷ rest) ≡ empty → queue_after empty (before (w.steps + 1) (by_point (bare_completion w))) ≡ empty
  empty_now e = ap (queue_after empty) (before_all (w.steps + 1) (by_point (bare_completion w)) below) ∙ ac.list ∙ e

  -- the queue before
  abbrev was : Queue
  was = queue_in w.setup.bits w.shared (h ∷ rest)

  -- the queue of the chain stays where its end does
  kept_queue : (queue' : List ℕ) → queue' ≡ h ∷ rest → is_shut_chain w.setup.bits m' (h ∷ rest) ≡ is_shut_chain w.setup.bits w.shared (h ∷ rest) → was ≡ queue_in w.setup.bits m' queue'
  kept_queue queue' same flag =
      let kept : was ≡ queue_in w.setup.bits m' (h ∷ rest) = (λ i. record { values = sym kept_values i; shut = sym flag i }) in
      kept ∙ ap (λ q. queue_in w.setup.bits m' q) (sym same)

  -- a step that gives no place
  after_quiet : (queue' : List ℕ) → was ≡ queue_in w.setup.bits m' queue' → m'.head.count ≡ w.shared.head.count → Unchanged (bare_completion w) (bare_completion after) → AfterStep w after queue'
  after_quiet queue' same count u =
      record {
        replays = subst (IsSequentialRun empty) (sym u.rises) ac.replays;
        list = ap (queue_after empty) u.rises ∙ ac.list ∙ same;
        counted = count ∙ ac.counted ∙ sym u.counts;
        still = λ k low none. ap (λ ps. queue_after empty (before k ps)) u.rises ∙ none;
      }

  -- a step that enters an operation at its own number
  after_now : (queue' : List ℕ) (y : Stamped) → place y ≡ w.steps + 1 → Entered (bare_completion w) (bare_completion after) y → AgreesWithQueue was y y.reply
      → (answer was y y.reply).after ≡ queue_in w.setup.bits m' queue' → m'.head.count ≡ w.shared.head.count + one_if (is_value y.reply)
      → AfterStep w after queue'
  after_now queue' y at n gets gives count =
      record {
        replays = subst (IsSequentialRun empty) (sym last) (replays_more empty (by_point (bare_completion w)) y ac.replays (subst (λ q. AgreesWithQueue q y y.reply) (sym ac.list) gets));
        list = ap (queue_after empty) last ∙ queue_after-append empty (by_point (bare_completion w)) (y ∷ []) ∙ ap (λ q. (answer q y y.reply).after) ac.list ∙ gives;
        counted = count ∙ ap (λ c. c + one_if (is_value y.reply)) ac.counted ∙ sym n.counts;
        still = λ k low none. ap (λ ps. queue_after empty (before k ps)) n.rises ∙ still_empty_below k y (by_point (bare_completion w)) (omega arith) none;
      }
    where
      last : by_point (bare_completion after) ≡ by_point (bare_completion w) ++ y ∷ []
      last = n.rises ∙ inserted_last y (by_point (bare_completion w)) (subst (λ k. AllByRecursion (λ p. place p < k) (by_point (bare_completion w))) (sym at) below)

  -- a step that enters an empty reply
  after_empty : (queue' : List ℕ) (y : Stamped) → was ≡ queue_in w.setup.bits m' queue' → m'.head.count ≡ w.shared.head.count → IsEmptyReply y
      → Entered (bare_completion w) (bare_completion after) y → queue_after empty (before (place y) (by_point (bare_completion w))) ≡ empty
      → AfterStep w after queue'
  after_empty queue' y same count e n none =
      record {
        replays = subst (IsSequentialRun empty) (sym n.rises) (empty_placed y (by_point (bare_completion w)) e none ac.replays);
        list = ap (queue_after empty) n.rises ∙ empty_keeps y (by_point (bare_completion w)) e none ∙ ac.list ∙ same;
        counted = count ∙ ac.counted ∙ omega (arith, n.counts, ap (λ r. one_if (is_value r)) e.reply);
        still = λ k low was_empty. ap (λ ps. queue_after empty (before k ps)) n.rises ∙ still_empty k y (by_point (bare_completion w)) e none was_empty;
      }

  -- what a push, a shut and a pop give, and the queue after them
  pushes_on : (queue' : List ℕ) → queue' ≡ (h ∷ rest) ++ a.node ∷ [] → is_shut_chain w.setup.bits w.shared (h ∷ rest) ≡ false
      → is_shut_chain w.setup.bits m' queue' ≡ false → (node_at m' a.node).value ≡ a.val → Pushes me a.op a.val
      → (Done ≡ (response me a.op was).reply) × ((response me a.op was).after ≡ queue_in w.setup.bits m' queue')
  pushes_on queue' longer unshut still value pushes =
      let g : (Done ≡ (response me a.op was).reply) × ((response me a.op was).after ≡ queue_with false (values_of w.shared rest ++ a.val ∷ [])) =
      push_gives me a.op a.val (values_of w.shared rest) (is_shut_chain w.setup.bits w.shared (h ∷ rest)) unshut pushes in
      let values : values_of w.shared rest ++ a.val ∷ [] ≡ queue_values m' queue' = sym (pushed_values value) ∙ ap (λ q. queue_values m' q) (sym longer) in
      let now : queue_with false (values_of w.shared rest ++ a.val ∷ []) ≡ queue_in w.setup.bits m' queue' = (λ i. record { values = values i; shut = sym still i }) in
      (g.0, g.1 ∙ now)

  shuts_on : (queue' : List ℕ) → queue' ≡ h ∷ rest → is_shut_chain w.setup.bits w.shared (h ∷ rest) ≡ false → is_shut_chain w.setup.bits m' (h ∷ rest) ≡ true
      → a.op ≡ Shut → (Done ≡ (response me a.op was).reply) × ((response me a.op was).after ≡ queue_in w.setup.bits m' queue')
  shuts_on queue' same unshut now op =
      let g : (Done ≡ (response me Shut was).reply) × ((response me Shut was).after ≡ queue_with true (values_of w.shared rest)) =
      shut_gives me (values_of w.shared rest) (is_shut_chain w.setup.bits w.shared (h ∷ rest)) unshut in
      subst (λ p. (Done ≡ (response me p was).reply) × ((response me p was).after ≡ queue_in w.setup.bits m' queue')) (sym op)
      (let kept : queue_with true (values_of w.shared rest) ≡ queue_in w.setup.bits m' (h ∷ rest) = (λ i. record { values = sym kept_values i; shut = sym now i }) in
      (g.0, g.1 ∙ kept ∙ ap (λ q. queue_in w.setup.bits m' q) (sym same)))

  pops_on : (queue' : List ℕ) (p : Op) (first x : ℕ) (ns : List ℕ) → h ∷ rest ≡ first ∷ x ∷ ns → queue' ≡ x ∷ ns
      → is_shut_chain w.setup.bits m' queue' ≡ is_shut_chain w.setup.bits w.shared (h ∷ rest) → p ≡ Deq
      → (Value (node_at w.shared x).value ≡ (response me p was).reply) × ((response me p was).after ≡ queue_in w.setup.bits m' queue')
  pops_on queue' p first x ns before_is now_is flag op =
      let g : (Value (node_at w.shared x).value ≡ (response me p was).reply) × ((response me p was).after ≡ queue_with (is_shut_chain w.setup.bits w.shared (h ∷ rest)) (values_of w.shared ns)) =
      pop_gives me p (node_at w.shared x).value (values_of w.shared ns) (is_shut_chain w.setup.bits w.shared (h ∷ rest)) was op
      (ap (λ qs. queue_with (is_shut_chain w.setup.bits w.shared (h ∷ rest)) (queue_values w.shared qs)) before_is) in
      let values : values_of w.shared ns ≡ queue_values m' queue' = sym (popped_values first x ns before_is) ∙ ap (λ q. queue_values m' q) (sym now_is) in
      let now : queue_with (is_shut_chain w.setup.bits w.shared (h ∷ rest)) (values_of w.shared ns) ≡ queue_in w.setup.bits m' queue' = (λ i. record { values = values i; shut = sym flag i }) in
      (g.0, g.1 ∙ now)

  -- a step, by what it means for the queue
  pub after_step : (queue' : List ℕ) → LinearizationStep w.setup.bits (WasEmpty w) me (w.steps + 1) w.shared m' (h ∷ rest) queue' a o → AfterStep w after queue'
  after_step queue' (stutters same count flag none keeps) = after_quiet queue' (kept_queue queue' same flag) count (unchanged w after me a o b none keeps)
  after_step queue' (refused refusal same count flag at with_outcome ok none) =
      after_now queue' (entered me a.op (Some (w.steps + 1)) (Some (Refused refusal))) refl
      (entered_at w after me a o (w.steps + 1) (Some (Refused refusal)) b at none (ap (λ r. completed_reply r (Some (w.steps + 1)) o.actor.due) with_outcome))
      (inl ok) (kept_queue queue' same flag) (omega (arith, count))
  after_step queue' (closed same count flag at with_outcome is_shut no_values none) =
      after_now queue' (entered me a.op (Some (w.steps + 1)) (Some (Refused Closed))) refl
      (entered_at w after me a o (w.steps + 1) (Some (Refused Closed)) b at none (ap (λ r. completed_reply r (Some (w.steps + 1)) o.actor.due) with_outcome))
      (inr (refl, closed_gives me a.op (values_of w.shared rest) (is_shut_chain w.setup.bits w.shared (h ∷ rest)) is_shut no_values)) (kept_queue queue' same flag) (omega (arith, count))
  after_step queue' (found_empty same count flag at with_outcome op none was_empty) =
      after_empty queue' (entered me a.op (Some a.empty_at) (Some Empty)) (kept_queue queue' same flag) count (record { op = op; reply = refl })
      (entered_at w after me a o a.empty_at (Some Empty) b at none (ap (λ r. completed_reply r (Some a.empty_at) o.actor.due) with_outcome))
      was_empty.1
  after_step queue' (pushed longer count unshut still at with_outcome value pushes none) =
      let g : (Done ≡ (response me a.op was).reply) × ((response me a.op was).after ≡ queue_in w.setup.bits m' queue') = pushes_on queue' longer unshut still value pushes in
      after_now queue' (entered me a.op (Some (w.steps + 1)) (Some Done)) refl
      (entered_at w after me a o (w.steps + 1) (Some Done) b at none with_outcome) g.0 g.1 (omega (arith, count))
  after_step queue' (popped first x ns before_is now_is count flag at with_outcome op none) =
      let g : (Value (node_at w.shared x).value ≡ (response me a.op was).reply) × ((response me a.op was).after ≡ queue_in w.setup.bits m' queue') =
      pops_on queue' a.op first x ns before_is now_is flag op in
      after_now queue' (entered me a.op (Some (w.steps + 1)) (Some (Value (node_at w.shared x).value))) refl
      (entered_at w after me a o (w.steps + 1) (Some (Value (node_at w.shared x).value)) b at none with_outcome) g.0 g.1 count
  after_step queue' (shut same count unshut now at with_outcome op none) =
      let g : (Done ≡ (response me a.op was).reply) × ((response me a.op was).after ≡ queue_in w.setup.bits m' queue') = shuts_on queue' same unshut now op in
      after_now queue' (entered me a.op (Some (w.steps + 1)) (Some Done)) refl
      (entered_at w after me a o (w.steps + 1) (Some Done) b at none with_outcome) g.0 g.1 (omega (arith, count))

  -- a step that adds no entry
  gains_nothing : completion_entries after ≡ completion_entries w → gained me a.op o ≡ [] → Gains w after me a o
  gains_nothing same none = same ∙ sym (append-nil (completion_entries w)) ∙ ap (λ es. completion_entries w ++ es) (sym none)

  -- a step that enters an operation without an entry
  gains_no_entry : (y : Stamped) → Entered (bare_completion w) (bare_completion after) y → entry_of y ≡ [] → gained me a.op o ≡ [] → Gains w after me a o
  gains_no_entry y n no_entry none = gains_nothing (ap (flat_map entry_of) n.rises ∙ nothing_inserted y (by_point (bare_completion w)) no_entry) none

  -- a step that enters an operation at its own number
  gains_its_entry : (y : Stamped) → place y ≡ w.steps + 1 → Entered (bare_completion w) (bare_completion after) y → gained me a.op o ≡ entry_of y → Gains w after me a o
  gains_its_entry y at n same =
      ap (flat_map entry_of) (n.rises ∙ inserted_last y (by_point (bare_completion w)) (subst (λ k. AllByRecursion (λ p. place p < k) (by_point (bare_completion w))) (sym at) below))
      ∙ flat_map-append entry_of (by_point (bare_completion w)) (y ∷ []) ∙ ap (λ es. completion_entries w ++ es) (append-nil (entry_of y) ∙ sym same)

  -- what an outcome gains at a place, with the reply that is told or earned there
  gained_is : (n : ℕ) (reply : Option Reply) → o.at ≡ Some n → completed_reply o.reply (Some n) o.actor.due ≡ reply → gained me a.op o ≡ entry_with me a.op reply
  gained_is n reply at with_outcome = ap (λ p. gained_at me a.op p o.reply o.actor.due) at ∙ ap (entry_with me a.op) with_outcome

  -- a refusal adds none
  gains_refusal : (refusal : Refusal) → o.at ≡ Some (w.steps + 1) → o.reply ≡ Some (Refused refusal) → decided_reply a.due ≡ None → Gains w after me a o
  gains_refusal refusal at with_outcome none =
      let is : completed_reply o.reply (Some (w.steps + 1)) o.actor.due ≡ Some (Refused refusal) = ap (λ r. completed_reply r (Some (w.steps + 1)) o.actor.due) with_outcome in
      gains_no_entry (entered me a.op (Some (w.steps + 1)) (Some (Refused refusal))) (entered_at w after me a o (w.steps + 1) (Some (Refused refusal)) b at none is) refl
      (gained_is (w.steps + 1) (Some (Refused refusal)) at is)

  -- a step that adds no entry leads nowhere else
  plays_nothing : (queue' : List ℕ) → was ≡ queue_in w.setup.bits m' queue' → gained me a.op o ≡ [] → Plays was (gained me a.op o) (queue_in w.setup.bits m' queue')
  plays_nothing queue' same none = subst (λ es. Plays was es (queue_in w.setup.bits m' queue')) (sym none) same

  -- a step adds the entries that its outcome gains
  pub after_gains : (queue' : List ℕ) → LinearizationStep w.setup.bits (WasEmpty w) me (w.steps + 1) w.shared m' (h ∷ rest) queue' a o → Gains w after me a o
  after_gains queue' (stutters same count flag none keeps) =
      gains_nothing (ap (flat_map entry_of) (let u : Unchanged (bare_completion w) (bare_completion after) = unchanged w after me a o b none keeps in u.rises))
      (ap (λ p. gained_at me a.op p o.reply o.actor.due) none)
  after_gains queue' (refused refusal same count flag at with_outcome ok none) = gains_refusal refusal at with_outcome none
  after_gains queue' (closed same count flag at with_outcome is_shut no_values none) = gains_refusal Closed at with_outcome none
  after_gains queue' (found_empty same count flag at with_outcome op none was_empty) =
      let is : completed_reply o.reply (Some a.empty_at) o.actor.due ≡ Some Empty = ap (λ r. completed_reply r (Some a.empty_at) o.actor.due) with_outcome in
      gains_no_entry (entered me a.op (Some a.empty_at) (Some Empty)) (entered_at w after me a o a.empty_at (Some Empty) b at none is) refl (gained_is a.empty_at (Some Empty) at is)
  after_gains queue' (pushed longer count unshut still at with_outcome value pushes none) =
      gains_its_entry (entered me a.op (Some (w.steps + 1)) (Some Done)) refl (entered_at w after me a o (w.steps + 1) (Some Done) b at none with_outcome)
      (gained_is (w.steps + 1) (Some Done) at with_outcome)
  after_gains queue' (popped first x ns before_is now_is count flag at with_outcome op none) =
      gains_its_entry (entered me a.op (Some (w.steps + 1)) (Some (Value (node_at w.shared x).value))) refl
      (entered_at w after me a o (w.steps + 1) (Some (Value (node_at w.shared x).value)) b at none with_outcome) (gained_is (w.steps + 1) _ at with_outcome)
  after_gains queue' (shut same count unshut now at with_outcome op none) =
      gains_its_entry (entered me a.op (Some (w.steps + 1)) (Some Done)) refl (entered_at w after me a o (w.steps + 1) (Some Done) b at none with_outcome)
      (gained_is (w.steps + 1) (Some Done) at with_outcome)

  -- which lead to the queue in the chain
  outcome_plays : (queue' : List ℕ) → LinearizationStep w.setup.bits (WasEmpty w) me (w.steps + 1) w.shared m' (h ∷ rest) queue' a o → Plays was (gained me a.op o) (queue_in w.setup.bits m' queue')
  outcome_plays queue' (stutters same count flag none keeps) = plays_nothing queue' (kept_queue queue' same flag) (ap (λ p. gained_at me a.op p o.reply o.actor.due) none)
  outcome_plays queue' (refused refusal same count flag at with_outcome ok none) =
      plays_nothing queue' (kept_queue queue' same flag) (gained_is (w.steps + 1) (Some (Refused refusal)) at (ap (λ r. completed_reply r (Some (w.steps + 1)) o.actor.due) with_outcome))
  outcome_plays queue' (closed same count flag at with_outcome is_shut no_values none) =
      plays_nothing queue' (kept_queue queue' same flag) (gained_is (w.steps + 1) (Some (Refused Closed)) at (ap (λ r. completed_reply r (Some (w.steps + 1)) o.actor.due) with_outcome))
  outcome_plays queue' (found_empty same count flag at with_outcome op none was_empty) =
      plays_nothing queue' (kept_queue queue' same flag) (gained_is a.empty_at (Some Empty) at (ap (λ r. completed_reply r (Some a.empty_at) o.actor.due) with_outcome))
  outcome_plays queue' (pushed longer count unshut still at with_outcome value pushes none) =
      let g : (Done ≡ (response me a.op was).reply) × ((response me a.op was).after ≡ queue_in w.setup.bits m' queue') = pushes_on queue' longer unshut still value pushes in
      subst (λ es. Plays was es (queue_in w.setup.bits m' queue')) (sym (gained_is (w.steps + 1) (Some Done) at with_outcome)) (push_plays me a.op a.val _ _ pushes g.0 g.1)
  outcome_plays queue' (popped first x ns before_is now_is count flag at with_outcome op none) =
      let g : (Value (node_at w.shared x).value ≡ (response me Deq was).reply) × ((response me Deq was).after ≡ queue_in w.setup.bits m' queue') =
      pops_on queue' Deq first x ns before_is now_is flag refl in
      subst (λ es. Plays was es (queue_in w.setup.bits m' queue')) (sym (gained_is (w.steps + 1) _ at with_outcome)) (sym g.0, g.1)
  outcome_plays queue' (shut same count unshut now at with_outcome op none) =
      let g : (Done ≡ (response me a.op was).reply) × ((response me a.op was).after ≡ queue_in w.setup.bits m' queue') = shuts_on queue' same unshut now op in
      subst (λ es. Plays was es (queue_in w.setup.bits m' queue')) (sym (gained_is (w.steps + 1) (Some Done) at with_outcome)) (shut_plays me a.op _ _ op g.0 g.1)

  pub after_plays : (queue' : List ℕ) → LinearizationStep w.setup.bits (WasEmpty w) me (w.steps + 1) w.shared m' (h ∷ rest) queue' a o
      → Plays empty (completion_entries after) (queue_in w.setup.bits m' queue')
  after_plays queue' account =
      subst (λ es. Plays empty es (queue_in w.setup.bits m' queue')) (sym (after_gains queue' account))
      (plays-append empty _ _ (completion_entries w) (gained me a.op o) ac.plays (outcome_plays queue' account))
