-- What Free counts: twice the nodes that were taken from the free list, and those that are in it. A step that takes one raises
-- the count by one and leaves one less in the list, one that gives one back raises it and leaves one more.
use Rattle.std.proofs.Common.{◌≡◌, ◌≢◌, ℕ, zero, suc, ◌+◌, ◌-◌, ◌*◌, ◌≤◌, ◌<◌, Bool, true, false, if◌then◌else◌, ◌⊎◌, inl, inr, List, [], ◌∷◌, ◌++◌}
use Rattle.std.proofs.Common.{length, Option, Some, None, IfSome, refl, sym, ap, subst, ◌∙◌, arith}
use Rattle.std.specs.List.{sum_by, range_with_len}
use Rattle.std.proofs.Math.ListN.{length-set}
use Rattle.std.proofs.lemmas.List.Sums.{sum_by-cons, sum_by_push}
use Rattle.std.proofs.lemmas.Option.{none-some, same_Some}
use Rattle.counted_ref.specs.Ref.{Ref, same_ref, reserved_node}
use Rattle.counted_ref.proofs.Words.{same_ref-true}
use Rattle.line_table.specs.declared.lines.Kind.{Kind}
use Rattle.line_table.specs.declared.lines.Kind.TheVariants.{NonBlocking, TwoLock}
use Rattle.line_table.specs.declared.lines.Line.{Line}
use Rattle.line_table.specs.declared.lines.Line.TheVariants.{N1, N4, F3}
use Rattle.line_steps.specs.Actors.{Actor, Node}
use Rattle.line_steps.specs.Outcomes.{Outcome}
use Rattle.line_steps.specs.Memory.{Shared, Free, Action, load, store, clear, exchange, content, put, same, performed, found}
use Rattle.line_steps.specs.Lines.{action, outcome, raised, goes, with_node, fills_hand}
use Rattle.step_machine.specs.Machine.{World, actor_of, AnyMove, next_any, IsReached}
use Rattle.step_machine.specs.Range.{WorldInRange}
use Rattle.step_machine.specs.Places.{IsNull, IsChain, times}
use Rattle.step_machine.proofs.AnyMoves.{after_move}
use Rattle.step_machine.proofs.Reached.{some_of, reached_in_range, few_nodes, actor_in_range, mover_in_range, below_closed}
use Rattle.step_machine.proofs.Chains.{next_in, chain_kept, free_goes_on}
use Rattle.step_machine.proofs.Counting.{elsewhere, elsewhere_one}
use Rattle.step_machine.proofs.Effects.{free_kept}
use Rattle.step_machine.proofs.Assertions.{Knows, next_of}
use Rattle.step_machine.proofs.LinearizationSteps.{raised_node, raised_count}
use Rattle.step_machine.proofs.StampsLists.{same_or_not}
use Rattle.step_machine.proofs.Carrying.{Moving, nothing}
use Rattle.step_machine.proofs.Invariant.{step_moving}
use Rattle.step_machine.proofs.EitherQueue.{HasChains, reached_chains, queue_of_kind, steps_of_kind, is_of_kind, same_free, stands_at, fixed_at}
use Rattle.step_machine.specs.Chains.{last_node}
use Rattle.node_arena.specs.Traces.{Event, Traced, changed, event_at, step_at, traced_move, traced_next, traced_on, trace, first_trace, IsTraced}
use Rattle.node_arena.specs.Turns.{at_n1}
use Rattle.node_arena.proofs.Tracing.{traced_reached, traced_moves, traced_step_is, step_traced, changed_here, changed_else, step_count}
use Rattle.arena_queue.specs.Counts.{takes_at, takes_on, nodes_taken, FreeCountsNodes}

-- a sum over numbers in a row, one of which counts more than before
module _ (f g : ℕ → ℕ) (you more : ℕ) (others : (n : ℕ) → n ≢ you → g n ≡ f n) (here : g you ≡ f you + more) where
  sum_above : (a k : ℕ) → you < a → sum_by g (range_with_len a k) ≡ sum_by f (range_with_len a k)
  sum_above a zero h = omega arith
  sum_above a (suc k) h = omega (arith, sum_by-cons g a (range_with_len (a + 1) k), sum_by-cons f a (range_with_len (a + 1) k), others a (λ e. omega arith), sum_above (a + 1) k (omega arith))

  sum_more : (a k : ℕ) → a ≤ you → you < a + k → sum_by g (range_with_len a k) ≡ sum_by f (range_with_len a k) + more
  sum_more a zero low high = absurd (omega arith)
  sum_more a (suc k) low high = go (same_or_not a you) (sum_more (a + 1) k)
    where
      go : (a ≡ you) ⊎ (a ≢ you) → (a + 1 ≤ you → you < a + 1 + k → sum_by g (range_with_len (a + 1) k) ≡ sum_by f (range_with_len (a + 1) k) + more)
          → sum_by g (range_with_len a (suc k)) ≡ sum_by f (range_with_len a (suc k)) + more
      go (inl e) rest = omega (arith, sum_by-cons g a (range_with_len (a + 1) k), sum_by-cons f a (range_with_len (a + 1) k), ap g e, ap f e, here, sum_above (a + 1) k (omega arith))
      go (inr d) rest = omega (arith, sum_by-cons g a (range_with_len (a + 1) k), sum_by-cons f a (range_with_len (a + 1) k), others a d, rest (omega arith) (omega arith))

sum_none : (f : ℕ → ℕ) (a k : ℕ) → ((n : ℕ) → f n ≡ 0) → sum_by f (range_with_len a k) ≡ 0
sum_none f a zero none = refl
sum_none f a (suc k) none = omega (arith, sum_by-cons f a (range_with_len (a + 1) k), none a, sum_none f (a + 1) k none)

-- an actor goes on with its node at no line at which a take begins
took_on : (kind : Kind) → at_n1 (Some (with_node kind)) ≡ 0
took_on TwoLock = refl
took_on NonBlocking = refl

-- an access that writes no Free
abbrev LeavesFree : Action → Type 0
LeavesFree (store Free c) = ⊥
LeavesFree (exchange Free old new) = ⊥
LeavesFree x = Unit {0}

free_if : (b : Bool) (x y : Shared) → x.free ≡ y.free → (if b then x else y).free ≡ y.free
free_if true x y e = e
free_if false x y e = refl

word_kept : (x : Action) (m : Shared) → LeavesFree x → (performed x m).free ≡ m.free
word_kept (load x) m h = refl
word_kept (clear n) m h = refl
word_kept (store Free c) m h = absurd h
word_kept (store x c) m h = refl
word_kept (exchange Free old new) m h = absurd h
word_kept (exchange x old new) m h = free_if (same x (content x m) old) (put x new m) m refl

-- the free list, and what Free counts by it
record Counts (t : Traced) : Type 0 where
  free : List ℕ
  chain : IsChain t.world.shared.nodes t.world.shared.free.node free
  counts : t.world.shared.free.count ≡ 2 * nodes_taken t + length free

-- the world alone goes on, with the same words and as many actors
goes_on : (t : Traced) (v : World) → v.shared ≡ t.world.shared → length v.actors ≡ length t.world.actors → Counts t → Counts (record t { world = v })
goes_on t v words long h =
    record {
      free = h.free;
      chain = subst (λ (m : Shared). IsChain m.nodes m.free.node h.free) (sym words) h.chain;
      counts = omega (arith, h.counts, ap (λ (m : Shared). m.free.count) words, ap (λ k. sum_by (λ n. takes_on (t.paths n)) (range_with_len 1 k)) long);
    }

module _ (t : Traced) (r : IsTraced t) (you : ℕ) (a : Actor) (is : actor_of t.world you ≡ Some a) where
  abbrev w : World
  w = t.world

  abbrev m : Shared
  m = t.world.shared

  reached : IsReached w
  reached = traced_reached t r

  p : HasChains w
  p = reached_chains w reached

  range : WorldInRange w
  range = reached_in_range w reached

  abbrev after : Line → Shared
  after l = performed (action w.setup you a l) m

  abbrev told : Line → Outcome
  told l = outcome w.setup (w.steps + 1) you a l (found (action w.setup you a l) m)

  -- the step adds what it takes
  taken : (l : Line) → a.line ≡ Some l → nodes_taken (step_at t you a l) ≡ nodes_taken t + takes_at l (told l).actor.line
  taken l at =
      let event : Event = event_at w.setup t you a l in
      let there : (1 ≤ you) × (you ≤ length w.actors) = mover_in_range w you a is in
      let own : takes_on (changed t.paths you (t.paths you ++ event ∷ []) you) ≡ takes_on (t.paths you) + takes_at l (told l).actor.line =
      ap takes_on (changed_here t.paths you (t.paths you ++ event ∷ [])) ∙ sum_by_push (λ (e : Event). takes_at e.line e.to) (t.paths you) event in
      ap (λ k. sum_by (λ n. takes_on (changed t.paths you (t.paths you ++ event ∷ []) n)) (range_with_len 1 k)) (step_count t you a l)
      ∙ sum_more (λ n. takes_on (t.paths n)) (λ n. takes_on (changed t.paths you (t.paths you ++ event ∷ []) n)) you (takes_at l (told l).actor.line)
      (λ n other. ap takes_on (changed_else t.paths you (t.paths you ++ event ∷ []) n other)) own 1 (length w.actors) there.0 (omega (arith, there.1))

  -- it writes no node of the free list
  chain_stays : (l : Line) → a.line ≡ Some l → (free : List ℕ) → IsChain m.nodes m.free.node free → IsChain (after l).nodes m.free.node free
  chain_stays l at free chain =
      let mv : Moving (λ w q. Unit {0}) (λ w k. Unit {0}) w you a (after l) (told l) = step_moving (queue_of_kind w.setup.kind)
      (steps_of_kind w.setup.kind) (λ w q. Unit {0}) (λ w k. Unit {0}) nothing w you a l reached (is_of_kind w.setup.kind) is at p in
      let here : free ≡ mv.move.free = same_free w free mv.move.free chain mv.move.shape.free_chain in
      let long : length (after l).nodes ≡ length m.nodes = (reached_in_range (step_at t you a l).world
      (traced_reached (step_at t you a l) (step_traced t you a l r is at))).shared.all_nodes ∙ sym range.shared.all_nodes in
      chain_kept IsNull m.nodes (after l).nodes free m.free.node long
      (λ k one stands. ap (λ (x : Node). x.next.node) (free_kept w.setup.bits m (after l) (elsewhere w) mv.front mv.rest mv.move.free a mv.move.shape
      mv.move.writes (λ n. elsewhere_one w you a n is) k one (subst (λ ns. 1 ≤ times k ns) here stands)))
      chain

  -- a step that leaves Free, and takes nothing
  leaves : (l : Line) → a.line ≡ Some l → LeavesFree (action w.setup you a l) → takes_at l (told l).actor.line ≡ 0 → Counts t → Counts (step_at t you a l)
  leaves l at none takes h =
      let word : (after l).free ≡ m.free = word_kept (action w.setup you a l) m none in
      record {
        free = h.free;
        chain = subst (λ n. IsChain (after l).nodes n h.free) (ap (λ (x : Ref). x.node) (sym word)) (chain_stays l at h.free h.chain);
        counts = omega (arith, h.counts, ap (λ (x : Ref). x.count) word, taken l at, takes);
      }

  -- a lost exchange changes no word
  lost : (l : Line) → a.line ≡ Some l → after l ≡ m → takes_at l (told l).actor.line ≡ 0 → Counts t → Counts (step_at t you a l)
  lost l at same_words takes h =
      record {
        free = h.free;
        chain = subst (λ (x : Shared). IsChain x.nodes x.free.node h.free) (sym same_words) h.chain;
        counts = omega (arith, h.counts, ap (λ (x : Shared). x.free.count) same_words, taken l at, takes);
      }

  -- a won one writes this Free, and the list is this one
  won : (l : Line) → a.line ≡ Some l → (top : Ref) → after l ≡ put Free top m → (free : List ℕ) → IsChain m.nodes top.node free
      → top.count ≡ 2 * (nodes_taken t + takes_at l (told l).actor.line) + length free → Counts (step_at t you a l)
  won l at top words free chain counts =
      record {
        free = free;
        chain = subst (λ (x : Shared). IsChain x.nodes x.free.node free) (sym words) chain;
        counts = omega (arith, counts, ap (λ (x : Shared). x.free.count) words, taken l at);
      }

  -- a take of the first free node
  takes_one : a.line ≡ Some N4 → (free : List ℕ) → IsChain m.nodes m.free.node free → m.free.count ≡ 2 * nodes_taken t + length free → m.free ≡ a.top
      → after N4 ≡ put Free (raised w.setup a.top a.next.node) m → takes_at N4 (told N4).actor.line ≡ 1 → Counts (step_at t you a N4)
  takes_one at [] chain counts was words takes = absurd (let some : 1 ≤ a.top.node =
      (stands_at w reached you a N4 is at).1 in let none : m.free.node ≡ 0 = chain in let top : m.free.node ≡ a.top.node =
      ap (λ (x : Ref). x.node) was in omega arith)
  takes_one at (x ∷ xs) chain counts was words takes =
      let some : 1 ≤ a.top.node = (stands_at w reached you a N4 is at).1 in
      let top : m.free.node ≡ a.top.node = ap (λ (y : Ref). y.node) was in
      let next : next_of m a.top.node ≡ a.next = (subst (λ l. Knows (queue_of_kind w.setup.kind) (λ k. Unit {0}) w.setup m
      (last_node (p.front ∷ p.rest)) a l) at (p.sound.actors you a is).knows).1 was in
      let after_it : a.next.node ≡ next_in m.nodes m.free.node = sym (ap (λ (y : Ref). y.node) next) ∙ ap (next_in m.nodes) (sym top) in
      let no_end : a.next.node ≢ reserved_node w.setup.bits = λ e. free_goes_on w.setup.bits m.nodes m.free.node (x ∷ xs) (few_nodes w reached) (omega (arith, some, top)) chain (sym after_it ∙ e) in
      let room : a.top.count ≢ w.setup.limit = (fixed_at w reached you a N4 is at).room in
      won N4 at (raised w.setup a.top a.next.node) words xs
      (subst (λ n. IsChain m.nodes n xs) (sym (raised_node w.setup a.top a.next.node no_end room ∙ after_it ∙ ap (next_in m.nodes) chain.0)) chain.3)
      (omega (arith, raised_count w.setup a.top a.next.node no_end room, ap (λ (y : Ref). y.count) was, counts, takes))

  -- a give back before the first free node
  gives_one : a.line ≡ Some F3 → (h : Counts t) → m.free ≡ a.top → after F3 ≡ put Free (raised w.setup a.top a.node) m → Counts (step_at t you a F3)
  gives_one at h was words =
      let some : 1 ≤ a.node = (stands_at w reached you a F3 is at).1 in
      let used : a.node ≤ m.fresh = (actor_in_range w you a range is).registers.node in
      let low : a.node ≤ length m.nodes = omega (arith, used, range.shared.fresh, range.shared.all_nodes) in
      let no_end : a.node ≢ reserved_node w.setup.bits = below_closed w a.node range used in
      let next : next_in m.nodes a.node ≡ a.top.node = ap (λ (y : Ref). y.node)
      (subst (λ l. Knows (queue_of_kind w.setup.kind) (λ k. Unit {0}) w.setup m (last_node (p.front ∷ p.rest)) a l) at
      (p.sound.actors you a is).knows) in
      let room : a.top.count ≢ w.setup.limit = (fixed_at w reached you a F3 is at).room in
      won F3 at (raised w.setup a.top a.node) words (a.node ∷ h.free)
      (raised_node w.setup a.top a.node no_end room, some, low, subst (λ n. IsChain m.nodes n h.free) (ap (λ (y : Ref). y.node) was ∙ sym next) h.chain)
      (omega (arith, raised_count w.setup a.top a.node no_end room, ap (λ (y : Ref). y.count) was, h.counts))

  step_counts : (l : Line) → a.line ≡ Some l → Counts t → Counts (step_at t you a l)
  step_counts N4 at h = go (same_ref m.free a.top) refl
    where
      go : (b : Bool) → same_ref m.free a.top ≡ b → Counts (step_at t you a N4)
      go true e =
          takes_one at h.free h.chain h.counts (same_ref-true m.free a.top e) (ap (λ b. if b then put Free (raised w.setup a.top a.next.node) m else m) e)
          (ap (λ b. 1 - at_n1 (if b then goes (with_node w.setup.kind) (fills_hand a.top.node a.next.count a) else goes N1 a).actor.line) e ∙ ap (λ n. 1 - n) (took_on w.setup.kind))
      go false e =
          lost N4 at (ap (λ b. if b then put Free (raised w.setup a.top a.next.node) m else m) e)
          (ap (λ b. 1 - at_n1 (if b then goes (with_node w.setup.kind) (fills_hand a.top.node a.next.count a) else goes N1 a).actor.line) e) h
  step_counts F3 at h = go (same_ref m.free a.top) refl
    where
      go : (b : Bool) → same_ref m.free a.top ≡ b → Counts (step_at t you a F3)
      go true e = gives_one at h (same_ref-true m.free a.top e) (ap (λ b. if b then put Free (raised w.setup a.top a.node) m else m) e)
      go false e = lost F3 at (ap (λ b. if b then put Free (raised w.setup a.top a.node) m else m) e) refl h
  step_counts l at h = leaves l at tt refl h

-- each move goes on
move_counts : (t : Traced) → IsTraced t → Counts t → (m : AnyMove) → IfSome (next_any t.world m) (λ v. Counts (traced_move t m v))
move_counts t r h =
    after_move t.world (λ m v. Counts (traced_move t m v))
    (record {
      began = λ you op a is free call. goes_on t _ refl (length-set t.world.actors (you - 1) _) h;
      step = λ you a l is at. subst Counts (sym (traced_step_is t you a l is at)) (step_counts t r you a is l at h);
      gave_up = λ you a l o is at given. goes_on t _ refl (length-set t.world.actors (you - 1) _) h;
      at_rest = λ you a l is at may. goes_on t _ refl (length-set t.world.actors (you - 1) _) h;
    })

run_counts : (ms : List AnyMove) (t u : Traced) → IsTraced t → Counts t → trace ms t ≡ Some u → Counts u
run_counts [] t u r h led = subst Counts (same_Some t u led) h
run_counts (m ∷ ms) t u r h led = go (next_any t.world m) refl led (λ v. run_counts ms v u)
  where
    go : (o : Option World) → next_any t.world m ≡ o → traced_on (trace ms) (traced_next t m o) ≡ Some u → ((v : Traced) → IsTraced v → Counts v → trace ms v ≡ Some u → Counts u) → Counts u
    go None f g each = absurd (none-some u g)
    go (Some w) f g each =
        each (traced_move t m w) (traced_moves t m w r f) (some_of (λ v. Counts (traced_move t m v)) (next_any t.world m) w f (move_counts t r h m)) g

trace_counts : (t : Traced) → IsTraced t → Counts t
trace_counts t r =
    run_counts r.moves start t (record { actors = r.actors; moves = []; sized = r.sized; led = refl })
    (record { free = []; chain = refl; counts = omega (arith, sum_none (λ n. takes_on (start.paths n)) 1 (length start.world.actors) (λ n. refl)) }) r.led
  where
    start : Traced
    start = first_trace t.world.setup r.actors

pub free_counts : (t : Traced) → IsTraced t → FreeCountsNodes 2 t
free_counts t r free chain =
    let h : Counts t = trace_counts t r in
    let e : h.free ≡ free = same_free t.world h.free free h.chain chain in
    omega (arith, h.counts, ap length e)
