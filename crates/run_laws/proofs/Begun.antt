-- What moves add one after another: the nodes that pushes take, and the pushes that take effect, are paid by those that begin.
use Rattle.std.proofs.Common.{◌≡◌, ℕ, ◌+◌, ◌-◌, ◌≤◌, if◌then◌else◌, List, [], ◌∷◌, ◌++◌, append-nil, length, Option, Some, None, IfSome, refl, sym, ap, ◌∙◌, subst, arith}
use Rattle.std.specs.List.{sum_by, count_by, range_with_len}
use Rattle.std.proofs.Math.ListN.{length-set}
use Rattle.std.proofs.lemmas.List.{append_assoc}
use Rattle.std.proofs.lemmas.List.Sums.{sum_by-append, sum_by-cons, sum_by_push}
use Rattle.std.proofs.lemmas.Option.{none-some, same_Some}
use Rattle.history.specs.declared.operations.Entry.{Entry}
use Rattle.step_machine.specs.Below.{Line, Op, Actor, Outcome, found, action, outcome, gives_up, begun, is_push}
use Rattle.step_machine.specs.declared.actors.Move.TheVariants.{Begin}
use Rattle.step_machine.specs.Machine.{World, actor_of, rested, with_actor, entry_or, after_outcome, AnyMove, made, next_any}
use Rattle.step_machine.proofs.AnyMoves.{after_move}
use Rattle.step_machine.proofs.Reached.{some_of, actor_stands, mover_in_range}
use Rattle.progress.proofs.Sums.{sum_set}
use Rattle.node_arena.specs.Traces.{Event, Traced, changed, entries_at, event_at, step_at, traced_move, traced_next, traced_on, trace, IsTraced}
use Rattle.node_arena.proofs.Tracing.{traced_moves, traced_step_is, changed_here, changed_else, step_count}
use Rattle.run_laws.proofs.Sums.{sum_more}
use Rattle.arena_queue.specs.Counts.{takes_at, takes_on, nodes_taken}
use Rattle.run_laws.specs.Begun.{begins_push, pushes_begun, has_no_node, has_no_effect, sum_of_lines, without_node, under_way, OfRuns, TakeNodes, TakeEffect}
use Rattle.run_laws.proofs.Lines.{step_falls, effect_falls, begun_counts, given_none}

-- moves among which so many pushes begin lead on: what they take is paid by these, and by those under way
pub record Goes (t u : Traced) (begun : ℕ) : Type 0 where
  pub reached : IsTraced u
  pub setup : u.world.setup ≡ t.world.setup
  pub entries : List Entry
  pub history : u.history ≡ t.history ++ entries
  pub nodes : ℕ
  pub taken : nodes_taken u ≡ nodes_taken t + nodes
  pub by_node : nodes + without_node u.world ≤ without_node t.world + begun
  pub by_effect : count_by is_push entries + under_way u.world ≤ under_way t.world + begun

-- whether a move begins a push, as a number
abbrev one : AnyMove → ℕ
one m = if begins_push m then 1 else 0

module _ (t : Traced) (you : ℕ) (a : Actor) (is : actor_of t.world you ≡ Some a) where
  -- what all actors count where this one is another one
  counts : (f : Option Line → ℕ) (b : Actor) → sum_of_lines f (with_actor t.world you b) + f a.line ≡ sum_of_lines f t.world + f b.line
  counts f b = sum_set (λ (c : Actor). f c.line) t.world.actors (you - 1) a b (actor_stands t.world you a is).1

  -- only the world goes on
  stays : (v : World) (b : Actor) (begun : ℕ) → IsTraced (record t { world = v }) → v.setup ≡ t.world.setup
      → v.actors ≡ (with_actor t.world you b).actors → has_no_node b.line ≤ has_no_node a.line + begun
      → has_no_effect b.line ≤ has_no_effect a.line + begun → Goes t (record t { world = v }) begun
  stays v b begun r same moved node effect =
      record {
        reached = r;
        setup = same;
        entries = [];
        history = sym (append-nil t.history);
        nodes = 0;
        taken = omega (
          arith,
          ap (λ (actors : List Actor). sum_by (λ n. takes_on (t.paths n)) (range_with_len 1 (length actors))) moved,
          ap (λ k. sum_by (λ n. takes_on (t.paths n)) (range_with_len 1 k)) (length-set t.world.actors (you - 1) b),
        );
        by_node = omega (arith, node, counts has_no_node b, ap (λ (actors : List Actor). sum_by (λ (c : Actor). has_no_node c.line) actors) moved);
        by_effect = omega (arith, effect, counts has_no_effect b, ap (λ (actors : List Actor). sum_by (λ (c : Actor). has_no_effect c.line) actors) moved);
      }

  module _ (l : Line) (at : a.line ≡ Some l) where
    abbrev told : Outcome
    told = outcome t.world.setup (t.world.steps + 1) you a l (found (action t.world.setup you a l) t.world.shared)

    abbrev after : Actor
    after = record told.actor { entry = Some (entry_or a.entry (length t.world.operations)) }

    abbrev event : Event
    event = event_at t.world.setup t you a l

    -- the step adds what it takes
    taken_here : nodes_taken (step_at t you a l) ≡ nodes_taken t + takes_at l told.actor.line
    taken_here =
        let there : (1 ≤ you) × (you ≤ length t.world.actors) = mover_in_range t.world you a is in
        ap (λ k. sum_by (λ n. takes_on (changed t.paths you (t.paths you ++ event ∷ []) n)) (range_with_len 1 k)) (step_count t you a l)
        ∙ sum_more (λ n. takes_on (t.paths n)) (λ n. takes_on (changed t.paths you (t.paths you ++ event ∷ []) n)) you (takes_at l told.actor.line)
        (λ n other. ap takes_on (changed_else t.paths you (t.paths you ++ event ∷ []) n other))
        (ap takes_on (changed_here t.paths you (t.paths you ++ event ∷ [])) ∙ sum_by_push (λ (e : Event). takes_at e.line e.to) (t.paths you) event)
        1 (length t.world.actors) there.0 (omega (arith, there.1))

    steps : IsTraced (step_at t you a l) → Goes t (step_at t you a l) 0
    steps r =
        let falls = step_falls t.world.setup (t.world.steps + 1) you a l (found (action t.world.setup you a l) t.world.shared) in
        record {
          reached = r;
          setup = refl;
          entries = entries_at t.world.setup t you a l;
          history = refl;
          nodes = takes_at l told.actor.line;
          taken = taken_here;
          by_node = omega (arith, falls.0, counts has_no_node after, ap has_no_node at);
          by_effect = omega (arith, effect_falls t.world.setup (t.world.steps + 1) you a l (found (action t.world.setup you a l) t.world.shared), counts has_no_effect after, ap has_no_effect at);
        }

-- each move goes on
move_goes : (t : Traced) (m : AnyMove) → IfSome (next_any t.world m) (λ v. IsTraced (traced_move t m v) → Goes t (traced_move t m v) (one m))
move_goes t =
    after_move t.world (λ m v. IsTraced (traced_move t m v) → Goes t (traced_move t m v) (one m))
    (record {
      began = λ you op a is free call r. began you op a is free r;
      step = λ you a l is at. subst (λ u. IsTraced u → Goes t u 0) (sym (traced_step_is t you a l is at)) (steps t you a is l at);
      gave_up = λ you a l o is at given r. gave_up you a l o is given r;
      at_rest = λ you a l is at may r. stays t you a is (with_actor t.world you (rested a)) (rested a) 0 r refl refl (omega arith) (omega arith);
    })
  where
    began : (you : ℕ) (op : Op) (a : Actor) → actor_of t.world you ≡ Some a → a.line ≡ None
        → IsTraced (record t { world = with_actor t.world you (begun t.world.setup.kind you op a) })
        → Goes t (record t { world = with_actor t.world you (begun t.world.setup.kind you op a) }) (one (made (Begin you op)))
    began you op a is free r =
        let counted = begun_counts t.world.setup.kind you op a in
        stays t you a is (with_actor t.world you (begun t.world.setup.kind you op a)) (begun t.world.setup.kind you op a) (one (made (Begin you op)))
        r refl refl (omega (arith, counted.0)) (omega (arith, counted.1))

    gave_up : (you : ℕ) (a : Actor) (l : Line) (o : Outcome) → actor_of t.world you ≡ Some a → gives_up (t.world.steps + 1) a l ≡ Some o
        → IsTraced (record t { world = after_outcome t.world you a t.world.shared o })
        → Goes t (record t { world = after_outcome t.world you a t.world.shared o }) 0
    gave_up you a l o is given r =
        let b : Actor = record o.actor { entry = Some (entry_or a.entry (length t.world.operations)) } in
        let none : o.actor.line ≡ None = some_of (λ o. o.actor.line ≡ None) (gives_up (t.world.steps + 1) a l) o given (given_none (t.world.steps + 1) a l) in
        stays t you a is (after_outcome t.world you a t.world.shared o) b 0 r refl refl (omega (arith, ap has_no_node none)) (omega (arith, ap has_no_effect none))

-- moves that lead on, one list after another
goes_on : (t u v : Traced) (n k : ℕ) → Goes t u n → Goes u v k → Goes t v (n + k)
goes_on t u v n k f g =
    record {
      reached = g.reached;
      setup = g.setup ∙ f.setup;
      entries = f.entries ++ g.entries;
      history = g.history ∙ ap (λ es. es ++ g.entries) f.history ∙ append_assoc t.history f.entries g.entries;
      nodes = f.nodes + g.nodes;
      taken = omega (arith, f.taken, g.taken);
      by_node = omega (arith, f.by_node, g.by_node);
      by_effect = omega (arith, f.by_effect, g.by_effect, sum_by-append (λ e. if is_push e then 1 else 0) f.entries g.entries);
    }

nowhere : (t : Traced) → IsTraced t → Goes t t 0
nowhere t r = record { reached = r; setup = refl; entries = []; history = sym (append-nil t.history); nodes = 0; taken = omega arith; by_node = omega arith; by_effect = omega arith }

pub run_goes : (ms : List AnyMove) (t u : Traced) → IsTraced t → trace ms t ≡ Some u → Goes t u (pushes_begun ms)
run_goes [] t u r led = subst (λ v. Goes t v 0) (same_Some t u led) (nowhere t r)
run_goes (m ∷ ms) t u r led = go (next_any t.world m) refl led (λ v. run_goes ms v u)
  where
    go : (o : Option World) → next_any t.world m ≡ o → traced_on (trace ms) (traced_next t m o) ≡ Some u
        → ((v : Traced) → IsTraced v → trace ms v ≡ Some u → Goes v u (pushes_begun ms)) → Goes t u (pushes_begun (m ∷ ms))
    go None f g each = absurd (none-some u g)
    go (Some w) f g each =
        let r' : IsTraced (traced_move t m w) = traced_moves t m w r f in
        subst (Goes t u) (sym (sum_by-cons (λ x. if begins_push x then 1 else 0) m ms))
        (goes_on t (traced_move t m w) u (one m) (pushes_begun ms) (some_of (λ v. IsTraced (traced_move t m v) → Goes t (traced_move t m v) (one m))
        (next_any t.world m) w f (move_goes t m) r') (each (traced_move t m w) r' g))

pub take_nodes : OfRuns (TakeNodes 1 1)
take_nodes was t moves r led = let g : Goes was t (pushes_begun moves) = run_goes moves was t r led in omega (arith, g.taken, g.by_node)

pub take_effect : OfRuns (TakeEffect 1 1)
take_effect was t moves r led =
    let g : Goes was t (pushes_begun moves) = run_goes moves was t r led in
    omega (arith, ap (count_by is_push) g.history, sum_by-append (λ e. if is_push e then 1 else 0) was.history g.entries, g.by_effect)
