-- What one seat takes: a node at most for each push that it begins, whatever the others do.
use Rattle.std.proofs.Common.{◌≡◌, ◌≢◌, ℕ, ◌+◌, ◌-◌, ◌≤◌, if◌then◌else◌, nat_eq, ◌⊎◌, inl, inr, List, [], ◌∷◌, ◌++◌, length, Option, Some, None, IfSome, slice_get, refl, sym, ap, subst, arith, eq-eqb}
use Rattle.std.specs.List.{count_by}
use Rattle.std.proofs.lemmas.List.Sums.{sum_by-cons, sum_by_push}
use Rattle.std.proofs.lemmas.Option.{none-some, same_Some}
use Rattle.step_machine.specs.Below.{Kind, Line, Op, Enq, Deq, Shut, Actor, Outcome, found, action, outcome, gives_up, begun}
use Rattle.step_machine.specs.declared.actors.Move.TheVariants.{Begin}
use Rattle.step_machine.specs.Machine.{World, actor_of, rested, with_actor, entry_or, after_outcome, AnyMove, made, next_any}
use Rattle.step_machine.proofs.AnyMoves.{after_move}
use Rattle.step_machine.proofs.Reached.{some_of, actor_stands}
use Rattle.step_machine.proofs.StampsLists.{same_or_not}
use Rattle.step_machine.proofs.CompletionSteps.{actor_same, actor_other}
use Rattle.node_arena.specs.Traces.{Event, Traced, event_at, step_at, traced_move, traced_next, traced_on, trace}
use Rattle.node_arena.proofs.Tracing.{traced_step_is, changed_here, changed_else, step_here, step_else}
use Rattle.arena_queue.specs.Counts.{takes_at, takes_on}
use Rattle.run_laws.specs.Begun.{begins_push_of, has_no_node, of_line, OfRuns, EachTakesNodes}
use Rattle.run_laws.proofs.Lines.{step_falls, begun_counts, given_none}

-- whether a seat's actor is in a push that has no node yet, as a number
abbrev lacks : World → ℕ → ℕ
lacks w n = of_line has_no_node (actor_of w n)

-- what a seat takes is paid by so many pushes
abbrev Pays : (n : ℕ) (t u : Traced) (begun : ℕ) → Type 0
Pays n t u begun = takes_on (u.paths n) + lacks u.world n ≤ takes_on (t.paths n) + lacks t.world n + begun

-- whether a move begins a push of a seat, as a number
abbrev one : (n : ℕ) → AnyMove → ℕ
one n m = if begins_push_of n m then 1 else 0

begun_own : (kind : Kind) (you : ℕ) (op : Op) (a : Actor) → has_no_node (begun kind you op a).line ≤ one you (made (Begin you op))
begun_own kind you (Enq body) a = omega (arith, (begun_counts kind you (Enq body) a).0, ap {B = ℕ} (λ b. if b then 1 else 0) (eq-eqb you you refl))
begun_own kind you Deq a = omega (arith, (begun_counts kind you Deq a).0)
begun_own kind you Shut a = omega (arith, (begun_counts kind you Shut a).0)

module _ (t : Traced) (you : ℕ) (a : Actor) (is : actor_of t.world you ≡ Some a) where
  mine : lacks t.world you ≡ has_no_node a.line
  mine = ap (of_line has_no_node) is

  -- what holds of the seat that moves, and of each other one
  by_seat : (P : ℕ → Type 0) → P you → ((n : ℕ) → n ≢ you → P n) → (n : ℕ) → P n
  by_seat P own others n = go (same_or_not n you)
    where
      go : (n ≡ you) ⊎ (n ≢ you) → P n
      go (inl e) = subst P (sym e) own
      go (inr d) = others n d

  -- only the world goes on
  stays : (v : World) (b : Actor) (begun : ℕ → ℕ) → v.actors ≡ (with_actor t.world you b).actors → has_no_node b.line ≤ has_no_node a.line + begun you
      → (n : ℕ) → Pays n t (record t { world = v }) (begun n)
  stays v b begun moved node =
      by_seat (λ n. Pays n t (record t { world = v }) (begun n))
      (omega (arith, node, mine, same you, ap (of_line has_no_node) (actor_same t.world you a b is)))
      (λ n d. omega (arith, same n, ap (of_line has_no_node) (actor_other t.world you n b (actor_stands t.world you a is).0 d)))
    where
      same : (n : ℕ) → lacks v n ≡ lacks (with_actor t.world you b) n
      same n = ap (λ (actors : List Actor). of_line has_no_node (if nat_eq n 0 then None else slice_get actors (n - 1))) moved

  module _ (l : Line) (at : a.line ≡ Some l) where
    abbrev told : Outcome
    told = outcome t.world.setup (t.world.steps + 1) you a l (found (action t.world.setup you a l) t.world.shared)

    abbrev event : Event
    event = event_at t.world.setup t you a l

    steps : (n : ℕ) → Pays n t (step_at t you a l) 0
    steps =
        by_seat (λ n. Pays n t (step_at t you a l) 0)
        (omega (
          arith,
          mine,
          ap has_no_node at,
          ap (of_line has_no_node) (step_here t you a l is),
          ap takes_on (changed_here t.paths you (t.paths you ++ event ∷ [])),
          sum_by_push (λ (e : Event). takes_at e.line e.to) (t.paths you) event,
          (step_falls t.world.setup (t.world.steps + 1) you a l (found (action t.world.setup you a l) t.world.shared)).0,
        ))
        (λ n d. omega (arith, ap (of_line has_no_node) (step_else t you a l n is d), ap takes_on (changed_else t.paths you (t.paths you ++ event ∷ []) n d)))

-- each move is paid
move_pays : (n : ℕ) (t : Traced) (m : AnyMove) → IfSome (next_any t.world m) (λ v. Pays n t (traced_move t m v) (one n m))
move_pays n t =
    after_move t.world (λ m v. Pays n t (traced_move t m v) (one n m))
    (record {
      began = λ you op a is free call. stays t you a is (with_actor t.world you (begun t.world.setup.kind you op a))
          (begun t.world.setup.kind you op a) (λ k. one k (made (Begin you op))) refl (omega (arith, begun_own t.world.setup.kind you op a)) n;
      step = λ you a l is at. subst (λ u. Pays n t u 0) (sym (traced_step_is t you a l is at)) (steps t you a is l at n);
      gave_up = λ you a l o is at given. gave_up you a l o is given;
      at_rest = λ you a l is at may. stays t you a is (with_actor t.world you (rested a)) (rested a) (λ k. 0) refl (omega arith) n;
    })
  where
    gave_up : (you : ℕ) (a : Actor) (l : Line) (o : Outcome) → actor_of t.world you ≡ Some a → gives_up (t.world.steps + 1) a l ≡ Some o
        → Pays n t (record t { world = after_outcome t.world you a t.world.shared o }) 0
    gave_up you a l o is given =
        let b : Actor = record o.actor { entry = Some (entry_or a.entry (length t.world.operations)) } in
        let none : o.actor.line ≡ None = some_of (λ o. o.actor.line ≡ None) (gives_up (t.world.steps + 1) a l) o given (given_none (t.world.steps + 1) a l) in
        stays t you a is (after_outcome t.world you a t.world.shared o) b (λ k. 0) refl (omega (arith, ap has_no_node none)) n

run_pays : (n : ℕ) (ms : List AnyMove) (t u : Traced) → trace ms t ≡ Some u → Pays n t u (count_by (begins_push_of n) ms)
run_pays n [] t u led = omega (arith, ap (λ (v : Traced). takes_on (v.paths n)) (same_Some t u led), ap (λ (v : Traced). lacks v.world n) (same_Some t u led))
run_pays n (m ∷ ms) t u led = go (next_any t.world m) refl led (λ v. run_pays n ms v u)
  where
    go : (o : Option World) → next_any t.world m ≡ o → traced_on (trace ms) (traced_next t m o) ≡ Some u
        → ((v : Traced) → trace ms v ≡ Some u → Pays n v u (count_by (begins_push_of n) ms)) → Pays n t u (count_by (begins_push_of n) (m ∷ ms))
    go None f g each = absurd (none-some u g)
    go (Some w) f g each =
        omega (
          arith,
          each (traced_move t m w) g,
          some_of (λ v. Pays n t (traced_move t m v) (one n m)) (next_any t.world m) w f (move_pays n t m),
          sum_by-cons (λ x. if begins_push_of n x then 1 else 0) m ms,
        )

pub each_takes_nodes : OfRuns (EachTakesNodes 1 1)
each_takes_nodes was t moves r led n = omega (arith, run_pays n moves was t led)
