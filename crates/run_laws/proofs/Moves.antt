-- What a move of a traced world adds to the path of a seat, to the history, and to the nodes of the others; and that the turn
-- that fails there is paid.
use Rattle.std.proofs.Common.{◌≡◌, ◌≢◌, ℕ, ◌+◌, ◌-◌, ◌≤◌, Bool, true, false, nat_eq, if◌then◌else◌, ◌⊎◌, inl, inr, List, [], ◌∷◌, ◌++◌, append-nil}
use Rattle.std.proofs.Common.{length, Option, Some, None, IfSome, refl, sym, ap, ◌∙◌, subst, arith}
use Rattle.std.specs.List.{sum_by, range_with_len}
use Rattle.std.proofs.Math.ListN.{length-set}
use Rattle.std.proofs.lemmas.Bool.{ne_eqb}
use Rattle.std.proofs.lemmas.List.Sums.{sum_by_push}
use Rattle.history.specs.declared.operations.Entry.{Entry}
use Rattle.step_machine.specs.Below.{NonBlocking, Line, Op, Setup, Actor, Outcome, Shared, performed, found, action, outcome, gives_up, begun}
use Rattle.step_machine.specs.Machine.{World, actor_of, rested, with_actor, entry_or, after_outcome, may_rest, AnyMove, next_any}
use Rattle.step_machine.proofs.AnyMoves.{after_move}
use Rattle.step_machine.proofs.Reached.{actor_stands, mover_in_range}
use Rattle.step_machine.proofs.StampsLists.{same_or_not}
use Rattle.step_machine.proofs.CompletionSteps.{actor_same, actor_other}
use Rattle.step_machine.proofs.NonBlockingLaws.{at_line}
use Rattle.step_machine.proofs.Mover.{step_lowers}
use Rattle.step_machine.proofs.Alone.{entry_left}
use Rattle.node_arena.specs.Traces.{Event, Traced, changed, entries_at, event_at, step_at, traced_move, IsTraced}
use Rattle.node_arena.specs.Turns.{failed_turns}
use Rattle.node_arena.proofs.Tracing.{traced_reached, traced_step_is, changed_here, changed_else, step_here, step_else, step_count}
use Rattle.run_laws.specs.Others.{nodes_at, nodes_on, nodes_of_others, paid}
use Rattle.run_laws.proofs.Sums.{sum_same, sum_more}
use Rattle.run_laws.proofs.Tolls.{turns, failed_most, toll_paid}
use Rattle.run_laws.proofs.Amounts.{enough, spare, amount, has_of, rises, begun_own, rested_own, step_own, given_own}

-- what a seat's actor has before it in a traced world
abbrev pub has : (me : ℕ) → Traced → ℕ
has me t = has_of t.world.setup t.world.shared (actor_of t.world me)

-- moves lead on: a seat went through some lines, of which those that failed are paid by what it had before it, and by what the
-- others did meanwhile
pub record Goes (me : ℕ) (t u : Traced) : Type 0 where
  pub lines : List Event
  pub path : u.paths me ≡ t.paths me ++ lines
  pub entries : List Entry
  pub history : u.history ≡ t.history ++ entries
  pub nodes : ℕ
  pub taken : nodes_of_others me u ≡ nodes_of_others me t + nodes
  pub falls : failed_turns lines + has me u ≤ has me t + paid 2 1 1 me entries nodes

-- what a seat's nodes add where its own don't count
own_out : (f : List Event → ℕ) (b : Bool) (x y : List Event) → (if b then 0 else f (if b then x else y)) ≡ (if b then 0 else f y)
own_out f true x y = refl
own_out f false x y = refl

-- where its operation stands says nothing of what an actor has before it
entry_out : (s : Setup) (m : Shared) (a : Actor) (entry : Option ℕ) → amount s m (record a { entry = entry }) a.line ≡ amount s m a a.line
entry_out s m a entry = ap (λ n. n + spare a.line) (entry_left turns s m a entry a.line)

module _ (t : Traced) (r : IsTraced t) (e : t.world.setup.kind ≡ NonBlocking) (you : ℕ) (a : Actor) (is : actor_of t.world you ≡ Some a) where
  -- only the world goes on
  stays : (me : ℕ) (v : World) → length v.actors ≡ length t.world.actors → has_of v.setup v.shared (actor_of v me) ≤ has me t → Goes me t (record t { world = v })
  stays me v long h =
      let same : nodes_of_others me (record t { world = v }) ≡ nodes_of_others me t = ap (λ k. sum_by (λ n. if nat_eq n me then 0 else nodes_on (t.paths n)) (range_with_len 1 k)) long in
      record { lines = []; path = sym (append-nil (t.paths me)); entries = []; history = sym (append-nil t.history); nodes = 0; taken = omega (arith, same); falls = omega (arith, h) }

  -- what this actor has before it, and another one, where this one is another one
  has_here : has you t ≡ amount t.world.setup t.world.shared a a.line
  has_here = ap (has_of t.world.setup t.world.shared) is

  has_now : (m : Shared) (b : Actor) → has_of t.world.setup m (actor_of (with_actor t.world you b) you) ≡ amount t.world.setup m b b.line
  has_now m b = ap (has_of t.world.setup m) (actor_same t.world you a b is)

  has_else : (me : ℕ) (m : Shared) (b : Actor) → you ≢ me → has_of t.world.setup m (actor_of (with_actor t.world you b) me) ≡ has_of t.world.setup m (actor_of t.world me)
  has_else me m b d = ap (has_of t.world.setup m) (actor_other t.world you me b (actor_stands t.world you a is).0 (λ q. d (sym q)))

  long : (b : Actor) → length (with_actor t.world you b).actors ≡ length t.world.actors
  long b = length-set t.world.actors (you - 1) b

  -- a fact of two traces and of each seat, by whether it is the one that moves
  by_seat : (u : Traced) → Goes you t u → ((me : ℕ) → you ≢ me → Goes me t u) → (me : ℕ) → Goes me t u
  by_seat u own other me = go (same_or_not you me)
    where
      go : (you ≡ me) ⊎ (you ≢ me) → Goes me t u
      go (inl q) = subst (λ n. Goes n t u) q own
      go (inr d) = other me d

  began : (op : Op) → a.line ≡ None → (me : ℕ) → Goes me t (record t { world = with_actor t.world you (begun t.world.setup.kind you op a) })
  began op free =
      let b : Actor = begun t.world.setup.kind you op a in
      by_seat (record t { world = with_actor t.world you b })
      (stays you (with_actor t.world you b) (long b) (omega (
        arith,
        has_now t.world.shared b,
        has_here,
        ap (amount t.world.setup t.world.shared a) free,
        begun_own t.world.setup t.world.shared t.world.setup.kind you op a e,
      )))
      (λ me d. stays me (with_actor t.world you b) (long b) (omega (arith, has_else me t.world.shared b d)))

  at_rest : (l : Line) → a.line ≡ Some l → may_rest l ≡ true → (me : ℕ) → Goes me t (record t { world = with_actor t.world you (rested a) })
  at_rest l at may =
      by_seat (record t { world = with_actor t.world you (rested a) })
      (stays you (with_actor t.world you (rested a)) (long (rested a)) (omega (
        arith,
        has_now t.world.shared (rested a),
        has_here,
        ap (amount t.world.setup t.world.shared a) at,
        rested_own t.world.setup t.world.shared a l
            (at_line t.world (traced_reached t r) e you a l is at).runs may,
      )))
      (λ me d. stays me (with_actor t.world you (rested a)) (long (rested a)) (omega (arith, has_else me t.world.shared (rested a) d)))

  gave_up : (l : Line) (o : Outcome) → a.line ≡ Some l → gives_up (t.world.steps + 1) a l ≡ Some o → (me : ℕ) → Goes me t (record t { world = after_outcome t.world you a t.world.shared o })
  gave_up l o at given =
      let b : Actor = record o.actor { entry = Some (entry_or a.entry (length t.world.operations)) } in
      let v : World = after_outcome t.world you a t.world.shared o in
      by_seat (record t { world = v })
      (stays you v (long b) (omega (
        arith,
        has_now t.world.shared b,
        entry_out t.world.setup t.world.shared o.actor
            (Some (entry_or a.entry (length t.world.operations))),
        has_here,
        ap (amount t.world.setup t.world.shared a) at,
        given_own t.world (traced_reached t r) e you a is l o at given,
      )))
      (λ me d. stays me v (long b) (omega (arith, has_else me t.world.shared b d)))

  module _ (l : Line) (at : a.line ≡ Some l) where
    abbrev after : Shared
    after = performed (action t.world.setup you a l) t.world.shared

    abbrev told : Outcome
    told = outcome t.world.setup (t.world.steps + 1) you a l (found (action t.world.setup you a l) t.world.shared)

    abbrev event : Event
    event = event_at t.world.setup t you a l

    -- the nodes of all others stay, those of the seat itself aside
    own_nodes : nodes_of_others you (step_at t you a l) ≡ nodes_of_others you t
    own_nodes =
        ap (λ k. sum_by (λ n. if nat_eq n you then 0 else nodes_on (changed t.paths you (t.paths you ++ event ∷ []) n)) (range_with_len 1 k)) (step_count t you a l)
        ∙ sum_same (λ n. if nat_eq n you then 0 else nodes_on (t.paths n)) (λ n. if nat_eq n you then 0 else nodes_on
        (changed t.paths you (t.paths you ++ event ∷ []) n)) 1 (length t.world.actors)
        (λ n. own_out nodes_on (nat_eq n you) (t.paths you ++ event ∷ []) (t.paths n))

    -- another seat sees one more where one is taken or given back
    module _ (me : ℕ) (d : you ≢ me) where
      abbrev before_it : ℕ → ℕ
      before_it n = if nat_eq n me then 0 else nodes_on (t.paths n)

      abbrev after_it : ℕ → ℕ
      after_it n = if nat_eq n me then 0 else nodes_on (changed t.paths you (t.paths you ++ event ∷ []) n)

      count : (b : Bool) → b ≡ false → (if b then 0 else nodes_on (t.paths you ++ event ∷ [])) ≡ (if b then 0 else nodes_on (t.paths you)) + nodes_at l told.actor.line
      count true f = absurd (let g : true ≡ false = f in cc)
      count false f = sum_by_push (λ (ev : Event). nodes_at ev.line ev.to) (t.paths you) event

      here : after_it you ≡ before_it you + nodes_at l told.actor.line
      here = ap (λ es. if nat_eq you me then 0 else nodes_on es) (changed_here t.paths you (t.paths you ++ event ∷ [])) ∙ count (nat_eq you me) (ne_eqb you me d)

      more_nodes : nodes_of_others me (step_at t you a l) ≡ nodes_of_others me t + nodes_at l told.actor.line
      more_nodes =
          let there : (1 ≤ you) × (you ≤ length t.world.actors) = mover_in_range t.world you a is in
          ap (λ k. sum_by after_it (range_with_len 1 k)) (step_count t you a l)
          ∙ sum_more before_it after_it you (nodes_at l told.actor.line) (λ n ne. ap (λ es. if nat_eq n me then 0 else nodes_on es)
          (changed_else t.paths you (t.paths you ++ event ∷ []) n ne)) here 1 (length t.world.actors) there.0 (omega (arith, there.1))

    stepped_own : Goes you t (step_at t you a l)
    stepped_own =
        let now : has you (step_at t you a l) ≡ amount t.world.setup after told.actor told.actor.line =
        ap (has_of t.world.setup after) (step_here t you a l is) ∙ entry_out t.world.setup after told.actor
        (Some (entry_or a.entry (length t.world.operations))) in
        record {
          lines = event ∷ [];
          path = changed_here t.paths you (t.paths you ++ event ∷ []);
          entries = entries_at t.world.setup t you a l;
          history = refl;
          nodes = 0;
          taken = omega (arith, own_nodes);
          falls = omega (
            arith,
            now,
            has_here,
            ap (amount t.world.setup t.world.shared a) at,
            step_own t.world (traced_reached t r) e you a is l at,
            failed_most t.world.setup t.world.shared (t.world.steps + 1) you a l (at_line t.world (traced_reached t r) e you a l is at).runs,
          );
        }

    stepped_else : (me : ℕ) → you ≢ me → Goes me t (step_at t you a l)
    stepped_else me d =
        let now : has me (step_at t you a l) ≡ has_of t.world.setup after (actor_of t.world me) = ap (has_of t.world.setup after) (step_else t you a l me is (λ q. d (sym q))) in
        record {
          lines = [];
          path = changed_else t.paths you (t.paths you ++ event ∷ []) me (λ q. d (sym q)) ∙ sym (append-nil (t.paths me));
          entries = entries_at t.world.setup t you a l;
          history = refl;
          nodes = nodes_at l told.actor.line;
          taken = more_nodes me d;
          falls = omega (
            arith,
            now,
            rises _ _ _ _ _ _ _ _ (step_lowers turns enough t.world (traced_reached t r) e you a l is at)
                (actor_of t.world me),
            toll_paid t.world.setup t.world.shared (t.world.steps + 1) you a me l (ne_eqb you me d),
          );
        }

    pub goes_step : (me : ℕ) → Goes me t (step_at t you a l)
    goes_step = by_seat (step_at t you a l) stepped_own stepped_else

-- each move goes on
pub goes_move : (t : Traced) → IsTraced t → t.world.setup.kind ≡ NonBlocking → (me : ℕ) (m : AnyMove) → IfSome (next_any t.world m) (λ v. Goes me t (traced_move t m v))
goes_move t r e me =
    after_move t.world (λ m v. Goes me t (traced_move t m v))
    (record {
      began = λ you op a is free call. began t r e you a is op free me;
      step = λ you a l is at. subst (Goes me t) (sym (traced_step_is t you a l is at)) (goes_step t r e you a is l at me);
      gave_up = λ you a l o is at given. gave_up t r e you a is l o at given me;
      at_rest = λ you a l is at may. at_rest t r e you a is l at may me;
    })
