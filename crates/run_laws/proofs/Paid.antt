-- What moves add one after another: so each law, of the moves from the start on, and of those since a seat's path was shorter.
use Rattle.std.proofs.Common.{◌≡◌, ◌≢◌, ℕ, ◌+◌, ◌≤◌, ◌<◌, Bool, true, false, nat_lt, ◌⊎◌, inl, inr, List, [], ◌∷◌, ◌++◌, append-nil, length, take}
use Rattle.std.proofs.Common.{drop, cond, Option, Some, None, IfSome, refl, sym, ap, ◌∙◌, subst, arith, length-append, ltb-true, ltb-false}
use Rattle.std.proofs.Math.Seq.{take-append_seam, drop-append_seam}
use Rattle.std.proofs.lemmas.List.{append_assoc}
use Rattle.std.proofs.lemmas.List.Sums.{sum_by-append}
use Rattle.std.proofs.lemmas.Option.{none-some, same_Some}
use Rattle.history.specs.declared.operations.Entry.{Entry}
use Rattle.step_machine.specs.Below.{NonBlocking, Line, Actor, Setup}
use Rattle.step_machine.specs.Machine.{World, actor_of, AnyMove, next_any}
use Rattle.step_machine.proofs.AnyMoves.{after_move}
use Rattle.step_machine.proofs.Reached.{some_of, setup-next_any}
use Rattle.step_machine.proofs.StampsLists.{same_or_not}
use Rattle.node_arena.specs.Traces.{Event, Traced, event_at, step_at, traced_move, traced_next, traced_on, trace, first_trace, IsTraced}
use Rattle.node_arena.specs.Turns.{failed_turns, failed_at}
use Rattle.node_arena.proofs.Tracing.{world-traced_move, traced_moves, traced_step_is, changed_here, changed_else}
use Rattle.run_laws.specs.Others.{is_others_link, is_others_pop, paid}
use Rattle.run_laws.specs.Turns.{OfTraces, TurnsArePaid, PaidSince, LinesArePaid, IsFirst, CallsArePaid}
use Rattle.run_laws.proofs.Amounts.{amount, has_of, has_least, amount_most, amount_first, has_first}
use Rattle.run_laws.proofs.Moves.{has, Goes, goes_move}

-- what entries, one list after another, pay for
paid-append : (me : ℕ) (es fs : List Entry) (n k : ℕ) → paid 2 1 1 me (es ++ fs) (n + k) ≡ paid 2 1 1 me es n + paid 2 1 1 me fs k
paid-append me es fs n k = omega (arith, sum_by-append (λ x. cond (is_others_link me x) 1 0) es fs, sum_by-append (λ x. cond (is_others_pop me x) 1 0) es fs)

-- moves that lead on, one list after another
goes_on : (me : ℕ) (t u v : Traced) → Goes me t u → Goes me u v → Goes me t v
goes_on me t u v f g =
    record {
      lines = f.lines ++ g.lines;
      path = g.path ∙ ap (λ es. es ++ g.lines) f.path ∙ append_assoc (t.paths me) f.lines g.lines;
      entries = f.entries ++ g.entries;
      history = g.history ∙ ap (λ es. es ++ g.entries) f.history ∙ append_assoc t.history f.entries g.entries;
      nodes = f.nodes + g.nodes;
      taken = omega (arith, f.taken, g.taken);
      falls = omega (arith, f.falls, g.falls, sum_by-append (λ (e : Event). failed_at e.line e.to) f.lines g.lines, paid-append me f.entries g.entries f.nodes g.nodes);
    }

nowhere : (me : ℕ) (t : Traced) → Goes me t t
nowhere me t = record { lines = []; path = sym (append-nil (t.paths me)); entries = []; history = sym (append-nil t.history); nodes = 0; taken = omega arith; falls = omega arith }

-- a move leaves the setup
setup-traced_move : (t : Traced) (m : AnyMove) (w : World) → next_any t.world m ≡ Some w → (traced_move t m w).world.setup ≡ t.world.setup
setup-traced_move t m w e = ap (λ (v : World). v.setup) (world-traced_move t m w) ∙ setup-next_any t.world w m e

kind-traced_move : (t : Traced) (m : AnyMove) (w : World) → t.world.setup.kind ≡ NonBlocking → next_any t.world m ≡ Some w → (traced_move t m w).world.setup.kind ≡ NonBlocking
kind-traced_move t m w e f = ap (λ (s : Setup). s.kind) (setup-traced_move t m w f) ∙ e

pub run_goes : (me : ℕ) (ms : List AnyMove) (t u : Traced) → IsTraced t → t.world.setup.kind ≡ NonBlocking → trace ms t ≡ Some u → Goes me t u
run_goes me [] t u r e led = subst (Goes me t) (same_Some t u led) (nowhere me t)
run_goes me (m ∷ ms) t u r e led = go (next_any t.world m) refl led (λ v. run_goes me ms v u)
  where
    go : (o : Option World) → next_any t.world m ≡ o → traced_on (trace ms) (traced_next t m o) ≡ Some u
        → ((v : Traced) → IsTraced v → v.world.setup.kind ≡ NonBlocking → trace ms v ≡ Some u → Goes me v u) → Goes me t u
    go None f g each = absurd (none-some u g)
    go (Some w) f g each =
        goes_on me t (traced_move t m w) u (some_of (λ v. Goes me t (traced_move t m v)) (next_any t.world m) w f (goes_move t r e me m))
        (each (traced_move t m w) (traced_moves t m w r f) (kind-traced_move t m w e f) g)

module _ (t : Traced) (r : IsTraced t) (e : t.world.setup.kind ≡ NonBlocking) where
  abbrev start : Traced
  start = first_trace t.world.setup r.actors

  started : IsTraced start
  started = record { actors = r.actors; moves = []; sized = r.sized; led = refl }

  -- each failed turn of a seat is paid
  pub turns_paid : TurnsArePaid 2 1 1 t
  turns_paid me =
      let g : Goes me start t = run_goes me r.moves start t started e r.led in
      omega (
        arith,
        g.falls,
        g.taken,
        has_least t.world.setup t.world.shared (actor_of t.world me),
        has_first t.world.setup r.actors me,
        ap failed_turns g.path,
        ap (λ es. paid 2 1 1 me es g.nodes) g.history,
      )

-- a move goes on with a seat's path by a line of it, or not at all
record StepsBy (me : ℕ) (t u : Traced) : Type 0 where
  a : Actor
  line : Line
  is : actor_of t.world me ≡ Some a
  at : a.line ≡ Some line
  path : u.paths me ≡ t.paths me ++ event_at t.world.setup t me a line ∷ []

steps_or_stays : (t : Traced) (me : ℕ) (m : AnyMove) → IfSome (next_any t.world m) (λ v. ((traced_move t m v).paths me ≡ t.paths me) ⊎ StepsBy me t (traced_move t m v))
steps_or_stays t me =
    after_move t.world (λ m v. ((traced_move t m v).paths me ≡ t.paths me) ⊎ StepsBy me t (traced_move t m v))
    (record {
      began = λ you op a is free call. inl refl;
      step = λ you a l is at. subst (λ u. (u.paths me ≡ t.paths me) ⊎ StepsBy me t u) (sym (traced_step_is t you a l is at)) (go you a l is at (same_or_not me you));
      gave_up = λ you a l o is at given. inl refl;
      at_rest = λ you a l is at may. inl refl;
    })
  where
    go : (you : ℕ) (a : Actor) (l : Line) → actor_of t.world you ≡ Some a → a.line ≡ Some l → (me ≡ you) ⊎ (me ≢ you) → ((step_at t you a l).paths me ≡ t.paths me) ⊎ StepsBy me t (step_at t you a l)
    go you a l is at (inl q) = subst (λ n. ((step_at t you a l).paths n ≡ t.paths n) ⊎ StepsBy n t (step_at t you a l)) (sym q)
        (inr (record { a = a; line = l; is = is; at = at; path = changed_here t.paths you (t.paths you ++ event_at t.world.setup t you a l ∷ []) }))
    go you a l is at (inr d) = inl (changed_else t.paths you (t.paths you ++ event_at t.world.setup t you a l ∷ []) me d)

-- the moment from which the last lines of a seat's path were gone through
record Since (me n : ℕ) (u : Traced) : Type 0 where
  was : Traced
  reached : IsTraced was
  runs : was.world.setup.kind ≡ NonBlocking
  moves : List AnyMove
  led : trace moves was ≡ Some u
  long : length (was.paths me) ≡ n
  a : Actor
  line : Line
  is : actor_of was.world me ≡ Some a
  at : a.line ≡ Some line
  rest : List Event
  path : u.paths me ≡ was.paths me ++ (event_at was.world.setup was me a line ∷ rest)

find : (me n : ℕ) (ms : List AnyMove) (t u : Traced) → IsTraced t → t.world.setup.kind ≡ NonBlocking → trace ms t ≡ Some u → length (t.paths me) ≤ n → n < length (u.paths me) → Since me n u
find me n [] t u r e led low high = absurd (let q : length (t.paths me) ≡ length (u.paths me) = ap (λ (v : Traced). length (v.paths me)) (same_Some t u led) in omega (arith, q, low, high))
find me n (m ∷ ms) t u r e led low high = go (next_any t.world m) refl led (λ v. find me n ms v u)
  where
    go : (o : Option World) → next_any t.world m ≡ o → traced_on (trace ms) (traced_next t m o) ≡ Some u
        → ((v : Traced) → IsTraced v → v.world.setup.kind ≡ NonBlocking → trace ms v ≡ Some u → length (v.paths me) ≤ n → n < length (u.paths me)
        → Since me n u) → Since me n u
    go None f g each = absurd (none-some u g)
    go (Some w) f g each = by_length (nat_lt n (length (v.paths me))) refl
      where
        v : Traced
        v = traced_move t m w

        reaches : IsTraced v
        reaches = traced_moves t m w r f

        by_move : n < length (v.paths me) → (v.paths me ≡ t.paths me) ⊎ StepsBy me t v → Since me n u
        by_move h (inl same) = absurd (let q : length (v.paths me) ≡ length (t.paths me) = ap length same in omega (arith, q, low, h))
        by_move h (inr s) =
            let more : Goes me v u = run_goes me ms v u reaches (kind-traced_move t m w e f) g in
            let q : length (v.paths me) ≡ length (t.paths me) + 1 = ap length s.path ∙ length-append (t.paths me) (event_at t.world.setup t me s.a s.line ∷ []) in
            record {
              was = t;
              reached = r;
              runs = e;
              moves = m ∷ ms;
              led = led;
              long = omega (arith, q, low, h);
              a = s.a;
              line = s.line;
              is = s.is;
              at = s.at;
              rest = more.lines;
              path = more.path ∙ ap (λ es. es ++ more.lines) s.path ∙ append_assoc (t.paths me) (event_at t.world.setup t me s.a s.line ∷ []) more.lines;
            }

        by_length : (b : Bool) → nat_lt n (length (v.paths me)) ≡ b → Since me n u
        by_length true h = by_move (ltb-true n (length (v.paths me)) h) (some_of (λ x. ((traced_move t m x).paths me ≡ t.paths me)
            ⊎ StepsBy me t (traced_move t m x)) (next_any t.world m) w f (steps_or_stays t me m))
        by_length false h = each v reaches (kind-traced_move t m w e f) g (ltb-false n (length (v.paths me)) h) high

-- two lists that are one, split at one place
parts : {X : Type 0} (xs ys vs ws : List X) → xs ++ vs ≡ ys ++ ws → length xs ≡ length ys → (xs ≡ ys) × (vs ≡ ws)
parts xs ys vs ws e long = (
  sym (take-append_seam xs vs) ∙ ap (take (length xs)) e ∙ ap (λ n. take n (ys ++ ws)) long ∙ take-append_seam ys ws,
  sym (drop-append_seam xs vs) ∙ ap (drop (length xs)) e ∙ ap (λ n. drop n (ys ++ ws)) long ∙ drop-append_seam ys ws,
)

-- the line at which some lines begin
abbrev first_line : Line → List Event → Line
first_line l [] = l
first_line l (e ∷ es) = e.line

module _ (t : Traced) (r : IsTraced t) (e : t.world.setup.kind ≡ NonBlocking) (me : ℕ) (before : List Event) where
  -- the moves since then are paid, but for what the seat had before it then
  since : (own : ℕ) (added : List Event) (s : Since me (length before) t) → t.paths me ≡ before ++ added → has me s.was ≤ own + 1 → PaidSince own 2 1 1 me before added t
  since own added s is most =
      let g : Goes me s.was t = run_goes me s.moves s.was t s.reached s.runs s.led in
      let q : (s.was.paths me ≡ before) × (g.lines ≡ added) = parts (s.was.paths me) before g.lines added (sym g.path ∙ is) s.long in
      record {
        was = s.was;
        reached = s.reached;
        moves = s.moves;
        led = s.led;
        path = q.0;
        entries = g.entries;
        history = g.history;
        nodes = g.nodes;
        taken = g.taken;
        turns = omega (arith, g.falls, most, has_least t.world.setup t.world.shared (actor_of t.world me), ap failed_turns q.1);
      }

  -- a seat's path was shorter once
  once : (x : Event) (xs : List Event) → t.paths me ≡ before ++ x ∷ xs → Since me (length before) t
  once x xs is =
      let long : length (t.paths me) ≡ length before + length (x ∷ xs) = ap length is ∙ length-append before (x ∷ xs) in
      find me (length before) r.moves (start t r e) t (started t r e) e r.led (omega arith) (omega (arith, long))

  lines_paid : (added : List Event) → t.paths me ≡ before ++ added → PaidSince 2 2 1 1 me before added t
  lines_paid [] is = record {
    was = t;
    reached = r;
    moves = [];
    led = refl;
    path = is ∙ append-nil before;
    entries = [];
    history =
        sym (append-nil t.history);
    nodes = 0;
    taken = omega arith;
    turns = omega arith;
  }
  lines_paid (x ∷ xs) is =
      let s : Since me (length before) t = once x xs is in
      since 2 (x ∷ xs) s is (omega (
        arith,
        ap (has_of s.was.world.setup s.was.world.shared) s.is,
        ap (amount s.was.world.setup s.was.world.shared s.a) s.at,
        amount_most s.was.world.setup s.was.world.shared s.a s.line,
      ))

  call_paid : (x : Event) (xs : List Event) → t.paths me ≡ before ++ x ∷ xs → IsFirst x.line → PaidSince 1 2 1 1 me before (x ∷ xs) t
  call_paid x xs is h =
      let s : Since me (length before) t = once x xs is in
      let q = parts (s.was.paths me) before (event_at s.was.world.setup s.was me s.a s.line ∷ s.rest) (x ∷ xs) (sym s.path ∙ is) s.long in
      since 1 (x ∷ xs) s is (omega (
        arith,
        ap (has_of s.was.world.setup s.was.world.shared) s.is,
        ap (amount s.was.world.setup s.was.world.shared s.a) s.at,
        amount_first s.was.world.setup s.was.world.shared s.a s.line
            (subst IsFirst (ap (first_line s.line) (sym q.1)) h),
      ))

-- so of each seat
pub each_lines_paid : OfTraces (LinesArePaid 2 2 1 1)
each_lines_paid t r e me before added is = lines_paid t r e me before added is

pub each_call_paid : OfTraces (CallsArePaid 1 2 1 1)
each_call_paid t r e me before rest first is h = call_paid t r e me before first rest is h
