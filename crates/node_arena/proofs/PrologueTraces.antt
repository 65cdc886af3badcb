-- Before its step an actor gives up or rests and begins a call; this changes nothing but the actor itself.
use Rattle.std.proofs.Common.{◌≡◌, ◌≢◌, ℕ, ◌+◌, ◌-◌, ◌≤◌, Bool, true, false, if◌then◌else◌, Option, Some, None, List, [], ◌∷◌, ◌++◌, length, set, refl, sym, ap, subst, ◌∙◌}
use Rattle.std.proofs.Common.{length-append, append_assoc, append-nil, arith}
use Rattle.std.specs.List.{All}
use Rattle.std.proofs.lemmas.List.Elements.{All-nil, All-cons, All-append, All-weaker}
use Rattle.std.proofs.Math.ListN.{length-set}
use Rattle.std.proofs.lemmas.Option.{none-some, same_Some}
use Rattle.line_table.specs.declared.lines.Kind.{Kind}
use Rattle.line_table.specs.declared.lines.Line.{Line}
use Rattle.line_table.specs.declared.lines.Line.TheVariants.{N1, N2, N3, N4, N5, F1, F2, F3, E2, E3, E5, E6, E7, E9, E13, E17, D2, D3, D4, D5, D10}
use Rattle.line_table.specs.declared.lines.Line.TheVariants.{D12, D13, A1, A2, A3, A4, A5, A6, A7, B1, B2, B3, B4, B5, B6, S1, S2, S3, S4, S5, S6, S7}
use Rattle.line_table.specs.declared.lines.Line.TheVariants.{S8, S9}
use Rattle.history.specs.declared.refusals.Refusal.TheVariants.{Busy as IsBusy}
use Rattle.history.specs.declared.operations.Op.{Op}
use Rattle.history.specs.declared.operations.Op.TheVariants.{Enq, Deq, Shut}
use Rattle.history.specs.declared.operations.Reply.{Reply}
use Rattle.history.specs.declared.operations.Reply.TheVariants.{Refused}
use Rattle.line_steps.specs.Actors.{Actor}
use Rattle.line_steps.specs.Outcomes.{Outcome}
use Rattle.line_steps.specs.Lines.{gives_up, ends, busy_or, to_pocket}
use Rattle.line_steps.specs.Calls.{begun, is_call}
use Rattle.step_machine.specs.declared.actors.Move.TheVariants.{Begin, Step, Give}
use Rattle.step_machine.specs.Machine.{World, actor_of, with_actor, after_outcome, stepped, entry_or, rested, may_rest, rests, rest_of, AnyMove, next_any, made, Rest, IsSized}
use Rattle.step_machine.proofs.Reached.{mover_in_range}
use Rattle.step_machine.proofs.CompletionSteps.{actor_same, actor_other}
use Rattle.step_machine.proofs.Giving.{give_move, begin_move, step_move}
use Rattle.node_arena.specs.Traces.{made_by, LeadsBy, Traced, step_at, traced_move, traced_next, traced_on, trace, first_trace, IsTraced}
pub use Rattle.node_arena.proofs.KnownRuns.{prefix_same, prefix_then}
use Rattle.node_arena.specs.Rule.{Ran}
use Rattle.node_arena.specs.Prologues.{Prologue, continues, begins, gave_up, out_of, after_prologue, CanStart}
use Rattle.node_arena.proofs.Tracing.{traced_moves, traced_step_is}

-- the trace t went to u, and nothing changed but one actor
pub record Led (t u : Traced) (me : ℕ) (a : Actor) : Type 0 where
  pub shared : u.world.shared ≡ t.world.shared
  pub setup : u.world.setup ≡ t.world.setup
  pub count : length u.world.actors ≡ length t.world.actors
  pub paths : u.paths ≡ t.paths
  pub history : u.history ≡ t.history
  pub here : actor_of u.world me ≡ Some a
  pub others : (n : ℕ) → n ≢ me → actor_of u.world n ≡ actor_of t.world n

-- a trace that moves lead to, where one actor has this state and all else is as it was
abbrev pub LeadsTo : Traced → ℕ → Actor → Type 0
LeadsTo t me a = (u : Traced) × IsTraced u × Led t u me a × LeadsBy me 2 t u

-- one move, and one list of moves after another
pub one_move : (t : Traced) (m : AnyMove) (w : World) → next_any t.world m ≡ Some w → trace (m ∷ []) t ≡ Some (traced_move t m w)
one_move t m w e = ap (λ o. traced_on (trace []) (traced_next t m o)) e

pub trace_then : (ms ns : List AnyMove) (t u v : Traced) → trace ms t ≡ Some u → trace ns u ≡ Some v → trace (ms ++ ns) t ≡ Some v
trace_then [] ns t u v e f = subst (λ x. trace ns x ≡ Some v) (sym (same_Some t u e)) f
trace_then (m ∷ ms) ns t u v e f = go (next_any t.world m) e (λ x g. trace_then ms ns x u v g f)
  where
    go : (o : Option World) → traced_on (trace ms) (traced_next t m o) ≡ Some u → ((x : Traced) → trace ms x ≡ Some u → trace (ms ++ ns) x ≡ Some v)
        → traced_on (trace (ms ++ ns)) (traced_next t m o) ≡ Some v
    go None g each = absurd (none-some u g)
    go (Some w) g each = each (traced_move t m w) g

-- the rest of some moves
pub trace_rest : (ms ns : List AnyMove) (t u v : Traced) → trace ms t ≡ Some u → trace (ms ++ ns) t ≡ Some v → trace ns u ≡ Some v
trace_rest [] ns t u v e f = subst (λ x. trace ns x ≡ Some v) (same_Some t u e) f
trace_rest (m ∷ ms) ns t u v e f = go (next_any t.world m) e f (λ x. trace_rest ms ns x u v)
  where
    go : (o : Option World) → traced_on (trace ms) (traced_next t m o) ≡ Some u → traced_on (trace (ms ++ ns)) (traced_next t m o) ≡ Some v
        → ((x : Traced) → trace ms x ≡ Some u → trace (ms ++ ns) x ≡ Some v → trace ns u ≡ Some v) → trace ns u ≡ Some v
    go None a b each = absurd (none-some u a)
    go (Some w) a b each = each (traced_move t m w) a b

-- so of one actor
pub leads_one : (t : Traced) (m : AnyMove) (w : World) (me : ℕ) → made_by m ≡ me → next_any t.world m ≡ Some w → LeadsBy me 1 t (traced_move t m w)
leads_one t m w me by e = record { moves = m ∷ []; few = omega arith; alone = All-cons (λ x. made_by x ≡ me) m [] by (All-nil (λ x. made_by x ≡ me)); led = one_move t m w e }

abbrev pub leads_then : (me j k n : ℕ) (t u v : Traced) → j + k ≤ n → LeadsBy me j t u → LeadsBy me k u v → LeadsBy me n t v
leads_then me j k n t u v enough f g =
    record {
      moves = f.moves ++ g.moves;
      few = omega (arith, enough, f.few, g.few, length-append f.moves g.moves);
      alone = All-append (λ x. made_by x ≡ me) f.moves g.moves f.alone g.alone;
      led = trace_then f.moves g.moves t u v f.led g.led;
    }

-- moves that lead on from a trace that moves lead to
abbrev pub leads_reached : (me n : ℕ) (t u : Traced) → IsTraced t → u.world.setup ≡ t.world.setup → LeadsBy me n t u → IsTraced u
leads_reached me n t u r same f = record {
  actors = r.actors;
  moves = r.moves ++ f.moves;
  sized = subst (λ s. IsSized s r.actors) (sym same) r.sized;
  led = subst (λ s. trace (r.moves ++ f.moves) (first_trace s r.actors) ≡ Some u) (sym same) (trace_then r.moves f.moves (first_trace t.world.setup r.actors) t u r.led f.led);
}

-- moves of other actors, with moves of one of them after
pub ran_more : (ms more : List AnyMove) (you me : ℕ) (ran : List AnyMove) → you ≢ me → All (λ m. made_by m ≡ me) more → Ran ms you ran → Ran (ms ++ more) you ran
ran_more ms more you me ran ne by r = record {
  rest = r.rest ++ more;
  begins = ap (λ xs. xs ++ more) r.begins ∙ append_assoc ran r.rest more;
  others = All-append (λ m. made_by m ≢ you) r.rest more r.others (All-weaker (λ m. made_by m ≡ me) (λ m. made_by m ≢ you) (λ m same e. ne (sym e ∙ same)) more by);
}

-- all moves
pub ran_all : (ms : List AnyMove) (me : ℕ) → Ran ms me ms
ran_all ms me = record { rest = []; begins = sym (append-nil ms); others = All-nil (λ m. made_by m ≢ me) }

-- a step of an actor is one move
abbrev pub one_step : (u : Traced) (me : ℕ) (a : Actor) (l : Line) → actor_of u.world me ≡ Some a → a.line ≡ Some l → LeadsBy me 1 u (step_at u me a l)
one_step u me a l here line = record {
  moves = made (Step me) ∷ [];
  few = omega arith;
  alone = All-cons (λ x. made_by x ≡ me) (made (Step me)) [] refl (All-nil (λ x. made_by x ≡ me));
  led = one_move u (made (Step me)) (stepped u.world me a l) (step_move u.world me a l here line) ∙ ap (λ x. Some x) (traced_step_is u me a l here line);
}

pub leads_within : (me j n : ℕ) (t u : Traced) → j ≤ n → LeadsBy me j t u → LeadsBy me n t u
leads_within me j n t u enough f = record { moves = f.moves; few = omega (arith, enough, f.few); alone = f.alone; led = f.led }

-- an actor that gives up does so whatever the number is
given : (now : ℕ) (a : Actor) (l : Line) → a.line ≡ Some l → (gave_up a (gives_up 0 a l)).line ≡ None → (o : Outcome) × (gives_up now a l ≡ Some o) × (o.actor ≡ gave_up a (gives_up 0 a l))
given now a N1 e h = (ends now (Refused IsBusy) a, refl, refl)
given now a N2 e h = absurd (none-some N2 (sym h ∙ e))
given now a N3 e h = absurd (none-some N3 (sym h ∙ e))
given now a N4 e h = absurd (none-some N4 (sym h ∙ e))
given now a N5 e h = absurd (none-some N5 (sym h ∙ e))
given now a F1 e h = go a.due
  where
    go : (due : Option Reply) → (o : Outcome) × (busy_or now due (to_pocket a) ≡ Some o) × (o.actor ≡ gave_up a (busy_or 0 due (to_pocket a)))
    go None = (ends now (Refused IsBusy) (to_pocket a), refl, refl)
    go (Some reply) = (ends now reply (to_pocket a), refl, refl)
given now a F2 e h = absurd (none-some F2 (sym h ∙ e))
given now a F3 e h = absurd (none-some F3 (sym h ∙ e))
given now a E2 e h = absurd (none-some E2 (sym h ∙ e))
given now a E3 e h = absurd (none-some E3 (sym h ∙ e))
given now a E5 e h = (ends now (Refused IsBusy) (to_pocket a), refl, refl)
given now a E6 e h = absurd (none-some E6 (sym h ∙ e))
given now a E7 e h = absurd (none-some E7 (sym h ∙ e))
given now a E9 e h = absurd (none-some E9 (sym h ∙ e))
given now a E13 e h = absurd (none-some E13 (sym h ∙ e))
given now a E17 e h = absurd (none-some E17 (sym h ∙ e))
given now a D2 e h = (ends now (Refused IsBusy) a, refl, refl)
given now a D3 e h = absurd (none-some D3 (sym h ∙ e))
given now a D4 e h = absurd (none-some D4 (sym h ∙ e))
given now a D5 e h = absurd (none-some D5 (sym h ∙ e))
given now a D10 e h = absurd (none-some D10 (sym h ∙ e))
given now a D12 e h = absurd (none-some D12 (sym h ∙ e))
given now a D13 e h = absurd (none-some D13 (sym h ∙ e))
given now a A1 e h = absurd (none-some A1 (sym h ∙ e))
given now a A2 e h = absurd (none-some A2 (sym h ∙ e))
given now a A3 e h = (ends now (Refused IsBusy) (to_pocket a), refl, refl)
given now a A4 e h = absurd (none-some A4 (sym h ∙ e))
given now a A5 e h = absurd (none-some A5 (sym h ∙ e))
given now a A6 e h = absurd (none-some A6 (sym h ∙ e))
given now a A7 e h = absurd (none-some A7 (sym h ∙ e))
given now a B1 e h = (ends now (Refused IsBusy) a, refl, refl)
given now a B2 e h = absurd (none-some B2 (sym h ∙ e))
given now a B3 e h = absurd (none-some B3 (sym h ∙ e))
given now a B4 e h = absurd (none-some B4 (sym h ∙ e))
given now a B5 e h = absurd (none-some B5 (sym h ∙ e))
given now a B6 e h = absurd (none-some B6 (sym h ∙ e))
given now a S1 e h = (ends now (Refused IsBusy) a, refl, refl)
given now a S2 e h = absurd (none-some S2 (sym h ∙ e))
given now a S3 e h = absurd (none-some S3 (sym h ∙ e))
given now a S4 e h = absurd (none-some S4 (sym h ∙ e))
given now a S5 e h = absurd (none-some S5 (sym h ∙ e))
given now a S6 e h = (ends now (Refused IsBusy) a, refl, refl)
given now a S7 e h = absurd (none-some S7 (sym h ∙ e))
given now a S8 e h = absurd (none-some S8 (sym h ∙ e))
given now a S9 e h = absurd (none-some S9 (sym h ∙ e))

-- a call that begins doesn't hang on the entry of the one before
begun_afresh : (kind : Kind) (me : ℕ) (op : Op) (a : Actor) (entry : Option ℕ) → begun kind me op (record a { entry = entry }) ≡ begun kind me op a
begun_afresh kind me (Enq body) a entry = refl
begun_afresh kind me Deq a entry = refl
begun_afresh kind me Shut a entry = refl

-- one actor has another state
led_one : (t : Traced) (w : World) (me : ℕ) (a b : Actor) → actor_of t.world me ≡ Some a → w.shared ≡ t.world.shared → w.setup ≡ t.world.setup
    → w.actors ≡ set t.world.actors (me - 1) b → Led t (record t { world = w }) me b
led_one t w me a b at shared setup actors =
    record {
      shared = shared;
      setup = setup;
      count = ap length actors ∙ length-set t.world.actors (me - 1) b;
      paths = refl;
      history = refl;
      here = ap (λ xs. actor_of (record w { actors = xs }) me) actors ∙ actor_same t.world me a b at;
      others = λ n ne. ap (λ xs. actor_of (record w { actors = xs }) n) actors ∙ actor_other t.world me n b (mover_in_range t.world me a at).0 ne;
    }

led_twice : (t u v : Traced) (me : ℕ) (a b : Actor) → Led t u me a → Led u v me b → Led t v me b
led_twice t u v me a b f g =
    record {
      shared = g.shared ∙ f.shared;
      setup = g.setup ∙ f.setup;
      count = g.count ∙ f.count;
      paths = g.paths ∙ f.paths;
      history = g.history ∙ f.history;
      here = g.here;
      others = λ n ne. g.others n ne ∙ f.others n ne;
    }

-- a call begins
begin_led : (t : Traced) (me : ℕ) (op : Op) (a : Actor) → IsTraced t → actor_of t.world me ≡ Some a → a.line ≡ None → is_call op ≡ true → LeadsTo t me (begun t.world.setup.kind me op a)
begin_led t me op a r at none call =
    let b : Actor = begun t.world.setup.kind me op a in
    let w : World = with_actor t.world me b in
    let e : next_any t.world (made (Begin me op)) ≡ Some w = begin_move t.world me op a at none call in (
      record t { world = w },
      traced_moves t (made (Begin me op)) w r e,
      led_one t w me a b at refl refl refl,
      leads_within me 1 2 t (record t { world = w }) (omega arith) (leads_one t (made (Begin me op)) w me refl e),
    )

-- an actor rests, and begins a call
rest_move : (w : World) (me : ℕ) (a : Actor) (l : Line) → actor_of w me ≡ Some a → a.line ≡ Some l → may_rest l ≡ true → next_any w (Rest me) ≡ Some (with_actor w me (rested a))
rest_move w me a l at here may = ap (rest_of w me) at ∙ ap (rests w me a) here ∙ ap (λ b. if b then Some (with_actor w me (rested a)) else None) may

then_begin : (t u : Traced) (me : ℕ) (op : Op) (a b : Actor) → Led t u me a → LeadsBy me 1 t u → IsTraced u → a.line ≡ None → is_call op ≡ true
    → begun t.world.setup.kind me op a ≡ b → LeadsTo t me b
then_begin t u me op a b f by r none call is =
    let c : Actor = begun u.world.setup.kind me op a in
    let w : World = with_actor u.world me c in
    let e : next_any u.world (made (Begin me op)) ≡ Some w = begin_move u.world me op a f.here none call in (
      record u { world = w },
      traced_moves u (made (Begin me op)) w r e,
      led_twice t u (record u { world = w }) me a b f (subst (Led u (record u { world = w }) me) (ap (λ s. begun s.kind me op a) f.setup ∙ is) (led_one u w me a c f.here refl refl refl)),
      leads_then me 1 1 2 t u (record u { world = w }) (omega arith) by (leads_one u (made (Begin me op)) w me refl e),
    )

rest_led : (t : Traced) (me : ℕ) (op : Op) (a : Actor) (l : Line) → IsTraced t → actor_of t.world me ≡ Some a → a.line ≡ Some l → may_rest l ≡ true
    → is_call op ≡ true → LeadsTo t me (begun t.world.setup.kind me op (rested a))
rest_led t me op a l r at here may call =
    let w : World = with_actor t.world me (rested a) in
    let e : next_any t.world (Rest me) ≡ Some w = rest_move t.world me a l at here may in
    then_begin t (record t { world = w }) me op (rested a) _ (led_one t w me a (rested a) at refl refl refl) (leads_one t (Rest me) w me refl e) (traced_moves t (Rest me) w r e) refl call refl

give_led : (t : Traced) (me : ℕ) (op : Op) (a : Actor) (l : Line) → IsTraced t → actor_of t.world me ≡ Some a → a.line ≡ Some l
    → (gave_up a (gives_up 0 a l)).line ≡ None → is_call op ≡ true → LeadsTo t me (begun t.world.setup.kind me op (gave_up a (gives_up 0 a l)))
give_led t me op a l r at here none call =
    let g = given (t.world.steps + 1) a l here none in
    let e : Option ℕ = Some (entry_or a.entry (length t.world.operations)) in
    let b : Actor = record g.0.actor { entry = e } in
    let w : World = after_outcome t.world me a t.world.shared g.0 in
    let m : next_any t.world (made (Give me)) ≡ Some w = give_move t.world me a l g.0 at here g.1 in
    then_begin t (record t { world = w }) me op b _ (led_one t w me a b at refl refl refl) (leads_one t (made (Give me)) w me refl m)
    (traced_moves t (made (Give me)) w r m)
    (ap (λ c. c.line) g.2 ∙ none) call
    (begun_afresh t.world.setup.kind me op g.0.actor e ∙ ap (begun t.world.setup.kind me op) g.2)

-- before its step an actor goes on, or gives up or rests and begins a call: moves lead there
pub prologue_traced : (t : Traced) (me : ℕ) (a : Actor) (prologue : Prologue) → IsTraced t → actor_of t.world me ≡ Some a → CanStart prologue a
    → LeadsTo t me (after_prologue t.world.setup me prologue a)
prologue_traced t me a continues r at can = (
  t,
  r,
  record { shared = refl; setup = refl; count = refl; paths = refl; history = refl; here = at; others = λ n ne. refl },
  record { moves = []; few = omega arith; alone = All-nil (λ x. made_by x ≡ me); led = refl },
)
prologue_traced t me a (begins op) r at can = go a.line refl can.1
  where
    go : (l : Option Line) → a.line ≡ l → (out_of a l).line ≡ None → LeadsTo t me (begun t.world.setup.kind me op (out_of a l))
    go None e h = begin_led t me op a r at e can.0
    go (Some l) e h = at_line (may_rest l) refl h
      where
        at_line : (b : Bool) → may_rest l ≡ b → (if b then rested a else gave_up a (gives_up 0 a l)).line ≡ None
            → LeadsTo t me (begun t.world.setup.kind me op (if b then rested a else gave_up a (gives_up 0 a l)))
        at_line true f h = rest_led t me op a l r at e f can.0
        at_line false f h = give_led t me op a l r at e h can.0
