-- Courses of the table: what seats know of the run, by the rule in each state, puts all steps in one order.
use Rattle.std.specs.Prelude.{slice_get}
use Rattle.std.proofs.Common.{◌≡◌, ◌⊎◌, inl, inr, ℕ, Option, Some, None, List, [], ◌∷◌, ◌++◌, length, map, set, refl, sym, ap, ◌∙◌, subst, ◌+◌, ◌≤◌, append-nil, append_assoc, length-append, arith}
use Rattle.std.specs.List.{All, AllByRecursion}
use Rattle.std.proofs.lemmas.List.{append_cancel_left, append_cancel_right}
use Rattle.std.proofs.lemmas.Option.{none-some, same_Some}
use mathlib.Core.List.{IsPrefix}
use mathlib.Core.Option.{some}
use Rattle.atomic_table.specs.Table.{State, Me}
use Rattle.atomic_table.proofs.Lists.{at_map}
use Rattle.history.specs.Linearizability.{IsLinearizable}
use Rattle.step_machine.specs.declared.actors.Move.TheVariants.{Step}
use Rattle.step_machine.specs.Words.{memory_words}
use Rattle.line_table.specs.declared.lines.Kind.{Kind}
use Rattle.line_table.specs.declared.lines.Line.TheVariants.{N1, F1}
use Rattle.history.specs.declared.operations.Op.{Op}
use Rattle.history.specs.declared.operations.Op.TheVariants.{Enq, Deq, Shut}
use Rattle.history.specs.declared.operations.Stamped.{Stamped}
use Rattle.line_steps.specs.declared.actors.Setup.{Setup}
use Rattle.line_steps.specs.declared.actors.Held.{Held}
use Rattle.line_steps.specs.Actors.{Actor}
use Rattle.line_steps.specs.Outcomes.{Outcome, with_outcome}
use Rattle.line_steps.specs.Memory.{found}
use Rattle.line_steps.specs.Lines.{action, outcome, with_node, dequeues}
use Rattle.line_steps.specs.Calls.{begun, from_pocket}
use Rattle.step_machine.specs.Stamps.{makers, numbered_by}
use Rattle.step_machine.proofs.EachMove.{Telling, telling, kept_after}
use Rattle.step_machine.proofs.Reached.{some_of}
use Rattle.step_machine.proofs.StampsLaws.{numbers_are_counted}
use Rattle.step_machine.specs.Machine.{World, AnyMove, made, run, opening, new_operation, entry_or, IsReached}
use Rattle.step_machine.proofs.EachHistory.{reached_linearizable}
use Rattle.node_arena.specs.Traces.{Traced, made_by, trace, first_trace, IsTraced}
use Rattle.node_arena.specs.Knowledge.{SeatView, View, seated, knows}
use Rattle.node_arena.specs.Prologues.{at_rest, after_prologue}
use Rattle.node_arena.specs.Plans.{Layout}
use Rattle.node_arena.specs.Rule.{knowing, Fits, IsMember, Holds, line_or_first}
use Rattle.node_arena.specs.Beside.{plain_of}
use Rattle.node_arena.specs.Courses.{ToldStepsAreSteps, IsStep, IsAfter, stepped, quiet, IsCourse, landed, landed_in, worlds_of, Advances, IsEarlier, last_state, WhatEndedComesFirst, TellsItsOperation, EachStepTellsItsOperation, StepsComeInOrder, HasOneWorld, EachStepHasOneWorld, WhatWasSeenIsSeen, AreInOrder, EachCourseIsOfTheMachine}
use Rattle.node_arena.proofs.Tracing.{traced_reached, world-trace}
use Rattle.node_arena.proofs.PrologueTraces.{prefix_then, trace_rest}
use Rattle.node_arena.specs.KnownRuns.{AreTold, GoesOn}
use Rattle.node_arena.proofs.KnownRuns as known_runs
use Rattle.node_arena.proofs.Keeping.{run_to}
use Rattle.node_arena.proofs.Lifts.{map_set}
use Rattle.node_arena.proofs.Later.{trace_before, trace_history}

-- by the rule the views say what each seat knows of the moves
told_of : (z : Layout) (s : State ℕ View) (h : Holds z s) → AreTold knowing s.views h.reached.moves
told_of z s h = record {
  ran = λ v is. h.ran is.0 is.1 is.2 v is.3 is.4;
  apart = λ v w a b e. ap (λ (y : ℕ × ℕ). y.0) (sym (h.owned a.0 a.1 a.2 v a.3 a.4).0 ∙ (ap h.owner e ∙ (h.owned b.0 b.1 b.2 w b.3 b.4).0));
  there = h.there;
}

-- a step goes on with the moves that its seat's actor made with it
abbrev goes_of : (z : Layout) (s t : State ℕ View) → IsStep z s t → GoesOn knowing s.views t.views
goes_of z s t g = record {
  id = g.id;
  before = g.before;
  after = g.after;
  seat = g.seat;
  changed = g.views;
  number = g.told.number;
  others = g.told.runs.others;
  by_others = g.told.runs.by_others;
  sets_out = g.told.runs.sets_out;
  by_own = g.told.runs.by_own;
  last = made (Step g.before.number);
  by_last = refl;
  ran = g.told.runs.ran;
}

-- the step's seat is among the views then
abbrev itself : (z : Layout) (s t : State ℕ View) (g : IsStep z s t) → IsMember t g.after
itself z s t g = known_runs.is_seated knowing s.views t.views (goes_of z s t g)

pub in_order : StepsComeInOrder
in_order z s t h k g v is = known_runs.in_order knowing s.views t.views h.reached.moves k.reached.moves (told_of z s h) (told_of z t k) (goes_of z s t g) v is

-- moves that some seat knows, or none
abbrev Under : State ℕ View → List AnyMove → Type 0
Under s done = (done ≡ []) ⊎ ((v : SeatView) × IsMember s v × IsPrefix done v.ran)

rules : (z : Layout) (s : State ℕ View) (ts : List (State ℕ View)) → IsCourse z s ts → Holds z s
rules z s [] c = c
rules z s (t ∷ ts) c = c.0

abbrev start : Layout → Traced
start z = first_trace z.setup (length z.roles)

-- the moves of the worlds before and after a step, whichever fit
module _ (z : Layout) (s t : State ℕ View) (h : Holds z s) (k : Holds z t) (g : IsStep z s t) where
  abbrev me : ℕ
  me = g.before.number

  abbrev after : List AnyMove
  after = g.after.ran

  abbrev own : List AnyMove
  own = g.told.runs.sets_out ++ made (Step me) ∷ []

  all_known : k.reached.moves ≡ after
  all_known = known_runs.all_known knowing s.views t.views h.reached.moves k.reached.moves (told_of z s h) (told_of z t k) (goes_of z s t g)

  all_own : All (λ m. made_by m ≡ me) own
  all_own = known_runs.all_own knowing s.views t.views (goes_of z s t g)

  goes_by_own : after ≡ h.reached.moves ++ own
  goes_by_own = known_runs.goes_by_own knowing s.views t.views h.reached.moves k.reached.moves (told_of z s h) (told_of z t k) (goes_of z s t g)

  -- the moves before its step, which follow those before
  sets_same : g.before.ran ++ (g.told.runs.others ++ g.told.runs.sets_out) ≡ h.reached.moves ++ g.told.runs.sets_out
  sets_same =
      let r = g.told.runs in
      let step : List AnyMove = made (Step me) ∷ [] in
      append_cancel_right (g.before.ran ++ (r.others ++ r.sets_out)) (h.reached.moves ++ r.sets_out) step
      (append_assoc g.before.ran (r.others ++ r.sets_out) step ∙
      (ap (λ xs. g.before.ran ++ xs) (append_assoc r.others r.sets_out step) ∙
      (sym r.ran ∙ (goes_by_own ∙ sym (append_assoc h.reached.moves r.sets_out step)))))

  one_world : HasOneWorld 2 3 z s t h k g
  one_world =
      let lands : k.trace ≡ landed z s t g = same_Some k.trace (landed z s t g) (sym (run_to z k.reached k.setup k.peopled) ∙ (ap (λ ms. trace ms (start z)) all_known ∙ g.told.runs.led)) in
      record {
        sets_out = record {
          moves = g.told.runs.sets_out;
          few = g.told.runs.few;
          alone = g.told.runs.by_own;
          led = trace_rest h.reached.moves g.told.runs.sets_out (start z) h.trace g.told.was (run_to z h.reached h.setup h.peopled) (ap (λ ms. trace ms (start z)) (sym sets_same) ∙ g.told.runs.sets);
        };
        leads = record {
          moves = own;
          few = omega (arith, g.told.runs.few, length-append g.told.runs.sets_out (made (Step me) ∷ []));
          alone = all_own;
          led = trace_rest h.reached.moves own (start z) h.trace k.trace (run_to z h.reached h.setup h.peopled) (ap (λ ms. trace ms (start z)) (sym goes_by_own ∙ sym all_known) ∙ run_to z k.reached k.setup k.peopled);
        };
        lands = lands;
        words = k.words ∙ ap (λ (t : Traced). memory_words z.setup.bits t.world.shared) lands;
      }

-- what was seen before is a beginning of each later history
pub seen_in_order : WhatWasSeenIsSeen
seen_in_order z s t h k g v sees is =
    let o = one_world z s t h k g in
    let f : Fits h.trace v = h.fits is.0 is.1 is.2 v is.3 is.4 in
    let more = trace_history o.leads.moves h.trace k.trace o.leads.led in
    let all : g.after.seen ≡ k.trace.history = g.told.whole sees ∙ ap (λ (x : Traced). x.history) (sym o.lands) in
    (f.rest ++ more.0, sym (all ∙ (more.1 ∙ (ap (λ es. es ++ more.0) f.begins ∙ append_assoc v.seen f.rest more.0))))

-- who takes numbers in moves, one list after another
makers_append : (xs ys : List AnyMove) → makers (xs ++ ys) ≡ makers xs ++ makers ys
makers_append [] ys = refl
makers_append (x ∷ xs) ys = ap (λ l. numbered_by x ++ l) (makers_append xs ys) ∙ sym (append_assoc (numbered_by x) (makers xs) (makers ys))

-- the step takes one
further : (z : Layout) (s t : State ℕ View) (h : Holds z s) (k : Holds z t) (g : IsStep z s t) (done more : List AnyMove) → IsPrefix done h.reached.moves → done ++ more ≡ g.after.ran → 1 ≤ length (makers more)
further z s t h k g done more p e =
    let sets : List AnyMove = g.told.runs.sets_out in
    let mine : List AnyMove = sets ++ made (Step g.before.number) ∷ [] in
    let same : more ≡ p.0 ++ mine = append_cancel_left done more (p.0 ++ mine) (e ∙ (goes_by_own z s t h k g ∙ (ap (λ xs. xs ++ mine) (sym p.1) ∙ append_assoc done p.0 mine))) in
    omega (
      arith,
      ap (λ xs. length (makers xs)) same,
      ap length (makers_append p.0 mine),
      length-append (makers p.0) (makers mine),
      ap length (makers_append sets (made (Step g.before.number) ∷ [])),
      length-append (makers sets) (g.before.number ∷ []),
    )

-- what some seat knows begins the moves of each world that fits
in_moves : (z : Layout) (s : State ℕ View) (h : Holds z s) (done : List AnyMove) (v : SeatView) → IsMember s v → IsPrefix done v.ran → IsPrefix done h.reached.moves
in_moves z s h done v is p = let r = h.ran is.0 is.1 is.2 v is.3 is.4 in prefix_then done v.ran h.reached.moves p (r.rest, sym r.begins)

-- a world has as many numbers as the moves to it
counted : (ms : List AnyMove) (y : Setup) (n : ℕ) (t : Traced) → trace ms (first_trace y n) ≡ Some t → t.world.steps ≡ length (makers ms)
counted ms y n t e = some_of (λ w. w.steps ≡ length (makers ms)) (run ms (opening y n)) t.world (world-trace ms (first_trace y n) t e) (numbers_are_counted y n ms)

-- so worlds on one list follow each other
earlier : (y : Setup) (n : ℕ) (done more : List AnyMove) (t u : Traced) → IsTraced t → trace done (first_trace y n) ≡ Some t → trace (done ++ more) (first_trace y n) ≡ Some u → 1 ≤ length (makers more) → IsEarlier t u
earlier y n done more t u r led on one_more = record {
  before = trace_before more t u r (trace_rest done more (first_trace y n) t u led on);
  fewer = omega (arith, counted done y n t led, counted (done ++ more) y n u on, ap length (makers_append done more), length-append (makers done) (makers more), one_more);
}

pub has_one_world : EachStepHasOneWorld 2 3
has_one_world z s t h k g = one_world z s t h k g

-- one change of a course
one : (z : Layout) (s t : State ℕ View) → Holds z s → Holds z t → (ts : List (State ℕ View)) (c : IsCourse z t ts) (done : List AnyMove) → Under s done → (x : IsAfter z s t)
    → ((more : List AnyMove) → Under t more → Advances (start z) more (worlds_of z t ts c)) → Advances (start z) done (landed_in z s t x ++ worlds_of z t ts c)
one z s t h k ts c done under (quiet q) each = each done (still_under under)
  where
    still_under : Under s done → Under t done
    still_under (inl e) = inl e
    still_under (inr y) = let w = q.kept y.0 y.1 in inr (w.0, w.1, prefix_then done y.0.ran w.0.ran y.2 w.3)
one z s t h k ts c done under (stepped g) each =
    let p : IsPrefix done g.after.ran = begins under in (
      p.0,
      subst (λ ms. trace ms (start z) ≡ Some (landed z s t g)) (sym p.1) g.told.runs.led,
      further z s t h k g done p.0 (known under) p.1,
      each (done ++ p.0) (inr (g.after, itself z s t g, ([], append-nil (done ++ p.0) ∙ p.1))),
    )
  where
    begins : Under s done → IsPrefix done g.after.ran
    begins (inl e) = (g.after.ran, ap (λ d. d ++ g.after.ran) e)
    begins (inr y) = prefix_then done y.0.ran g.after.ran y.2 (in_order z s t h k g y.0 y.1)

    known : Under s done → IsPrefix done h.reached.moves
    known (inl e) = (h.reached.moves, ap (λ d. d ++ h.reached.moves) e)
    known (inr y) = in_moves z s h done y.0 y.1 y.2

through : (z : Layout) (s : State ℕ View) (ts : List (State ℕ View)) (c : IsCourse z s ts) (done : List AnyMove) → Under s done → Advances (start z) done (worlds_of z s ts c)
through z s [] c done under = tt
through z s (t ∷ ts) c done under = one z s t c.0 (rules z t ts c.2) ts c.2 done under c.1 (λ more on. through z t ts c.2 more on)

later : (y : Setup) (n : ℕ) (done more : List AnyMove) (t : Traced) (ts : List Traced) → trace done (first_trace y n) ≡ Some t → IsTraced t → Advances (first_trace y n) (done ++ more) ts → AllByRecursion (IsEarlier t) ts
later y n done more t [] led r g = tt
later y n done more t (u ∷ us) led r g =
    let same : (done ++ more) ++ g.0 ≡ done ++ (more ++ g.0) = append_assoc done more g.0 in (
      earlier y n done (more ++ g.0) t u r led (subst (λ ms. trace ms (first_trace y n) ≡ Some u) same g.1)
          (omega (arith, g.2, ap length (makers_append more g.0), length-append (makers more) (makers g.0))),
      later y n done (more ++ g.0) t us led r (subst (λ ms. Advances (first_trace y n) ms us) same g.3),
    )

ordered : (y : Setup) (n : ℕ) (done : List AnyMove) (ts : List Traced) → Advances (first_trace y n) done ts → AllByRecursion IsTraced ts → AreInOrder ts
ordered y n done [] g r = tt
ordered y n done (t ∷ ts) g r = (
  later y n (done ++ g.0) [] t ts g.1 r.0 (subst (λ ms. Advances (first_trace y n) ms ts) (sym (append-nil (done ++ g.0))) g.3),
  ordered y n (done ++ g.0) ts g.3 r.1,
)

traced_one : (z : Layout) (s t : State ℕ View) (x : IsAfter z s t) (us : List Traced) → AllByRecursion IsTraced us → AllByRecursion IsTraced (landed_in z s t x ++ us)
traced_one z s t (stepped g) us all = (g.told.reaches, all)
traced_one z s t (quiet q) us all = all

traced : (z : Layout) (s : State ℕ View) (ts : List (State ℕ View)) (c : IsCourse z s ts) → AllByRecursion IsTraced (worlds_of z s ts c)
traced z s [] c = tt
traced z s (t ∷ ts) c = traced_one z s t c.1 (worlds_of z t ts c.2) (traced z t ts c.2)

linearizable : (us : List Traced) → AllByRecursion IsTraced us → AllByRecursion (λ t. IsLinearizable t.world.operations) us
linearizable [] all = tt
linearizable (u ∷ us) all = (reached_linearizable u.world (traced_reached u all.0), linearizable us all.1)

pub each_course : EachCourseIsOfTheMachine
each_course z s ts c =
    let g = through z s ts c [] (inl refl) in
    let all = traced z s ts c in
    record { through = g; ordered = ordered z.setup (length z.roles) [] (worlds_of z s ts c) g all; linearizable = linearizable (worlds_of z s ts c) all }

-- what a seat knows stays known along a course
known_on : (z : Layout) (s : State ℕ View) (ts : List (State ℕ View)) → IsCourse z s ts → (done : List AnyMove) (v : SeatView) → IsMember s v → IsPrefix done v.ran
    → (h : Holds z (last_state s ts)) × ((w : SeatView) × IsMember (last_state s ts) w × IsPrefix done w.ran)
known_on z s [] c done v is p = (c, (v, is, p))
known_on z s (t ∷ ts) c done v is p = go c.1 (λ w there q. known_on z t ts c.2 done w there q)
  where
    go : IsAfter z s t → ((w : SeatView) → IsMember t w → IsPrefix done w.ran → (h : Holds z (last_state t ts)) × ((w : SeatView) × IsMember (last_state t ts) w × IsPrefix done w.ran))
        → (h : Holds z (last_state t ts)) × ((w : SeatView) × IsMember (last_state t ts) w × IsPrefix done w.ran)
    go (stepped g) each = each g.after (itself z s t g) (prefix_then done v.ran g.after.ran p (in_order z s t c.0 (rules z t ts c.2) g v is))
    go (quiet q) each = let w = q.kept v is in each w.0 w.1 (prefix_then done v.ran w.0.ran p w.3)

pub ended_first : WhatEndedComesFirst
ended_first z s t a ts u b i o c k got ended =
    let n = last_state t ts in
    let is : IsMember t a.after = itself z s t a in
    let on = known_on z t ts c a.after.ran a.after is ([], append-nil a.after.ran) in
    let q : IsPrefix a.after.ran on.0.reached.moves = in_moves z n on.0 a.after.ran on.1.0 on.1.1 on.1.2 in
    let p : IsPrefix a.after.ran b.after.ran = prefix_then a.after.ran on.1.0.ran b.after.ran on.1.2 (in_order z n u on.0 k b on.1.0 on.1.1) in
    let e : IsEarlier (landed z s t a) (landed z n u b) =
    earlier z.setup (length z.roles) a.after.ran p.0 (landed z s t a) (landed z n u b) a.told.reaches a.told.runs.led (subst (λ ms. trace ms (start z) ≡ Some (landed z n u b)) (sym p.1) b.told.runs.led)
    (further z n u on.0 k b a.after.ran p.0 q p.1) in (
      stands_so e,
      λ j r there first. (e.before.order i j o r got ended there (omega (arith, e.fewer, first))).1,
    )
  where
    stands_so : IsEarlier (landed z s t a) (landed z (last_state t ts) u b) → slice_get (landed z (last_state t ts) u b).world.operations i ≡ Some o
    stands_so e = let on = e.before.past.stays i o got in on.1 ∙ ap (λ x. Some x) (on.2.ended ended)

-- a call that begins has no operation yet
begun_new : (kind : Kind) (me : ℕ) (op : Op) (a : Actor) → ((begun kind me op a).entry ≡ None) × ((begun kind me op a).op ≡ op)
begun_new kind who (Enq body) a = go a.pocket
  where
    go : (p : Option Held) → ((from_pocket (with_node kind) p (record a { line = Some N1; op = Enq body; val = record { from = who; body = body }; due = None; entry = None })).entry ≡ None)
        × ((from_pocket (with_node kind) p (record a { line = Some N1; op = Enq body; val = record { from = who; body = body }; due = None; entry = None })).op ≡ Enq body)
    go None = (refl, refl)
    go (Some held) = (refl, refl)
begun_new kind who Deq a = go a.pocket
  where
    go : (p : Option Held) → ((from_pocket F1 p (record a { line = Some (dequeues kind); op = Deq; due = None; entry = None })).entry ≡ None)
        × ((from_pocket F1 p (record a { line = Some (dequeues kind); op = Deq; due = None; entry = None })).op ≡ Deq)
    go None = (refl, refl)
    go (Some held) = (refl, refl)
begun_new kind who Shut a = (refl, refl)

module _ (z : Layout) (s t : State ℕ View) (g : IsStep z s t) where
  abbrev w : World
  w = g.told.was.world

  abbrev a : Actor
  a = after_prologue z.setup g.before.number g.prologue g.before.actor

  abbrev out : Outcome
  out = outcome w.setup (w.steps + 1) g.before.number a g.line (found (action w.setup g.before.number a g.line) w.shared)

  r : IsReached w
  r = traced_reached g.told.was g.told.reached

  abbrev Tells : Type 0
  Tells = Telling (makers r.moves) w g.before.number a g.line out (landed z s t g).world.operations

  it : Tells
  it = telling (makers r.moves) w g.before.number a g.line out (kept_after w.setup r.actors r.moves w r.led) g.told.before g.told.line

  new_one : (k : Tells) (op : Op) → (a.entry ≡ None) × (a.op ≡ op) → (k.was.op ≡ op) × (k.was.first ≡ w.steps + 1)
  new_one k op b = go k.from
    where
      go : ((a.entry ≡ None) × (k.place ≡ length w.operations) × (k.was ≡ new_operation g.before.number a.op (w.steps + 1))) ⊎ ((a.entry ≡ Some k.place) × (slice_get w.operations k.place ≡ Some k.was))
          → (k.was.op ≡ op) × (k.was.first ≡ w.steps + 1)
      go (inl y) = (ap (λ (x : Stamped). x.op) y.2 ∙ b.1, ap (λ (x : Stamped). x.first) y.2)
      go (inr y) = absurd (none-some k.place (sym b.0 ∙ y.0))

  its_place : (k : Tells) → entry_or a.entry (length w.operations) ≡ k.place
  its_place k = go k.from
    where
      go : ((a.entry ≡ None) × (k.place ≡ length w.operations) × (k.was ≡ new_operation g.before.number a.op (w.steps + 1))) ⊎ ((a.entry ≡ Some k.place) × (slice_get w.operations k.place ≡ Some k.was))
          → entry_or a.entry (length w.operations) ≡ k.place
      go (inl y) = ap (λ e. entry_or e (length w.operations)) y.0 ∙ sym y.1
      go (inr y) = ap (λ e. entry_or e (length w.operations)) y.0

  same_place : (k : Tells) (e : ℕ) → a.entry ≡ Some e → k.place ≡ e
  same_place k e at = go k.from
    where
      go : ((a.entry ≡ None) × (k.place ≡ length w.operations) × (k.was ≡ new_operation g.before.number a.op (w.steps + 1))) ⊎ ((a.entry ≡ Some k.place) × (slice_get w.operations k.place ≡ Some k.was))
          → k.place ≡ e
      go (inl y) = absurd (none-some e (sym y.0 ∙ at))
      go (inr y) = same_Some k.place e (sym y.0 ∙ at)

  tells : Tells → TellsItsOperation 1 z s t g
  tells k = record {
    number = refl;
    place = k.place;
    operation = with_outcome (w.steps + 1) out k.was;
    there = k.put.here;
    actor = k.own;
    last = refl;
    reply = refl;
    entry = ap (λ (x : Actor). x.entry) g.told.actor ∙ ap (λ n. Some n) (its_place k);
    goes_on = λ e at. same_place k e at;
    new = λ op e. new_one k op (subst (λ (x : Actor). (x.entry ≡ None) × (x.op ≡ op)) (ap (λ p. after_prologue z.setup g.before.number p g.before.actor) (sym e)) (begun_new z.setup.kind g.before.number op (at_rest g.before.actor)));
  }

pub tells_operation : EachStepTellsItsOperation 1
tells_operation z s t g = tells z s t g (it z s t g)

-- the steps that a table with slots tells of are steps
abbrev pub told_steps : {T : Type 0} → ToldStepsAreSteps T
told_steps z s s' id prologue n me me' at views is told =
    let now : me'.0.plain ≡ seated (knows me'.0.plain) = ap (λ (y : Me ℕ View). y.0) told.0.0 in
    record {
      id = id;
      before = knows me.0.plain;
      after = knows me'.0.plain;
      prologue = prologue;
      line = line_or_first (after_prologue z.setup (knows me.0.plain).number prologue (knows me.0.plain).actor).line;
      found = n;
      seat = at_map plain_of s.views id me.0 at ∙ ap some is;
      views = ap (map plain_of) views ∙ (map_set plain_of s.views id me'.0 ∙ ap (set (map plain_of s.views) id) now);
      told = told.0.1;
    }
