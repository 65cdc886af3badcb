-- Courses of a ring's table: what seats know of the run, by the rule in each state, puts all steps in one order.
use Rattle.std.proofs.Common.{◌≡◌, ℕ, ◌+◌, ◌^◌, List, [], ◌∷◌, ◌++◌, map, set, refl, sym, ap, ◌∙◌, subst, append-nil, append_assoc, length-append, arith, nat_eq}
use Rattle.std.specs.List.{AllByRecursion}
use Rattle.std.proofs.lemmas.List.{append_cancel_left}
use Rattle.std.proofs.lemmas.List.Elements.{All-nil, filter-append}
use mathlib.Core.List.{IsPrefix}
use mathlib.Core.Option.{some}
use mathlib.Core.Bool.{true≢false}
use mathlib.Core.Logic.{dite}
use native.Mathlib.Decide.{dec_le}
use Rattle.atomic_table.specs.Table.{State}
use Rattle.atomic_table.proofs.Lists.{at_map, set_again}
use Rattle.history.specs.declared.operations.Entry.{Entry}
use Rattle.history.specs.Entries.{seat_of, own_entries, IsQueueRun}
use Rattle.node_arena.specs.KnownRuns.{Keeps, AreTold, GoesOn}
use Rattle.node_arena.proofs.KnownRuns.{prefix_same, prefix_then, in_order, all_known, goes_by_own}
use Rattle.node_arena.proofs.KnownRuns as known_runs
use Rattle.node_arena.proofs.Lifts.{map_set}
use Rattle.ring_queue.specs.Plans.{Layout}
use Rattle.ring_queue.specs.Paths.{C4, Step, Ran, RunsOn, writing, added_by}
use Rattle.ring_queue.specs.Knowledge.{SeatView, View, gathered, keeper, seated, paired, spent, new_seat, knowing, knows}
use Rattle.ring_queue.specs.Rule.{SeatOk, Holds}
use Rattle.ring_queue.specs.Steps.{PlaceFilled, PlacesClaimed, FrontsTaken, ShutMade}
use Rattle.ring_queue.specs.Beside.{plain_of}
use Rattle.ring_queue.specs.Courses.{Goes, IsStep, IsAfter, stepped, quiet, IsCourse, last_state, IsMember, EachStepAddsItsAccess, StepsComeInOrder}
use Rattle.ring_queue.specs.Courses.{WhatWasSeenIsSeen, told_in, runs_of, IsEarlier, AreInOrder, EachCourseIsOfOneRun, WhatWasDoneComesFirst, EachLineTells, ToldStepsAreSteps, OtherChangesAreQuiet}
use Rattle.ring_queue.proofs.Tables.{added_more}
use Rattle.ring_queue.proofs.Puts.{same_or_not}

-- by the rule the views say what each seat knows of the run
told_of : (z : Layout) (s : State ℕ View) (h : Holds z s) → AreTold knowing s.views h.run.trace
told_of z s h = record {
  ran = λ v is. subst (λ (u : SeatView). Ran h.run.trace v.number u.ran) (h.fits is.0 is.1 is.2 v is.3 is.4) (h.run.ran v.number);
  apart = λ v w a b e. ap (λ (y : ℕ × ℕ). y.0) (sym (h.owned a.0 a.1 a.2 v a.3 a.4).0 ∙ (ap h.owner e ∙ (h.owned b.0 b.1 b.2 w b.3 b.4).0));
  there = h.there;
}

-- the access of a step
abbrev its_access : (z : Layout) (s t : State ℕ View) → IsStep z s t → Step
its_access z s t g = record { by = g.before.number; event = g.told.event }

-- a step goes on with it
abbrev goes_of : (z : Layout) (s t : State ℕ View) → IsStep z s t → GoesOn knowing s.views t.views
goes_of z s t g =
    let r = g.told.went.0 in
    record {
      id = g.id;
      before = g.before;
      after = g.after;
      seat = g.seat;
      changed = g.views;
      number = g.told.number;
      others = r.knew.rest;
      by_others = r.knew.others;
      sets_out = [];
      by_own = All-nil (λ (e : Step). e.by ≡ g.before.number);
      last = its_access z s t g;
      by_last = refl;
      ran = r.ends ∙ (ap (λ es. es ++ its_access z s t g ∷ []) r.knew.begins ∙ append_assoc g.before.ran r.knew.rest (its_access z s t g ∷ []));
    }

-- the own entries of one list after another
own_append : (n : ℕ) (xs ys : List Entry) → own_entries n (xs ++ ys) ≡ own_entries n xs ++ own_entries n ys
own_append n xs ys = filter-append (λ x. nat_eq (seat_of x) n) xs ys

-- a seat fits the history of the rule
its_fit : (z : Layout) (s : State ℕ View) (h : Holds z s) (v : SeatView) → IsMember s v → SeatOk z h.ring.head h.ring.tail h.ring.log h.ring.cells h.ring.history v.number v
its_fit z s h v is = subst (SeatOk z h.ring.head h.ring.tail h.ring.log h.ring.cells h.ring.history v.number) (h.fits is.0 is.1 is.2 v is.3 is.4) (h.ring.each_seat v.number)

-- the step's seat is among the views before and after
was_member : (z : Layout) (s t : State ℕ View) (g : IsStep z s t) → IsMember s g.before
was_member z s t g = known_runs.was_seated knowing s.views t.views (goes_of z s t g)

is_member : (z : Layout) (s t : State ℕ View) (g : IsStep z s t) → IsMember t g.after
is_member z s t g = known_runs.is_seated knowing s.views t.views (goes_of z s t g)

pub adds_its : EachStepAddsItsAccess
adds_its z s t h k g =
    let e : Step = its_access z s t g in
    let known : k.run.trace ≡ g.after.ran = all_known knowing s.views t.views h.run.trace k.run.trace (told_of z s h) (told_of z t k) (goes_of z s t g) in
    let run : k.run.trace ≡ h.run.trace ++ e ∷ [] = known ∙ goes_by_own knowing s.views t.views h.run.trace k.run.trace (told_of z s h) (told_of z t k) (goes_of z s t g) in
    let history : k.ring.history ≡ h.ring.history ++ g.told.event.adds = k.run.adds ∙ (ap added_by run ∙ (added_more h.run.trace e ∙ ap (λ es. es ++ g.told.event.adds) (sym h.run.adds))) in
    let n : ℕ = g.before.number in
    let before : own_entries n h.ring.history ≡ g.before.mine = (its_fit z s h g.before (was_member z s t g)).own in
    let after : own_entries n k.ring.history ≡ g.after.mine = subst (λ m. own_entries m k.ring.history ≡ g.after.mine) g.told.number (its_fit z t k g.after (is_member z s t g)).own in
    record {
      run = run;
      known = sym known;
      history = history;
      own = append_cancel_left g.before.mine (own_entries n g.told.event.adds) g.told.event.adds
          (ap (λ es. es ++ own_entries n g.told.event.adds) (sym before) ∙ (sym (own_append n h.ring.history g.told.event.adds)
          ∙ (ap (own_entries n) (sym history) ∙ (after ∙ g.told.went.1))));
      mine = after;
    }

pub steps_in_order : StepsComeInOrder
steps_in_order z s t h k g v is = in_order knowing s.views t.views h.run.trace k.run.trace (told_of z s h) (told_of z t k) (goes_of z s t g) v is

-- what took its effect with a beginning of a run begins what took its effect with it
added_append : (xs ys : List Step) → added_by (xs ++ ys) ≡ added_by xs ++ added_by ys
added_append [] ys = refl
added_append (x ∷ xs) ys = ap (λ es. x.event.adds ++ es) (added_append xs ys) ∙ sym (append_assoc x.event.adds (added_by xs) (added_by ys))

pub seen_in_order : WhatWasSeenIsSeen
seen_in_order z s t h k g v saw is =
    let a = adds_its z s t h k g in
    let f = its_fit z s h v is in
    let all : g.after.seen ≡ h.ring.history ++ g.told.event.adds = g.told.went.3 saw ∙ (ap added_by a.known ∙ (sym k.run.adds ∙ a.history)) in
    (f.rest ++ g.told.event.adds, sym (all ∙ (ap (λ es. es ++ g.told.event.adds) f.begins ∙ append_assoc v.seen f.rest g.told.event.adds)))

rules : (z : Layout) (s : State ℕ View) (ts : List (State ℕ View)) → IsCourse z s ts → Holds z s
rules z s [] c = c
rules z s (t ∷ ts) c = c.0

-- what a seat knows of the run, some seat knows at the end of a course
known_on : (z : Layout) (s : State ℕ View) (ts : List (State ℕ View)) → IsCourse z s ts → (done : List Step) (v : SeatView) → IsMember s v → IsPrefix done v.ran
    → Holds z (last_state s ts) × ((w : SeatView) × IsMember (last_state s ts) w × IsPrefix done w.ran)
known_on z s [] c done v is p = (c, (v, is, p))
known_on z s (t ∷ ts) c done v is p = go c.1 (λ w there q. known_on z t ts c.2 done w there q)
  where
    go : IsAfter z s t → ((w : SeatView) → IsMember t w → IsPrefix done w.ran → Holds z (last_state t ts) × ((w : SeatView) × IsMember (last_state t ts) w × IsPrefix done w.ran))
        → Holds z (last_state t ts) × ((w : SeatView) × IsMember (last_state t ts) w × IsPrefix done w.ran)
    go (stepped g) each = each g.after (is_member z s t g) (prefix_then done v.ran g.after.ran p (steps_in_order z s t c.0 (rules z t ts c.2) g v is))
    go (quiet q) each = let w = q.kept v is in each w.0 w.1 (prefix_then done v.ran w.0.ran p w.3)

-- a seat of a state knows a beginning of its run
in_run : (z : Layout) (s : State ℕ View) (h : Holds z s) (done : List Step) (v : SeatView) → IsMember s v → IsPrefix done v.ran → IsPrefix done h.run.trace
in_run z s h done v is p = let r = (told_of z s h).ran v is in prefix_then done v.ran h.run.trace p (r.rest, sym r.begins)

pub done_first : WhatWasDoneComesFirst
done_first z s t a ts u b h c k =
    let n = last_state t ts in
    let on = known_on z t ts c a.after.ran a.after (is_member z s t a) (prefix_same a.after.ran) in
    let p : IsPrefix a.after.ran on.0.run.trace = in_run z n on.0 a.after.ran on.1.0 on.1.1 on.1.2 in
    let adds = adds_its z n u on.0 k b in
    let e : Step = its_access z n u b in
    let run : b.after.ran ≡ (a.after.ran ++ p.0) ++ e ∷ [] = adds.known ∙ (adds.run ∙ ap (λ es. es ++ e ∷ []) (sym p.1)) in
    let history : added_by b.after.ran ≡ (added_by a.after.ran ++ added_by p.0) ++ b.told.event.adds =
    ap added_by run ∙ (added_more (a.after.ran ++ p.0) e ∙ ap (λ es. es ++ b.told.event.adds) (added_append a.after.ran p.0)) in
    record {
      between = p.0;
      run = run;
      history = history;
      seen = λ saw.
          let r = rules z t ts c in
          let f = its_fit z t r a.after (is_member z s t a) in
          let all : added_by a.after.ran ≡ a.after.seen ++ f.rest = ap added_by (adds_its z s t h r a).known ∙ (sym r.run.adds ∙ f.begins) in
          let more : List Entry = added_by p.0 ++ b.told.event.adds in (
            f.rest ++ more,
            sym (b.told.went.3 saw ∙ (history ∙ (append_assoc (added_by a.after.ran) (added_by p.0) b.told.event.adds ∙ (ap (λ es. es ++ more) all ∙ append_assoc a.after.seen f.rest more)))),
          );
    }

-- a run of which the steps of a course tell, or that was known before, goes on to those that later steps tell of
later : (z : Layout) (s : State ℕ View) (ts : List (State ℕ View)) (c : IsCourse z s ts) (done : List Step) (v : SeatView) → IsMember s v → IsPrefix done v.ran
    → AllByRecursion (IsEarlier done) (runs_of z s ts c)
later z s [] c done v is p = tt
later z s (t ∷ ts) c done v is p = go c.1 (λ w there q. later z t ts c.2 done w there q)
  where
    go : (x : IsAfter z s t) → ((w : SeatView) → IsMember t w → IsPrefix done w.ran → AllByRecursion (IsEarlier done) (runs_of z t ts c.2))
        → AllByRecursion (IsEarlier done) (told_in z s t x ++ runs_of z t ts c.2)
    go (quiet q) each = let w = q.kept v is in each w.0 w.1 (prefix_then done v.ran w.0.ran p w.3)
    go (stepped g) each =
        let h = c.0 in
        let a = adds_its z s t h (rules z t ts c.2) g in
        let i = in_run z s h done v is p in
        let e : Step = its_access z s t g in
        let q : g.after.ran ≡ done ++ (i.0 ++ e ∷ []) = a.known ∙ (a.run ∙ (ap (λ es. es ++ e ∷ []) (sym i.1) ∙ append_assoc done i.0 (e ∷ []))) in (
          record { more = i.0 ++ e ∷ []; goes_on = q; some = omega (arith, length-append i.0 (e ∷ [])) },
          each g.after (is_member z s t g) (i.0 ++ e ∷ [], sym q),
        )

ordered : (z : Layout) (s : State ℕ View) (ts : List (State ℕ View)) (c : IsCourse z s ts) → AreInOrder (runs_of z s ts c)
ordered z s [] c = tt
ordered z s (t ∷ ts) c = go c.1 (ordered z t ts c.2)
  where
    go : (x : IsAfter z s t) → AreInOrder (runs_of z t ts c.2) → AreInOrder (told_in z s t x ++ runs_of z t ts c.2)
    go (quiet q) rest = rest
    go (stepped g) rest = (later z t ts c.2 g.after.ran g.after (is_member z s t g) (prefix_same g.after.ran), rest)

legal : (z : Layout) (s : State ℕ View) (ts : List (State ℕ View)) (c : IsCourse z s ts) → AllByRecursion (λ run. IsQueueRun (added_by run)) (runs_of z s ts c)
legal z s [] c = tt
legal z s (t ∷ ts) c = go c.1 (legal z t ts c.2)
  where
    go : (x : IsAfter z s t) → AllByRecursion (λ run. IsQueueRun (added_by run)) (runs_of z t ts c.2) → AllByRecursion (λ run. IsQueueRun (added_by run)) (told_in z s t x ++ runs_of z t ts c.2)
    go (quiet q) rest = rest
    go (stepped g) rest =
        let k = rules z t ts c.2 in
        let a = adds_its z s t c.0 k g in
        (subst IsQueueRun (k.run.adds ∙ ap added_by (sym a.known)) (record { values = k.ring.values; shut = k.ring.shut }, k.ring.leads), rest)

pub each_course : EachCourseIsOfOneRun
each_course z s ts c = record { ordered = ordered z s ts c; legal = legal z s ts c }

claimed_goes : (z : Layout) (bodies : List ℕ) (v : SeatView) (n : ℕ) (v' : SeatView) → PlacesClaimed z bodies v n v' → Goes z v v'
claimed_goes z bodies v n v' k = same_or_not n v.tail
    (λ same. record { event = _; number = k.learns.number; went = k.went_won same })
    (λ ne. record { event = _; number = k.learns.number; went = k.went_lost ne })

taken_goes : (z : Layout) (ws : List ℕ) (v : SeatView) (n : ℕ) (v' : SeatView) → FrontsTaken z ws v n v' → Goes z v v'
taken_goes z ws v n v' k = same_or_not n v.head
    (λ same. record { event = _; number = k.learns.number; went = k.went_won same })
    (λ ne. record { event = _; number = k.learns.number; went = k.went_lost ne })

shut_goes : (z : Layout) (v : SeatView) (n : ℕ) (v' : SeatView) → ShutMade z v n v' → Goes z v v'
shut_goes z v n v' k = dite (dec_le (2 ^ 62) n)
    (λ shut. record { event = _; number = k.learns.number; went = k.went_shut shut })
    (λ no. record { event = _; number = k.learns.number; went = k.went_open (omega (arith, no)) })

filled_goes : (z : Layout) (i w : ℕ) (v : SeatView) (n : ℕ) (v' : SeatView) → PlaceFilled z i w v n v' → Goes z v v'
filled_goes z i w v n v' k = record {
  event = writing C4 i n w [];
  number = ap (λ (u : SeatView). u.number) k.1;
  went = (
    subst (λ (ran : List Step). RunsOn v.number v.ran (writing C4 i n w []) ran) (ap (λ (u : SeatView). u.ran) (sym k.1)) k.2,
    ap (λ (u : SeatView). u.mine) k.1 ∙ sym (append-nil v.mine),
    k.3,
    λ e. absurd (true≢false (sym e)),
  );
}

pub line_tells : EachLineTells
line_tells = record {
  tail_found = λ z v n v' k. record { event = _; number = k.learns.number; went = k.went };
  tail_seen = λ z v n v' k. record { event = _; number = k.learns.number; went = k.went };
  head_found = λ z v n v' k. record { event = _; number = k.learns.number; went = k.went };
  claimed = claimed_goes;
  filled = λ z i w v n v' k. filled_goes z i w v k.0 v' k.1;
  front_found = λ z v n v' k. record { event = _; number = k.learns.number; went = k.went };
  next_found = λ z ws v n v' k. record { event = _; number = k.learns.number; went = k.went };
  taken = taken_goes;
  end_found = λ z v n v' k. record { event = _; number = k.learns.number; went = k.went };
  shut = shut_goes;
}

-- the steps that a table with slots tells of are steps
abbrev pub told_steps : {T : Type 0} → ToldStepsAreSteps T
told_steps z s s' id me me' at views is is' told = record {
  id = id;
  before = knows me.0.plain;
  after = knows me'.0.plain;
  seat = at_map plain_of s.views id me.0 at ∙ ap some is;
  views = ap (map plain_of) views ∙ (map_set plain_of s.views id me'.0 ∙ ap (set (map plain_of s.views) id) is');
  told = told;
}

pub all_quiet : OtherChangesAreQuiet
all_quiet = record {
  pairs = λ views id other v w at ne there. known_runs.pairs knowing views id other v w (paired v w) spent at ne there refl;
  parts = λ views id v w at. known_runs.parts knowing views id v w (paired v w) at refl;
  spares = λ views id v at. subst (λ (vs : List View). Keeps knowing views (vs ++ spent ∷ [])) (sym (set_again views id (seated v) at)) (known_runs.comes knowing views spent);
  deals = λ views id m n at. known_runs.deals knowing views id (keeper m n) (keeper m (n + 1)) (seated (new_seat m n)) at refl;
  comes = λ views. known_runs.comes knowing views (gathered []);
  gathers = λ views id other vs w at ne there. known_runs.gathers knowing views id other (gathered vs) (gathered (vs ++ w ∷ [])) spent w at ne there refl;
  meets = λ views id v w es run at r q. known_runs.meets knowing views id v w (record v { seen = es; ran = run }) (record w { seen = es; ran = run })
      (paired v w) (paired (record v { seen = es; ran = run }) (record w { seen = es; ran = run })) at refl refl refl (r.rest, sym r.begins) refl (q.rest, sym q.begins);
}
