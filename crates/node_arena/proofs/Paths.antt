-- The lines of a call, one after another: what they add to a seat's path, and what its last step tells.
use Rattle.std.proofs.Common.{◌≡◌, ℕ, ◌+◌, ◌≤◌, Bool, true, false, Option, List, [], ◌∷◌, ◌++◌, length, drop, sym, refl, ap, ◌∙◌, subst, append-nil, append_assoc, length-append, arith, Some}
use Rattle.std.proofs.lemmas.List.Sums.{sum_by-append}
use Rattle.std.proofs.Math.Seq.{drop-append_seam}
use mathlib.Core.List.{IsPrefix}
use Rattle.line_table.specs.declared.lines.Line.{Line}
use Rattle.history.specs.declared.operations.Entry.{Entry}
use Rattle.history.specs.declared.operations.Reply.TheVariants.{Refused}
use Rattle.history.specs.declared.refusals.Refusal.{Refusal}
use Rattle.history.specs.declared.refusals.Refusal.TheVariants.{Closed}
use Rattle.history.specs.Answers.{SeesMore}
use Rattle.history.specs.Entries.{Leads}
use Rattle.history.proofs.Learning.{adds_then, push_refused_then, pop_refused_then}
use Rattle.step_machine.specs.declared.actors.Move.TheVariants.{Step}
use Rattle.step_machine.specs.Machine.{AnyMove, made}
use Rattle.node_arena.specs.Machine.{Held, Actor, Outcome, World, actor_of, entry_or, action, found}
use Rattle.node_arena.specs.Traces.{Event, Traced, entries_at, event_at, outcome_at, sees, step_at}
use Rattle.node_arena.specs.Prologues.{Prologue, continues, after_prologue}
use Rattle.node_arena.specs.Knowledge.{SeatView, known_by}
use Rattle.node_arena.specs.Arenas.{Arena}
use Rattle.node_arena.specs.declared.seats.Seat.{Seat}
use Rattle.node_arena.specs.Rule.{notes_of, SaysOfSeen, FoundClosedAt}
use Rattle.node_arena.specs.Seats.{IsSeat, IsBefore, KeepsStored, KeepsSlots, DidStep, deeds_of, view, keeping}
use Rattle.node_arena.specs.Beside.{EffectBy}
use Rattle.node_arena.specs.Turns.{failed_at, failed_turns}
use Rattle.node_arena.specs.Paths.{ExtendsPath, FindsShut, FindsShutEmpty, Passes, Acts, added, EndedAt, FailedAt, EndsFailed, IsRefusedAt, LastHeld, MetCause, NowHolds, IsSole}
use Rattle.node_arena.proofs.Tracing.{step_count, traced_reached}
use Rattle.node_arena.proofs.PrologueTraces.{prefix_same, prefix_then}
use Rattle.node_arena.proofs.Told.{has_own_cause, sole}
use Rattle.node_arena.proofs.Empties.{closed_shut}
use Rattle.node_arena.proofs.Noting.{IsSilent, AnswersSilently, notes_no, notes_nothing}

-- no line
pub no_walk : (v : SeatView) → ExtendsPath v v []
no_walk v = record { run = prefix_same v.ran; number = refl; path = sym (append-nil v.path); mine = refl; notes = refl; rest = []; seen = sym (append-nil v.seen) }

-- some lines and then others
pub walk_then : (v w x : SeatView) (es fs : List Event) → ExtendsPath v w es → ExtendsPath w x fs → ExtendsPath v x (es ++ fs)
walk_then v w x es fs f g =
    record {
      run = prefix_then v.ran w.ran x.ran f.run g.run;
      number = g.number ∙ f.number;
      path = g.path ∙ ap (λ p. p ++ fs) f.path ∙ append_assoc v.path es fs;
      mine = g.mine ∙ f.mine;
      notes = g.notes ∙ f.notes;
      rest = f.rest ++ g.rest;
      seen = g.seen ∙ ap (λ p. p ++ g.rest) f.seen ∙ append_assoc v.seen f.rest g.rest;
    }

-- the same where the seat sees nothing
pub no_pass : (v : SeatView) → Passes v v []
no_pass v = record { walks = no_walk v; same = refl }

pub pass_then : (v w x : SeatView) (es fs : List Event) → Passes v w es → Passes w x fs → Passes v x (es ++ fs)
pass_then v w x es fs f g = record { walks = walk_then v w x es fs f.walks g.walks; same = g.same ∙ f.same }

-- a seat that went through lines sees no less
pub sees_on : (v w : SeatView) (es : List Event) → ExtendsPath v w es → SeesMore (known_by v) (known_by w)
sees_on v w es f = record { number = f.number; between = f.rest; seen = f.seen; mine = f.mine; notes = f.notes }

-- some lines, and then others that found the queue shut
pub then_shut : (v w x : SeatView) (es fs : List Event) → ExtendsPath v w es → FindsShut w x fs → FindsShut v x (es ++ fs)
then_shut v w x es fs f g =
    record {
      run = prefix_then v.ran w.ran x.ran f.run g.run;
      path = g.path ∙ ap (λ p. p ++ fs) f.path ∙ append_assoc v.path es fs;
      found = push_refused_then (known_by v) (known_by w) (known_by x) Closed (sees_on v w es f) g.found;
    }

-- or shut and empty
pub then_shut_empty : (v w x : SeatView) (es fs : List Event) → ExtendsPath v w es → FindsShutEmpty w x fs → FindsShutEmpty v x (es ++ fs)
then_shut_empty v w x es fs f g =
    record {
      run = prefix_then v.ran w.ran x.ran f.run g.run;
      path = g.path ∙ ap (λ p. p ++ fs) f.path ∙ append_assoc v.path es fs;
      found = pop_refused_then (known_by v) (known_by w) (known_by x) Closed (sees_on v w es f) g.found;
    }

-- lines before those of an effect
pub then_act : (v w x : SeatView) (e e' : Entry) (es fs : List Event) → e ≡ e' → ExtendsPath v w es → Acts w x e fs → Acts v x e' (es ++ fs)
then_act v w x e e' es fs same f g =
    record {
      run = prefix_then v.ran w.ran x.ran f.run g.run;
      path = g.path ∙ ap (λ p. p ++ fs) f.path ∙ append_assoc v.path es fs;
      adds = adds_then (known_by v) (known_by w) (known_by x) e e' same (sees_on v w es f) g.adds;
    }

-- lines after those of an effect, where the seat sees nothing
pub act_then : (v w x : SeatView) (e : Entry) (es fs : List Event) → Acts v w e es → Passes w x fs → Acts v x e (es ++ fs)
act_then v w x e es fs f g =
    record {
      run = prefix_then v.ran w.ran x.ran f.run g.walks.run;
      path = g.walks.path ∙ ap (λ p. p ++ fs) f.path ∙ append_assoc v.path es fs;
      adds = record {
        number = g.walks.number ∙ f.adds.number;
        between = f.adds.between;
        seen = g.same ∙ f.adds.seen;
        mine = g.walks.mine ∙ f.adds.mine;
        notes = g.walks.notes ∙ f.adds.notes;
      };
    }

-- what a seat stores stays, and then again
pub then_stored : {T : Type 0} (s t u : Seat T) → KeepsStored s t → KeepsStored t u → KeepsStored s u
then_stored s t u f g = record { number = g.number ∙ f.number; role = g.role ∙ f.role; keeps = g.keeps ∙ f.keeps; pocket = g.pocket ∙ f.pocket; failed = g.failed ∙ f.failed }

-- the slots that are out with a seat, over two lines, and over a line that adds nothing
pub no_slots : {T : Type 0} (s : Seat T) → KeepsSlots s s
no_slots s = record { same = refl; hand = refl; tries = refl; number = refl; more = record { between = []; deeds = sym (append-nil (deeds_of s)) } }

pub then_slots : {T : Type 0} (s t u : Seat T) → KeepsSlots s t → KeepsSlots t u → KeepsSlots s u
then_slots s t u f g = record {
  same = g.same ∙ f.same;
  hand = g.hand ∙ f.hand;
  tries = g.tries ∙ f.tries;
  number = g.number ∙ f.number;
  more = record { between = f.more.between ++ g.more.between; deeds = g.more.deeds ∙ (ap (λ ds. ds ++ g.more.between) f.more.deeds ∙ append_assoc (deeds_of s) f.more.between g.more.between) };
}

nothing_added : (xs es : List Entry) → xs ++ es ≡ xs → es ≡ []
nothing_added xs [] e = refl
nothing_added xs (y ∷ ys) e = let long = ap length e in absurd (omega (arith, long, length-append xs (y ∷ ys)))

pub quiet_slots : {T : Type 0} (r : Arena) (s t : Seat T) (prologue : Prologue) (l : Line) (n : ℕ) (d : DidStep r s t prologue l n)
    → entries_at r.plan.setup d.told.was (view s).number (after_prologue r.plan.setup (view s).number prologue (view s).actor) l ≡ [] → KeepsSlots s t
quiet_slots {T} r s t prologue l n d none =
    let same : (view s).mine ++ d.moves.0 ≡ (view s).mine = sym d.moves.1 ∙ (d.told.mine ∙ (ap (λ es. (view s).mine ++ es) none ∙ append-nil (view s).mine)) in
    go r.plan.carries (subst (λ (es : List Entry). EffectBy r.plan.carries (view s).number es s.token.me t.token.me) (nothing_added (view s).mine d.moves.0 same) d.moves.2)
  where
    go : (b : Bool) → EffectBy b (view s).number [] s.token.me t.token.me → KeepsSlots s t
    go true e = record { same = e.0; hand = e.1; tries = d.moves.3; number = d.told.number; more = record { between = e.2.0; deeds = e.2.1 } }
    go false e = record { same = e.0; hand = e.1; tries = d.moves.3; number = d.told.number; more = record { between = []; deeds = e.2 ∙ sym (append-nil (deeds_of s)) } }

-- what a seat's path has more is what was added
pub added_path : {T : Type 0} (s t : Seat T) (es : List Event) → (view t).path ≡ (view s).path ++ es → added s t ≡ es
added_path s t es e = ap (drop (length (view s).path)) e ∙ drop-append_seam (view s).path es

pub added_is : {T : Type 0} (s t : Seat T) (es : List Event) → ExtendsPath (view s) (view t) es → added s t ≡ es
added_is s t es w = added_path s t es w.path

-- what held before the last of some lines held at a call's last step
pub last_held : {T : Type 0} (r : Arena) (s t : Seat T) (es : List Event) (P : Traced → Actor → Line → Type 0) → added s t ≡ es → EndedAt r s (view t).ran es P → LastHeld r s t P
last_held r s t es P e h = subst (λ fs. EndedAt r s (view t).ran fs P) (sym e) h

-- and so where that line was a failed turn
pub ends_failed : {T : Type 0} (s t : Seat T) (es : List Event) → added s t ≡ es → FailedAt es → EndsFailed s t
ends_failed s t es e h = subst FailedAt (sym e) h

-- lines behind others
pub ended_behind : {T : Type 0} {ran : List AnyMove} (r : Arena) (s t : Seat T) (es fs : List Event) (P : Traced → Actor → Line → Type 0) → ExtendsPath (view s) (view t) es
    → EndedAt r t ran fs P → EndedAt r s ran (es ++ fs) P
ended_behind r s t es fs P w h =
    record {
      moves = h.moves;
      since = prefix_then (view s).ran (view t).ran h.moves w.run h.since;
      run = h.run;
      last = h.last ∙ ap (λ me. h.moves ++ made (Step me) ∷ []) w.number;
      was = h.was;
      reached = h.reached;
      setup = h.setup;
      peopled = h.peopled;
      before = es ++ h.before;
      actor = h.actor;
      line = h.line;
      stands = ap (actor_of h.was.world) (sym w.number) ∙ h.stands;
      at = h.at;
      path =
          ap (λ x. es ++ x) h.path ∙ sym (append_assoc es h.before (event_at r.plan.setup h.was (view t).number h.actor h.line ∷ []))
          ∙ ap (λ me. (es ++ h.before) ++ event_at r.plan.setup h.was me h.actor h.line ∷ []) w.number;
      within = ap h.was.paths (sym w.number) ∙ h.within ∙ ap (λ p. p ++ h.before) w.path ∙ append_assoc (view s).path es h.before;
      held = h.held;
    }

pub stopped_behind : {T : Type 0} {ran : List AnyMove} (r : Arena) (s t : Seat T) (es fs : List Event) (refusal : Refusal) → ExtendsPath (view s) (view t) es
    → EndedAt r t ran fs (IsRefusedAt r.plan.setup (view t).number refusal) → EndedAt r s ran (es ++ fs) (IsRefusedAt r.plan.setup (view s).number refusal)
stopped_behind {T} {ran} r s t es fs refusal w h =
    ended_behind r s t es fs (IsRefusedAt r.plan.setup (view s).number refusal) w (subst (λ me. EndedAt r t ran fs (IsRefusedAt r.plan.setup me refusal)) w.number h)

-- a cause that a call met behind other lines
pub met_behind : {T : Type 0} (r : Arena) (s t u : Seat T) (es : List Event) (refusal : Refusal) → ExtendsPath (view s) (view t) es
    → added s u ≡ es ++ added t u → MetCause r t u refusal → MetCause r s u refusal
met_behind r s t u es refusal w e h = last_held r s u (es ++ added t u) (IsRefusedAt r.plan.setup (view s).number refusal) e (stopped_behind r s t es (added t u) refusal w h)

pub failed_behind : (es fs : List Event) → FailedAt fs → FailedAt (es ++ fs)
failed_behind es fs h = record { before = es ++ h.before; last = h.last; path = ap (λ x. es ++ x) h.path ∙ sym (append_assoc es h.before (h.last ∷ [])); failed = h.failed }

pub failed-append : (es fs : List Event) → failed_turns (es ++ fs) ≡ failed_turns es + failed_turns fs
failed-append es fs = sum_by-append (λ e. failed_at e.line e.to) es fs

-- a seat that keeps another pocket is still the arena's
pub kept_seat : {T : Type 0} (r : Arena) (t : Seat T) (p : Option Held) (n : ℕ) → IsSeat r t → IsSeat r (keeping t p n)
kept_seat r t p n h = record {
  arena = h.arena;
  sits = record {
    table = h.sits.table;
    seat = h.sits.seat;
    none_out = h.sits.none_out;
    number =
        h.sits.number;
    role = h.sits.role;
    pushes = h.sits.pushes;
    pops = h.sits.pops;
    shut = h.sits.shut;
    fitted = h.sits.fitted;
    valued =
        h.sits.valued;
  };
}

pub now_kept : {T : Type 0} (r : Arena) (t : Seat T) (p : Option Held) (n : ℕ) (P : World → Type 0) → NowHolds r t P → NowHolds r (keeping t p n) P
now_kept r t p n P h = record { now = h.now; run = h.run; reached = h.reached; setup = h.setup; peopled = h.peopled; actor = h.actor; path = h.path; holds = h.holds }

-- one line more on a path
pub failed_snoc : (es : List Event) (e : Event) → failed_turns (es ++ e ∷ []) ≡ failed_turns es + failed_at e.line e.to
failed_snoc es e = sum_by-append (λ x. failed_at x.line x.to) es (e ∷ []) ∙ (let z : 0 + failed_at e.line e.to ≡ failed_at e.line e.to = omega arith in ap (λ k. failed_turns es + k) z)

-- one step
module _ {T : Type 0} (r : Arena) (s t : Seat T) (prologue : Prologue) (l : Line) (n : ℕ) (d : DidStep r s t prologue l n) where
  abbrev pub b : Actor
  b = after_prologue r.plan.setup (view s).number prologue (view s).actor

  abbrev pub event : Event
  event = event_at r.plan.setup d.told.was (view s).number b l

  abbrev pub after : Traced
  after = step_at d.told.was (view s).number b l

  -- what is so of its outcome's actor, whichever operation that is in, is so of the seat's actor
  pub settled : (o : Outcome) → outcome_at r.plan.setup d.told.was (view s).number b l ≡ o → (P : Actor → Type 0) → ((x : Option ℕ) → P (record o.actor { entry = x })) → P (view t).actor
  settled o e P p =
      let x : Option ℕ = Some (entry_or b.entry (length d.told.was.world.operations)) in
      subst P (sym (d.told.actor ∙ ap (λ (q : Outcome). record q.actor { entry = x }) e)) (p x)

  -- where that actor goes on at a line, the seat stands before it
  pub goes_on : (o : Outcome) → outcome_at r.plan.setup d.told.was (view s).number b l ≡ o → (k : Line) → o.actor.line ≡ Some k → IsBefore r t continues k
  goes_on o e k line = record { seat = d.seat; can = tt; line = settled o e (λ a. a.line ≡ Some k) (λ x. line) }

  -- what the seat knows of the run goes on
  pub ran_on : IsPrefix (view s).ran (view t).ran
  ran_on = (_, sym d.told.runs.ran)

  -- it added no entry and noted nothing
  pub walk_one : entries_at r.plan.setup d.told.was (view s).number b l ≡ [] → notes_of (outcome_at r.plan.setup d.told.was (view s).number b l).reply
      (view t).seen ≡ [] → ExtendsPath (view s) (view t) (event ∷ [])
  walk_one none quiet =
      record {
        run = ran_on;
        number = d.told.number;
        path = d.told.path;
        mine = d.told.mine ∙ ap (λ es. (view s).mine ++ es) none ∙ append-nil (view s).mine;
        notes = d.told.notes ∙ ap (λ ks. (view s).notes ++ ks) quiet ∙ append-nil (view s).notes;
        rest = d.told.rest;
        seen = d.told.seen ∙ ap (λ es. ((view s).seen ++ d.told.rest) ++ es) none ∙ append-nil ((view s).seen ++ d.told.rest);
      }

  -- the same where its reply doesn't say that the queue is empty, or shut
  pub walk_silent : entries_at r.plan.setup d.told.was (view s).number b l ≡ [] → IsSilent (outcome_at r.plan.setup d.told.was (view s).number b l).reply → ExtendsPath (view s) (view t) (event ∷ [])
  walk_silent none quiet = walk_one none (notes_no (outcome_at r.plan.setup d.told.was (view s).number b l).reply (view t).seen quiet)

  -- and at a line where the call doesn't answer so
  pub walk_on : entries_at r.plan.setup d.told.was (view s).number b l ≡ [] → AnswersSilently r.plan.setup.bits b l → ExtendsPath (view s) (view t) (event ∷ [])
  walk_on none other = walk_one none (notes_nothing r.plan.setup (d.told.was.world.steps + 1) (view s).number b l
      (found (action r.plan.setup (view s).number b l) d.told.was.world.shared) (view t).seen other)

  -- and where the seat sees nothing
  pub pass_on : entries_at r.plan.setup d.told.was (view s).number b l ≡ [] → AnswersSilently r.plan.setup.bits b l → sees l ≡ false → Passes (view s) (view t) (event ∷ [])
  pass_on none other blind = record { walks = walk_on none other; same = d.told.stays blind }

  -- it noted that the queue was found shut
  pub shut_on : entries_at r.plan.setup d.told.was (view s).number b l ≡ [] → (outcome_at r.plan.setup d.told.was (view s).number b l).reply ≡ Some
      (Refused Closed) → FindsShut (view s) (view t) (event ∷ [])
  shut_on none closed =
      record {
        run = ran_on;
        path = d.told.path;
        found = record {
          number = d.told.number;
          between = d.told.rest;
          seen = d.told.seen ∙ ap (λ es. ((view s).seen ++ d.told.rest) ++ es) none ∙ append-nil ((view s).seen ++ d.told.rest);
          shut = closed_shut l (view t).seen (subst (λ q. SaysOfSeen l q (view t).seen) closed d.told.says);
          mine = d.told.mine ∙ ap (λ es. (view s).mine ++ es) none ∙ append-nil (view s).mine;
          notes = d.told.notes ∙ ap (λ q. (view s).notes ++ notes_of q (view t).seen) closed;
        };
      }

  -- or shut and empty, at a line that says so
  pub shut_empty_on : entries_at r.plan.setup d.told.was (view s).number b l ≡ []
      → (outcome_at r.plan.setup d.told.was (view s).number b l).reply ≡ Some (Refused Closed)
      → (FoundClosedAt l (view t).seen → Leads (view t).seen true []) → FindsShutEmpty (view s) (view t) (event ∷ [])
  shut_empty_on none closed empty =
      record {
        run = ran_on;
        path = d.told.path;
        found = record {
          number = d.told.number;
          between = d.told.rest;
          seen = d.told.seen ∙ ap (λ es. ((view s).seen ++ d.told.rest) ++ es) none ∙ append-nil ((view s).seen ++ d.told.rest);
          empty = empty (subst (λ q. SaysOfSeen l q (view t).seen) closed d.told.says);
          mine = d.told.mine ∙ ap (λ es. (view s).mine ++ es) none ∙ append-nil (view s).mine;
          notes = d.told.notes ∙ ap (λ q. (view s).notes ++ notes_of q (view t).seen) closed;
        };
      }

  -- it had its effect: it added this entry
  pub act_on : (e : Entry) → entries_at r.plan.setup d.told.was (view s).number b l ≡ e ∷ [] → AnswersSilently r.plan.setup.bits b l → Acts (view s) (view t) e (event ∷ [])
  act_on e one other =
      record {
        run = ran_on;
        path = d.told.path;
        adds = record {
          number = d.told.number;
          between = d.told.rest;
          seen = d.told.seen ∙ ap (λ es. ((view s).seen ++ d.told.rest) ++ es) one;
          mine = d.told.mine ∙ ap (λ es. (view s).mine ++ es) one;
          notes = d.told.notes ∙ ap (λ ks. (view s).notes ++ ks) (notes_nothing r.plan.setup (d.told.was.world.steps + 1) (view s).number b l
              (found (action r.plan.setup (view s).number b l) d.told.was.world.shared) (view t).seen other) ∙ append-nil (view s).notes;
        };
      }

  -- the step went where the actor now stands
  pub to_is : event.to ≡ (view t).actor.line
  to_is = sym (ap (λ a. a.line) d.told.actor)

  -- what held of the world before the step
  pub ended_at : (o : Seat T) (before : List Event) (P : Traced → Actor → Line → Type 0) → ExtendsPath (view o) (view s) before → P d.told.was b l → EndedAt r o (view t).ran (before ++ event ∷ []) P
  ended_at o before P w p =
      let g = d.told.runs in
      record {
        moves = (view s).ran ++ (g.others ++ g.sets_out);
        since = prefix_then (view o).ran (view s).ran _ w.run (g.others ++ g.sets_out, refl);
        run = g.sets;
        last = g.ran ∙ (ap (λ ms. (view s).ran ++ ms) (sym (append_assoc g.others g.sets_out (made (Step (view s).number) ∷ [])))
            ∙ (sym (append_assoc (view s).ran (g.others ++ g.sets_out) (made (Step (view s).number) ∷ [])) ∙ ap (λ me. ((view s).ran ++ (g.others ++ g.sets_out)) ++ made (Step me) ∷ []) w.number));
        was = d.told.was;
        reached = d.told.reached;
        setup = d.told.setup;
        peopled = d.told.peopled;
        before = before;
        actor = b;
        line = l;
        stands = ap (actor_of d.told.was.world) (sym w.number) ∙ d.told.before;
        at = d.told.line;
        path = ap (λ me. before ++ event_at r.plan.setup d.told.was me b l ∷ []) w.number;
        within = ap d.told.was.paths (sym w.number) ∙ d.told.path_before ∙ w.path;
        held = p;
      }

  -- it was refused
  pub stopped_at : (o : Seat T) (before : List Event) (refusal : Refusal) → ExtendsPath (view o) (view s) before
      → (outcome_at r.plan.setup d.told.was (view s).number b l).reply ≡ Some (Refused refusal)
      → EndedAt r o (view t).ran (before ++ event ∷ []) (IsRefusedAt r.plan.setup (view o).number refusal)
  stopped_at o before refusal w e =
      ended_at o before (IsRefusedAt r.plan.setup (view o).number refusal) w
      (subst (λ me. IsRefusedAt r.plan.setup me refusal d.told.was b l) w.number (e, has_own_cause r.plan prologue l n (view s) (view t) d.told refusal e))

  pub failed_last : (before : List Event) → failed_at l (view t).actor.line ≡ 1 → FailedAt (before ++ event ∷ [])
  failed_last before e = record { before = before; last = event; path = refl; failed = ap (failed_at l) to_is ∙ e }

  -- what holds of the world after the step
  pub now_holds : (P : World → Type 0) → P after.world → NowHolds r t P
  now_holds P p =
      record {
        now = after;
        run = d.told.runs.led;
        reached = d.told.reaches;
        setup = d.told.setup;
        peopled = step_count d.told.was (view s).number b l ∙ d.told.peopled;
        actor = ap (λ k. actor_of after.world k) d.told.number ∙ d.told.after;
        path = ap after.paths d.told.number ∙ d.told.path_after;
        holds = p;
      }

  -- the node in the actor's hand is this seat's alone
  pub now_sole : (node : ℕ) → (view t).actor.holds ≡ true → (view t).actor.node ≡ node → 1 ≤ node → NowHolds r t (λ w. IsSole w (view t).number node)
  now_sole node holds is some =
      now_holds (λ w. IsSole w (view t).number node)
      (subst (IsSole after.world (view t).number) is
      (sole after.world (view t).number (view t).actor (traced_reached after d.told.reaches) (ap (λ k. actor_of after.world k) d.told.number ∙ d.told.after) holds (subst (λ k. 1 ≤ k) (sym is) some)))
