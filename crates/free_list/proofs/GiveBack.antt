-- The lines of a give back, F1, F2 and F3, where each leads, and what a give back answers.
use Rattle.std.proofs.Common.{◌≡◌, ◌≢◌, inl, inr, ℕ, zero, suc, ◌+◌, ◌-◌, ◌<◌, ◌≤◌, Bool, true, false, if◌then◌else◌, nat_eq, Option, Some, None}
use Rattle.std.proofs.Common.{IfSome, Ok, Err, List, [], length, get_or, set, add-one, sym, refl, ap, ◌∙◌, subst, arith}
use Rattle.std.specs.Coded.{→_prop, le_prop}
use mathlib.Core.HLevel.{⊥_prop}
use Rattle.std.proofs.lemmas.List.{get_or-set_same}
use Rattle.std.proofs.lemmas.Bool.{eqb-true}
use Rattle.counted_ref.specs.Ref.{Ref, ref_of, same_ref}
use Rattle.line_table.specs.declared.lines.Kind.{Kind}
use Rattle.line_table.specs.declared.lines.Kind.TheVariants.{TwoLock, NonBlocking}
use Rattle.line_table.specs.declared.lines.Line.{Line}
use Rattle.line_table.specs.declared.lines.Line.TheVariants.{F1, F2, F3, D2, B1}
use Rattle.history.specs.declared.operations.Op.TheVariants.{Deq}
use Rattle.history.specs.declared.operations.Reply.{Reply}
use Rattle.history.specs.declared.refusals.Refusal.TheVariants.{Busy}
use Rattle.node_arena.specs.Machine.{Setup, Held, Actor, Outcome, World, IsFree, IsSetAside, dequeues, from_pocket, raised, one_if}
use Rattle.node_arena.specs.Machine.{aside_after, sets_aside, freed, empties_hand, goes, busy_or, to_pocket}
use Rattle.node_arena.specs.Prologues.{Prologue, continues, at_rest, out_of, gave_up, after_prologue}
use Rattle.node_arena.specs.Arenas.{Arena}
use Rattle.node_arena.specs.declared.seats.Seat.{Seat}
use Rattle.node_arena.specs.Seats.{IsReady, IsSeat, DidStep, view, keeping, pocket_of}
use Rattle.node_arena.specs.Turns.{failed_turns, at_f1}
use Rattle.node_arena.specs.Paths.{added, NowHolds}
use Rattle.node_arena.proofs.Tracing.{traced_reached}
use Rattle.node_arena.proofs.Noting.{none_due}
use Rattle.node_arena.proofs.Paths.{added_is, ends_failed, kept_seat, now_kept, event, after, to_is, failed_last, now_holds}
use Rattle.node_arena.proofs.Known.{by_known, empty_before}
use Rattle.node_arena.proofs.Told.{was_in_range, actor_was_in_range, first_is_free, raised_names}
use Rattle.free_list.specs.declared.outcomes.RowOutcome.{RowOutcome}
use Rattle.free_list.specs.declared.outcomes.RowOutcome.TheVariants.{Goes, Ends}
use Rattle.free_list.specs.declared.outcomes.Reply.TheVariants.{Done}
use Rattle.free_list.proofs.Registers.{same_registers}
use Rattle.free_list.specs.Registers.{Running}
use Rattle.free_list.specs.declared.turns.Gave.TheVariants.{Back, Again}
use Rattle.free_list.specs.Runs.{in_hand, gave_of, Frees, CallIsAt, StartsGive, Follows, GoesTo, Leaves}
use Rattle.free_list.specs.Gives.{IsBack, GiveTurns, StandsAfterF1, Giving, GiveAnswers}
use Rattle.free_list.proofs.Steps.{ref_free}
use Rattle.free_list.proofs.Ways.{no_way, one_line, then_give, leaves}
use Rattle.free_list.proofs.Standing.{stands_on, settled_as}

-- before a pop the pocket is empty, in either queue
empty_at_pops : {T : Type 0} (r : Arena) (x : Seat T) (kind : Kind) → IsSeat r x → (view x).actor.line ≡ Some (dequeues kind) → (view x).actor.pocket ≡ None
empty_at_pops r x TwoLock seat line = empty_before r x continues B1 record { seat = seat; can = tt; line = line }
empty_at_pops r x NonBlocking seat line = empty_before r x continues D2 record { seat = seat; can = tt; line = line }

none_at_dequeue : (k : Kind) (o : Option Line) → o ≡ Some (dequeues k) → at_f1 o ≡ 0
none_at_dequeue TwoLock o e = ap at_f1 e
none_at_dequeue NonBlocking o e = ap at_f1 e

-- the flags of nodes set aside, after F1
abbrev aside_if : World → Actor → Bool → Option Reply → List Bool
aside_if w b p due = aside_after w.aside (if p then sets_aside (freed w.setup.kind (w.steps + 1) due (record b { top = w.shared.free })) else goes F2 (record b { top = w.shared.free })).aside

-- F1 sets the node aside where Free is worn
aside_back : {T : Type 0} (r : Arena) (s t : Seat T) (prologue : Prologue) (h : Held) (n : ℕ)
    → Frees (after_prologue r.plan.setup (view s).number prologue (view s).actor) h → (d : DidStep r s t prologue F1 n)
    → nat_eq d.told.was.world.shared.free.count r.plan.setup.limit ≡ true → NowHolds r t (IsBack h.node)
aside_back r s t prologue h n frees d worn =
    let b : Actor = after_prologue r.plan.setup (view s).number prologue (view s).actor in
    let w : World = d.told.was.world in
    let v : World = (after r s t prologue F1 n d).world in
    let full : nat_eq w.shared.free.count w.setup.limit ≡ true = ap (λ z. nat_eq w.shared.free.count z.limit) d.told.setup ∙ worn in
    let flags : v.aside ≡ set w.aside (b.node - 1) true = (λ i. aside_if w b (full i) (frees.early i)) in
    let range = was_in_range r.plan prologue F1 n (view s) (view t) d.told in
    let regs = (actor_was_in_range r.plan prologue F1 n (view s) (view t) d.told).registers.node in
    let low : b.node - 1 < length w.aside = (let e = range.all_flags in let f = range.shared.fresh in let z = range.sized.nodes in omega arith) in
    now_holds r s t prologue F1 n d (IsBack h.node)
    (inr (
      subst (IsSetAside v) frees.node (ap (λ fs. one_if (get_or fs (b.node - 1) false)) flags ∙ ap one_if
          (get_or-set_same w.aside (b.node - 1) true false low)),
      eqb-true w.shared.free.count w.setup.limit full,
    ))

-- F3 puts the node first in the free chain
front_back : {T : Type 0} (r : Arena) (s t : Seat T) (prologue : Prologue) (a : Running) (n : ℕ) → CallIsAt r s prologue F3 a
    → (d : DidStep r s t prologue F3 n) → same_ref d.told.was.world.shared.free
    (after_prologue r.plan.setup (view s).number prologue (view s).actor).top ≡ true → NowHolds r t (IsBack a.node)
front_back r s t prologue a n h d won =
    let b : Actor = after_prologue r.plan.setup (view s).number prologue (view s).actor in
    let w : World = d.told.was.world in
    let v : World = (after r s t prologue F3 n d).world in
    let free_is : v.shared.free ≡ raised w.setup b.top b.node = ap (λ p. (if p then record w.shared { free = raised w.setup b.top b.node } else w.shared).free) won in
    let unworn : b.top.count ≢ w.setup.limit = subst (λ (z : Setup). b.top.count ≢ z.limit) (sym d.told.setup) (by_known r s prologue F3 h.before (→_prop ⊥_prop) (λ k. k.fixed.room)) in
    let some : 1 ≤ b.node = by_known r s prologue F3 h.before le_prop (λ k. k.some) in
    let same : b.node ≡ a.node = h.knows.0.node in
    let range = was_in_range r.plan prologue F3 n (view s) (view t) d.told in
    let low = (actor_was_in_range r.plan prologue F3 n (view s) (view t) d.told).registers.node in
    let is : v.shared.free.node ≡ a.node = ap (λ x. x.node) free_is ∙ raised_names w b.top b.node range low unworn ∙ same in
    now_holds r s t prologue F3 n d (IsBack a.node)
    (inl (subst (IsFree v) is (first_is_free v (traced_reached (after r s t prologue F3 n d) d.told.reaches) (omega arith))))

module _ {T : Type 0} (r : Arena) (s t : Seat T) (prologue : Prologue) (a : Running) where
  abbrev b : Actor
  b = after_prologue r.plan.setup (view s).number prologue (view s).actor

  -- F1
  abbrev first : (now : ℕ) → Ref → Bool → Option Reply → Outcome
  first now top p due = if p then sets_aside (freed r.plan.setup.kind now due (record b { top = top })) else goes F2 (record b { top = top })

  pub after_f1 : (h : Held) (out : RowOutcome Running) → StartsGive r s prologue h → in_hand a ≡ h → Follows r s t prologue F1 a out → StandsAfterF1 r s t h out
  after_f1 h out st e f = subst (StandsAfterF1 r s t h) (sym f.leads_to) (go (nat_eq (ref_of r.plan.setup.bits f.found).count r.plan.setup.limit) refl)
    where
      free : ref_of r.plan.setup.bits f.found ≡ f.did.told.was.world.shared.free
      free = ref_free r s t prologue f.found F1 f.did f.did.told.found

      same : (p : Bool) → nat_eq (ref_of r.plan.setup.bits f.found).count r.plan.setup.limit ≡ p → nat_eq f.did.told.was.world.shared.free.count r.plan.setup.limit ≡ p
      same p w = ap (λ x. nat_eq x.count r.plan.setup.limit) (sym free) ∙ w

      went : (p : Bool) → nat_eq (ref_of r.plan.setup.bits f.found).count r.plan.setup.limit ≡ p → (x : Option ℕ)
          × ((view t).actor ≡ record (first (f.did.told.was.world.steps + 1) f.did.told.was.world.shared.free p None).actor { entry = x })
      went p w = settled_as r s t prologue F1 f.found f.did (first (f.did.told.was.world.steps + 1) f.did.told.was.world.shared.free p None)
          (λ i. first (f.did.told.was.world.steps + 1) f.did.told.was.world.shared.free (same p w i) (st.frees.early i))

      go : (p : Bool) → nat_eq (ref_of r.plan.setup.bits f.found).count r.plan.setup.limit ≡ p
          → StandsAfterF1 r s t h (if p then Ends Done else Goes F2 (record a { top = ref_of r.plan.setup.bits f.found }))
      go true w =
          record {
            way = one_line r s t prologue F1 f.found f.did (refl, none_due b st.frees.early, refl);
            failed = refl;
            turned = record { seat = f.did.seat; over = ap (λ c. c.line) (went true w).1; back = aside_back r s t prologue h f.found st.frees f.did (same true w) };
          }
      go false w =
          let o = went false w in
          let k : Frees b (in_hand a) = subst (Frees b) (sym e) st.frees in (
            record {
              way = one_line r s t prologue F1 f.found f.did (refl, none_due b st.frees.early, refl);
              never = refl;
              stands =
                  stands_on r t F2 (record a { top = ref_of r.plan.setup.bits f.found }) f.did.seat (ap (λ c. c.line) o.1)
                  (record { node = ap (λ c. c.node) o.1 ∙ k.node; mark = ap (λ c. c.mark) o.1 ∙ k.mark; early = ap (λ c. c.due) o.1 ∙ k.early }, ap (λ c. c.top) o.1 ∙ sym free);
            },
            e,
          )

  -- F2
  pub after_f2 : (c : Running) → CallIsAt r s prologue F2 a → Follows r s t prologue F2 a (Goes F3 c) → GoesTo r s t F3 c
  after_f2 c h f =
      let d = f.did.told.actor in
      record {
        way = one_line r s t prologue F2 f.found f.did (refl, tt, refl);
        never = refl;
        stands =
            subst (CallIsAt r t continues F3) (sym (same_registers F3 F3 c a f.leads_to))
            (stands_on r t F3 a f.did.seat (ap (λ x. x.line) d)
            (record { node = ap (λ x. x.node) d ∙ h.knows.0.node; mark = ap (λ x. x.mark) d ∙ h.knows.0.mark; early = ap (λ x. x.due) d ∙ h.knows.0.early }, ap (λ x. x.top) d ∙ h.knows.1));
      }

  -- F3
  abbrev third : (now : ℕ) → Bool → Option Reply → Outcome
  third now p due = if p then freed r.plan.setup.kind now due (empties_hand b) else goes F1 b

  pub after_f3 : (out : RowOutcome Running) → CallIsAt r s prologue F3 a → Follows r s t prologue F3 a out → GiveTurns r s t 0 (in_hand a) (gave_of out)
  after_f3 out h f = subst (λ o. GiveTurns r s t 0 (in_hand a) (gave_of o)) (sym f.leads_to) (go (same_ref (ref_of r.plan.setup.bits f.found) a.top) refl)
    where
      same : (p : Bool) → same_ref (ref_of r.plan.setup.bits f.found) a.top ≡ p → same_ref f.did.told.was.world.shared.free b.top ≡ p
      same p w = (λ i. same_ref (sym (ref_free r s t prologue f.found F3 f.did f.did.told.found) i) (h.knows.1 i)) ∙ w

      went : (p : Bool) → same_ref (ref_of r.plan.setup.bits f.found) a.top ≡ p → (x : Option ℕ) × ((view t).actor ≡ record (third (f.did.told.was.world.steps + 1) p None).actor { entry = x })
      went p w = settled_as r s t prologue F3 f.found f.did (third (f.did.told.was.world.steps + 1) p None) (λ i. third (f.did.told.was.world.steps + 1) (same p w i) (h.knows.0.early i))

      go : (p : Bool) → same_ref (ref_of r.plan.setup.bits f.found) a.top ≡ p → GiveTurns r s t 0 (in_hand a) (gave_of (if p then Ends Done else Goes F1 a))
      go true w =
          let over : (view t).actor.line ≡ Some (dequeues r.plan.setup.kind) = ap (λ c. c.line) (went true w).1 in
          record {
            way = one_line r s t prologue F3 f.found f.did (refl, none_due b h.knows.0.early, refl);
            failed = (let z = none_at_dequeue r.plan.setup.kind (event r s t prologue F3 f.found f.did).to (to_is r s t prologue F3 f.found f.did ∙ over) in omega arith);
            turned = record { seat = f.did.seat; over = over; back = front_back r s t prologue a f.found h f.did (same true w) };
          }
      go false w =
          let o = went false w in
          let y : at_f1 (view t).actor.line ≡ 1 = ap (λ c. at_f1 c.line) o.1 in
          record {
            way = one_line r s t prologue F3 f.found f.did (refl, none_due b h.knows.0.early, refl);
            failed = (let z : at_f1 (event r s t prologue F3 f.found f.did).to ≡ 1 = ap at_f1 (to_is r s t prologue F3 f.found f.did) ∙ y in omega arith);
            turned = record {
              stands = record {
                before = record { seat = f.did.seat; can = tt; line = ap (λ c. c.line) o.1 };
                frees = record { node = ap (λ c. c.node) o.1 ∙ h.knows.0.node; mark = ap (λ c. c.mark) o.1 ∙ h.knows.0.mark; early = ap (λ c. c.due) o.1 ∙ h.knows.0.early };
              };
              last = failed_last r s t prologue F3 f.found f.did [] y;
            };
          }

-- after F1 it stands before F2
pub at_f2 : {T : Type 0} (r : Arena) (s t : Seat T) (h : Held) (l : Line) (a : Running) → StandsAfterF1 r s t h (Goes l a) → GoesTo r s t F2 a × (in_hand a ≡ h)
at_f2 r s t h F2 a x = x
at_f2 r s t h _ a x = absurd x

-- an actor that begins a dequeue with this pocket
abbrev set_out : {T : Type 0} → Arena → Seat T → Option Held → Actor
set_out r s p = from_pocket F1 p (record (at_rest (view s).actor) { line = Some (dequeues r.plan.setup.kind); op = Deq; due = None; entry = None })

-- a give back that sets out
pub sets_forth : {T : Type 0} (r : Arena) (s : Seat T) (h : Held) → IsReady r s → pocket_of s ≡ Some h → Giving r s s h 0
sets_forth r s h ready full =
    let e : (at_rest (view s).actor).pocket ≡ Some h = sym ready.pocket ∙ full in
    record {
      stands = record {
        before = record { seat = ready.seat; can = (refl, ready.free); line = ap (λ p. (set_out r s p).line) e };
        frees = record { node = ap (λ p. (set_out r s p).node) e; mark = ap (λ p. (set_out r s p).mark) e; early = ap (λ p. (set_out r s p).due) e };
      };
      way = no_way s;
      failed = refl;
      last = λ one. absurd (omega arith);
    }

-- an actor before its dequeue gives up
rests_before : (k : Kind) (a : Actor) → a.line ≡ Some (dequeues k) → at_rest a ≡ record a { line = None }
rests_before TwoLock a e = ap (out_of a) e
rests_before NonBlocking a e = ap (out_of a) e

-- an actor at F1, before a dequeue, gives up
rests_at_f1 : (a : Actor) → a.line ≡ Some F1 → a.due ≡ None → at_rest a ≡ record (to_pocket a) { line = None }
rests_at_f1 a e f = ap (out_of a) e ∙ ap (λ d. gave_up a (busy_or 0 d (to_pocket a))) f

module _ {T : Type 0} (r : Arena) (s t : Seat T) (g : Held) (n : ℕ) (h : Giving r s t g n) where
  -- a turn failed
  pub give_again : (x : Seat T) → GiveTurns r t x 0 g Again → Giving r s x g (n + 1)
  give_again x d =
      let e : GiveTurns r s x n g Again = then_give h.way h.failed d in
      record { stands = rw add-one e.turned.stands; way = e.way; failed = e.failed; last = λ some. e.turned.last }

  -- the node is back
  pub gave_it : (x : Seat T) (turns : ℕ) (o : Unit {0}) → n < turns → pocket_of s ≡ Some g → GiveTurns r t x 0 g Back → GiveAnswers r s (keeping x None n) turns (Ok o)
  gave_it x turns o less full d =
      let e : GiveTurns r s x n g Back = then_give h.way h.failed d in
      let rest = rests_before r.plan.setup.kind (view x).actor e.turned.over in
      let l : Leaves r s (keeping x None n) =
      leaves r s x None n e.way (let f = e.failed in omega arith)
      (record { seat = kept_seat r x None n e.turned.seat; free = ap (λ a. a.line) rest; pocket = sym (ap (λ a. a.pocket) rest ∙ empty_at_pops r x r.plan.setup.kind e.turned.seat e.turned.over) }) in
      record {
        ready = l.ready;
        same = l.same;
        slots = l.slots;
        pocket = refl;
        lines = l.lines;
        seen = l.seen;
        back = subst (λ p. IfSome p (λ held. NowHolds r (keeping x None n) (IsBack held.node))) (sym full) (now_kept r x None n _ e.turned.back);
        refused = tt;
        failed = l.failed;
        fewer = less;
      }

-- all turns failed
pub kept_it : {T : Type 0} (r : Arena) (s t : Seat T) (g : Held) (turns : ℕ) → 1 ≤ turns → pocket_of s ≡ Some g → Giving r s t g turns → GiveAnswers r s (keeping t (Some g) turns) turns (Err Busy)
kept_it r s t g zero some full h = absurd (omega arith)
kept_it r s t g (suc m) some full h =
    let e : added s t ≡ h.way.lines = added_is s t h.way.lines h.way.walks.walks in
    let at = h.stands in
    let rest = rests_at_f1 (view t).actor at.before.line at.frees.early in
    let l : Leaves r s (keeping t (Some g) (suc m)) =
    leaves r s t (Some g) (suc m) h.way h.failed
    (record {
      seat = kept_seat r t (Some g) (suc m) at.before.seat;
      free = ap (λ b. b.line) rest;
      pocket =
          (λ i. Some (record { node = sym at.frees.node i; mark = sym at.frees.mark i })) ∙ sym (ap (λ b. b.pocket) rest);
    }) in
    record {
      ready = l.ready;
      same = l.same;
      slots = l.slots;
      pocket = sym full;
      lines = l.lines;
      seen = l.seen;
      back = tt;
      refused = (refl, ap failed_turns e ∙ h.failed, ends_failed s (keeping t (Some g) (suc m)) h.way.lines e (h.last some));
      failed = l.failed;
      fewer = tt;
    }
