-- The ends of a pop, a pop behind other lines of its call, and a whole pop: with an empty pocket, or after a give back.
use mathlib.Core.List.{IsPrefix}
use Rattle.std.proofs.Common.{◌≡◌, ℕ, ◌+◌, ◌-◌, ◌<◌, ◌≤◌, true, false, List, ◌++◌, Option, Some, None, Result, Ok, Err, IfOk, IfErr, OnOk, sym, refl}
use Rattle.std.proofs.Common.{ap, subst, ◌∙◌, arith, append_assoc, ⊎_elim, inl, inr}
use Rattle.std.proofs.lemmas.Bool.{false≢true}
use Rattle.history.specs.declared.operations.Entry.TheVariants.{Pop}
use Rattle.history.specs.declared.operations.Reply.TheVariants as reply
use Rattle.history.specs.declared.operations.Taken.{Taken}
use Rattle.history.specs.declared.refusals.Refusal.{Refusal}
use Rattle.history.specs.declared.refusals.Refusal.TheVariants.{WornOut, Busy, Closed}
use Rattle.history.specs.declared.refusals.WornWord.{WornWord}
use Rattle.history.specs.Answers.{PopAnswers, FoundEmpty, StopsPop, PopRefused}
use Rattle.history.proofs.Learning.{answers_then}
use Rattle.line_table.specs.declared.lines.Line.TheVariants.{F1}
use Rattle.node_arena.specs.Machine.{Held, Actor, value_of, to_pocket, busy_or}
use Rattle.node_arena.specs.Prologues.{at_rest, out_of, gave_up}
use Rattle.node_arena.specs.Traces.{Event}
use Rattle.node_arena.specs.Arenas.{Arena}
use Rattle.node_arena.specs.declared.seats.Seat.{Seat}
use Rattle.node_arena.specs.Knowledge.{known_by}
use Rattle.node_arena.specs.Seats.{IsSeat, IsReady, KeepsStored, KeepsName, KeepsSlots, view, known_of, keeping, failed_of, keeps_of}
use Rattle.node_arena.specs.Loads.{TakesSlot}
use Rattle.node_arena.specs.Turns.{failed_turns}
use Rattle.node_arena.specs.Paths.{ExtendsPath, FindsShutEmpty, StopsAPop, Acts, HadNoEffect, EndedAt, IsRefusedAt, added}
use Rattle.node_arena.proofs.PrologueTraces.{prefix_then}
use Rattle.node_arena.proofs.Paths.{walk_then, then_slots, then_shut_empty, act_then, sees_on, added_is, added_path, last_held, ends_failed, met_behind, failed-append, failed_behind, kept_seat}
use Rattle.node_arena.proofs.Loads.{kept_slots, kept_takes, then_takes, takes_then}
use Rattle.free_list.specs.Gives.{GiveAnswers}
use Rattle.arena_queue.specs.Answers.{EmptiesPocket, PopWithoutNodeCaused, PopMoves, PopsWithoutNode, AnswersPop}
use Rattle.arena_queue.proofs.Queues.{same_number}

-- an actor that took a value stands before F1, with the node that comes free in its hand
pub record IsFreeing (a : Actor) (word : ℕ) (h : Held) : Type 0 where
  pub over : a.line ≡ Some F1
  pub due : a.due ≡ Some (reply.Value (value_of word))
  pub node : a.node ≡ h.node
  pub mark : a.mark ≡ h.mark

module _ (worn : WornWord → Type 0) where
  -- lines before a pop, with so many failed turns
  module _ {T : Type 0} (r : Arena) (s u x : Seat T) (es : List Event) (w : ExtendsPath (view s) (view u) es) (spent before turns : ℕ) (more : before ≡ spent + failed_turns es) where
    late : (path : (view x).path ≡ (view u).path ++ added u x) → added s x ≡ es ++ added u x
    late path = added_path s x (es ++ added u x) (path ∙ ap (λ p. p ++ added u x) w.path ∙ append_assoc (view s).path es (added u x))

    late_stop : (e : added s x ≡ es ++ added u x) (refusal : Refusal) → StopsAPop u x refusal → StopsAPop s x refusal
    late_stop e Closed h = subst (FindsShutEmpty (view s) (view x)) (sym e) (then_shut_empty (view s) (view u) (view x) es (added u x) w h)
    late_stop e _ h = subst (ExtendsPath (view s) (view x)) (sym e) (walk_then (view s) (view u) (view x) es (added u x) w h)

    late_cause : (e : added s x ≡ es ++ added u x) (refusal : Refusal) → PopWithoutNodeCaused worn r u x before turns refusal → PopWithoutNodeCaused worn r s x spent turns refusal
    late_cause e Busy f = (
      (let c = ap failed_turns e in let n = f.0 in omega (arith, failed-append es (added u x), c, n, more)),
      ends_failed s x (es ++ added u x) e (failed_behind es (added u x) f.1),
    )
    late_cause e (WornOut word) f = (met_behind r s u x es (WornOut word) w e f.0, f.1)
    late_cause e Closed f = met_behind r s u x es Closed w e f
    late_cause e _ f = absurd f

    pub draws_late : (out : Result (Option Taken) Refusal) → KeepsName s u → KeepsSlots s u → PopsWithoutNode worn r u x before turns out → PopsWithoutNode worn r s x spent turns out
    draws_late out name slots d =
        let e = late d.later.path in
        record {
          ready = d.ready;
          same = record { number = d.same.number ∙ name.number; role = d.same.role ∙ name.role; keeps = d.same.keeps ∙ name.keeps };
          slots = moves out d.slots;
          later = record {
            path = d.later.path ∙ ap (λ p. p ++ added u x) w.path ∙ append_assoc (view s).path es (added u x) ∙ ap (λ p. (view s).path ++ p) (sym e);
            run = prefix_then (view s).ran (view u).ran (view x).ran w.run d.later.run;
          };
          answer = answered out d;
          few = fewer out e d;
          freed = λ off. freed_of out e d (name.keeps ∙ off);
          kept = λ on. d.kept (name.keeps ∙ on);
          refused = refused_by out e d;
        }
      where
        moves : (o : Result (Option Taken) Refusal) → PopMoves r u x o → PopMoves r s x o
        moves (Ok (Some v)) y = then_takes r v s u x slots y
        moves (Ok None) y = then_slots s u x slots y
        moves (Err refusal) y = then_slots s u x slots y

        answered : (o : Result (Option Taken) Refusal) → PopsWithoutNode worn r u x before turns o → IfOk o (λ v. PopAnswers (known_of s) v (known_of x))
        answered (Ok v) d = answers_then (known_of s) (known_of u) (known_of x) v (sees_on (view s) (view u) es w) d.answer
        answered (Err refusal) d = tt

        fewer : (o : Result (Option Taken) Refusal) → added s x ≡ es ++ added u x → PopsWithoutNode worn r u x before turns o → OnOk o (spent + failed_turns (added s x) ≤ turns)
        fewer (Ok v) e d = let c = ap failed_turns e in let n = d.few in omega (arith, failed-append es (added u x), c, n, more)
        fewer (Err refusal) e d = tt

        freed_of : (o : Result (Option Taken) Refusal) → added s x ≡ es ++ added u x → PopsWithoutNode worn r u x before turns o → keeps_of u ≡ false → OnOk o (EmptiesPocket s x spent turns)
        freed_of (Ok v) e d off = ⊎_elim (λ none. inl none) (λ all. inr (let c = ap failed_turns e in omega (arith, failed-append es (added u x), c, all, more))) (d.freed off)
        freed_of (Err refusal) e d off = tt

        refused_by : (o : Result (Option Taken) Refusal) → added s x ≡ es ++ added u x → PopsWithoutNode worn r u x before turns o
            → IfErr o (λ refusal. StopsAPop s x refusal × PopWithoutNodeCaused worn r s x spent turns refusal)
        refused_by (Ok v) e d = tt
        refused_by (Err refusal) e d = (late_stop e refusal d.refused.0, late_cause e refusal d.refused.1)

  -- a word was found worn out, and the call is over
  pub draws_worn : {T : Type 0} (r : Arena) (s t : Seat T) (refusal : Refusal) (word : WornWord) (failed turns : ℕ) (es : List Event) → IsSeat r t
      → (view t).actor.line ≡ None → (view t).actor.pocket ≡ None → KeepsStored s t → KeepsSlots s t → ExtendsPath (view s) (view t) es
      → refusal ≡ WornOut word → EndedAt r s (view t).ran es (IsRefusedAt r.plan.setup (view s).number (WornOut word)) → worn word
      → PopsWithoutNode worn r s (keeping t None failed) failed turns (Err refusal)
  draws_worn r s t refusal word failed turns es seat over empty stored slots w is cause so =
      let e : added s t ≡ es = added_is s t es w in
      let rest : at_rest (view t).actor ≡ (view t).actor = ap (out_of (view t).actor) over in
      record {
        ready = record { seat = kept_seat r t None failed seat; free = ap (λ b. b.line) rest ∙ over; pocket = sym (ap (λ b. b.pocket) rest ∙ empty) };
        same = record { number = stored.number; role = stored.role; keeps = stored.keeps };
        slots = kept_slots s t None failed slots;
        later = record { path = w.path ∙ ap (λ p. (view s).path ++ p) (sym e); run = w.run };
        answer = tt;
        few = tt;
        freed = λ off. tt;
        kept = λ on. tt;
        refused = subst (λ y. StopsAPop s (keeping t None failed) y × PopWithoutNodeCaused worn r s (keeping t None failed) failed turns y) (sym is) (
          subst (ExtendsPath (view s) (view t)) (sym e) w,
          (last_held r s (keeping t None failed) es _ e cause, so),
        );
      }

  -- the queue was found shut and empty, and the call is over
  pub draws_shut : {T : Type 0} (r : Arena) (s t : Seat T) (failed turns : ℕ) (es : List Event) → IsSeat r t → (view t).actor.line ≡ None
      → (view t).actor.pocket ≡ None → KeepsStored s t → KeepsSlots s t → FindsShutEmpty (view s) (view t) es
      → EndedAt r s (view t).ran es (IsRefusedAt r.plan.setup (view s).number Closed) → PopsWithoutNode worn r s (keeping t None failed) failed turns (Err Closed)
  draws_shut r s t failed turns es seat over empty stored slots finds cause =
      let e : added s t ≡ es = added_path s t es finds.path in
      let rest : at_rest (view t).actor ≡ (view t).actor = ap (out_of (view t).actor) over in
      record {
        ready = record { seat = kept_seat r t None failed seat; free = ap (λ b. b.line) rest ∙ over; pocket = sym (ap (λ b. b.pocket) rest ∙ empty) };
        same = record { number = stored.number; role = stored.role; keeps = stored.keeps };
        slots = kept_slots s t None failed slots;
        later = record { path = finds.path ∙ ap (λ p. (view s).path ++ p) (sym e); run = finds.run };
        answer = tt;
        few = tt;
        freed = λ off. tt;
        kept = λ on. tt;
        refused = (subst (FindsShutEmpty (view s) (view t)) (sym e) finds, last_held r s (keeping t None failed) es _ e cause);
      }

  -- a value was taken by a seat that keeps no nodes, and the node that comes free is given back, or stays in the pocket
  pub draws_taken : {T : Type 0} (r : Arena) (s t x : Seat T) (word : ℕ) (h : Held) (failed turns : ℕ) (out : Result (Unit {0}) Refusal)
      (es : List Event) → keeps_of s ≡ false → failed < turns → IsSeat r t → KeepsStored s t → TakesSlot r (value_of word) s t
      → Acts (view s) (view t) (Pop (view s).number (value_of word)) es → failed_turns es ≡ 0
      → GiveAnswers r (keeping t (Some h) failed) x (turns - failed) out → PopsWithoutNode worn r s x failed turns (Ok (Some (value_of word)))
  draws_taken r s t x word h failed turns out es keeps less seat stored takes took never g =
      let acts : Acts (view s) (view x) (Pop (view s).number (value_of word)) (es ++ added t x) =
      act_then (view s) (view t) (view x) (Pop (view s).number (value_of word)) es (added t x) took (record { walks = g.lines; same = g.seen }) in
      let e : added s x ≡ es ++ added t x = added_path s x (es ++ added t x) acts.path in
      let all : failed_turns (added s x) ≡ failed_turns (added t x) = (let c = ap failed_turns e in omega (arith, failed-append es (added t x), never, c)) in
      let most : failed_turns (added t x) ≤ turns - failed = spends out g in
      record {
        ready = g.ready;
        same = record { number = g.same.number ∙ stored.number; role = g.same.role ∙ stored.role; keeps = g.same.keeps ∙ stored.keeps };
        slots = takes_then r (value_of word) s t x takes seat g.ready.seat (record {
          same = g.slots.same;
          hand = g.slots.hand;
          tries = g.slots.tries;
          number =
              g.slots.number;
          more = record { between = g.slots.more.between; deeds = g.slots.more.deeds };
        }) g.seen;
        later = record { path = acts.path ∙ ap (λ p. (view s).path ++ p) (sym e); run = acts.run };
        answer = acts.adds;
        few = omega (arith, all, most, less);
        freed = λ off. gave out all g;
        kept = λ on. absurd (false≢true (sym keeps ∙ on));
        refused = tt;
      }
    where
      gave : (o : Result (Unit {0}) Refusal) → failed_turns (added s x) ≡ failed_turns (added t x) → GiveAnswers r (keeping t (Some h) failed) x (turns - failed) o → EmptiesPocket s x failed turns
      gave (Ok u) all g = inl g.pocket
      gave (Err refusal) all g = inr (let n : failed_turns (added t x) ≡ turns - failed = g.refused.1 in omega (arith, all, n, less))

      spends : (o : Result (Unit {0}) Refusal) → GiveAnswers r (keeping t (Some h) failed) x (turns - failed) o → failed_turns (added t x) ≤ turns - failed
      spends (Ok u) g = let n : failed_of x ≡ failed_turns (added t x) = g.failed in let k = g.fewer in omega arith
      spends (Err refusal) g = let n : failed_turns (added t x) ≡ turns - failed = g.refused.1 in omega arith

  -- a value was taken by a seat that keeps its nodes, and the node that comes free stays in the pocket
  pub draws_kept : {T : Type 0} (r : Arena) (s t : Seat T) (word : ℕ) (h : Held) (failed turns : ℕ) (es : List Event) → keeps_of s ≡ true
      → failed < turns → IsSeat r t → KeepsStored s t → TakesSlot r (value_of word) s t → IsFreeing (view t).actor word h
      → Acts (view s) (view t) (Pop (view s).number (value_of word)) es → failed_turns es ≡ 0
      → PopsWithoutNode worn r s (keeping t (Some h) failed) failed turns (Ok (Some (value_of word)))
  draws_kept r s t word h failed turns es keeps less seat stored takes frees took never =
      let e : added s t ≡ es = added_path s t es took.path in
      let rest : at_rest (view t).actor ≡ record (to_pocket (view t).actor) { line = None } =
      ap (out_of (view t).actor) frees.over ∙ ap (λ d. gave_up (view t).actor (busy_or 0 d (to_pocket (view t).actor))) frees.due in
      record {
        ready = record {
          seat = kept_seat r t (Some h) failed seat;
          free = ap (λ b. b.line) rest;
          pocket =
              sym (ap (λ b. b.pocket) rest ∙ (λ i. Some (record { node = frees.node i; mark = frees.mark i })));
        };
        same = record { number = stored.number; role = stored.role; keeps = stored.keeps };
        slots = kept_takes r (value_of word) s t (Some h) failed takes;
        later = record { path = took.path ∙ ap (λ p. (view s).path ++ p) (sym e); run = took.run };
        answer = took.adds;
        few = (let c = ap failed_turns e in omega (arith, never, less, c));
        freed = λ off. absurd (false≢true (sym off ∙ keeps));
        kept = λ on. refl;
        refused = tt;
      }

  -- the queue was found empty
  pub draws_empty : {T : Type 0} (r : Arena) (s t : Seat T) (failed turns : ℕ) (es : List Event) → failed < turns → IsSeat r t
      → (view t).actor.line ≡ None → (view t).actor.pocket ≡ None → KeepsStored s t → KeepsSlots s t → (view t).path ≡ (view s).path ++ es
      → IsPrefix (view s).ran (view t).ran → failed_turns es ≡ 0 → FoundEmpty (known_by (view s)) (known_by (view t)) → PopsWithoutNode worn r s (keeping t None failed) failed turns (Ok None)
  draws_empty r s t failed turns es less seat over empty stored slots path run never found =
      let e : added s t ≡ es = added_path s t es path in
      let rest : at_rest (view t).actor ≡ (view t).actor = ap (out_of (view t).actor) over in
      record {
        ready = record { seat = kept_seat r t None failed seat; free = ap (λ b. b.line) rest ∙ over; pocket = sym (ap (λ b. b.pocket) rest ∙ empty) };
        same = record { number = stored.number; role = stored.role; keeps = stored.keeps };
        slots = kept_slots s t None failed slots;
        later = record { path = path ∙ ap (λ p. (view s).path ++ p) (sym e); run = run };
        answer = found;
        few = (let c = ap failed_turns e in omega (arith, never, less, c));
        freed = λ off. inl refl;
        kept = λ on. refl;
        refused = tt;
      }

  -- a pop with no line of its call before it
  pub whole : {T : Type 0} (r : Arena) (s x : Seat T) (turns : ℕ) (out : Result (Option Taken) Refusal) → IsReady r s → PopsWithoutNode worn r s x 0 turns out → AnswersPop worn r s x turns out
  whole r s x turns (Ok v) h d =
      record {
        ready = d.ready;
        number = same_number r s x h d.ready d.same;
        later = d.later;
        keeps = d.same.keeps;
        answer = d.answer;
        few = (let n = d.few in omega arith);
        freed = λ off. ⊎_elim (λ none. inl none) (λ all. inr (let f = all in omega arith)) (d.freed off);
        kept = d.kept;
        refused = tt;
        refusal = tt;
        caused = tt;
      }
  whole r s x turns (Err refusal) h d =
      record {
        ready = d.ready;
        number = same_number r s x h d.ready d.same;
        later = d.later;
        keeps = d.same.keeps;
        answer = tt;
        few = tt;
        freed = λ off. tt;
        kept = λ on. tt;
        refused = learns refusal d.refused.0;
        refusal = stops refusal d.refused.1;
        caused = d.refused.1;
      }
    where
      stops : (refusal : Refusal) → PopWithoutNodeCaused worn r s x 0 turns refusal → StopsPop refusal
      stops Busy f = tt
      stops (WornOut word) f = tt
      stops Closed f = tt
      stops _ f = absurd f

      learns : (refusal : Refusal) → StopsAPop s x refusal → PopRefused (known_of s) refusal (known_of x)
      learns Closed h = h.found
      learns _ h = sees_on (view s) (view x) (added s x) h

  -- the pop of a seat whose pocket was empty
  pub drawn_at_once : {T : Type 0} (r : Arena) (s v x : Seat T) (n turns : ℕ) (out : Result (Option Taken) Refusal) → IsReady r s → v ≡ s → n ≡ 0
      → PopsWithoutNode worn r v x n turns out → AnswersPop worn r s x turns out
  drawn_at_once r s v x n turns out h e f d = whole r s x turns out h (subst (λ u. PopsWithoutNode worn r u x 0 turns out) e (subst (λ m. PopsWithoutNode worn r v x m turns out) f d))

  -- the pop of a seat that first gave its node back
  pub drawn_after_give : {T : Type 0} (r : Arena) (s u v x : Seat T) (spent n turns : ℕ) (out : Result (Option Taken) Refusal) → IsReady r s → v ≡ u
      → n ≡ spent → KeepsName s u → KeepsSlots s u → HadNoEffect s u → spent ≡ failed_turns (added s u) → PopsWithoutNode worn r v x n turns out
      → AnswersPop worn r s x turns out
  drawn_after_give r s u v x spent n turns out h e f name slots w g d =
      let k : PopsWithoutNode worn r u x spent turns out = subst (λ y. PopsWithoutNode worn r y x spent turns out) e (subst (λ m. PopsWithoutNode worn r v x m turns out) f d) in
      whole r s x turns out h (draws_late r s u x (added s u) w 0 spent turns (omega (arith, g)) out name slots k)
