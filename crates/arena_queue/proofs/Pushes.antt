-- A push behind other lines of its call, and a whole push: with a full pocket, or after a take.
use Rattle.std.proofs.Common.{◌≡◌, ℕ, ◌+◌, List, ◌++◌, Option, Result, Ok, Err, sym, ap, subst, ◌∙◌, arith, append_assoc}
use Rattle.history.specs.declared.operations.Entry.TheVariants.{Push}
use Rattle.history.specs.declared.refusals.Refusal.{Refusal}
use Rattle.history.specs.declared.refusals.Refusal.TheVariants.{WornOut, Busy, Closed}
use Rattle.history.specs.declared.refusals.WornWord.{WornWord}
use Rattle.history.specs.declared.refusals.WornWord.TheVariants.{Free as OfFree, Next as OfNext, Tail as OfTail, Head as OfHead}
use Rattle.history.specs.Answers.{StopsPush, PushRefused}
use Rattle.node_arena.specs.Machine.{Held}
use Rattle.node_arena.specs.Traces.{Event}
use Rattle.node_arena.specs.Arenas.{Arena}
use Rattle.node_arena.specs.declared.seats.Seat.{Seat}
use Rattle.node_arena.specs.Seats.{IsReady, KeepsName, view, known_of}
use Rattle.node_arena.specs.Turns.{failed_turns}
use Rattle.node_arena.specs.Paths.{IsLater, ExtendsPath, FindsShut, StopsAPush, Acts, HadNoEffect, added}
use Rattle.free_list.specs.Takes.{TakeRefused}
use Rattle.node_arena.proofs.Paths.{walk_then, then_act, then_shut, added_path, sees_on, met_behind, failed-append, failed_behind, ends_failed}
use Rattle.arena_queue.specs.Answers.{PushMoves, PushWithNodeCaused, PushesWithNodeAnd, PushesWithNode, PushCaused, AnswersPush}
use Rattle.arena_queue.proofs.Queues.{same_number}

-- what a call that was refused added to its seat's path
refused_path : {T : Type 0} (s t : Seat T) (refusal : Refusal) → StopsAPush s t refusal → (view t).path ≡ (view s).path ++ added s t
refused_path s t Closed h = h.path
refused_path s t _ h = h.path

-- a call that was refused behind other lines
stops_behind : {T : Type 0} (s t u : Seat T) (es : List Event) → ExtendsPath (view s) (view t) es → added s u ≡ es ++ added t u → (refusal : Refusal) → StopsAPush t u refusal → StopsAPush s u refusal
stops_behind s t u es w e Closed h = subst (FindsShut (view s) (view u)) (sym e) (then_shut (view s) (view t) (view u) es (added t u) w h)
stops_behind s t u es w e _ h = subst (ExtendsPath (view s) (view u)) (sym e) (walk_then (view s) (view t) (view u) es (added t u) w h)

-- what its seat then knows
pub learns : {T : Type 0} (s t : Seat T) (refusal : Refusal) → StopsAPush s t refusal → PushRefused (known_of s) refusal (known_of t)
learns s t Closed h = h.found
learns s t _ h = sees_on (view s) (view t) (added s t) h

-- and it is a later one
pub later_refused : {T : Type 0} (s t : Seat T) (refusal : Refusal) → StopsAPush s t refusal → IsLater s t
later_refused s t Closed h = record { path = h.path; run = h.run }
later_refused s t _ h = record { path = h.path; run = h.run }

-- and after a take that was refused
pub learns_of_take : {T : Type 0} (r : Arena) (s t : Seat T) (turns : ℕ) (refusal : Refusal) → HadNoEffect s t → TakeRefused r s t turns refusal → PushRefused (known_of s) refusal (known_of t)
learns_of_take r s t turns Closed w h = absurd h
learns_of_take r s t turns _ w h = sees_on (view s) (view t) (added s t) w

module _ (worn : WornWord → Option Held → Type 0) where
  -- a push behind other lines of its call
  pub put_behind : {T : Type 0} (Before After : Type 0) → (Before → After) → (r : Arena) (s t u : Seat T) (es : List Event)
      → ExtendsPath (view s) (view t) es → KeepsName s t → (node body spent all turns : ℕ) (out : Result (Unit {0}) Refusal)
      → spent + failed_turns es ≡ all → PushesWithNodeAnd Before worn r t u node body all turns out → PushesWithNodeAnd After worn r s u node body spent turns out
  put_behind Before After moves r s t u es w name node body spent all turns (Ok x) f k =
      let both : List Event = es ++ added t u in
      let acts : Acts (view s) (view u) (Push (view s).number body) both = then_act (view s) (view t) (view u) (Push (view t).number body)
      (Push (view s).number body) es (added t u) (λ i. Push (w.number i) body) w k.pushed.0 in
      let e : added s u ≡ both = added_path s u both acts.path in
      record {
        ready = k.ready;
        same = record { number = k.same.number ∙ name.number; role = k.same.role ∙ name.role; keeps = k.same.keeps ∙ name.keeps };
        slots = moves k.slots;
        pushed = (
          subst (Acts (view s) (view u) (Push (view s).number body)) (sym e) acts,
          k.pushed.1,
          (let c = ap failed_turns e in let g = k.pushed.2 in omega (arith, failed-append es (added t u), c, f, g)),
        );
        refused = tt;
      }
  put_behind Before After moves r s t u es w name node body spent all turns (Err refusal) f k =
      let both : List Event = es ++ added t u in
      let e : added s u ≡ both = added_path s u both (refused_path t u refusal k.refused.0 ∙ ap (λ p. p ++ added t u) w.path ∙ append_assoc (view s).path es (added t u)) in
      record {
        ready = k.ready;
        same = record { number = k.same.number ∙ name.number; role = k.same.role ∙ name.role; keeps = k.same.keeps ∙ name.keeps };
        slots = moves k.slots;
        pushed = tt;
        refused = (stops_behind s t u es w e refusal k.refused.0, by_cause e refusal k.refused.1);
      }
    where
      by_cause : added s u ≡ es ++ added t u → (refusal : Refusal) → PushWithNodeCaused worn r t u node all turns refusal → PushWithNodeCaused worn r s u node spent turns refusal
      by_cause e Busy x = (
        (let c = ap failed_turns e in let g = x.0 in omega (arith, failed-append es (added t u), c, f, g)),
        ends_failed s u (es ++ added t u) e (failed_behind es (added t u) x.1),
        x.2,
      )
      by_cause e (WornOut word) x = (met_behind r s t u es (WornOut word) w e x.0, x.1, x.2)
      by_cause e Closed x = (met_behind r s t u es Closed w e x.0, x.1)
      by_cause e _ x = absurd x

  -- the push of a node that was in the pocket
  pub at_once : {T : Type 0} (Slots : Type 0) (r : Arena) (s t : Seat T) (node body turns : ℕ) (out : Result (Unit {0}) Refusal) → IsReady r s
      → PushesWithNodeAnd Slots worn r s t node body 0 turns out → AnswersPush worn r s t body turns out
  at_once Slots r s t node body turns (Ok u) h k =
      record {
        ready = k.ready;
        number = same_number r s t h k.ready k.same;
        later = record { path = k.pushed.0.path; run = k.pushed.0.run };
        keeps = k.same.keeps;
        pushed = k.pushed.0.adds;
        few = (let f = k.pushed.2 in omega arith);
        pocket = k.pushed.1;
        refused = tt;
        refusal = tt;
        caused = tt;
      }
  at_once Slots r s t node body turns (Err refusal) h k =
      record {
        ready = k.ready;
        number = same_number r s t h k.ready k.same;
        later = later_refused s t refusal k.refused.0;
        keeps = k.same.keeps;
        pushed = tt;
        few = tt;
        pocket = tt;
        refused = learns s t refusal k.refused.0;
        refusal = stops refusal k.refused.1;
        caused = by_cause refusal k.refused.1;
      }
    where
      stops : (refusal : Refusal) → PushWithNodeCaused worn r s t node 0 turns refusal → StopsPush refusal
      stops Busy x = tt
      stops (WornOut word) x = tt
      stops Closed x = tt
      stops _ x = absurd x

      by_cause : (refusal : Refusal) → PushWithNodeCaused worn r s t node 0 turns refusal → PushCaused worn r s t turns refusal
      by_cause Busy x = ((let f = x.0 in omega arith), x.1)
      by_cause (WornOut OfFree) x = x.0
      by_cause (WornOut OfNext) x = (x.0, x.1)
      by_cause (WornOut OfTail) x = (x.0, x.1)
      by_cause (WornOut OfHead) x = (x.0, x.1)
      by_cause Closed x = x.0
      by_cause _ x = absurd x

  -- the push of a seat whose pocket was full
  pub put_at_once : {T : Type 0} (r : Arena) (s v x : Seat T) (node body n turns : ℕ) (out : Result (Unit {0}) Refusal) → IsReady r s → v ≡ s → n ≡ 0
      → PushesWithNode worn r v x node body n turns out → AnswersPush worn r s x body turns out
  put_at_once r s v x node body n turns out h e f p = at_once (PushMoves r body s x out) r s x node body turns out h
      (subst (λ u. PushesWithNode worn r u x node body 0 turns out) e (subst (λ m. PushesWithNode worn r v x node body m turns out) f p))

  -- the push of a seat that first took a node
  pub put_after_take : {T : Type 0} (r : Arena) (s u v x : Seat T) (node body spent n turns : ℕ) (out : Result (Unit {0}) Refusal) → IsReady r s
      → v ≡ u → n ≡ spent → KeepsName s u → HadNoEffect s u → spent ≡ failed_turns (added s u) → PushesWithNode worn r v x node body n turns out
      → AnswersPush worn r s x body turns out
  put_after_take r s u v x node body spent n turns out h e f name w g p =
      let k : PushesWithNode worn r u x node body spent turns out = subst (λ y. PushesWithNode worn r y x node body spent turns out) e
      (subst (λ m. PushesWithNode worn r v x node body m turns out) f p) in
      at_once (Unit {0}) r s x node body turns out h (put_behind (PushMoves r body u x out) (Unit {0}) (λ _. tt) r s u x (added s u) w name node body 0 spent turns out (omega arith) k)
