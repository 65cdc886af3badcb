-- A fact of the moves made so far and of the world that they led to, which each move keeps, holds after every list of
-- moves. `Telling` says what a numbered move does with the operations.
use Rattle.std.proofs.Common.{◌≡◌, ◌≢◌, ℕ, suc, ◌+◌, ◌≤◌, ◌<◌, ◌⊎◌, inl, inr, List, [], ◌∷◌, ◌++◌, length, Option, Some, None, IfSome, set, refl, sym, ap, ◌∙◌, subst, append_assoc, append-nil, arith}
use Rattle.std.specs.Prelude.{slice_get}
use Rattle.std.specs.List.{AllByRecursion}
use Rattle.std.proofs.lemmas.Option.{same_Some, slice_get_within, get_or_from_slice_get}
use Rattle.line_table.specs.declared.lines.Line.{Line}
use Rattle.history.specs.declared.operations.Stamped.{Stamped}
use Rattle.line_steps.specs.declared.actors.Setup.{Setup}
use Rattle.line_steps.specs.Actors.{Actor}
use Rattle.line_steps.specs.Outcomes.{Outcome}
use Rattle.step_machine.specs.Machine.{World, opening, actor_of, with_actor, new_operation, with_outcome, with_operation, AnyMove, next_any, run_on, run}
use Rattle.step_machine.specs.Stamps.{makers}
use Rattle.step_machine.proofs.AnyMoves.{AfterEach, after_move}
use Rattle.step_machine.proofs.Reached.{some_of}
use Rattle.step_machine.proofs.StampsLists.{PutAt, put_set, put_end, put_cases, by_within}
use Rattle.step_machine.proofs.StampsLines.{PointAt, point_at_while}
use Rattle.step_machine.proofs.StampsInvariants.{Over, OperationAt, StampsInvariant, actor_cases}
use Rattle.step_machine.proofs.StampsMoves.{moves_kept, may_rest_all}
use Rattle.step_machine.proofs.EffectsKept.{run_last}

module _ (s : Setup) (n : ℕ) (P : List AnyMove → World → Type 0)
    (each : (done : List AnyMove) (w : World) → run done (opening s n) ≡ Some w → P done w → AfterEach w (λ m v. P (done ++ m ∷ []) v)) where
  walk : (ms done : List AnyMove) (w : World) → run done (opening s n) ≡ Some w → P done w → IfSome (run ms w) (P (done ++ ms))
  walk [] done w led h = subst (λ d. P d w) (sym (append-nil done)) h
  walk (m ∷ ms) done w led h =
      subst (λ d. IfSome (run_on (run ms) (next_any w m)) (P d)) (append_assoc done (m ∷ []) ms)
      (on (next_any w m) refl (after_move w (λ k v. P (done ++ k ∷ []) v) (each done w led h) m) (λ v l g. walk ms (done ++ m ∷ []) v l g))
    where
      on : (o : Option World) → next_any w m ≡ o → IfSome o (P (done ++ m ∷ []))
          → ((v : World) → run (done ++ m ∷ []) (opening s n) ≡ Some v → P (done ++ m ∷ []) v → IfSome (run ms v) (P ((done ++ m ∷ []) ++ ms)))
          → IfSome (run_on (run ms) o) (P ((done ++ m ∷ []) ++ ms))
      on None e g more = tt
      on (Some v) e g more = more v (run_last done m (opening s n) w v led e) g

  -- after every list of moves
  pub walked : P [] (opening s n) → (moves : List AnyMove) → IfSome (run moves (opening s n)) (P moves)
  walked starts moves = walk moves [] (opening s n) refl starts

-- what holds of the stamps after some moves
pub kept_after : (s : Setup) (n : ℕ) (done : List AnyMove) (w : World) → run done (opening s n) ≡ Some w → StampsInvariant (Unit {0}) (makers done) w
kept_after s n done w led =
    some_of (StampsInvariant (Unit {0}) (makers done)) (run done (opening s n)) w led (moves_kept (Unit {0}) s n done (may_rest_all done))

-- a numbered move of an actor tells its outcome to one operation, which is new or the last one of the actor
pub record Telling (K : List ℕ) (w : World) (me : ℕ) (a : Actor) (l : Line) (o : Outcome) (opz : List Stamped) : Type 0 where
  pub place : ℕ
  pub was : Stamped
  pub put : PutAt w.operations opz place (with_outcome (w.steps + 1) o was)
  pub own : was.actor ≡ me
  pub no_last : was.last ≡ None
  pub no_reply : was.reply ≡ None
  pub low : was.first ≤ w.steps + 1
  pub stands : PointAt l a.due was.at (Unit {0})
  pub others : (i : ℕ) (p : Stamped) → i ≢ place → slice_get w.operations i ≡ Some p → p.actor ≡ me → Over (Unit {0}) p
  pub latest : (j : ℕ) (p : Stamped) → place < j → slice_get w.operations j ≡ Some p → p.actor ≢ me
  pub from : ((a.entry ≡ None) × (place ≡ length w.operations) × (was ≡ new_operation me a.op (w.steps + 1))) ⊎ ((a.entry ≡ Some place) × (slice_get w.operations place ≡ Some was))

-- such an operation
pub telling : (K : List ℕ) (w : World) (me : ℕ) (a : Actor) (l : Line) (o : Outcome) → StampsInvariant (Unit {0}) K w → actor_of w me ≡ Some a → a.line ≡ Some l
    → Telling K w me a l o (with_operation a.entry (new_operation me a.op (w.steps + 1)) (with_outcome (w.steps + 1) o) w.operations)
telling K w me a l o kept is at = go a.entry refl (subst (λ x. OperationAt (Unit {0}) K w.operations me x a.entry a.due a.empty_at) at (kept.actors me a is))
  where
    go : (entry : Option ℕ) → a.entry ≡ entry → OperationAt (Unit {0}) K w.operations me (Some l) entry a.due a.empty_at
        → Telling K w me a l o (with_operation entry (new_operation me a.op (w.steps + 1)) (with_outcome (w.steps + 1) o) w.operations)
    go None e knows =
        record {
          place = length w.operations;
          was = new_operation me a.op (w.steps + 1);
          put = put_end w.operations (with_outcome (w.steps + 1) o (new_operation me a.op (w.steps + 1)));
          own = refl;
          no_last = refl;
          no_reply = refl;
          low = omega arith;
          stands = point_at_while l a.due None (λ no. absurd no) knows.1;
          others = λ i p other got own. knows.0 i p got own;
          latest = λ j p lt got. absurd (let within : j < length w.operations = slice_get_within w.operations j p got in omega arith);
          from = inl (e, refl, refl);
        }
    go (Some k) e knows =
        subst (λ x. Telling K w me a l o (set w.operations k (with_outcome (w.steps + 1) o x)))
        (sym (get_or_from_slice_get w.operations k knows.0 (new_operation me a.op (w.steps + 1)) knows.1.here))
        (record {
          place = k;
          was = knows.0;
          put = put_set w.operations k knows.0 (with_outcome (w.steps + 1) o knows.0) knows.1.here;
          own = knows.1.own;
          no_last = knows.1.no_last;
          no_reply = knows.1.no_reply;
          low = (let within : knows.0.first ≤ length K = by_within K knows.0.first knows.0.actor (kept.operations.each k knows.0 knows.1.here).first_own in omega (arith, kept.counted));
          stands = point_at_while l a.due knows.0.at (λ own. tt) knows.2;
          others = knows.1.others;
          latest = knows.1.latest;
          from = inr (e, knows.1.here);
        })

-- an operation that stands where one is told is the one that was there
pub stood : {K : List ℕ} {w : World} {me : ℕ} {a : Actor} {l : Line} {o : Outcome} {opz : List Stamped} (it : Telling K w me a l o opz) (i : ℕ) (p : Stamped)
    → slice_get w.operations i ≡ Some p → i ≡ it.place → it.was ≡ p
stood {w = w} {me = me} {a = a} it i p got q = go it.from
  where
    here : slice_get w.operations it.place ≡ Some p
    here = ap (λ j. slice_get w.operations j) (sym q) ∙ got

    go : ((a.entry ≡ None) × (it.place ≡ length w.operations) × (it.was ≡ new_operation me a.op (w.steps + 1))) ⊎ ((a.entry ≡ Some it.place) × (slice_get w.operations it.place ≡ Some it.was))
        → it.was ≡ p
    go (inl new) = absurd (let within : it.place < length w.operations = slice_get_within w.operations it.place p here in omega (arith, new.1))
    go (inr old) = same_Some it.was p (sym old.1 ∙ here)

-- what holds of the element put, and of each other one, holds of each element
pub each_put : {X : Type 0} {xs ys : List X} {e : ℕ} {x : X} → PutAt xs ys e x → (P : ℕ → X → Type 0) → P e x
    → ((i : ℕ) (y : X) → i ≢ e → slice_get xs i ≡ Some y → P i y) → (i : ℕ) (y : X) → slice_get ys i ≡ Some y → P i y
each_put {xs = xs} {e = e} {x = x} put P here others i y got = go (put_cases put i y got)
  where
    go : ((i ≡ e) × (x ≡ y)) ⊎ ((i ≢ e) × (slice_get xs i ≡ Some y)) → P i y
    go (inl q) = subst (λ j. P j y) (sym q.0) (subst (P e) q.1 here)
    go (inr q) = others i y q.0 q.1

-- what holds of an actor's new state, and of each other actor, holds of each actor
pub each_actor : (w : World) (me : ℕ) (a b : Actor) (P : ℕ → Actor → Type 0) → actor_of w me ≡ Some a → P me b
    → ((you : ℕ) (c : Actor) → you ≢ me → actor_of w you ≡ Some c → P you c) → (you : ℕ) (c : Actor) → actor_of (with_actor w me b) you ≡ Some c → P you c
each_actor w me a b P is mine others you c got = go (actor_cases w me a b is you c got)
  where
    go : ((you ≡ me) × (b ≡ c)) ⊎ ((you ≢ me) × (actor_of w you ≡ Some c)) → P you c
    go (inl q) = subst (λ j. P j c) (sym q.0) (subst (P me) q.1 mine)
    go (inr q) = others you c q.0 q.1

-- a fact of the element at each place is one of all elements
pub all_of : {X : Type 0} (P : X → Type 0) (xs : List X) → ((i : ℕ) (o : X) → slice_get xs i ≡ Some o → P o) → AllByRecursion P xs
all_of P [] h = tt
all_of P (x ∷ xs) h = (h 0 x refl, all_of P xs (λ i o got. h (suc i) o got))

-- and a fact of what an option has, if it has something
pub if_some_all : {X : Type 0} (o : Option X) (P : X → Type 0) → ((x : X) → o ≡ Some x → P x) → IfSome o P
if_some_all None P h = tt
if_some_all (Some x) P h = h x refl
