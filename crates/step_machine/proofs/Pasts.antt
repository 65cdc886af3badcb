-- Moves only add to a history: what was told stays, and what begins or ends later has later numbers.
use Rattle.std.proofs.Common.{◌≡◌, ◌≢◌, ℕ, ◌+◌, ◌<◌, ◌≤◌, ◌⊎◌, inl, inr, List, [], ◌∷◌, length, Option, Some, None, IfSome, refl, sym, ap, subst, ◌∙◌, arith}
use Rattle.std.specs.Prelude.{slice_get, IsSome, IsSomeAnd}
use Rattle.std.proofs.lemmas.Option.{none-some, same_Some}
use Rattle.step_machine.specs.Below.{Stamped, Reply, Line, Actor, Shared, Outcome, found, performed, action, outcome}
use Rattle.step_machine.specs.Stamps.{makers}
use Rattle.step_machine.specs.Machine.{World, actor_of, with_actor, new_operation, last_of, with_outcome, after_outcome, AnyMove, next_any, run_on, run, IsReached}
use Rattle.step_machine.specs.Pasts.{GoesOn, IsPast, KeepsItsOrder, MovesOnlyAdd}
use Rattle.step_machine.proofs.AnyMoves.{after_move}
use Rattle.step_machine.proofs.Reached.{some_of, reached_next}
use Rattle.step_machine.proofs.StampsLists.{same_or_not, by_within, put_cases}
use Rattle.step_machine.proofs.StampsInvariants.{StampsInvariant}
use Rattle.step_machine.proofs.EachMove.{Telling, telling, stood, kept_after}

stays_same : (now : ℕ) (o : Stamped) → GoesOn now o o
stays_same now o = record {
  actor = refl;
  op = refl;
  first = refl;
  ended = λ h. refl;
  pending = λ none. subst (λ x. IfSome x (λ last. now < last)) (sym none) tt;
}

-- the operations and the numbers stay
past_same : (w v : World) → v.operations ≡ w.operations → v.steps ≡ w.steps → IsPast w v
past_same w v ops steps = record {
  steps = omega (arith, steps);
  stays = λ i o got. (o, ap (λ os. slice_get os i) ops ∙ got, stays_same w.steps o);
  begins = λ i p none got. absurd (none-some p (sym none ∙ ap (λ os. slice_get os i) (sym ops) ∙ got));
}

no_some : (x : Option ℕ) → x ≡ None → IsSome x → ⊥
no_some None e h = cc
no_some (Some n) e h = none-some n (sym e)

last_now : (now : ℕ) (reply : Option Reply) → IfSome (last_of (now + 1) reply) (λ last. now < last)
last_now now None = tt
last_now now (Some reply) = omega arith

-- an operation is told an outcome at the next number
numbered : (K : List ℕ) (w : World) (me : ℕ) (a : Actor) (l : Line) (shared : Shared) (o : Outcome) → StampsInvariant (Unit {0}) K w → actor_of w me ≡ Some a → a.line ≡ Some l
    → IsPast w (after_outcome w me a shared o)
numbered K w me a l shared o kept is at =
    record {
      steps = omega arith;
      stays = λ i p got. stays i p got (same_or_not i it.place);
      begins = λ i p none got. begins i p none (put_cases it.put i p got);
    }
  where
    it : Telling K w me a l o (after_outcome w me a shared o).operations
    it = telling K w me a l o kept is at

    told : Stamped
    told = with_outcome (w.steps + 1) o it.was

    stays : (i : ℕ) (p : Stamped) → slice_get w.operations i ≡ Some p → (i ≡ it.place) ⊎ (i ≢ it.place)
        → (q : Stamped) × (slice_get (after_outcome w me a shared o).operations i ≡ Some q) × GoesOn w.steps p q
    stays i p got (inl here) =
        let was : it.was ≡ p = stood it i p got here in (
          told,
          ap (λ j. slice_get (after_outcome w me a shared o).operations j) here ∙ it.put.here,
          subst (λ x. GoesOn w.steps x told) was (record {
            actor = refl;
            op = refl;
            first = refl;
            ended = λ h. absurd (no_some it.was.last it.no_last h);
            pending = λ none. last_now w.steps o.reply;
          }),
        )
    stays i p got (inr else) = (p, it.put.others i else ∙ got, stays_same w.steps p)

    begins : (i : ℕ) (p : Stamped) → slice_get w.operations i ≡ None → ((i ≡ it.place) × (told ≡ p)) ⊎ ((i ≢ it.place) × (slice_get w.operations i ≡ Some p)) → w.steps < p.first
    begins i p none (inr q) = absurd (none-some p (sym none ∙ q.1))
    begins i p none (inl q) = go it.from
      where
        go : ((a.entry ≡ None) × (it.place ≡ length w.operations) × (it.was ≡ new_operation me a.op (w.steps + 1))) ⊎ ((a.entry ≡ Some it.place) × (slice_get w.operations it.place ≡ Some it.was)) → w.steps < p.first
        go (inl new) = omega (arith, ap (λ (x : Stamped). x.first) new.2, ap (λ (x : Stamped). x.first) q.1)
        go (inr old) = absurd (none-some it.was (sym none ∙ ap (λ j. slice_get w.operations j) q.0 ∙ old.1))

stamps : (w : World) (r : IsReached w) → StampsInvariant (Unit {0}) (makers r.moves) w
stamps w r = kept_after w.setup r.actors r.moves w r.led

-- each move
move_past : (w : World) → IsReached w → (m : AnyMove) → IfSome (next_any w m) (λ v. IsPast w v)
move_past w r m =
    after_move w (λ k v. IsPast w v)
    (record {
      began = λ me op a is free call. past_same w (with_actor w me _) refl refl;
      step = λ me a l is at. numbered (makers r.moves) w me a l (performed (action w.setup me a l) w.shared)
          (outcome w.setup (w.steps + 1) me a l (found (action w.setup me a l) w.shared)) (stamps w r) is at;
      gave_up = λ me a l o is at given. numbered (makers r.moves) w me a l w.shared o (stamps w r) is at;
      at_rest = λ me a l is at may. past_same w (with_actor w me _) refl refl;
    })
    m

if_then : (x : Option ℕ) (P Q : ℕ → Type 0) → ((n : ℕ) → P n → Q n) → IfSome x P → IfSome x Q
if_then None P Q f h = tt
if_then (Some n) P Q f h = f n h

goes_twice : (a b : ℕ) (o p q : Stamped) → a ≤ b → GoesOn a o p → GoesOn b p q → GoesOn a o q
goes_twice a b o p q low f g = record {
  actor = g.actor ∙ f.actor;
  op = g.op ∙ f.op;
  first = g.first ∙ f.first;
  ended = λ h. let e : p ≡ o = f.ended h in g.ended (subst (λ (x : Stamped). IsSome x.last) (sym e) h) ∙ e;
  pending = λ none. go p.last refl (f.pending none);
}
  where
    go : (x : Option ℕ) → p.last ≡ x → IfSome x (λ last. a < last) → IfSome q.last (λ last. a < last)
    go None e h = if_then q.last (λ n. b < n) (λ n. a < n) (λ n less. omega (arith, less, low)) (g.pending e)
    go (Some n) e h = subst (λ (y : Option ℕ). IfSome y (λ last. a < last)) (sym (ap (λ (x : Stamped). x.last) (g.ended (subst (λ y. IsSome y) (sym e) refl)) ∙ e)) h

past_twice : (w v u : World) → IsPast w v → IsPast v u → IsPast w u
past_twice w v u f g = record {
  steps = omega (arith, f.steps, g.steps);
  stays = λ i o got. let p = f.stays i o got in let q = g.stays i p.0 p.1 in (q.0, q.1, goes_twice w.steps v.steps o p.0 q.0 f.steps p.2 q.2);
  begins = λ i q none got. begins i q none got (slice_get v.operations i) refl;
}
  where
    begins : (i : ℕ) (q : Stamped) → slice_get w.operations i ≡ None → slice_get u.operations i ≡ Some q → (x : Option Stamped) → slice_get v.operations i ≡ x → w.steps < q.first
    begins i q none got None e = let later : v.steps < q.first = g.begins i q e got in omega (arith, later, f.steps)
    begins i q none got (Some p) e =
        let on = g.stays i p e in
        let same : on.0 ≡ q = same_Some on.0 q (sym on.1 ∙ got) in
        omega (arith, f.begins i p none e, on.2.first, ap (λ (x : Stamped). x.first) same)

-- each list of moves
past : (ms : List AnyMove) (w v : World) → IsReached w → run ms w ≡ Some v → IsPast w v
past [] w v r e = subst (IsPast w) (same_Some w v e) (past_same w w refl refl)
past (m ∷ ms) w v r e = go (next_any w m) refl e (λ u. past ms u v)
  where
    go : (o : Option World) → next_any w m ≡ o → run_on (run ms) o ≡ Some v → ((u : World) → IsReached u → run ms u ≡ Some v → IsPast u v) → IsPast w v
    go None f g each = absurd (none-some v g)
    go (Some u) f g each = past_twice w u v (some_of (λ x. IsPast w x) (next_any w m) u f (move_past w r m)) (each u (reached_next w u m r f) g)

-- all numbers were given
within : (w : World) (r : IsReached w) (i : ℕ) (o : Stamped) → slice_get w.operations i ≡ Some o → IfSome o.last (λ last. last ≤ w.steps)
within w r i o got =
    let k = stamps w r in
    if_then o.last _ (λ n. n ≤ w.steps) (λ n by. omega (arith, by_within (makers r.moves) n o.actor by, k.counted)) (k.operations.each i o got).last_own

order : (w v : World) → IsReached w → IsPast w v → KeepsItsOrder w v
order w v r past i j o p got ended new less =
    let on = past.stays i o got in
    let same : on.0 ≡ o = on.2.ended ended in
    (on.1 ∙ ap (λ x. Some x) same, go o.last ended (within w r i o got))
  where
    go : (x : Option ℕ) → IsSome x → IfSome x (λ last. last ≤ w.steps) → IsSomeAnd x (λ last. last < p.first)
    go None e h = cc
    go (Some n) e h = omega (arith, h, less)

pub only_add : MovesOnlyAdd
only_add ms w v r e = let p = past ms w v r e in record { past = p; order = order w v r p }
