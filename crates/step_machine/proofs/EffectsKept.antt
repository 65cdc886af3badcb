-- What each list of moves leaves of effects: the places that they gave, and no others.
use Rattle.std.proofs.Common.{◌≡◌, ◌≢◌, ℕ, ◌+◌, ◌≤◌, ◌⊎◌, inl, inr, Bool, true, false, List, [], ◌∷◌, ◌++◌, length, map, drop, get_or, Option, Some}
use Rattle.std.proofs.Common.{None, IfSome, set, refl, sym, subst, ap, ◌∙◌, append_assoc, append-nil, length-append, arith}
use Rattle.std.specs.Prelude.{slice_get, IsSome}
use Rattle.std.specs.List.{AllByRecursion}
use Rattle.std.proofs.lemmas.Option.{none-some, same_Some, get_or_from_slice_get, IfSome_then}
use Rattle.step_machine.specs.Below.{Line, E9, D13, A5, B5, S4, S8, Reply, Stamped, Setup, Actor, Outcome, Shared}
use Rattle.step_machine.specs.declared.actors.Move.TheVariants.{Begin, Step, Give}
use Rattle.step_machine.specs.Machine.{World, opening, actor_of, new_operation, with_outcome, with_operation, latest_point, stepped, AnyMove, made, Rest, next_any, run_on, run}
use Rattle.step_machine.specs.TakingEffect.{HasEffect, TookEffect, IsByEffect, ArePlacedByEffect, HaveTheirEffect, OfOperations, OfOperationsOfCalls, HavePlacesByItsEffects}
use Rattle.step_machine.proofs.AnyMoves.{after_move}
use Rattle.step_machine.proofs.Reached.{some_of, if_some}
use Rattle.step_machine.proofs.StampsLists.{PutAt, put_set, put_end, put_cases, all_of}
use Rattle.step_machine.proofs.StampsLines.{PointAt}
use Rattle.step_machine.proofs.StampsInvariants.{Over, OperationAt, StampsInvariant}
use Rattle.step_machine.proofs.StampsMoves.{May, moves_kept, may_rest_all, calls_rest_never}
use Rattle.step_machine.proofs.EffectLines.{Effects, line_effects, give_effects}

-- the last of some moves is one of them, or it is after that one
pub split_last : (done before after : List AnyMove) (m x : AnyMove) → done ++ m ∷ [] ≡ before ++ x ∷ after → ((before ≡ done) × (m ≡ x)) ⊎ ((more : List AnyMove) × (done ≡ before ++ x ∷ more))
split_last [] [] after m x e = inl (refl, ap (λ ms. get_or ms 0 x) e)
split_last [] (b ∷ bs) after m x e =
    absurd (let short : length {A = AnyMove} [] ≡ length (bs ++ x ∷ after) = ap (λ ms. length (drop 1 ms)) e in omega (arith, length-append bs (x ∷ after)))
split_last (d ∷ ds) [] after m x e = inr (ds, ap (λ ms. get_or ms 0 x ∷ ds) e)
split_last (d ∷ ds) (b ∷ bs) after m x e =
    go (ap (λ ms. get_or ms 0 d) e) (split_last ds bs after m x (ap (drop 1) e))
  where
    go : d ≡ b → ((bs ≡ ds) × (m ≡ x)) ⊎ ((more : List AnyMove) × (ds ≡ bs ++ x ∷ more)) → ((b ∷ bs ≡ d ∷ ds) × (m ≡ x)) ⊎ ((more : List AnyMove) × (d ∷ ds ≡ b ∷ bs ++ x ∷ more))
    go same (inl p) = inl (ap (λ y. y ∷ bs) (sym same) ∙ ap (λ ys. d ∷ ys) p.0, p.1)
    go same (inr p) = inr (p.0, ap (λ y. y ∷ ds) same ∙ ap (λ ys. b ∷ ys) p.1)

-- one move more at the end of a list
pub run_last : (ms : List AnyMove) (m : AnyMove) (w v u : World) → run ms w ≡ Some v → next_any v m ≡ Some u → run (ms ++ m ∷ []) w ≡ Some u
run_last [] m w v u led e = ap (run_on (run [])) (ap (λ x. next_any x m) (same_Some w v led) ∙ e)
run_last (k ∷ ks) m w v u led e = on (next_any w k) led (λ x. run_last ks m x v u)
  where
    on : (o : Option World) → run_on (run ks) o ≡ Some v → ((x : World) → run ks x ≡ Some v → next_any v m ≡ Some u → run (ks ++ m ∷ []) x ≡ Some u) → run_on (run (ks ++ m ∷ [])) o ≡ Some u
    on None l more = absurd (none-some v l)
    on (Some x) l more = more x l e

may_on : (Rests : Type 0) (ms : List AnyMove) (m : AnyMove) → AllByRecursion (May Rests) ms → May Rests m → AllByRecursion (May Rests) (ms ++ m ∷ [])
may_on Rests [] m all may = (may, tt)
may_on Rests (k ∷ ks) m all may = (all.0, may_on Rests ks m all.1 may)

-- who takes a step, and whether a move is a step
abbrev who : AnyMove → ℕ
who (made (Begin me op)) = 0
who (made (Step me)) = me
who (made (Give me)) = 0
who (Rest me) = 0

abbrev is_step : AnyMove → Bool
is_step (made (Begin me op)) = false
is_step (made (Step me)) = true
is_step (made (Give me)) = false
is_step (Rest me) = false

-- an actor's next step has an effect
abbrev Now : World → (me number : ℕ) → Type 0
Now w me number =
    (a : Actor) × (l : Line) × (number ≡ w.steps + 1) × (actor_of w me ≡ Some a) × (a.line ≡ Some l) × HasEffect w.shared a l

-- before a line with an effect the operation has no place
effect_first : (m : Shared) (a : Actor) (l : Line) (due : Option Reply) (at : Option ℕ) (Noted : Type 0) → HasEffect m a l → PointAt l due at Noted → at ≡ None
effect_first m a E9 due at Noted h stands = stands
effect_first m a D13 due at Noted h stands = stands
effect_first m a A5 due at Noted h stands = stands
effect_first m a B5 due at Noted h stands = stands
effect_first m a S4 due at Noted h stands = stands
effect_first m a S8 due at Noted h stands = stands
effect_first m a _ due at Noted h stands = absurd h

-- nothing is not there
not_there : (reply : Option Reply) → reply ≡ None → IsSome reply → ⊥
not_there None none there = cc
not_there (Some reply) none there = none-some reply (sym none)

module _ (Rests : Type 0) (s : Setup) (n : ℕ) where
  abbrev Took : List AnyMove → (me number : ℕ) → Type 0
  Took = TookEffect s n

  -- the operations after some moves have the places that effects gave them
  record Known (done : List AnyMove) (ops : List Stamped) (steps : ℕ) : Type 0 where
    from : (i k : ℕ) (o : Stamped) → slice_get ops i ≡ Some o → IsByEffect o.reply → o.at ≡ Some k → Took done o.actor k
    to : (i k : ℕ) (o : Stamped) → slice_get ops i ≡ Some o → o.reply ≡ None → o.first ≤ k → Took done o.actor k → (o.at ≡ Some k) ⊎ Rests
    within : (me k : ℕ) → Took done me k → k ≤ steps

  -- what took effect did so when more moves are made
  took_more : (done : List AnyMove) (m : AnyMove) (me k : ℕ) → Took done me k → Took (done ++ m ∷ []) me k
  took_more done m me k t =
      record {
        before = t.before;
        after = t.after ++ m ∷ [];
        world = t.world;
        actor = t.actor;
        line = t.line;
        moves_are = ap (λ ms. ms ++ m ∷ []) t.moves_are ∙ append_assoc t.before (made (Step me) ∷ t.after) (m ∷ []);
        led = t.led;
        numbered = t.numbered;
        here = t.here;
        at_line = t.at_line;
        effect = t.effect;
      }

  -- it took effect before the last move, or by it
  took_last : (done : List AnyMove) (w : World) (m : AnyMove) (me k : ℕ) → run done (opening s n) ≡ Some w → Took (done ++ m ∷ []) me k → Took done me k ⊎ ((m ≡ made (Step me)) × Now w me k)
  took_last done w m me k led t = go (split_last done t.before t.after m (made (Step me)) t.moves_are)
    where
      go : ((t.before ≡ done) × (m ≡ made (Step me))) ⊎ ((more : List AnyMove) × (done ≡ t.before ++ made (Step me) ∷ more)) → Took done me k ⊎ ((m ≡ made (Step me)) × Now w me k)
      go (inl p) =
          let same : t.world ≡ w = same_Some t.world w (sym t.led ∙ ap (λ ms. run ms (opening s n)) p.0 ∙ led) in
          inr (p.1, subst (λ u. Now u me k) same (t.actor, t.line, t.numbered, t.here, t.at_line, t.effect))
      go (inr p) =
          inl record {
            before = t.before;
            after = p.0;
            world = t.world;
            actor = t.actor;
            line = t.line;
            moves_are = p.1;
            led = t.led;
            numbered = t.numbered;
            here = t.here;
            at_line = t.at_line;
            effect = t.effect;
          }

  -- a move that is no step leaves the operations and the numbers as they are
  still : (done : List AnyMove) (w : World) (m : AnyMove) → is_step m ≡ false → run done (opening s n) ≡ Some w → Known done w.operations w.steps → Known (done ++ m ∷ []) w.operations w.steps
  still done w m none led h =
      record {
        from = λ i k o got may at. took_more done m o.actor k (h.from i k o got may at);
        to = λ i k o got with_outcome low t. h.to i k o got with_outcome low (old o.actor k t);
        within = λ me k t. h.within me k (old me k t);
      }
    where
      old : (me k : ℕ) → Took (done ++ m ∷ []) me k → Took done me k
      old me k t =
          elim (took_last done w m me k led t) [ inl before ↦ before | inr now ↦ absurd (let f : false ≡ true = sym none ∙ ap is_step now.0 in cc) ]

  module _ (done : List AnyMove) (w : World) (m : AnyMove) (me : ℕ) (o : Outcome) (E : Type 0) (K : List ℕ) (led : run done (opening s n) ≡ Some w)
      (kept : StampsInvariant Rests K w) (h : Known done w.operations w.steps) (eff : Effects E (w.steps + 1) o)
      (took : E → Took (done ++ m ∷ []) me (w.steps + 1)) (by_it : (you k : ℕ) → m ≡ made (Step you) → Now w you k → (you ≡ me) × (k ≡ w.steps + 1) × E) where
    -- a numbered move, by the operation that it changes or adds
    put_known : (e : ℕ) (t : Stamped) (opz : List Stamped) → PutAt w.operations opz e (with_outcome (w.steps + 1) o t) → t.actor ≡ me
        → ((k : ℕ) → t.at ≡ Some k → Took done me k) → ((k : ℕ) → t.first ≤ k → Took done me k → (t.at ≡ Some k) ⊎ Rests) → (E → t.at ≡ None)
        → ((i : ℕ) (p : Stamped) → i ≢ e → slice_get w.operations i ≡ Some p → p.actor ≡ me → Over Rests p) → Known (done ++ m ∷ []) opz (w.steps + 1)
    put_known e t opz put own t_from t_to first others =
        record {
          from = λ i k p got may at. from i k p may at (put_cases put i p got);
          to = λ i k p got none low x. to i k p none low x (put_cases put i p got);
          within = λ you k x. elim (took_last done w m you k led x) [ inl old ↦ omega (arith, h.within you k old) | inr new ↦ let z : k ≡ w.steps + 1 = (by_it you k new.0 new.1).1 in omega arith ];
        }
      where
        placed : (k : ℕ) → IsByEffect o.reply → (at : Option ℕ) → o.at ≡ at → latest_point at t.at ≡ Some k → Took (done ++ m ∷ []) t.actor k
        placed k may None is at = subst (λ y. Took (done ++ m ∷ []) y k) (sym own) (took_more done m me k (t_from k at))
        placed k may (Some j) is at =
            let b : (j ≡ w.steps + 1) × E = eff.by j is may in
            subst (λ y. Took (done ++ m ∷ []) y k) (sym own)
            (subst (λ y. Took (done ++ m ∷ []) me y) (sym b.0 ∙ same_Some j k at) (took b.1))

        from : (i k : ℕ) (p : Stamped) → IsByEffect p.reply → p.at ≡ Some k
            → ((i ≡ e) × (with_outcome (w.steps + 1) o t ≡ p)) ⊎ ((i ≢ e) × (slice_get w.operations i ≡ Some p)) → Took (done ++ m ∷ []) p.actor k
        from i k p may at (inl q) =
            subst (λ (x : Stamped). IsByEffect x.reply → x.at ≡ Some k → Took (done ++ m ∷ []) x.actor k) q.1 (λ may at. placed k may o.at refl at) may at
        from i k p may at (inr q) = took_more done m p.actor k (h.from i k p q.1 may at)

        settled_at : (k : ℕ) → IsByEffect o.reply → (at : Option ℕ) → o.at ≡ at → (t.at ≡ Some k) ⊎ Rests → (latest_point at t.at ≡ Some k) ⊎ Rests
        settled_at k may None is x = x
        settled_at k may (Some j) is (inl at) = absurd (none-some k (sym (first (eff.by j is may).1) ∙ at))
        settled_at k may (Some j) is (inr rest) = inr rest

        mine : (k : ℕ) → o.reply ≡ None → t.first ≤ k → Took (done ++ m ∷ []) t.actor k → (latest_point o.at t.at ≡ Some k) ⊎ Rests
        mine k none low x = go (took_last done w m me k led (subst (λ y. Took (done ++ m ∷ []) y k) own x))
          where
            go : Took done me k ⊎ ((m ≡ made (Step me)) × Now w me k) → (latest_point o.at t.at ≡ Some k) ⊎ Rests
            go (inl old) = settled_at k (subst IsByEffect (sym none) tt) o.at refl (t_to k low old)
            go (inr new) =
                let b : (me ≡ me) × (k ≡ w.steps + 1) × E = by_it me k new.0 new.1 in
                inl (ap (λ at. latest_point at t.at) (eff.gives b.2) ∙ ap Some (sym b.1))

        to : (i k : ℕ) (p : Stamped) → p.reply ≡ None → p.first ≤ k → Took (done ++ m ∷ []) p.actor k
            → ((i ≡ e) × (with_outcome (w.steps + 1) o t ≡ p)) ⊎ ((i ≢ e) × (slice_get w.operations i ≡ Some p)) → (p.at ≡ Some k) ⊎ Rests
        to i k p none low x (inl q) =
            subst (λ (y : Stamped). y.reply ≡ None → y.first ≤ k → Took (done ++ m ∷ []) y.actor k → (y.at ≡ Some k) ⊎ Rests) q.1 (mine k) none low x
        to i k p none low x (inr q) = go (took_last done w m p.actor k led x)
          where
            over : Over Rests p → (p.at ≡ Some k) ⊎ Rests
            over (inl ended) =
                absurd (not_there p.reply none ((kept.operations.each i p q.1).placed.ended.0 ended))
            over (inr rest) = inr rest.0

            go : Took done p.actor k ⊎ ((m ≡ made (Step p.actor)) × Now w p.actor k) → (p.at ≡ Some k) ⊎ Rests
            go (inl old) = h.to i k p q.1 none low old
            go (inr new) = over (others i p q.0 q.1 (by_it p.actor k new.0 new.1).0)

    -- a numbered move of an actor at a line
    settled_known : (a : Actor) (l : Line) → ((at : Option ℕ) (Noted : Type 0) → E → PointAt l a.due at Noted → at ≡ None) → (entry : Option ℕ)
        → OperationAt Rests K w.operations me (Some l) entry a.due a.empty_at
        → Known (done ++ m ∷ []) (with_operation entry (new_operation me a.op (w.steps + 1)) (with_outcome (w.steps + 1) o) w.operations) (w.steps + 1)
    settled_known a l first None knows =
        put_known (length w.operations) (new_operation me a.op (w.steps + 1)) _ (put_end w.operations _) refl
        (λ k at. absurd (none-some k at))
        (λ k low t. absurd (let within : k ≤ w.steps = h.within me k t in omega arith))
        (λ x. refl)
        (λ i p other got own. knows.0 i p got own)
    settled_known a l first (Some e) knows =
        subst (λ x. Known (done ++ m ∷ []) (set w.operations e (with_outcome (w.steps + 1) o x)) (w.steps + 1))
        (sym (get_or_from_slice_get w.operations e knows.0 (new_operation me a.op (w.steps + 1)) knows.1.here))
        (put_known e knows.0 _ (put_set w.operations e knows.0 _ knows.1.here) knows.1.own
        (λ k at. subst (λ y. Took done y k) knows.1.own (h.from e k knows.0 knows.1.here (subst IsByEffect (sym knows.1.no_reply) tt) at))
        (λ k low t. h.to e k knows.0 knows.1.here knows.1.no_reply low (subst (λ y. Took done y k) (sym knows.1.own) t))
        (λ x. first knows.0.at _ x knows.2)
        knows.1.others)

  module _ (done : List AnyMove) (w : World) (K : List ℕ) (led : run done (opening s n) ≡ Some w) (kept : StampsInvariant Rests K w) (h : Known done w.operations w.steps) where
    -- what is known after one more move
    abbrev After : AnyMove → World → Type 0
    After m v = Known (done ++ m ∷ []) v.operations v.steps

    next_known : (m : AnyMove) → IfSome (next_any w m) (After m)
    next_known m =
        after_move w After
        (record {
          began = λ me op a is e call. still done w (made (Begin me op)) refl led h;
          step = λ me a l is at. stepped_known me a l is at;
          gave_up = λ me a l o is at given.
              settled_known done w (made (Give me)) me o ⊥ K led kept h (give_effects (w.steps + 1) a l o given) (λ x. absurd x)
              (λ you k is now. absurd (let f : false ≡ true = ap is_step is in cc))
              a l (λ at Noted x stands. absurd x) a.entry (knows me a l is at);
          at_rest = λ me a l is at may. still done w (Rest me) refl led h;
        })
        m
      where
        knows : (me : ℕ) (a : Actor) (l : Line) → actor_of w me ≡ Some a → a.line ≡ Some l → OperationAt Rests K w.operations me (Some l) a.entry a.due a.empty_at
        knows me a l is at = subst (λ x. OperationAt Rests K w.operations me x a.entry a.due a.empty_at) at (kept.actors me a is)

        stepped_known : (me : ℕ) (a : Actor) (l : Line) → actor_of w me ≡ Some a → a.line ≡ Some l → After (made (Step me)) (stepped w me a l)
        stepped_known me a l is at =
            settled_known done w (made (Step me)) me _ (HasEffect w.shared a l) K led kept h (line_effects w.setup (w.steps + 1) me a l w.shared)
            (λ x. record {
              before = done;
              after = [];
              world = w;
              actor = a;
              line = l;
              moves_are = refl;
              led = led;
              numbered = refl;
              here = is;
              at_line = at;
              effect = x;
            })
            by_it a l (λ at Noted x stands. effect_first w.shared a l a.due at Noted x stands) a.entry (knows me a l is at)
          where
            by_it : (you k : ℕ) → made (Step me) ≡ made (Step you) → Now w you k → (you ≡ me) × (k ≡ w.steps + 1) × HasEffect w.shared a l
            by_it you k e now =
                let same : you ≡ me = sym (ap who e) in
                let actor : now.0 ≡ a = same_Some now.0 a (sym now.3 ∙ ap (actor_of w) same ∙ is) in
                let line : now.1 ≡ l = same_Some now.1 l (sym now.4 ∙ ap (λ (b : Actor). b.line) actor ∙ at) in
                (same, now.2, subst (λ b. HasEffect w.shared b l) actor (subst (λ j. HasEffect w.shared now.0 j) line now.5))

  run_known : (ms done : List AnyMove) (w : World) → AllByRecursion (May Rests) done → AllByRecursion (May Rests) ms → run done (opening s n) ≡ Some w
      → Known done w.operations w.steps → IfSome (run ms w) (λ v. Known (done ++ ms) v.operations v.steps)
  run_known [] done w before may led h = subst (λ d. Known d w.operations w.steps) (sym (append-nil done)) h
  run_known (m ∷ ms) done w before may led h =
      subst (λ d. IfSome (run_on (run ms) (next_any w m)) (λ v. Known d v.operations v.steps)) (append_assoc done (m ∷ []) ms)
      (on (next_any w m) refl (next_known done w _ led (some_of (StampsInvariant Rests _) (run done (opening s n)) w led (moves_kept Rests s n done before)) h m)
      (λ v l g. run_known ms (done ++ m ∷ []) v (may_on Rests done m before may.0) may.1 l g))
    where
      on : (o : Option World) → next_any w m ≡ o → IfSome o (λ v. Known (done ++ m ∷ []) v.operations v.steps)
          → ((v : World) → run (done ++ m ∷ []) (opening s n) ≡ Some v → Known (done ++ m ∷ []) v.operations v.steps → IfSome (run ms v) (λ u. Known ((done ++ m ∷ []) ++ ms) u.operations u.steps))
          → IfSome (run_on (run ms) o) (λ u. Known ((done ++ m ∷ []) ++ ms) u.operations u.steps)
      on None e g more = tt
      on (Some v) e g more = more v (run_last done m (opening s n) w v led e) g

  opening_known : Known [] [] 0
  opening_known =
      record {
        from = λ i k o got may at. absurd (none-some o got);
        to = λ i k o got none low t. absurd (none-some o got);
        within = λ me k t. absurd (let short : length {A = AnyMove} [] ≡ length (t.before ++ made (Step me) ∷ t.after) =
            ap length t.moves_are in omega (arith, length-append t.before (made (Step me) ∷ t.after)));
      }

  moves_known : (moves : List AnyMove) → AllByRecursion (May Rests) moves → IfSome (run moves (opening s n)) (λ w. Known moves w.operations w.steps)
  moves_known moves may = run_known moves [] (opening s n) tt may refl opening_known

pub placed_by_effect : OfOperations ArePlacedByEffect
placed_by_effect s n moves =
    IfSome_then (run moves (opening s n)) (moves_known (Unit {0}) s n moves (may_rest_all moves))
    (λ w h. all_of _ w.operations (λ i o got may. if_some _ o.at (λ k at. h.from i k o got may at)))

pub have_their_effect : OfOperationsOfCalls HaveTheirEffect
have_their_effect s n moves =
    IfSome_then (run (map made moves) (opening s n)) (moves_known ⊥ s n (map made moves) (calls_rest_never moves))
    (λ w h. all_of _ w.operations (λ i o got none k low t. no_rest (h.to i k o got none low t)))
  where
    no_rest : {X : Type 0} → X ⊎ ⊥ → X
    no_rest (inl x) = x
    no_rest (inr r) = absurd r

-- the operations of each world that calls lead to
pub made_effects : (w : World) → HavePlacesByItsEffects w w.operations
made_effects w m = (
  some_of (λ v. ArePlacedByEffect w.setup m.actors (map made m.moves) v.operations) (run (map made m.moves) (opening w.setup m.actors)) w m.led (placed_by_effect w.setup m.actors (map made m.moves)),
  some_of (λ v. HaveTheirEffect w.setup m.actors (map made m.moves) v.operations) (run (map made m.moves) (opening w.setup m.actors)) w m.led (have_their_effect w.setup m.actors m.moves),
)
