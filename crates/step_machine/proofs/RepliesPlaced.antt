-- Where the operations that were refused, or told that the queue is empty, have their places.
use Rattle.std.proofs.Common.{◌≡◌, ◌≢◌, ℕ, ◌+◌, ◌-◌, ◌≤◌, ◌⊎◌, inl, inr, Bool, true, false, List, [], ◌∷◌, ◌++◌, length, Option, Some, None, IfSome}
use Rattle.std.proofs.Common.{refl, sym, subst, ap, ◌∙◌, append_assoc, length-append, arith}
use Rattle.std.specs.Prelude.{slice_get, IsTrue}
use Rattle.std.specs.List.{AllByRecursion}
use Rattle.std.proofs.lemmas.Option.{none-some, same_Some, IfSome_then}
use Rattle.line_table.specs.declared.lines.Kind.{Kind}
use Rattle.line_table.specs.declared.lines.Kind.TheVariants.{TwoLock, NonBlocking}
use Rattle.line_table.specs.declared.lines.Line.{Line}
use Rattle.line_table.specs.declared.lines.Line.TheVariants.{F1, E2, A1}
use Rattle.history.specs.declared.operations.Op.{Op}
use Rattle.history.specs.declared.operations.Op.TheVariants.{Enq, Deq, Shut}
use Rattle.history.specs.declared.operations.Reply.TheVariants.{Empty}
use Rattle.history.specs.declared.operations.Stamped.{Stamped}
use Rattle.line_steps.specs.declared.actors.Setup.{Setup}
use Rattle.line_steps.specs.Actors.{Actor}
use Rattle.line_steps.specs.declared.actors.Held.{Held}
use Rattle.line_steps.specs.Outcomes.{Outcome}
use Rattle.line_steps.specs.Memory.{Shared, found, performed}
use Rattle.line_steps.specs.Lines.{action, gives_up}
use Rattle.line_steps.specs.Calls.{from_pocket, begun}
use Rattle.step_machine.specs.declared.actors.Move.TheVariants.{Begin, Step, Give}
use Rattle.step_machine.specs.Machine.{World, opening, actor_of, rested, with_actor, last_of, latest_point, with_outcome, entry_or, after_outcome, AnyMove, made, Rest, run}
use Rattle.step_machine.specs.Stamps.{makers, IsBy, AfterMoves}
use Rattle.step_machine.specs.TakingEffect.{OfOperations}
use Rattle.step_machine.specs.Recorded.{IsRefusedAtItsEnd, looks, IsLook, IsLastLook, AreEmptyAtTheirLastLook}
use Rattle.step_machine.proofs.Reached.{some_of}
use Rattle.step_machine.proofs.StampsLists.{by_within}
use Rattle.step_machine.proofs.StampsInvariants.{StampsInvariant, actor_stands}
use Rattle.step_machine.proofs.StampsMoves.{idle_got}
use Rattle.step_machine.proofs.AnyMoves.{AfterEach}
use Rattle.step_machine.proofs.EffectsKept.{split_last}
use Rattle.step_machine.proofs.StepTells.{Tells, tells, given_tells}
use Rattle.step_machine.proofs.EachMove.{walked, kept_after, Telling, telling, each_put, each_actor, all_of, if_some_all}

-- who takes a step, and whether a move is one
abbrev pub stepper : AnyMove → ℕ
stepper (made (Step me)) = me
stepper _ = 0

abbrev pub is_step : AnyMove → Bool
is_step (made (Step me)) = true
is_step _ = false

-- what a beginning leaves noted
from_pocket_noted : (l : Line) (pocket : Option Held) (a : Actor) → (from_pocket l pocket a).empty_at ≡ a.empty_at
from_pocket_noted l None a = refl
from_pocket_noted l (Some held) a = refl

begun_noted : (kind : Kind) (me : ℕ) (op : Op) (a : Actor) → (begun kind me op a).empty_at ≡ a.empty_at
begun_noted TwoLock me (Enq body) a = from_pocket_noted A1 a.pocket _
begun_noted NonBlocking me (Enq body) a = from_pocket_noted E2 a.pocket _
begun_noted TwoLock me Deq a = from_pocket_noted F1 a.pocket _
begun_noted NonBlocking me Deq a = from_pocket_noted F1 a.pocket _
begun_noted kind me Shut a = refl

module _ (s : Setup) (n : ℕ) where
  abbrev Look : List AnyMove → (me number : ℕ) → Type 0
  Look = IsLook s n

  -- a look stays one when more moves are made
  look_more : (done : List AnyMove) (m : AnyMove) (me k : ℕ) → Look done me k → Look (done ++ m ∷ []) me k
  look_more done m me k t =
      record {
        before = t.before;
        after = t.after ++ m ∷ [];
        world = t.world;
        actor = t.actor;
        line = t.line;
        moves_are = ap (λ ms. ms ++ m ∷ []) t.moves_are ∙ append_assoc t.before (made (Step me) ∷ t.after) (m ∷ []);
        led = t.led;
        numbered = t.numbered;
        here = t.here;
        at_line = t.at_line;
        looking = t.looking;
      }

  -- an actor's next step is a look
  abbrev Now : World → (me number : ℕ) → Type 0
  Now w me number = (a : Actor) × (l : Line) × (number ≡ w.steps + 1) × (actor_of w me ≡ Some a) × (a.line ≡ Some l) × IsTrue (looks l)

  -- a look was one before the last move, or is that move
  look_last : (done : List AnyMove) (w : World) (m : AnyMove) (me k : ℕ) → run done (opening s n) ≡ Some w → Look (done ++ m ∷ []) me k → Look done me k ⊎ ((m ≡ made (Step me)) × Now w me k)
  look_last done w m me k led t = go (split_last done t.before t.after m (made (Step me)) t.moves_are)
    where
      go : ((t.before ≡ done) × (m ≡ made (Step me))) ⊎ ((more : List AnyMove) × (done ≡ t.before ++ made (Step me) ∷ more)) → Look done me k ⊎ ((m ≡ made (Step me)) × Now w me k)
      go (inl p) =
          let same : t.world ≡ w = same_Some t.world w (sym t.led ∙ ap (λ ms. run ms (opening s n)) p.0 ∙ led) in
          inr (p.1, subst (λ u. Now u me k) same (t.actor, t.line, t.numbered, t.here, t.at_line, t.looking))
      go (inr p) =
          inl record {
            before = t.before;
            after = p.0;
            world = t.world;
            actor = t.actor;
            line = t.line;
            moves_are = p.1;
            led = t.led;
            numbered = t.numbered;
            here = t.here;
            at_line = t.at_line;
            looking = t.looking;
          }

  -- a number is that of the last look of an actor, or 0 where it never looked
  abbrev LastLook : List AnyMove → (me number : ℕ) → Type 0
  LastLook done me number = ((number ≡ 0) ⊎ Look done me number) × ((j : ℕ) → Look done me j → j ≤ number)

  -- a number is that of the last look of an operation's actor up to the operation's last number, or 0
  abbrev LastOf : List AnyMove → Stamped → (number : ℕ) → Type 0
  LastOf done o number =
      ((number ≡ 0) ⊎ Look done o.actor number) × ((j last : ℕ) → o.last ≡ Some last → Look done o.actor j → j ≤ last → j ≤ number)

  -- where the operations after some moves have their places, and what their actors have noted
  record Placed (done : List AnyMove) (w : World) : Type 0 where
    refused : (i : ℕ) (o : Stamped) → slice_get w.operations i ≡ Some o → IsRefusedAtItsEnd o
    empty : (i k : ℕ) (o : Stamped) → slice_get w.operations i ≡ Some o → o.reply ≡ Some Empty → o.at ≡ Some k → LastOf done o k
    empty_at : (me : ℕ) (a : Actor) → actor_of w me ≡ Some a → LastLook done me a.empty_at
    within : (me j : ℕ) → Look done me j → j ≤ w.steps

  or_look : (done : List AnyMove) (m : AnyMove) (me k : ℕ) → (k ≡ 0) ⊎ Look done me k → (k ≡ 0) ⊎ Look (done ++ m ∷ []) me k
  or_look done m me k (inl none) = inl none
  or_look done m me k (inr look) = inr (look_more done m me k look)

  -- a move that looks for no node and is told nothing
  still : (done : List AnyMove) (w : World) (m : AnyMove) (me : ℕ) (a b : Actor) → is_step m ≡ false → run done (opening s n) ≡ Some w → actor_of w me ≡ Some a
      → b.empty_at ≡ a.empty_at → Placed done w → Placed (done ++ m ∷ []) (with_actor w me b)
  still done w m me a b none led is same h =
      record {
        refused = h.refused;
        empty = λ i k o got e at.
            let x : LastOf done o k = h.empty i k o got e at in
            (or_look done m o.actor k x.0, λ j last l t low. x.1 j last l (old o.actor j t) low);
        empty_at = each_actor w me a b (λ you c. LastLook (done ++ m ∷ []) you c.empty_at) is
            (subst (λ k. LastLook (done ++ m ∷ []) me k) (sym same) (lasts me a.empty_at (h.empty_at me a is)))
            (λ you c other there. lasts you c.empty_at (h.empty_at you c there));
        within = λ you j t. h.within you j (old you j t);
      }
    where
      old : (you j : ℕ) → Look (done ++ m ∷ []) you j → Look done you j
      old you j t = elim (look_last done w m you j led t) [ inl before ↦ before | inr now ↦ absurd (let f : false ≡ true = sym none ∙ ap is_step now.0 in cc) ]

      lasts : (you k : ℕ) → LastLook done you k → LastLook (done ++ m ∷ []) you k
      lasts you k x = (or_look done m you k x.0, λ j t. x.1 j (old you j t))

  module _ (done : List AnyMove) (w : World) (m : AnyMove) (me : ℕ) (a : Actor) (l : Line) (o : Outcome) (m' : Shared) (looked : Bool)
      (led : run done (opening s n) ≡ Some w) (is : actor_of w me ≡ Some a) (at_line : a.line ≡ Some l) (h : Placed done w)
      (t : Tells l looked (w.steps + 1) a o) (yes : looked ≡ true → Look (done ++ m ∷ []) me (w.steps + 1))
      (only : (you j : ℕ) → m ≡ made (Step you) → Now w you j → (you ≡ me) × (j ≡ w.steps + 1) × (looked ≡ true)) where
    kept : StampsInvariant (Unit {0}) (makers done) w
    kept = kept_after s n done w led

    it : Telling (makers done) w me a l o (after_outcome w me a m' o).operations
    it = telling (makers done) w me a l o kept is at_line

    cases : (you j : ℕ) → Look (done ++ m ∷ []) you j → Look done you j ⊎ ((you ≡ me) × (j ≡ w.steps + 1) × (looked ≡ true))
    cases you j x = elim (look_last done w m you j led x) [ inl before ↦ inl before | inr now ↦ inr (only you j now.0 now.1) ]

    ended : (i last : ℕ) (p : Stamped) → slice_get w.operations i ≡ Some p → p.last ≡ Some last → last ≤ w.steps
    ended i last p got e =
        let by : IsBy (makers done) last p.actor = subst (λ z. IfSome z (λ k. IsBy (makers done) k p.actor)) e (kept.operations.each i p got).last_own in
        omega (arith, by_within (makers done) last p.actor by, kept.counted)

    told_refused : IsRefusedAtItsEnd (with_outcome (w.steps + 1) o it.was)
    told_refused refusal e = ap (λ x. latest_point x it.was.at) (t.refused refusal e) ∙ sym (ap (last_of (w.steps + 1)) e)

    told_empty : (k : ℕ) → o.reply ≡ Some Empty → latest_point o.at it.was.at ≡ Some k → LastOf (done ++ m ∷ []) (with_outcome (w.steps + 1) o it.was) k
    told_empty k e at =
        let empty_at : a.empty_at ≡ k = same_Some a.empty_at k (sym (ap (λ x. latest_point x it.was.at) (t.empty e)) ∙ at) in
        let x : LastLook done me a.empty_at = h.empty_at me a is in (
          subst (λ y. (k ≡ 0) ⊎ Look (done ++ m ∷ []) y k) (sym it.own) (subst (λ j. (j ≡ 0) ⊎ Look (done ++ m ∷ []) me j) empty_at (or_look done m me a.empty_at x.0)),
          λ j last end look low. go j empty_at (cases me j (subst (λ y. Look (done ++ m ∷ []) y j) it.own look)),
        )
      where
        go : (j : ℕ) → a.empty_at ≡ k → Look done me j ⊎ ((me ≡ me) × (j ≡ w.steps + 1) × (looked ≡ true)) → j ≤ k
        go j empty_at (inl old) = let low : j ≤ a.empty_at = (h.empty_at me a is).1 j old in omega arith
        go j empty_at (inr new) = absurd (none-some Empty (sym (t.notes new.2).1 ∙ e))

    lasts : (you : ℕ) (c : Actor) → you ≢ me → LastLook done you c.empty_at → LastLook (done ++ m ∷ []) you c.empty_at
    lasts you c other x = (or_look done m you c.empty_at x.0, λ j look. go j (cases you j look))
      where
        go : (j : ℕ) → Look done you j ⊎ ((you ≡ me) × (j ≡ w.steps + 1) × (looked ≡ true)) → j ≤ c.empty_at
        go j (inl old) = x.1 j old
        go j (inr new) = absurd (other new.0)

    mover : LastLook (done ++ m ∷ []) me o.actor.empty_at
    mover = go looked refl
      where
        seen : (b : Bool) (k j : ℕ) → looked ≡ b → (b ≡ true → k ≡ w.steps + 1) → (b ≡ false → k ≡ a.empty_at) → Look done me j ⊎ ((me ≡ me) × (j ≡ w.steps + 1) × (looked ≡ true)) → j ≤ k
        seen true k j is_so new old (inl x) = let low : j ≤ w.steps = h.within me j x in omega (arith, new refl)
        seen true k j is_so new old (inr x) = omega (arith, new refl, x.1)
        seen false k j is_so new old (inl x) = let low : j ≤ a.empty_at = (h.empty_at me a is).1 j x in omega (arith, old refl)
        seen false k j is_so new old (inr x) = absurd (let f : false ≡ true = sym is_so ∙ x.2 in cc)

        go : (b : Bool) → looked ≡ b → LastLook (done ++ m ∷ []) me o.actor.empty_at
        go true e = (
          inr (subst (λ k. Look (done ++ m ∷ []) me k) (sym (t.notes e).0) (yes e)),
          λ j look. seen true o.actor.empty_at j e (λ x. (t.notes e).0) (λ x. absurd (let f : false ≡ true = sym x in cc)) (cases me j look),
        )
        go false e = (
          subst (λ k. (k ≡ 0) ⊎ Look (done ++ m ∷ []) me k) (sym (t.passes e)) (or_look done m me a.empty_at (h.empty_at me a is).0),
          λ j look. seen false o.actor.empty_at j e (λ x. absurd (let f : false ≡ true = x in cc)) (λ x. t.passes e) (cases me j look),
        )

    -- another operation
    other_empty : (i k : ℕ) (p : Stamped) → slice_get w.operations i ≡ Some p → p.reply ≡ Some Empty → p.at ≡ Some k → LastOf (done ++ m ∷ []) p k
    other_empty i k p got e at =
        let x : LastOf done p k = h.empty i k p got e at in
        (or_look done m p.actor k x.0, λ j last end look low. go x j last end low (cases p.actor j look))
      where
        go : LastOf done p k → (j last : ℕ) → p.last ≡ Some last → j ≤ last → Look done p.actor j ⊎ ((p.actor ≡ me) × (j ≡ w.steps + 1) × (looked ≡ true)) → j ≤ k
        go x j last end low (inl old) = x.1 j last end old low
        go x j last end low (inr new) = let within : last ≤ w.steps = ended i last p got end in omega (arith, new.1)

    -- a numbered move
    settled_placed : Placed (done ++ m ∷ []) (after_outcome w me a m' o)
    settled_placed =
        record {
          refused = each_put it.put (λ i p. IsRefusedAtItsEnd p) told_refused (λ i p other got. h.refused i p got);
          empty = λ i k.
              each_put it.put (λ j p. p.reply ≡ Some Empty → p.at ≡ Some k → LastOf (done ++ m ∷ []) p k) (told_empty k) (λ j p other got. other_empty j k p got) i;
          empty_at =
              each_actor w me a (record o.actor { entry = Some (entry_or a.entry (length w.operations)) }) (λ you c. LastLook (done ++ m ∷ []) you c.empty_at) is mover
              (λ you c other there. lasts you c other (h.empty_at you c there));
          within = λ you j look. within you j (cases you j look);
        }
      where
        within : (you j : ℕ) → Look done you j ⊎ ((you ≡ me) × (j ≡ w.steps + 1) × (looked ≡ true)) → j ≤ w.steps + 1
        within you j (inl old) = let low : j ≤ w.steps = h.within you j old in omega arith
        within you j (inr new) = omega (arith, new.1)

  -- each move keeps it
  each : (done : List AnyMove) (w : World) → run done (opening s n) ≡ Some w → Placed done w → AfterEach w (λ m v. Placed (done ++ m ∷ []) v)
  each done w led h =
      record {
        began = λ me op a is e call. still done w (made (Begin me op)) me a _ refl led is (begun_noted w.setup.kind me op a) h;
        step = λ me a l is at.
            settled_placed done w (made (Step me)) me a l _ (performed (action w.setup me a l) w.shared) (looks l) led is at h
            (tells w.setup (w.steps + 1) me a l (found (action w.setup me a l) w.shared))
            (λ yes. record {
              before = done;
              after = [];
              world = w;
              actor = a;
              line = l;
              moves_are = refl;
              led = led;
              numbered = refl;
              here = is;
              at_line = at;
              looking = yes;
            })
            (λ you j e now. one me a l is at you j e now);
        gave_up = λ me a l o is at given.
            settled_placed done w (made (Give me)) me a l o w.shared false led is at h
            (some_of (Tells l false (w.steps + 1) a) (gives_up (w.steps + 1) a l) o given (given_tells (w.steps + 1) a l))
            (λ yes. absurd (let f : false ≡ true = yes in cc))
            (λ you j e now. absurd (let f : false ≡ true = ap is_step e in cc));
        at_rest = λ me a l is at may. still done w (Rest me) me a (rested a) refl led is refl h;
      }
    where
      one : (me : ℕ) (a : Actor) (l : Line) → actor_of w me ≡ Some a → a.line ≡ Some l → (you j : ℕ) → made (Step me) ≡ made (Step you) → Now w you j
          → (you ≡ me) × (j ≡ w.steps + 1) × (looks l ≡ true)
      one me a l is at you j e now =
          let same : you ≡ me = sym (ap stepper e) in
          let actor : now.0 ≡ a = same_Some now.0 a (sym now.3 ∙ ap (actor_of w) same ∙ is) in
          let line : now.1 ≡ l = same_Some now.1 l (sym now.4 ∙ ap (λ (b : Actor). b.line) actor ∙ at) in
          (same, now.2, subst (λ x. looks x ≡ true) line now.5)

  -- at the start
  starts : Placed [] (opening s n)
  starts =
      record {
        refused = λ i o got. absurd (none-some o got);
        empty = λ i k o got e at. absurd (none-some o got);
        empty_at = λ me a got. (
          inl (ap (λ (z : Actor). z.empty_at) (sym (idle_got n (me - 1) a (actor_stands (opening s n) me a got).1))),
          λ j look. absurd (never me j look),
        );
        within = λ me j look. absurd (never me j look);
      }
    where
      never : (me j : ℕ) → Look [] me j → ⊥
      never me j look = let short : length {A = AnyMove} [] ≡ length (look.before ++ made (Step me) ∷ look.after) =
          ap length look.moves_are in omega (arith, length-append look.before (made (Step me) ∷ look.after))

pub refused_at_the_end : AfterMoves (λ moves w. AllByRecursion IsRefusedAtItsEnd w.operations)
refused_at_the_end s n moves =
    IfSome_then (run moves (opening s n)) (walked s n (Placed s n) (each s n) (starts s n) moves) (λ w h. all_of IsRefusedAtItsEnd w.operations h.refused)

pub empty_at_the_last_look : OfOperations AreEmptyAtTheirLastLook
empty_at_the_last_look s n moves = on (run moves (opening s n)) refl (walked s n (Placed s n) (each s n) (starts s n) moves)
  where
    one : (w : World) → Placed s n moves w → StampsInvariant (Unit {0}) (makers moves) w → (i : ℕ) (o : Stamped) → slice_get w.operations i ≡ Some o
        → o.reply ≡ Some Empty → (k : ℕ) → o.at ≡ Some k → IsLastLook s n moves o k
    one w h kept i o got e k at =
        let x : ((k ≡ 0) ⊎ IsLook s n moves o.actor k) × ((j last : ℕ) → o.last ≡ Some last → IsLook s n moves o.actor j → j ≤ last → j ≤ k) = h.empty i k o got e at in
        let by : IsBy (makers moves) k o.actor = subst (λ z. IfSome z (λ j. IsBy (makers moves) j o.actor)) at (kept.operations.each i o got).at_own in
        record {
          look = elim x.0 [ inl none ↦ absurd (let some : 1 ≤ k = by.from_one in omega arith) | inr look ↦ look ];
          latest = λ j look. if_some_all o.last _ (λ last end low. x.1 j last end look low);
        }

    on : (o : Option World) → run moves (opening s n) ≡ o → IfSome o (Placed s n moves) → IfSome o (λ w. AreEmptyAtTheirLastLook s n moves w.operations)
    on None e h = tt
    on (Some w) e h = all_of _ w.operations (λ i o got empty. if_some_all o.at _ (λ k at. one w h (kept_after s n moves w e) i o got empty k at))
