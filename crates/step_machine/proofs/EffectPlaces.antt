-- Each step that had an effect gave its number as the place to an operation of its actor, at a line of that call.
use Rattle.std.proofs.Common.{◌≡◌, ◌≢◌, ℕ, suc, ◌+◌, ◌-◌, ◌<◌, ◌≤◌, ◌⊎◌, inl, inr, Bool, true, false, List, [], ◌∷◌, ◌++◌, length, Option, Some, None}
use Rattle.std.proofs.Common.{IfSome, refl, sym, subst, ap, ◌∙◌, length-append, arith}
use Rattle.std.specs.Prelude.{slice_get}
use Rattle.std.specs.List.{AllByRecursion}
use Rattle.std.proofs.lemmas.Option.{none-some, same_Some}
use Rattle.line_table.specs.declared.lines.Line.{Line}
use Rattle.line_table.specs.declared.lines.Line.TheVariants.{E9, D13, A5, B5, S4, S8}
use Rattle.line_table.specs.Sections.{section_of}
use Rattle.history.specs.declared.operations.Op.{Op}
use Rattle.history.specs.declared.operations.Op.TheVariants.{Enq, Deq, Shut}
use Rattle.history.specs.declared.operations.Taken.{Taken}
use Rattle.history.specs.declared.operations.Stamped.{Stamped}
use Rattle.line_steps.specs.declared.actors.Setup.{Setup}
use Rattle.line_steps.specs.Actors.{Actor}
use Rattle.line_steps.specs.Outcomes.{Outcome}
use Rattle.line_steps.specs.Memory.{Shared, found, performed}
use Rattle.line_steps.specs.Lines.{action, outcome, gives_up}
use Rattle.line_steps.specs.Calls.{begun}
use Rattle.step_machine.specs.declared.actors.Move.TheVariants.{Begin, Step, Give}
use Rattle.step_machine.specs.Machine.{World, opening, actor_of, rested, with_actor, latest_point, with_outcome, after_outcome, entry_or, new_operation, AnyMove, made, Rest, run}
use Rattle.step_machine.specs.Stamps.{makers, HasNoEffect, EndedBefore}
use Rattle.step_machine.specs.TakingEffect.{HasEffect, TookEffect, IsByEffect, ArePlacedByEffect, OfOperations}
use Rattle.step_machine.specs.Spans.{NumberLiesIn, ComesBeforeNext, IsEffectLineOf, ArePlacedAtTheirLines, EffectsGivePlaces}
use Rattle.step_machine.proofs.Reached.{some_of}
use Rattle.step_machine.proofs.StampsLists.{same_or_not}
use Rattle.step_machine.proofs.StampsLines.{PointAt}
use Rattle.step_machine.proofs.StampsInvariants.{StampsInvariant, Operations, actor_stands}
use Rattle.step_machine.proofs.StampsMoves.{idle_got}
use Rattle.step_machine.proofs.StampsLaws.{apart}
use Rattle.step_machine.proofs.Fixed.{Pushes, Runs, FixedAt, Fixes, fixed, fixed_given, fixed_entry, fixed_begun}
use Rattle.step_machine.proofs.LegalMoves.{OfTheirCalls, calls_settled, same_op, same_op_given, begun_entry}
use Rattle.step_machine.proofs.AnyMoves.{AfterEach}
use Rattle.step_machine.proofs.EffectLines.{Effects, line_effects, give_effects}
use Rattle.step_machine.proofs.EffectsKept.{split_last, placed_by_effect}
use Rattle.step_machine.proofs.StepTells.{Tells, tells, given_tells}
use Rattle.step_machine.proofs.RepliesPlaced.{stepper, is_step}
use Rattle.step_machine.proofs.NumbersLie.{order, ended_out}
use Rattle.step_machine.proofs.EachMove.{walked, kept_after, Telling, telling, stood, each_actor}

-- a line with an effect is one of the actor's call
pushes_line : (me : ℕ) (op : Op) (val : Taken) (l : Line) → Pushes me op val → ((body : ℕ) → IsEffectLineOf (Enq body) l) → IsEffectLineOf op l
pushes_line me (Enq body) val l h lines = lines body
pushes_line me Deq val l h lines = absurd h
pushes_line me Shut val l h lines = absurd h

effect_line : (m : Shared) (me : ℕ) (a : Actor) (l : Line) → HasEffect m a l → Runs (section_of l) me a.op a.val → IsEffectLineOf a.op l
effect_line m me a E9 h r = pushes_line me a.op a.val E9 r (λ body. tt)
effect_line m me a A5 h r = pushes_line me a.op a.val A5 r (λ body. tt)
effect_line m me a D13 h r = subst (λ op. IsEffectLineOf op D13) (sym r) tt
effect_line m me a B5 h r = subst (λ op. IsEffectLineOf op B5) (sym r) tt
effect_line m me a S4 h r = subst (λ op. IsEffectLineOf op S4) (sym r) tt
effect_line m me a S8 h r = subst (λ op. IsEffectLineOf op S8) (sym r) tt
effect_line m me a _ h r = absurd h

-- before such a line the operation has no place
effect_first : (m : Shared) (a : Actor) (l : Line) (at : Option ℕ) → HasEffect m a l → PointAt l a.due at (Unit {0}) → at ≡ None
effect_first m a E9 at h stands = stands
effect_first m a D13 at h stands = stands
effect_first m a A5 at h stands = stands
effect_first m a B5 at h stands = stands
effect_first m a S4 at h stands = stands
effect_first m a S8 at h stands = stands
effect_first m a _ at h stands = absurd h

-- an operation of an actor has this place, and the line is one of its call
record PlacedAt (ops : List Stamped) (me number : ℕ) (line : Line) : Type 0 where
  place : ℕ
  operation : Stamped
  there : slice_get ops place ≡ Some operation
  own : operation.actor ≡ me
  at : operation.at ≡ Some number
  call : IsEffectLineOf operation.op line

-- an actor's next step has an effect at this line
abbrev Now : World → (me number : ℕ) → Line → Type 0
Now w me number line =
    (a : Actor) × (number ≡ w.steps + 1) × (actor_of w me ≡ Some a) × (a.line ≡ Some line) × HasEffect w.shared a line

module _ (s : Setup) (n : ℕ) where
  -- an effect was one before the last move, or is that move
  took_last : (done : List AnyMove) (w : World) (m : AnyMove) (me k : ℕ) → run done (opening s n) ≡ Some w → (t : TookEffect s n (done ++ m ∷ []) me k)
      → ((u : TookEffect s n done me k) × (u.line ≡ t.line)) ⊎ ((m ≡ made (Step me)) × Now w me k t.line)
  took_last done w m me k led t = go (split_last done t.before t.after m (made (Step me)) t.moves_are)
    where
      go : ((t.before ≡ done) × (m ≡ made (Step me))) ⊎ ((more : List AnyMove) × (done ≡ t.before ++ made (Step me) ∷ more))
          → ((u : TookEffect s n done me k) × (u.line ≡ t.line)) ⊎ ((m ≡ made (Step me)) × Now w me k t.line)
      go (inl p) =
          let same : t.world ≡ w = same_Some t.world w (sym t.led ∙ ap (λ ms. run ms (opening s n)) p.0 ∙ led) in
          inr (p.1, subst (λ u. Now u me k t.line) same (t.actor, t.numbered, t.here, t.at_line, t.effect))
      go (inr p) =
          inl (
            record {
              before = t.before;
              after = p.0;
              world = t.world;
              actor = t.actor;
              line = t.line;
              moves_are = p.1;
              led = t.led;
              numbered = t.numbered;
              here = t.here;
              at_line = t.at_line;
              effect = t.effect;
            },
            refl,
          )

  -- what the registers of actors have, and where the effects of some moves stand
  record Placing (done : List AnyMove) (w : World) : Type 0 where
    registers : (me : ℕ) (a : Actor) → actor_of w me ≡ Some a → FixedAt w.setup.limit me a a.line
    calls : OfTheirCalls w
    places : (me k : ℕ) (t : TookEffect s n done me k) → PlacedAt w.operations me k t.line

  -- a move that is no step leaves the effects as they are
  still : (done : List AnyMove) (w : World) (m : AnyMove) (me : ℕ) (a b : Actor) → is_step m ≡ false → run done (opening s n) ≡ Some w → actor_of w me ≡ Some a
      → FixedAt w.setup.limit me b b.line → ((l : Line) (e : ℕ) → b.line ≡ Some l → b.entry ≡ Some e → ⊥) → Placing done w
      → Placing (done ++ m ∷ []) (with_actor w me b)
  still done w m me a b none led is registers fresh h =
      record {
        registers = each_actor w me a b (λ j x. FixedAt w.setup.limit j x x.line) is registers (λ j x other there. h.registers j x there);
        calls = λ you e c l o there.
            each_actor w me a b (λ j x. x.line ≡ Some l → x.entry ≡ Some e → slice_get w.operations e ≡ Some o → o.op ≡ x.op) is
            (λ at entry got. absurd (fresh l e at entry)) (λ j x other here at entry got. h.calls j e x l o here at entry got) you c there;
        places = λ you k t.
            elim (took_last done w m you k led t) [
              | inl old ↦ subst (PlacedAt w.operations you k) old.1 (h.places you k old.0)
              | inr new ↦ absurd
                  (let f : false ≡ true = sym none ∙ ap is_step new.0 in cc)
            ];
      }

  module _ (done : List AnyMove) (w : World) (m : AnyMove) (me : ℕ) (a : Actor) (l : Line) (o : Outcome) (m' : Shared) (looked : Bool) (E : Type 0)
      (led : run done (opening s n) ≡ Some w) (is : actor_of w me ≡ Some a) (at_line : a.line ≡ Some l) (h : Placing done w)
      (t : Tells l looked (w.steps + 1) a o) (eff : Effects E (w.steps + 1) o) (first : (at : Option ℕ) → E → PointAt l a.due at (Unit {0}) → at ≡ None)
      (registers : Fixes w.setup.limit me o) (same : o.actor.op ≡ a.op)
      (by_it : (you k : ℕ) (line : Line) → m ≡ made (Step you) → Now w you k line → (you ≡ me) × (k ≡ w.steps + 1) × (line ≡ l) × E × IsEffectLineOf a.op l)
    where
      kept : StampsInvariant (Unit {0}) (makers done) w
      kept = kept_after s n done w led

      it : Telling (makers done) w me a l o (after_outcome w me a m' o).operations
      it = telling (makers done) w me a l o kept is at_line

      -- the operation told is of the actor's call
      op_is : it.was.op ≡ a.op
      op_is = go it.from
        where
          go : ((a.entry ≡ None) × (it.place ≡ length w.operations) × (it.was ≡ new_operation me a.op (w.steps + 1))) ⊎ ((a.entry ≡ Some it.place) × (slice_get w.operations it.place ≡ Some it.was))
              → it.was.op ≡ a.op
          go (inl new) = ap (λ (x : Stamped). x.op) new.2
          go (inr old) = h.calls me it.place a l it.was is at_line old.0 old.1

      -- an operation that has a place keeps it
      place_stays : (k : ℕ) → it.was.at ≡ Some k → latest_point o.at it.was.at ≡ Some k
      place_stays k had = go o.at refl
        where
          unplaced : (j : ℕ) → o.at ≡ Some j → IsByEffect o.reply ⊎ (it.was.at ≡ None) → it.was.at ≡ None
          unplaced j e (inl may) = first it.was.at (eff.by j e may).1 it.stands
          unplaced j e (inr none) = none

          go : (at : Option ℕ) → o.at ≡ at → latest_point at it.was.at ≡ Some k
          go None e = had
          go (Some j) e = absurd (none-some k (sym (unplaced j e (t.unplaced it.was.at it.stands)) ∙ had))

      old_placed : (you k : ℕ) (line : Line) → PlacedAt w.operations you k line → PlacedAt (after_outcome w me a m' o).operations you k line
      old_placed you k line x = go (same_or_not x.place it.place)
        where
          go : (x.place ≡ it.place) ⊎ (x.place ≢ it.place) → PlacedAt (after_outcome w me a m' o).operations you k line
          go (inr other) =
              record { place = x.place; operation = x.operation; there = it.put.others x.place other ∙ x.there; own = x.own; at = x.at; call = x.call }
          go (inl q) =
              let was : it.was ≡ x.operation = stood it x.place x.operation x.there q in
              record {
                place = it.place;
                operation = with_outcome (w.steps + 1) o it.was;
                there = it.put.here;
                own = ap (λ (z : Stamped). z.actor) was ∙ x.own;
                at = place_stays k (ap (λ (z : Stamped). z.at) was ∙ x.at);
                call = subst (λ (z : Stamped). IsEffectLineOf z.op line) (sym was) x.call;
              }

      new_placed : E → IsEffectLineOf a.op l → PlacedAt (after_outcome w me a m' o).operations me (w.steps + 1) l
      new_placed effect line =
          record {
            place = it.place;
            operation = with_outcome (w.steps + 1) o it.was;
            there = it.put.here;
            own = it.own;
            at = ap (λ x. latest_point x it.was.at) (eff.gives effect);
            call = subst (λ op. IsEffectLineOf op l) (sym op_is) line;
          }

      -- a numbered move
      settled_placing : Placing (done ++ m ∷ []) (after_outcome w me a m' o)
      settled_placing =
          record {
            registers =
                each_actor w me a (record o.actor { entry = Some (entry_or a.entry (length w.operations)) }) (λ j x. FixedAt w.setup.limit j x x.line) is
                (fixed_entry w.setup.limit me o.actor (Some (entry_or a.entry (length w.operations))) o.actor.line registers.fixed)
                (λ j x other there. h.registers j x there);
            calls = calls_settled (makers done) w me a l m' o kept is at_line same h.calls;
            places = λ you k x. places you k x (took_last done w m you k led x);
          }
        where
          places : (you k : ℕ) (x : TookEffect s n (done ++ m ∷ []) you k)
              → ((u : TookEffect s n done you k) × (u.line ≡ x.line)) ⊎ ((m ≡ made (Step you)) × Now w you k x.line)
              → PlacedAt (after_outcome w me a m' o).operations you k x.line
          places you k x (inl old) = subst (PlacedAt (after_outcome w me a m' o).operations you k) old.1 (old_placed you k old.0.line (h.places you k old.0))
          places you k x (inr new) =
              let b : (you ≡ me) × (k ≡ w.steps + 1) × (x.line ≡ l) × E × IsEffectLineOf a.op l = by_it you k x.line new.0 new.1 in
              subst (λ j. PlacedAt (after_outcome w me a m' o).operations j k x.line) (sym b.0)
              (subst (λ j. PlacedAt (after_outcome w me a m' o).operations me j x.line) (sym b.1)
              (subst (PlacedAt (after_outcome w me a m' o).operations me (w.steps + 1)) (sym b.2) (new_placed b.3 b.4)))

  -- each move keeps it
  each : (done : List AnyMove) (w : World) → run done (opening s n) ≡ Some w → Placing done w → AfterEach w (λ m v. Placing (done ++ m ∷ []) v)
  each done w led h =
      record {
        began = λ me op a is e call.
            still done w (made (Begin me op)) me a (begun w.setup.kind me op a) refl led is
            (fixed_begun w.setup.limit me w.setup.kind op a (subst (FixedAt w.setup.limit me a) e (h.registers me a is)))
            (λ l i at entry. none-some i (sym (begun_entry w.setup.kind me op a) ∙ entry)) h;
        step = λ me a l is at.
            settled_placing done w (made (Step me)) me a l (outcome w.setup (w.steps + 1) me a l (found (action w.setup me a l) w.shared))
            (performed (action w.setup me a l) w.shared) _ (HasEffect w.shared a l) led is at h
            (tells w.setup (w.steps + 1) me a l (found (action w.setup me a l) w.shared))
            (line_effects w.setup (w.steps + 1) me a l w.shared)
            (λ place effect stands. effect_first w.shared a l place effect stands)
            (fixed w.setup (w.steps + 1) me a l (found (action w.setup me a l) w.shared) (before me a l is at))
            (same_op w.setup (w.steps + 1) me a l (found (action w.setup me a l) w.shared))
            (λ you k line e now. one me a l is at you k line e now);
        gave_up = λ me a l o is at given.
            settled_placing done w (made (Give me)) me a l o w.shared false ⊥ led is at h
            (some_of (Tells l false (w.steps + 1) a) (gives_up (w.steps + 1) a l) o given (given_tells (w.steps + 1) a l))
            (give_effects (w.steps + 1) a l o given)
            (λ place effect stands. absurd effect)
            (some_of (Fixes w.setup.limit me) (gives_up (w.steps + 1) a l) o given (fixed_given w.setup.limit (w.steps + 1) me a l (before me a l is at)))
            (some_of (λ x. x.actor.op ≡ a.op) (gives_up (w.steps + 1) a l) o given (same_op_given (w.steps + 1) a l))
            (λ you k line e now. absurd (let f : false ≡ true = ap is_step e in cc));
        at_rest = λ me a l is at may. still done w (Rest me) me a (rested a) refl led is refl (λ j i line entry. none-some j line) h;
      }
    where
      before : (me : ℕ) (a : Actor) (l : Line) → actor_of w me ≡ Some a → a.line ≡ Some l → FixedAt w.setup.limit me a (Some l)
      before me a l is at = subst (FixedAt w.setup.limit me a) at (h.registers me a is)

      one : (me : ℕ) (a : Actor) (l : Line) → actor_of w me ≡ Some a → a.line ≡ Some l → (you k : ℕ) (line : Line) → made (Step me) ≡ made (Step you)
          → Now w you k line → (you ≡ me) × (k ≡ w.steps + 1) × (line ≡ l) × HasEffect w.shared a l × IsEffectLineOf a.op l
      one me a l is at you k line e now =
          let mine : you ≡ me = sym (ap stepper e) in
          let actor : now.0 ≡ a = same_Some now.0 a (sym now.2 ∙ ap (actor_of w) mine ∙ is) in
          let there : line ≡ l = same_Some line l (sym now.3 ∙ ap (λ (b : Actor). b.line) actor ∙ at) in
          let effect : HasEffect w.shared a l = subst (λ b. HasEffect w.shared b l) actor (subst (λ j. HasEffect w.shared now.0 j) there now.4) in
          (mine, now.1, there, effect, effect_line w.shared me a l effect (before me a l is at).call)

  -- at the start
  starts : Placing [] (opening s n)
  starts =
      record {
        registers = λ me a got. subst (λ (z : Actor). FixedAt s.limit me z z.line) (idle_got n (me - 1) a (actor_stands (opening s n) me a got).1) refl;
        calls = λ me e a l o there at entry got. absurd (none-some o got);
        places = λ me k t. absurd (let short : length {A = AnyMove} [] ≡ length (t.before ++ made (Step me) ∷ t.after) =
            ap length t.moves_are in omega (arith, length-append t.before (made (Step me) ∷ t.after)));
      }

  placing_after : (moves : List AnyMove) → IfSome (run moves (opening s n)) (Placing moves)
  placing_after moves = walked s n Placing each starts moves

-- an operation with a place
ends_in : (o : Stamped) (k : ℕ) → IfSome o.at (λ at. IfSome o.last (λ last. at ≤ last)) → o.at ≡ Some k → IfSome o.last (λ last. k ≤ last)
ends_in o k h e = subst (λ at. IfSome at (λ j. IfSome o.last (λ last. j ≤ last))) e h

begins_before : (o : Stamped) (k : ℕ) → IfSome o.at (λ at. o.first ≤ at) → o.at ≡ Some k → o.first ≤ k
begins_before o k h e = subst (λ at. IfSome at (λ j. o.first ≤ j)) e h

-- the operation of an effect is the one in which its number lies
same_operation : (K : List ℕ) (ops : List Stamped) (me k i : ℕ) (o : Stamped) (line : Line) → Operations (Unit {0}) K ops → slice_get ops i ≡ Some o
    → o.actor ≡ me → NumberLiesIn k o → ComesBeforeNext ops k o → PlacedAt ops me k line → o.at ≡ Some k
same_operation K ops me k i o line h got own lies next x = go (order i x.place)
  where
    starts : x.operation.first ≤ k
    starts = begins_before x.operation k (h.each x.place x.operation x.there).placed.not_before x.at

    go : (i < x.place) ⊎ ((i ≡ x.place) ⊎ (x.place < i)) → o.at ≡ Some k
    go (inl lt) =
        let before : o.first < x.operation.first = (h.pairs i x.place o x.operation lt got x.there).0 in
        absurd (let out : k < x.operation.first = next x.place x.operation x.there (x.own ∙ sym own) before in omega (arith, starts))
    go (inr (inl e)) = ap (λ (z : Stamped). z.at) (same_Some o x.operation (sym got ∙ ap (λ j. slice_get ops j) e ∙ x.there)) ∙ x.at
    go (inr (inr lt)) = absurd (over ((h.pairs x.place i x.operation o lt x.there got).1 (x.own ∙ sym own)))
      where
        over : EndedBefore x.operation o.first ⊎ (Unit {0} × HasNoEffect x.operation) → ⊥
        over (inl ended) = ended_out x.operation.last o.first k ended (ends_in x.operation k (h.each x.place x.operation x.there).placed.not_after x.at) lies.0
        over (inr left) = none-some k (sym left.1.no_place ∙ x.at)

-- and has the effect's line as one of its call
own_line : (K : List ℕ) (ops : List Stamped) (me k i : ℕ) (o : Stamped) (line : Line) → Operations (Unit {0}) K ops → slice_get ops i ≡ Some o → o.at ≡ Some k
    → PlacedAt ops me k line → IsEffectLineOf o.op line
own_line K ops me k i o line h got at x = go (order i x.place)
  where
    go : (i < x.place) ⊎ ((i ≡ x.place) ⊎ (x.place < i)) → IsEffectLineOf o.op line
    go (inl lt) = absurd (apart K o x.operation (h.each i o got) (h.each x.place x.operation x.there) (h.pairs i x.place o x.operation lt got x.there) k at x.at)
    go (inr (inl e)) = subst (λ (z : Stamped). IsEffectLineOf z.op line) (same_Some x.operation o (sym x.there ∙ ap (λ j. slice_get ops j) (sym e) ∙ got)) x.call
    go (inr (inr lt)) = absurd (apart K x.operation o (h.each x.place x.operation x.there) (h.each i o got) (h.pairs x.place i x.operation o lt x.there got) k x.at at)

pub effects_give_places : OfOperations EffectsGivePlaces
effects_give_places s n moves = on (run moves (opening s n)) refl (placing_after s n moves)
  where
    on : (o : Option World) → run moves (opening s n) ≡ o → IfSome o (Placing s n moves) → IfSome o (λ w. EffectsGivePlaces s n moves w.operations)
    on None e h = tt
    on (Some w) e h =
        λ i k o got lies next t. same_operation (makers moves) w.operations o.actor k i o t.line (kept_after s n moves w e).operations got refl lies next (h.places o.actor k t)

-- with a fact of each element, another one at each place
all_with : (P Q : Stamped → Type 0) (xs : List Stamped) → AllByRecursion P xs → ((i : ℕ) (o : Stamped) → slice_get xs i ≡ Some o → P o → Q o) → AllByRecursion Q xs
all_with P Q [] h each = tt
all_with P Q (x ∷ xs) h each = (each 0 x refl h.0, all_with P Q xs h.1 (λ i o got. each (suc i) o got))

if_some_with : (o : Option ℕ) (P Q : ℕ → Type 0) → IfSome o P → ((k : ℕ) → o ≡ Some k → P k → Q k) → IfSome o Q
if_some_with None P Q h each = tt
if_some_with (Some k) P Q h each = each k refl h

pub placed_at_their_lines : OfOperations ArePlacedAtTheirLines
placed_at_their_lines s n moves = on (run moves (opening s n)) refl (placing_after s n moves) (placed_by_effect s n moves)
  where
    on : (o : Option World) → run moves (opening s n) ≡ o → IfSome o (Placing s n moves) → IfSome o (λ w. ArePlacedByEffect s n moves w.operations)
        → IfSome o (λ w. ArePlacedAtTheirLines s n moves w.operations)
    on None e h g = tt
    on (Some w) e h g =
        all_with _ _ w.operations g
        (λ i o got effects may. if_some_with o.at _ _ (effects may) (λ k at t. record {
          step = t;
          line = own_line (makers moves) w.operations o.actor k i o t.line (kept_after s n moves w e).operations got at (h.places o.actor k t);
        }))
