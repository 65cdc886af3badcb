-- The operations of a world with the replies that their calls have earned, and what a step makes of them, for both queues.
--
-- `bare_completion w` lists them without their first and last numbers. `simulates` says what a step does with it, and `unchanged` and
-- `entered_at` what that does with the operations by rising place: nothing, or one more is inserted.
use Rattle.std.proofs.Common.{◌≡◌, ◌≢◌, ℕ, zero, suc, ◌+◌, ◌-◌, ◌≤◌, ◌<◌, ◌⊎◌, inl, inr, Bool, true, false, nat_eq, nat_lt, if◌then◌else◌, Option}
use Rattle.std.proofs.Common.{Some, None, IfSome, List, [], ◌∷◌, ◌++◌, map, set, length, refl, sym, ap, ◌∙◌, subst, arith}
use Rattle.std.specs.Prelude.{slice_get, IsSome}
use Rattle.std.proofs.lemmas.Bool.{eqb-false, ltb-true, ltb-false}
use Rattle.std.proofs.lemmas.List.{map-append}
use Rattle.std.proofs.lemmas.Option.{none-some, same_Some, slice_get_within, get_or_from_slice_get}
use Rattle.step_machine.specs.Below.{Line, F1, F2, F3, E17, A6, A7, S9, B6, D5, Op, Reply, Done, Value, Empty, Refused, Stamped, inserted, by_point, Actor, Outcome, Shared}
use Rattle.step_machine.specs.Machine.{World, actor_of, new_operation, with_outcome, with_operation, entry_or, latest_point, after_outcome, with_actor}
use Rattle.step_machine.specs.Places.{one_if}
use Rattle.step_machine.specs.Completion.{decided_reply, due_of, completed_reply, is_value}
use Rattle.step_machine.specs.Stamps.{IsBy, IsStamped}
use Rattle.step_machine.proofs.Reached.{actor_stands}
use Rattle.step_machine.proofs.StampsLists.{same_or_not, slice_get-set_same, slice_get-set_other, put_set, put_end, by_within}
use Rattle.step_machine.proofs.StampsLines.{PointFits, PointLeft, PointAt, point_at_while, GoesOn, Turns}
use Rattle.step_machine.proofs.StampsInvariants.{Over, Operations, Idle, Busy, OperationAt, StampsInvariant, Does, settled_kept}
use Rattle.step_machine.proofs.StampsLaws.{apart}
use Rattle.step_machine.proofs.Fixed.{DecidedAt, DecidedFreeing, DecidedUnlocking, DecidedLeaving}
use Rattle.step_machine.proofs.LinearizationSteps.{KeepsReply}
use Rattle.step_machine.proofs.Replay.{place_given, place_added, unplaced_set, unplaced_added, set_same}

-- an operation of an actor, by its place and its reply alone
abbrev pub entered : (me : ℕ) → Op → Option ℕ → Option Reply → Stamped
entered me op at reply = record { actor = me; op = op; first = 0; last = None; at = at; reply = reply }

-- an operation with the reply that its call has earned, without its first and last numbers
abbrev pub entry_in : World → Stamped → Stamped
entry_in w o = entered o.actor o.op o.at (completed_reply o.reply o.at (due_of (actor_of w o.actor)))

-- all of them
abbrev pub bare_completion : World → List Stamped
bare_completion w = map (entry_in w) w.operations

-- how many values were taken
abbrev pub taken : List Stamped → ℕ
taken [] = 0
taken (o ∷ os) = one_if (is_value o.reply) + taken os

pub taken-append : (xs ys : List Stamped) → taken (xs ++ ys) ≡ taken xs + taken ys
taken-append [] ys = omega arith
taken-append (x ∷ xs) ys = omega (arith, taken-append xs ys)

taken-set : (xs : List Stamped) (i : ℕ) (x y : Stamped) → slice_get xs i ≡ Some x → taken (set xs i y) + one_if (is_value x.reply) ≡ taken xs + one_if (is_value y.reply)
taken-set [] i x y got = absurd (none-some x got)
taken-set (z ∷ zs) zero x y got =
    let e : one_if (is_value z.reply) ≡ one_if (is_value x.reply) = ap (λ (o : Stamped). one_if (is_value o.reply)) (same_Some z x got) in omega (arith, e)
taken-set (z ∷ zs) (suc i) x y got = omega (arith, taken-set zs i x y got)

-- maps that agree on a list, and ones that agree but at a place that is set
pub map_agree : {X Y : Type 0} (f g : X → Y) (xs : List X) → ((i : ℕ) (x : X) → slice_get xs i ≡ Some x → f x ≡ g x) → map f xs ≡ map g xs
map_agree f g [] each = refl
map_agree f g (x ∷ xs) each = cc (each 0 x refl, map_agree f g xs (λ i y got. each (suc i) y got))

map_set : {X Y : Type 0} (f g : X → Y) (xs : List X) (e : ℕ) (y : X) → ((i : ℕ) (x : X) → i ≢ e → slice_get xs i ≡ Some x → f x ≡ g x) → map f (set xs e y) ≡ set (map g xs) e (f y)
map_set f g [] e y each = refl
map_set f g (x ∷ xs) zero y each = ap (λ zs. f y ∷ zs) (map_agree f g xs (λ i z got. each (suc i) z (omega arith) got))
map_set f g (x ∷ xs) (suc e) y each =
    cc (each 0 x (omega arith) refl, map_set f g xs e y (λ i z other got. each (suc i) z (λ q. other (let s : suc i ≡ suc e = q in omega arith)) got))

get_map : {X Y : Type 0} (f : X → Y) (xs : List X) (i : ℕ) (y : Y) → slice_get (map f xs) i ≡ Some y → (x : X) × (slice_get xs i ≡ Some x) × (f x ≡ y)
get_map f [] i y got = absurd (none-some y got)
get_map f (x ∷ xs) zero y got = (x, refl, same_Some (f x) y got)
get_map f (x ∷ xs) (suc i) y got = get_map f xs i y got

map_get : {X Y : Type 0} (f : X → Y) (xs : List X) (i : ℕ) (x : X) → slice_get xs i ≡ Some x → slice_get (map f xs) i ≡ Some (f x)
map_get f [] i x got = absurd (none-some x got)
map_get f (y ∷ ys) zero x got = ap (λ z. Some (f z)) (same_Some y x got)
map_get f (y ∷ ys) (suc i) x got = map_get f ys i x got

-- the actors of a world after one has another state
pub actor_same : (w : World) (me : ℕ) (a b : Actor) → actor_of w me ≡ Some a → actor_of (with_actor w me b) me ≡ Some b
actor_same w me a b is = go (nat_eq me 0) refl
  where
    go : (z : Bool) → nat_eq me 0 ≡ z → (if z then None else slice_get (set w.actors (me - 1) b) (me - 1)) ≡ Some b
    go true e = absurd (none-some a (sym (ap (λ z. if z then None else slice_get w.actors (me - 1)) e) ∙ is))
    go false e = slice_get-set_same w.actors (me - 1) a b (actor_stands w me a is).1

pub actor_other : (w : World) (me you : ℕ) (b : Actor) → 1 ≤ me → you ≢ me → actor_of (with_actor w me b) you ≡ actor_of w you
actor_other w me you b some other = go (nat_eq you 0) refl
  where
    go : (z : Bool) → nat_eq you 0 ≡ z → (if z then None else slice_get (set w.actors (me - 1) b) (you - 1)) ≡ (if z then None else slice_get w.actors (you - 1))
    go true e = refl
    go false e =
        let ne : ¬ (you ≡ 0) = eqb-false you 0 e in
        let d : you - 1 ≢ me - 1 = omega arith in
        slice_get-set_other w.actors (me - 1) (you - 1) b d

-- the reply of an operation that is over doesn't hang on its actor
over_reply : (K : List ℕ) (p : Stamped) (d d' : Option Reply) → IsStamped K p → Over (Unit {0}) p → completed_reply p.reply p.at d ≡ completed_reply p.reply p.at d'
over_reply K p d d' h (inl ended) = go p.reply (h.placed.ended.0 ended)
  where
    go : (reply : Option Reply) → IsSome reply → completed_reply reply p.at d ≡ completed_reply reply p.at d'
    go None e = cc
    go (Some r) e = refl
over_reply K p d d' h (inr left) =
    let e : (c : Option Reply) → completed_reply p.reply p.at c ≡ None = λ c. ap (λ r. completed_reply r p.at c) left.1.no_reply ∙ ap (λ t. completed_reply None t c) left.1.no_place in
    e d ∙ sym (e d')

-- an operation that isn't the mover's, or is over, stays as it is in the book
pub entry_kept : (K : List ℕ) (w : World) (me : ℕ) (b : Actor) (p : Stamped) → 1 ≤ me → IsStamped K p → (p.actor ≡ me → Over (Unit {0}) p) → entry_in (with_actor w me b) p ≡ entry_in w p
entry_kept K w me b p some h over = go (same_or_not p.actor me)
  where
    go : (p.actor ≡ me) ⊎ (p.actor ≢ me) → entry_in (with_actor w me b) p ≡ entry_in w p
    go (inl own) = ap (entered p.actor p.op p.at) (over_reply K p _ _ h (over own))
    go (inr other) = ap (λ x. entered p.actor p.op p.at (completed_reply p.reply p.at (due_of x))) (actor_other w me p.actor b some other)

-- the mover's operation is added to the book, or changed in it
abbrev pub Booked : (T T' : List Stamped) (me : ℕ) → Op → (at0 : Option ℕ) (due0 : Option Reply) (at1 : Option ℕ) (reply1 : Option Reply) → Type 0
Booked T T' me op at0 due0 at1 reply1 =
    ((T' ≡ T ++ entered me op at1 reply1 ∷ []) × (at0 ≡ None))
    ⊎ ((e : ℕ) × (slice_get T e ≡ Some (entered me op at0 (completed_reply None at0 due0))) × (T' ≡ set T e (entered me op at1 reply1)))

-- what a step does with the book
pub record Simulates (w v : World) (me : ℕ) (a : Actor) (o : Outcome) : Type 0 where
  pub at0 : Option ℕ
  pub booked : Booked (bare_completion w) (bare_completion v) me a.op at0 a.due (latest_point o.at at0) (completed_reply o.reply (latest_point o.at at0) o.actor.due)
  pub unplaced : decided_reply a.due ≡ None → at0 ≡ None
  pub told : latest_point o.at at0 ≡ None → o.reply ≡ None
  pub others : (n : ℕ) → o.at ≡ Some n → at0 ≡ None → (j : ℕ) (q : Stamped) → slice_get (bare_completion w) j ≡ Some q → q.at ≢ Some n
  pub within : (j n : ℕ) (q : Stamped) → slice_get (bare_completion w) j ≡ Some q → q.at ≡ Some n → n ≤ w.steps

-- a call that has earned nothing has no place: one that frees a node, one that lets the head lock go, and any
freeing : (due : Option Reply) (at : Option ℕ) → PointFits due at (Unit {0}) → DecidedFreeing due → decided_reply due ≡ None → at ≡ None
freeing None at h e n = h
freeing (Some (Value v)) at h e n = cc
freeing _ at h e n = absurd e

unlocking : (due : Option Reply) (at : Option ℕ) → PointFits due at (Unit {0}) → DecidedUnlocking due → decided_reply due ≡ None → at ≡ None
unlocking None at h e n = absurd e
unlocking (Some Done) at h e n = absurd e
unlocking (Some (Value v)) at h e n = cc
unlocking (Some Empty) at h e n = h.0
unlocking (Some (Refused refusal)) at h e n = h

leaving : (due : Option Reply) (at : Option ℕ) → PointLeft due at → DecidedLeaving due → decided_reply due ≡ None → at ≡ None
leaving (Some Done) at h e n = cc
leaving (Some (Refused refusal)) at h e n = h
leaving _ at h e n = absurd e

unplaced_at : (l : Line) (due : Option Reply) (at : Option ℕ) → PointAt l due at (Unit {0}) → DecidedAt l due → decided_reply due ≡ None → at ≡ None
unplaced_at F1 due at h e n = freeing due at h e n
unplaced_at F2 due at h e n = freeing due at h e n
unplaced_at F3 due at h e n = freeing due at h e n
unplaced_at E17 due at h e n = absurd (let x : decided_reply (Some Done) ≡ None = ap decided_reply (sym e) ∙ n in cc)
unplaced_at A6 due at h e n = absurd (let x : decided_reply (Some Done) ≡ None = ap decided_reply (sym e) ∙ n in cc)
unplaced_at A7 due at h e n = leaving due at h e n
unplaced_at S9 due at h e n = leaving due at h e n
unplaced_at B6 due at h e n = unlocking due at h e n
unplaced_at D5 due at h e n = h.0
unplaced_at _ due at h e n = h

-- a call that isn't over at a step has no reply
told_none : (line : Option Line) (reply due : Option Reply) (at : Option ℕ) → GoesOn line reply due at (Unit {0}) → at ≡ None → reply ≡ None
told_none None None due at g e = refl
told_none None (Some reply) due None g e = cc
told_none None (Some reply) due (Some n) g e = cc
told_none (Some l) None due at g e = refl
told_none (Some l) (Some reply) due at g e = absurd g

-- two operations of a list have different places
distinct : (K : List ℕ) (ops : List Stamped) → Operations (Unit {0}) K ops → (i j : ℕ) (o p : Stamped) (n : ℕ) → i ≢ j → slice_get ops i ≡ Some o
    → slice_get ops j ≡ Some p → o.at ≡ Some n → p.at ≢ Some n
distinct K ops h i j o p n ne goto gotp at = go (nat_lt i j) refl
  where
    go : (b : Bool) → nat_lt i j ≡ b → p.at ≢ Some n
    go true e = apart K o p (h.each i o goto) (h.each j p gotp) (h.pairs i j o p (ltb-true i j e) goto gotp) n at
    go false e = λ f.
        let up : j ≤ i = ltb-false i j e in
        apart K p o (h.each j p gotp) (h.each i o goto) (h.pairs j i p o (omega arith) gotp goto) n f at

settled_at : (o : Option ℕ) (before : Option ℕ) (n : ℕ) → o ≡ Some n → latest_point o before ≡ Some n
settled_at o before n e = ap (λ x. latest_point x before) e

-- a place is a number that was given
placed_within : (K : List ℕ) (w : World) → StampsInvariant (Unit {0}) K w → (j n : ℕ) (q : Stamped) → slice_get (bare_completion w) j ≡ Some q → q.at ≡ Some n → n ≤ w.steps
placed_within K w h j n q got at =
    let p : (x : Stamped) × (slice_get w.operations j ≡ Some x) × (entry_in w x ≡ q) = get_map (entry_in w) w.operations j q got in
    let e : p.0.at ≡ Some n = ap (λ (x : Stamped). x.at) p.2 ∙ at in
    let by : IsBy K n p.0.actor = subst (λ x. IfSome x (λ k. IsBy K k p.0.actor)) e (h.operations.each j p.0 p.1).at_own in
    let low : n ≤ length K = by_within K n p.0.actor by in
    let c : w.steps ≡ length K = h.counted in
    omega arith

if_any : (o : Option ℕ) → IfSome o (λ n. Unit {0})
if_any None = tt
if_any (Some n) = tt

module _ (K : List ℕ) (w : World) (me : ℕ) (a : Actor) (m' : Shared) (l : Line) (o : Outcome) (h : StampsInvariant (Unit {0}) K w) (is : actor_of w me ≡ Some a)
    (does : Does (w.steps + 1) l a.due a.empty_at o) (earns : DecidedAt l a.due) where
  abbrev now : Actor
  now = record o.actor { entry = Some (entry_or a.entry (length w.operations)) }

  some_me : 1 ≤ me
  some_me = (actor_stands w me a is).0

  turns : (at0 : Option ℕ) → PointAt l a.due at0 (Unit {0}) → Turns (λ n. Unit {0}) at0 o
  turns at0 st = does (λ n. Unit {0}) at0 tt (if_any at0) st

  -- the first step of a call
  simulates_first : a.entry ≡ None → Idle (Unit {0}) w.operations me → PointAt l a.due None ⊥
      → StampsInvariant (Unit {0}) (K ++ me ∷ []) (after_outcome w me a m' o) → Simulates w (after_outcome w me a m' o) me a o
  simulates_first e idle stands after =
      record {
        at0 = None;
        booked = inl (made, refl);
        unplaced = λ f. refl;
        told = λ f. told_none o.actor.line o.reply o.actor.due (latest_point o.at None) (turns None st).goes_on f;
        others = λ n at f j q got at'.
            let p : (x : Stamped) × (slice_get w.operations j ≡ Some x) × (entry_in w x ≡ q) = get_map (entry_in w) w.operations j q got in
            let low : j < length w.operations = slice_get_within w.operations j p.0 p.1 in
            distinct (K ++ me ∷ []) opz (subst (Operations (Unit {0}) (K ++ me ∷ [])) ops after.operations) (length w.operations) j x p.0 n (omega arith)
            (put_end w.operations x).here ((put_end w.operations x).others j (omega arith) ∙ p.1) (settled_at o.at None n at) (ap (λ (y : Stamped). y.at) p.2 ∙ at');
        within = placed_within K w h;
      }
    where
      x : Stamped
      x = with_outcome (w.steps + 1) o (new_operation me a.op (w.steps + 1))

      opz : List Stamped
      opz = w.operations ++ x ∷ []

      ops : (after_outcome w me a m' o).operations ≡ opz
      ops = ap (λ y. with_operation y (new_operation me a.op (w.steps + 1)) (with_outcome (w.steps + 1) o) w.operations) e

      st : PointAt l a.due None (Unit {0})
      st = point_at_while l a.due None (λ no. absurd no) stands

      mine : entry_in (with_actor w me now) x ≡ entered me a.op (latest_point o.at None) (completed_reply o.reply (latest_point o.at None) o.actor.due)
      mine = ap (λ y. entered me a.op (latest_point o.at None) (completed_reply o.reply (latest_point o.at None) (due_of y))) (actor_same w me a now is)

      made : bare_completion (after_outcome w me a m' o) ≡ bare_completion w ++ entered me a.op (latest_point o.at None) (completed_reply o.reply (latest_point o.at None) o.actor.due) ∷ []
      made =
          ap (map (entry_in (with_actor w me now))) ops
          ∙ map-append (entry_in (with_actor w me now)) w.operations (x ∷ [])
          ∙ ap (λ ys. ys ++ entry_in (with_actor w me now) x ∷ []) (map_agree (entry_in (with_actor w me now)) (entry_in w) w.operations
          (λ i p got. entry_kept K w me now p some_me (h.operations.each i p got) (λ own. idle i p got own)))
          ∙ ap (λ y. bare_completion w ++ y ∷ []) mine

  -- a later step
  simulates_later : (e : ℕ) → a.entry ≡ Some e → (s : Stamped) → Busy (Unit {0}) w.operations me e s → s.op ≡ a.op → PointAt l a.due s.at (Unit {0})
      → StampsInvariant (Unit {0}) (K ++ me ∷ []) (after_outcome w me a m' o) → Simulates w (after_outcome w me a m' o) me a o
  simulates_later e at s b op st after =
      record {
        at0 = s.at;
        booked = inr (e, before, made);
        unplaced = λ f. unplaced_at l a.due s.at st earns f;
        told = λ f. told_none o.actor.line o.reply o.actor.due (latest_point o.at s.at) (turns s.at st).goes_on f;
        others = λ n nat f j q got at'. other n nat f j q at' (get_map (entry_in w) w.operations j q got) (same_or_not j e);
        within = placed_within K w h;
      }
    where
      x : Stamped
      x = with_outcome (w.steps + 1) o s

      opz : List Stamped
      opz = set w.operations e x

      ops : (after_outcome w me a m' o).operations ≡ opz
      ops =
          ap (λ y. with_operation y (new_operation me a.op (w.steps + 1)) (with_outcome (w.steps + 1) o) w.operations) at
          ∙ ap (λ y. set w.operations e (with_outcome (w.steps + 1) o y)) (get_or_from_slice_get w.operations e s (new_operation me a.op (w.steps + 1)) b.here)

      before : slice_get (bare_completion w) e ≡ Some (entered me a.op s.at (completed_reply None s.at a.due))
      before =
          map_get (entry_in w) w.operations e s b.here
          ∙ ap (λ y. Some (entered y s.op s.at (completed_reply s.reply s.at (due_of (actor_of w y))))) b.own
          ∙ ap (λ y. Some (entered me y s.at (completed_reply s.reply s.at (due_of (actor_of w me))))) op
          ∙ ap (λ y. Some (entered me a.op s.at (completed_reply y s.at (due_of (actor_of w me))))) b.no_reply
          ∙ ap (λ y. Some (entered me a.op s.at (completed_reply None s.at (due_of y)))) is

      mine : entry_in (with_actor w me now) x ≡ entered me a.op (latest_point o.at s.at) (completed_reply o.reply (latest_point o.at s.at) o.actor.due)
      mine =
          ap (λ y. entered y s.op (latest_point o.at s.at) (completed_reply o.reply (latest_point o.at s.at) (due_of (actor_of (with_actor w me now) y)))) b.own
          ∙ ap (λ y. entered me y (latest_point o.at s.at) (completed_reply o.reply (latest_point o.at s.at) (due_of (actor_of (with_actor w me now) me)))) op
          ∙ ap (λ y. entered me a.op (latest_point o.at s.at) (completed_reply o.reply (latest_point o.at s.at) (due_of y))) (actor_same w me a now is)

      made : bare_completion (after_outcome w me a m' o) ≡ set (bare_completion w) e (entered me a.op (latest_point o.at s.at) (completed_reply o.reply (latest_point o.at s.at) o.actor.due))
      made =
          ap (map (entry_in (with_actor w me now))) ops
          ∙ map_set (entry_in (with_actor w me now)) (entry_in w) w.operations e x (λ i p ne got. entry_kept K w me now p some_me (h.operations.each i p got) (λ own. b.others i p ne got own))
          ∙ ap (set (bare_completion w) e) mine

      other : (n : ℕ) → o.at ≡ Some n → s.at ≡ None → (j : ℕ) (q : Stamped) → q.at ≡ Some n → ((p : Stamped) × (slice_get w.operations j ≡ Some p) × (entry_in w p ≡ q)) → (j ≡ e) ⊎ (j ≢ e) → ⊥
      other n nat f j q at' p (inl same) =
          let g : p.0 ≡ s = same_Some p.0 s (sym p.1 ∙ ap (slice_get w.operations) same ∙ b.here) in
          none-some n (sym f ∙ sym (ap (λ (y : Stamped). y.at) g) ∙ ap (λ (y : Stamped). y.at) p.2 ∙ at')
      other n nat f j q at' p (inr ne) =
          distinct (K ++ me ∷ []) opz (subst (Operations (Unit {0}) (K ++ me ∷ [])) ops after.operations) e j x p.0 n (λ z. ne (sym z))
          (put_set w.operations e s x b.here).here ((put_set w.operations e s x b.here).others j ne ∙ p.1) (settled_at o.at s.at n nat) (ap (λ (y : Stamped). y.at) p.2 ∙ at')

  -- either of them
  pub simulates : OperationAt (Unit {0}) K w.operations me (Some l) a.entry a.due a.empty_at
      → ((e : ℕ) (s : Stamped) → a.entry ≡ Some e → slice_get w.operations e ≡ Some s → s.op ≡ a.op) → Simulates w (after_outcome w me a m' o) me a o
  simulates k ops = go a.entry refl k
    where
      after : StampsInvariant (Unit {0}) (K ++ me ∷ []) (after_outcome w me a m' o)
      after = settled_kept (Unit {0}) K w me a m' l o h is k does

      go : (entry : Option ℕ) → a.entry ≡ entry → OperationAt (Unit {0}) K w.operations me (Some l) entry a.due a.empty_at → Simulates w (after_outcome w me a m' o) me a o
      go None e g = simulates_first e g.0 g.1 after
      go (Some i) e g = simulates_later i e g.0 g.1 (ops i g.0 e g.1.here) (point_at_while l a.due g.0.at (λ n. tt) g.2) after

-- the operations by rising place after a step that gives no place
pub record Unchanged (T T' : List Stamped) : Type 0 where
  pub rises : by_point T' ≡ by_point T
  pub counts : taken T' ≡ taken T

-- and after one that gives one
pub record Entered (T T' : List Stamped) (y : Stamped) : Type 0 where
  pub rises : by_point T' ≡ inserted y (by_point T)
  pub counts : taken T' ≡ taken T + one_if (is_value y.reply)

unchanged_booked : (T T' : List Stamped) (me : ℕ) (op : Op) (at0 : Option ℕ) (due0 : Option Reply) (with_outcome : Option Reply) (due1 : Option Reply)
    → (at0 ≡ None → with_outcome ≡ None) → ((n : ℕ) → at0 ≡ Some n → completed_reply with_outcome (Some n) due1 ≡ decided_reply due0)
    → Booked T T' me op at0 due0 at0 (completed_reply with_outcome at0 due1) → Unchanged T T'
unchanged_booked T T' me op at0 due0 with_outcome due1 quiet keeps (inl q) =
    record {
      rises = ap by_point q.0 ∙ unplaced_added T _ q.1;
      counts = ap taken q.0 ∙ taken-append T (entered me op at0 (completed_reply with_outcome at0 due1) ∷ []) ∙ omega (arith, none);
    }
  where
    none : one_if (is_value (completed_reply with_outcome at0 due1)) ≡ 0
    none = ap (λ r. one_if (is_value (completed_reply r at0 due1))) (quiet q.1) ∙ ap (λ x. one_if (is_value (completed_reply None x due1))) q.1
unchanged_booked T T' me op None due0 with_outcome due1 quiet keeps (inr q) =
    record {
      rises = ap by_point q.2 ∙ unplaced_set T q.0 _ _ refl q.1 refl;
      counts = ap taken q.2 ∙ omega (
        arith,
        taken-set T q.0 _ (entered me op None (completed_reply with_outcome None due1)) q.1,
        ap (λ r. one_if (is_value (completed_reply r None due1))) (quiet refl),
      );
    }
unchanged_booked T T' me op (Some n) due0 with_outcome due1 quiet keeps (inr q) =
    let same : T' ≡ T = q.2 ∙ ap (λ r. set T q.0 (entered me op (Some n) r)) (keeps n refl) ∙ set_same T q.0 _ q.1 in
    record { rises = ap by_point same; counts = ap taken same }

-- a step that gives no place changes nothing
pub unchanged : (w v : World) (me : ℕ) (a : Actor) (o : Outcome) → Simulates w v me a o → o.at ≡ None → KeepsReply a o → Unchanged (bare_completion w) (bare_completion v)
unchanged w v me a o b none keeps =
    unchanged_booked (bare_completion w) (bare_completion v) me a.op b.at0 a.due o.reply o.actor.due
    (λ e. b.told (ap (λ x. latest_point x b.at0) none ∙ e))
    (λ n e. kept n e keeps)
    (subst (λ x. Booked (bare_completion w) (bare_completion v) me a.op b.at0 a.due (latest_point x b.at0) (completed_reply o.reply (latest_point x b.at0) o.actor.due)) none b.booked)
  where
    kept : (n : ℕ) → b.at0 ≡ Some n → KeepsReply a o → completed_reply o.reply (Some n) o.actor.due ≡ decided_reply a.due
    kept n e (inl f) = absurd (none-some n (sym (b.unplaced f) ∙ e))
    kept n e (inr f) = f n

-- a step that gives a place enters it
pub entered_at : (w v : World) (me : ℕ) (a : Actor) (o : Outcome) (n : ℕ) (reply : Option Reply) → Simulates w v me a o → o.at ≡ Some n
    → decided_reply a.due ≡ None → completed_reply o.reply (Some n) o.actor.due ≡ reply
    → Entered (bare_completion w) (bare_completion v) (entered me a.op (Some n) reply)
entered_at w v me a o n reply b at none is = go at0 (subst (λ x. Booked (bare_completion w) (bare_completion v) me a.op x a.due (Some n) reply) at0 changed)
  where
    at0 : b.at0 ≡ None
    at0 = b.unplaced none

    changed : Booked (bare_completion w) (bare_completion v) me a.op b.at0 a.due (Some n) reply
    changed =
        subst (λ r. Booked (bare_completion w) (bare_completion v) me a.op b.at0 a.due (Some n) r) is
        (subst (λ x. Booked (bare_completion w) (bare_completion v) me a.op b.at0 a.due (latest_point x b.at0) (completed_reply o.reply (latest_point x b.at0) o.actor.due)) at b.booked)

    go : b.at0 ≡ None → Booked (bare_completion w) (bare_completion v) me a.op None a.due (Some n) reply → Entered (bare_completion w) (bare_completion v) (entered me a.op (Some n) reply)
    go z (inl q) =
        record {
          rises = ap by_point q.0 ∙ place_added n (bare_completion w) _ refl (b.others n at z);
          counts = ap taken q.0 ∙ taken-append (bare_completion w) (entered me a.op (Some n) reply ∷ []) ∙ omega arith;
        }
    go z (inr q) =
        record {
          rises = ap by_point q.2 ∙ place_given n (bare_completion w) q.0 _ _ refl q.1 refl (b.others n at z);
          counts = ap taken q.2 ∙ omega (arith, taken-set (bare_completion w) q.0 _ (entered me a.op (Some n) reply) q.1);
        }
