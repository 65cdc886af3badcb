-- Lists by index, and the operations of an order.
use Rattle.std.proofs.Common.{◌≡◌, ◌≢◌, ℕ, zero, suc, ◌≤◌, ◌<◌, max, Bool, true, false, nat_lt, ◌⊎◌, inl, inr, Option, None, Some, IfSome, IsSome}
use Rattle.std.proofs.Common.{IsNone, List, [], ◌∷◌, map, length, replicate, slice_get, slice_set, All, AllPairs, refl, sym, ◌∙◌, ap, subst, arith}
use Rattle.std.specs.Prelude.{◌↔◌}
use Rattle.std.specs.List.{AllByRecursion, AllZip, Contains}
use Rattle.std.proofs.Math.Nat.{max-le}
use Rattle.std.proofs.lemmas.Bool.{ltb-true, ltb-false, eqb-true, eq-eqb}
use Rattle.std.proofs.lemmas.Bool.Decides.{eqb_tells}
use Rattle.std.proofs.lemmas.Map.Made.{IsDistinct-from_AllPairs}
use Rattle.std.proofs.lemmas.Map.Steps.{length-le_from_distinct_below}
use Rattle.std.proofs.lemmas.Map.Views.{Contains-from_any}
use Rattle.std.proofs.lemmas.List.Elements.{All-contains}
use Rattle.history.specs.declared.operations.Reply.{Reply}
use Rattle.history.specs.declared.operations.Reply.TheVariants.{Done, Value, Empty, Refused}
use Rattle.history.specs.declared.operations.Stamped.{Stamped}
use Rattle.history.specs.Queue.{Queue, response}
use Rattle.history.specs.History.{AreApart, AgreesWithQueue, answer, IsSequentialRun}
use Rattle.history.specs.Linearizability.{MayComeBefore, KeepsTime}
use Rattle.placing.specs.SpreadStamps.{IsStampedSo}
use Rattle.placing.specs.Orders.{with_found, picked, NoneEndsTooSoon}
use Rattle.placing.proofs.Risen.{Has}

-- ---- items by index

pub one_value : {X : Type 0} (x y : X) → Some x ≡ Some y → x ≡ y
one_value x y e = cc e

pub not_none : {X : Type 0} (x : X) → Some x ≡ None → ⊥
not_none x e = cc e

pub set_other : {X : Type 0} (xs : List X) (i j : ℕ) (x : X) → (i ≡ j → ⊥) → slice_get (slice_set xs i x) j ≡ slice_get xs j
set_other [] i j x n = refl
set_other (y ∷ ys) zero zero x n = absurd (n refl)
set_other (y ∷ ys) zero (suc j) x n = refl
set_other (y ∷ ys) (suc i) zero x n = refl
set_other (y ∷ ys) (suc i) (suc j) x n = set_other ys i j x (λ e. n (ap suc e))

pub set_there : {X : Type 0} (xs : List X) (i : ℕ) (x y : X) → slice_get xs i ≡ Some y → slice_get (slice_set xs i x) i ≡ Some x
set_there [] i x y e = absurd (not_none y (sym e))
set_there (z ∷ zs) zero x y e = refl
set_there (z ∷ zs) (suc i) x y e = set_there zs i x y e

-- what is at an index is in the list, and what is in a list is at an index
pub at_has : {X : Type 0} (xs : List X) (i : ℕ) (x : X) → slice_get xs i ≡ Some x → Has xs x
at_has [] i x e = absurd (not_none x (sym e))
at_has (y ∷ ys) zero x e = inl (one_value y x e)
at_has (y ∷ ys) (suc i) x e = inr (at_has ys i x e)

pub has_at : {X : Type 0} (xs : List X) (x : X) → Has xs x → (i : ℕ) × (slice_get xs i ≡ Some x)
has_at [] x m = absurd m
has_at (y ∷ ys) x (inl e) = (0, ap Some e)
has_at (y ∷ ys) x (inr m) = let r = has_at ys x m in (suc r.0, r.1)

-- whether a number is in a list
pub has_or_not : (is : List ℕ) (i : ℕ) → Has is i ⊎ (Has is i → ⊥)
has_or_not [] i = inr (λ m. m)
has_or_not (k ∷ ks) i = elim (eqb_tells k i) [
  | inl p ↦ inl (inl p.1)
  | inr p ↦ elim (has_or_not ks i) [ inl m ↦ inl (inr m) | inr n ↦ inr (elim [ inl e ↦ p.1 e | inr m ↦ n m ]) ]
]

pub contains_has : {X : Type 0} (xs : List X) (x : X) → Contains xs x → Has xs x
contains_has [] x m = let l = m.1 in absurd (omega (arith, l))
contains_has (y ∷ ys) x (zero, l, e) = inl e
contains_has (y ∷ ys) x (suc k, l, e) = inr (contains_has ys x (k, omega (arith, l), e))

pub has_contains : {X : Type 0} (xs : List X) (x : X) → Has xs x → Contains xs x
has_contains [] x m = absurd m
has_contains (y ∷ ys) x (inl e) = (0, omega arith, e)
has_contains (y ∷ ys) x (inr m) = let r = has_contains ys x m in let l = r.1 in (suc r.0, omega (arith, l), r.2)

-- each number of a list is there once
abbrev pub AreOnce : List ℕ → Type 0
AreOnce [] = Unit {0}
AreOnce (i ∷ is) = (Has is i → ⊥) × AreOnce is

pub are_once : (is : List ℕ) → AllPairs (λ i j. i ≢ j) is → AreOnce is
are_once [] h = tt
are_once (i ∷ is) h = (
  (λ m. let r = has_contains is i m in let l = r.1 in h 0 (suc r.0) i (omega arith) (omega (arith, l)) (sym r.2)),
  are_once is (λ a b d l m. h (suc a) (suc b) d (omega (arith, l)) (omega (arith, m))),
)

-- numbers below another one, each there once, are no more than that
pub few : (is : List ℕ) (n : ℕ) → All (λ i. i < n) is → AllPairs (λ i j. i ≢ j) is → length is ≤ n
few is n below once =
    length-le_from_distinct_below is n (IsDistinct-from_AllPairs (λ a b. (eqb-true a b, eq-eqb a b)) is once)
    (λ q any. All-contains (λ i. i < n) is q below (Contains-from_any eqb-true q is any))

-- no item of a list of one is another
pub replicated : {X : Type 0} (n : ℕ) (x y : X) (i : ℕ) → slice_get (replicate n x) i ≡ Some y → x ≡ y
replicated zero x y i e = absurd (not_none y (sym e))
replicated (suc n) x y zero e = one_value x y e
replicated (suc n) x y (suc i) e = replicated n x y i e

-- a mapped item is one that was mapped
pub mapped : {X Y : Type 0} (f : X → Y) (xs : List X) (i : ℕ) (y : Y) → slice_get (map f xs) i ≡ Some y → (x : X) × (slice_get xs i ≡ Some x) × (f x ≡ y)
mapped f [] i y e = absurd (not_none y (sym e))
mapped f (x ∷ xs) zero y e = (x, refl, one_value (f x) y e)
mapped f (x ∷ xs) (suc i) y e = mapped f xs i y e

-- two items that are related, or none
abbrev pub IsSame : {X : Type 0} → (X → X → Type 0) → Option X → Option X → Type 0
IsSame R None None = Unit {0}
IsSame R None (Some y) = ⊥
IsSame R (Some x) None = ⊥
IsSame R (Some x) (Some y) = R x y

pub zip_get : {X : Type 0} (R : X → X → Type 0) (xs ys : List X) (i : ℕ) → AllZip R xs ys → IsSame R (slice_get xs i) (slice_get ys i)
zip_get R [] [] i h = tt
zip_get R [] (y ∷ ys) i h = absurd h
zip_get R (x ∷ xs) [] i h = absurd h
zip_get R (x ∷ xs) (y ∷ ys) zero h = h.0
zip_get R (x ∷ xs) (y ∷ ys) (suc i) h = zip_get R xs ys i h.1

pub zip_back : {X : Type 0} (R : X → X → Type 0) (a : Option X) (y : X) → IsSame R a (Some y) → (x : X) × (a ≡ Some x) × R x y
zip_back R None y h = absurd h
zip_back R (Some x) y h = (x, refl, h)

-- ---- operations by index

pub picked_has : (ops : List Stamped) (is : List ℕ) (i : ℕ) (o : Stamped) → Has is i → slice_get ops i ≡ Some o → Has (picked ops is) o
picked_has ops [] i o m e = absurd m
picked_has ops (k ∷ ks) i o (inl f) e = subst (λ a. Has (with_found a (picked ops ks)) o) (sym e ∙ ap (slice_get ops) (sym f)) (inl refl)
picked_has ops (k ∷ ks) i o (inr m) e = go (slice_get ops k) (picked_has ops ks i o m e)
  where
    go : (a : Option Stamped) → Has (picked ops ks) o → Has (with_found a (picked ops ks)) o
    go None n = n
    go (Some p) n = inr n

pub has_picked : (ops : List Stamped) (is : List ℕ) (o : Stamped) → Has (picked ops is) o → (i : ℕ) × Has is i × (slice_get ops i ≡ Some o)
has_picked ops [] o m = absurd m
has_picked ops (k ∷ ks) o m = go (slice_get ops k) refl (λ n. let r = has_picked ops ks o n in (r.0, inr r.1, r.2)) m
  where
    go : (a : Option Stamped) → slice_get ops k ≡ a → (Has (picked ops ks) o → (i : ℕ) × Has (k ∷ ks) i × (slice_get ops i ≡ Some o))
        → Has (with_found a (picked ops ks)) o → (i : ℕ) × Has (k ∷ ks) i × (slice_get ops i ≡ Some o)
    go None e later n = later n
    go (Some p) e later (inl f) = (k, inl refl, e ∙ ap Some f)
    go (Some p) e later (inr n) = later n

-- the same calls get the same replies
pub same_agree : (queue : Queue) (o p : Stamped) (r : Option Reply) → response o.actor o.op queue ≡ response p.actor p.op queue
    → AgreesWithQueue queue o r → AgreesWithQueue queue p r × (answer queue o r ≡ answer queue p r)
same_agree queue o p None e h = (tt, e)
same_agree queue o p (Some (Refused refusal)) e (inl h) = (inl h, refl)
same_agree queue o p (Some (Refused refusal)) e (inr h) = (inr (h.0, h.1 ∙ ap (λ a. a.reply) e), refl)
same_agree queue o p (Some Done) e h = (h ∙ ap (λ a. a.reply) e, e)
same_agree queue o p (Some (Value v)) e h = (h ∙ ap (λ a. a.reply) e, e)
same_agree queue o p (Some Empty) e h = (h ∙ ap (λ a. a.reply) e, e)

pub same_runs : (First Last : ℕ → ℕ → Type 0) (ops new : List Stamped) → AllZip (IsStampedSo First Last) ops new → (queue : Queue) (order : List ℕ)
    → IsSequentialRun queue (picked ops order) → IsSequentialRun queue (picked new order)
same_runs First Last ops new each queue [] h = tt
same_runs First Last ops new each queue (i ∷ order) h =
    go (slice_get ops i) (slice_get new i) (zip_get (IsStampedSo First Last) ops new i each) (λ q. same_runs First Last ops new each q order) h
  where
    go : (a b : Option Stamped) → IsSame (IsStampedSo First Last) a b
        → ((q : Queue) → IsSequentialRun q (picked ops order) → IsSequentialRun q (picked new order))
        → IsSequentialRun queue (with_found a (picked ops order)) → IsSequentialRun queue (with_found b (picked new order))
    go None None s more r = more queue r
    go None (Some p) s more r = absurd s
    go (Some o) None s more r = absurd s
    go (Some o) (Some p) s more r =
        let given : response o.actor o.op queue ≡ response p.actor p.op queue =
        ap (λ n. response n o.op queue) (sym s.actor) ∙ ap (λ op. response p.actor op queue) (sym s.op) in
        let on = same_agree queue o p o.reply given r.0 in
        let told : o.reply ≡ p.reply = sym s.reply in (
          subst (AgreesWithQueue queue p) told on.0,
          subst (λ q. IsSequentialRun q (picked new order)) (ap (λ a. a.after) (on.1 ∙ ap (answer queue p) told))
              (more (answer queue o o.reply).after r.1),
        )

-- ---- times

-- a call without fault ended exactly where it was told a reply, and not before it began
pub ends_told : (last : Option ℕ) (reply : Option Reply) → ((IsSome last × IsNone reply) ⊎ (IsNone last × IsSome reply) → ⊥)
    → IsSome last ↔ IsSome reply
ends_told None None n = (λ e. e, λ e. e)
ends_told None (Some r) n = absurd (n (inr (refl, refl)))
ends_told (Some l) None n = absurd (n (inl (refl, refl)))
ends_told (Some l) (Some r) n = (λ e. refl, λ e. refl)

pub not_less : (a b : ℕ) → (a < b → ⊥) → b ≤ a
not_less a b n = go (nat_lt a b) refl
  where
    go : (w : Bool) → nat_lt a b ≡ w → b ≤ a
    go true e = absurd (n (ltb-true _ _ e))
    go false e = ltb-false _ _ e

-- no operation of an order that keeps time ends too soon
module _ (ops : List Stamped) (spans : (i : ℕ) (o : Stamped) → slice_get ops i ≡ Some o → IfSome o.last (λ last. o.first ≤ last)) where
  pub later_of_both : (a b : ℕ) (last : Option ℕ) → IfSome last (λ l. a ≤ l) → IfSome last (λ l. b ≤ l) → IfSome last (λ l. max a b ≤ l)
  later_of_both a b None h k = tt
  later_of_both a b (Some l) h k = max-le h k

  pub all_later : (o : Stamped) (begun : ℕ) (ps : List Stamped) → AllByRecursion (MayComeBefore o) ps → AllByRecursion (λ p. IfSome p.last (λ l. begun ≤ l)) ps
      → AllByRecursion (λ p. IfSome p.last (λ l. max o.first begun ≤ l)) ps
  all_later o begun [] h k = tt
  all_later o begun (p ∷ ps) h k = (later_of_both o.first begun p.last h.0 k.0, all_later o begun ps h.1 k.1)

  pub none_ends_too_soon : (begun : ℕ) (order : List ℕ) → ((i : ℕ) → Has order i → (o : Stamped) × (slice_get ops i ≡ Some o))
      → KeepsTime (picked ops order) → AllByRecursion (λ p. IfSome p.last (λ l. begun ≤ l)) (picked ops order) → NoneEndsTooSoon ops begun order
  none_ends_too_soon begun [] there time bound = tt
  none_ends_too_soon begun (i ∷ order) there time bound =
      let o = (there i (inl refl)).0 in
      let e = (there i (inl refl)).1 in
      let t : KeepsTime (o ∷ picked ops order) = subst (λ a. KeepsTime (with_found a (picked ops order))) e time in
      let b : AllByRecursion (λ p. IfSome p.last (λ l. begun ≤ l)) (o ∷ picked ops order) =
      subst (λ a. AllByRecursion (λ p. IfSome p.last (λ l. begun ≤ l)) (with_found a (picked ops order))) e bound in (
        o,
        e,
        later_of_both o.first begun o.last (spans i o e) b.0,
        none_ends_too_soon (max o.first begun) order (λ k m. there k (inr m)) t.1 (all_later o begun (picked ops order) t.0 b.1),
      )

pub zero_is_least : (ps : List Stamped) → AllByRecursion (λ p. IfSome p.last (λ l. 0 ≤ l)) ps
zero_is_least [] = tt
zero_is_least (p ∷ ps) = (go p.last, zero_is_least ps)
  where
    go : (last : Option ℕ) → IfSome last (λ l. 0 ≤ l)
    go None = tt
    go (Some l) = omega arith

-- as many operations without a point
abbrev pub no_points : ℕ → List (Option ℕ)
no_points n = replicate n None

pub replicate_some : (n i : ℕ) → i < n → IsSome (slice_get (no_points n) i)
replicate_some zero i l = absurd (omega (arith, l))
replicate_some (suc n) zero l = refl
replicate_some (suc n) (suc i) l = replicate_some n i (omega (arith, l))

-- operations of which no two share a point
pub apart_by_index : (os : List Stamped) → ((i j at : ℕ) (o p : Stamped) → slice_get os i ≡ Some o → slice_get os j ≡ Some p → o.at ≡ Some at → p.at ≡ Some at → i ≡ j)
    → AreApart os
apart_by_index [] one = tt
apart_by_index (o ∷ os) one = (first o.at refl, apart_by_index os (λ i j at q p a b e f. less i j (one (suc i) (suc j) at q p a b e f)))
  where
    less : (i j : ℕ) → suc i ≡ suc j → i ≡ j
    less i j e = omega (arith, e)

    others : (at : ℕ) → o.at ≡ Some at → (ps : List Stamped) → ((p : Stamped) → Has ps p → Has os p) → AllByRecursion (λ p. p.at ≢ Some at) ps
    others at e [] part = tt
    others at e (p ∷ ps) part = (
      (λ f. let r = has_at os p (part p (inl refl)) in let k = one 0 (suc r.0) at o p refl r.1 e f in omega (arith, k)),
      others at e ps (λ q m. part q (inr m)),
    )

    first : (a : Option ℕ) → o.at ≡ a → IfSome a (λ at. AllByRecursion (λ p. p.at ≢ Some at) os)
    first None e = tt
    first (Some at) e = others at e os (λ p m. m)
