-- Operations whose points rise are those by point of any list that has the same ones.
use Rattle.std.proofs.Common.{◌≡◌, ℕ, suc, ◌≤◌, ◌<◌, Bool, true, false, nat_le, ◌⊎◌, inl, inr, if◌then◌else◌, Option, None, Some, IfSome, is_some, List, [], ◌∷◌, refl, sym, ◌∙◌, ap, subst, arith}
use Rattle.std.specs.List.{AllByRecursion}
use Rattle.std.proofs.lemmas.Bool.{leb-true, leb-false}
use Rattle.history.specs.declared.operations.Stamped.{Stamped}
use Rattle.history.specs.History.{AreApart, point_or_zero, inserted, by_point}
use Rattle.history.proofs.Rising.{by_point-cons}

-- an item is in a list
abbrev pub Has : {X : Type 0} → List X → X → Type 0
Has [] x = ⊥
Has (y ∷ ys) x = (y ≡ x) ⊎ Has ys x

-- the points of operations rise, each from a number on
abbrev pub RiseFrom : (low : ℕ) → List Stamped → Type 0
RiseFrom low [] = Unit {0}
RiseFrom low (o ∷ os) = (at : ℕ) × (o.at ≡ Some at) × (low ≤ at) × RiseFrom (suc at) os

-- each has a point from the number on
pub risen : (low : ℕ) (os : List Stamped) (p : Stamped) → RiseFrom low os → Has os p → (at : ℕ) × (p.at ≡ Some at) × (low ≤ at)
risen low [] p h m = absurd m
risen low (o ∷ os) p h (inl e) = (h.0, subst (λ q. q.at ≡ Some h.0) e h.1, h.2)
risen low (o ∷ os) p h (inr m) =
    let r = risen (suc h.0) os p h.3 m in
    let above : suc h.0 ≤ r.0 = r.2 in
    let from : low ≤ h.0 = h.2 in
    (r.0, r.1, omega (arith, above, from))

all_has : (P : Stamped → Type 0) (os : List Stamped) (p : Stamped) → AllByRecursion P os → Has os p → P p
all_has P [] p h m = absurd m
all_has P (o ∷ os) p h (inl e) = subst P e h.0
all_has P (o ∷ os) p h (inr m) = all_has P os p h.1 m

number_of : (o : Stamped) (at : ℕ) → o.at ≡ Some at → point_or_zero o.at ≡ at
number_of o at e = ap point_or_zero e

one_number : (a b : ℕ) → Some a ≡ Some b → a ≡ b
one_number a b e = cc e

leb_or : (a b : ℕ) → (suc a ≤ b) ⊎ (b ≤ a)
leb_or a b = at_most (nat_le b a) refl
  where
    at_most : (c : Bool) → nat_le b a ≡ c → (suc a ≤ b) ⊎ (b ≤ a)
    at_most true f = inr (leb-true _ _ f)
    at_most false f = inl (let k : a < b = leb-false _ _ f in omega (arith, k))

apart_above : (a b : ℕ) → a ≤ b → (a ≡ b → ⊥) → suc a ≤ b
apart_above a b l n = elim (leb_or a b) [ inl k ↦ k | inr k ↦ absurd (n (omega (arith, k, l))) ]

-- an operation with a point of its own is put among those whose points rise
inserted_rise : (low at : ℕ) (o : Stamped) (os : List Stamped) → o.at ≡ Some at → low ≤ at → RiseFrom low os
    → ((p : Stamped) → Has os p → p.at ≡ Some at → ⊥) → RiseFrom low (inserted o os)
inserted_rise low at o [] e from h apart = (at, e, from, tt)
inserted_rise low at o (p ∷ ps) e from h apart =
    go (nat_le (point_or_zero o.at) (point_or_zero p.at)) refl (λ l. inserted_rise (suc h.0) at o ps e l h.3 (λ q m. apart q (inr m)))
  where
    mine : point_or_zero o.at ≡ at
    mine = number_of o at e

    its : point_or_zero p.at ≡ h.0
    its = number_of p h.0 h.1

    other : at ≡ h.0 → ⊥
    other f = apart p (inl refl) (h.1 ∙ ap Some (sym f))

    go : (b : Bool) → nat_le (point_or_zero o.at) (point_or_zero p.at) ≡ b → (suc h.0 ≤ at → RiseFrom (suc h.0) (inserted o ps))
        → RiseFrom low (if b then o ∷ p ∷ ps else p ∷ inserted o ps)
    go true d more =
        let l : point_or_zero o.at ≤ point_or_zero p.at = leb-true _ _ d in
        let above : suc at ≤ h.0 = apart_above at h.0 (omega (arith, l, mine, its)) other in
        (at, e, from, (h.0, h.1, above, h.3))
    go false d more =
        let l : point_or_zero p.at < point_or_zero o.at = leb-false _ _ d in
        (h.0, h.1, h.2, more (omega (arith, l, mine, its)))

inserted_has : (o : Stamped) (os : List Stamped) (p : Stamped) → Has (inserted o os) p → Has (o ∷ os) p
inserted_has o [] p m = m
inserted_has o (q ∷ qs) p m = go (nat_le (point_or_zero o.at) (point_or_zero q.at)) (inserted_has o qs p) m
  where
    go : (b : Bool) → (Has (inserted o qs) p → Has (o ∷ qs) p) → Has (if b then o ∷ q ∷ qs else q ∷ inserted o qs) p → Has (o ∷ q ∷ qs) p
    go true more m = m
    go false more (inl e) = inr (inl e)
    go false more (inr m) = elim (more m) [ inl e ↦ inl e | inr n ↦ inr (inr n) ]

has_inserted : (o : Stamped) (os : List Stamped) (p : Stamped) → Has (o ∷ os) p → Has (inserted o os) p
has_inserted o [] p m = m
has_inserted o (q ∷ qs) p m = go (nat_le (point_or_zero o.at) (point_or_zero q.at)) (has_inserted o qs p) m
  where
    go : (b : Bool) → (Has (o ∷ qs) p → Has (inserted o qs) p) → Has (o ∷ q ∷ qs) p → Has (if b then o ∷ q ∷ qs else q ∷ inserted o qs) p
    go true more m = m
    go false more (inl e) = inr (more (inl e))
    go false more (inr (inl e)) = inl e
    go false more (inr (inr n)) = inr (more (inr n))

-- those by point are of the list
pub by_point_has : (os : List Stamped) (p : Stamped) → Has (by_point os) p → Has os p
by_point_has [] p m = m
by_point_has (o ∷ os) p m = go (is_some o.at) (by_point_has os p) m
  where
    go : (b : Bool) → (Has (by_point os) p → Has os p) → Has (if b then inserted o (by_point os) else by_point os) p → Has (o ∷ os) p
    go true more m = elim (inserted_has o (by_point os) p m) [ inl e ↦ inl e | inr n ↦ inr (more n) ]
    go false more m = inr (more m)

-- those of the list that have a point are among those by point
pub has_by_point : (os : List Stamped) (p : Stamped) (at : ℕ) → p.at ≡ Some at → Has os p → Has (by_point os) p
has_by_point [] p at e m = m
has_by_point (o ∷ os) p at e (inl f) =
    subst (λ l. Has l p) (sym (by_point-cons o os true (ap (λ q. is_some q.at) f ∙ ap is_some e))) (has_inserted o (by_point os) p (inl f))
has_by_point (o ∷ os) p at e (inr m) = go (is_some o.at) (has_by_point os p at e m)
  where
    go : (b : Bool) → Has (by_point os) p → Has (if b then inserted o (by_point os) else by_point os) p
    go true n = has_inserted o (by_point os) p (inr n)
    go false n = n

-- the points of those by point rise where no two share one
pub by_point_rises : (os : List Stamped) → AreApart os → RiseFrom 0 (by_point os)
by_point_rises [] h = tt
by_point_rises (o ∷ os) h = go o.at refl (by_point_rises os h.1)
  where
    go : (a : Option ℕ) → o.at ≡ a → RiseFrom 0 (by_point os) → RiseFrom 0 (by_point (o ∷ os))
    go None e rest = subst (RiseFrom 0) (sym (by_point-cons o os false (ap is_some e))) rest
    go (Some at) e rest =
        let apart = subst (λ a. IfSome a (λ n. AllByRecursion (λ p. p.at ≡ Some n → ⊥) os)) e h.0 in
        subst (RiseFrom 0) (sym (by_point-cons o os true (ap is_some e)))
        (inserted_rise 0 at o (by_point os) e (omega arith) rest
        (λ p m. all_has (λ q. q.at ≡ Some at → ⊥) os p apart (by_point_has os p m)))

-- one of two that are in both lists, each with greater points behind it
crossed : (low high : ℕ) (x y : Stamped) (xs ys : List Stamped) → RiseFrom low (x ∷ xs) → RiseFrom high (y ∷ ys) → Has ys x → Has xs y → ⊥
crossed low high x y xs ys h k m n =
    let a = risen (suc k.0) ys x k.3 m in
    let b = risen (suc h.0) xs y h.3 n in
    let first : a.0 ≡ h.0 = one_number a.0 h.0 (sym a.1 ∙ h.1) in
    let second : b.0 ≡ k.0 = one_number b.0 k.0 (sym b.1 ∙ k.1) in
    let p : suc k.0 ≤ a.0 = a.2 in
    let q : suc h.0 ≤ b.0 = b.2 in
    omega (arith, first, second, p, q)

-- the first of a list whose points rise isn't behind itself
not_behind : (low : ℕ) (x y : Stamped) (xs : List Stamped) → RiseFrom low (x ∷ xs) → x ≡ y → Has xs y → ⊥
not_behind low x y xs h e m =
    let a = risen (suc h.0) xs y h.3 m in
    let same : a.0 ≡ h.0 = one_number a.0 h.0 (sym a.1 ∙ sym (ap (λ q. q.at) e) ∙ h.1) in
    let above : suc h.0 ≤ a.0 = a.2 in
    omega (arith, same, above)

-- two lists whose points rise are one where they have the same operations
pub one_rising : (low high : ℕ) (xs ys : List Stamped) → RiseFrom low xs → RiseFrom high ys
    → ((p : Stamped) → Has xs p → Has ys p) → ((p : Stamped) → Has ys p → Has xs p) → xs ≡ ys
one_rising low high [] [] h k f g = refl
one_rising low high [] (y ∷ ys) h k f g = absurd (g y (inl refl))
one_rising low high (x ∷ xs) [] h k f g = absurd (f x (inl refl))
one_rising low high (x ∷ xs) (y ∷ ys) h k f g =
    ap (λ q. q ∷ xs) same ∙ ap (λ l. y ∷ l) (one_rising (suc h.0) (suc k.0) xs ys h.3 k.3 on back)
  where
    same : x ≡ y
    same = elim (f x (inl refl)) [
      | inl e ↦ sym e
      | inr m ↦ elim (g y (inl refl)) [ inl e ↦ e | inr n ↦ absurd (crossed low high x y xs ys h k m n) ]
    ]

    on : (p : Stamped) → Has xs p → Has ys p
    on p m = elim (f p (inr m)) [ inl e ↦ absurd (not_behind low x p xs h (same ∙ e) m) | inr n ↦ n ]

    back : (p : Stamped) → Has ys p → Has xs p
    back p m = elim (g p (inr m)) [ inl e ↦ absurd (not_behind high y p ys k (sym same ∙ e) m) | inr n ↦ n ]
