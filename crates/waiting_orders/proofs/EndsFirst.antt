-- Which of several operations ends first, and began first of those that end together.
use Rattle.std.proofs.Common.{◌≡◌, ℕ, suc, nat_lt, ◌≤◌, ◌<◌, Bool, true, false, not, ◌&&◌, ◌||◌, ◌⊎◌, inl, inr, List, [], ◌∷◌, Option, None, Some, slice_get, refl, sym, ap, ◌∙◌, arith}
use Rattle.std.specs.List.{list_all}
use Rattle.std.proofs.lemmas.Bool.{leb-true, leb-false, le-leb, lt-ltb, ltb-true}
use Rattle.history.specs.declared.operations.Stamped.{Stamped}
use Rattle.waiting_orders.specs.declared.lines.Pick.{Pick}
use Rattle.waiting_orders.specs.Lines.{ends_by}
use Rattle.waiting_orders.specs.Nodes.{is_before}
use Rattle.waiting_orders.proofs.Lists.{both_true}

-- ---- which of two is before

pub flip : (b : Bool) → not b ≡ true → b ≡ false
flip true e = absurd cc
flip false e = refl

ends_itself : (a : Option ℕ) → ends_by a a ≡ true
ends_itself None = refl
ends_itself (Some a) = le-leb a a (omega arith)

ends_on : (a b c : Option ℕ) → ends_by a b ≡ true → ends_by b c ≡ true → ends_by a c ≡ true
ends_on None None None e f = refl
ends_on None None (Some c) e f = absurd cc
ends_on None (Some b) c e f = absurd cc
ends_on (Some a) None None e f = refl
ends_on (Some a) None (Some c) e f = absurd cc
ends_on (Some a) (Some b) None e f = refl
ends_on (Some a) (Some b) (Some c) e f = let k : a ≤ b = leb-true a b e in let l : b ≤ c = leb-true b c f in le-leb a c (omega (arith, k, l))

ends_either : (a b : Option ℕ) → ends_by a b ≡ false → ends_by b a ≡ true
ends_either None None e = absurd cc
ends_either None (Some b) e = refl
ends_either (Some a) None e = absurd cc
ends_either (Some a) (Some b) e = let k : b < a = leb-false a b e in le-leb b a (omega (arith, k))

never_itself : (p : Stamped) → is_before p p ≡ false
never_itself p = go (ends_by p.last p.last) (ends_itself p.last) (nat_lt p.first p.first) refl
  where
    go : (b : Bool) → b ≡ true → (l : Bool) → nat_lt p.first p.first ≡ l → (not b || (b && l)) ≡ false
    go true e true f = let k : p.first < p.first = ltb-true p.first p.first f in absurd (omega (arith, k))
    go true e false f = refl
    go false e l f = absurd cc

-- what is before another one ends no later
before_ends : (q p : Stamped) → is_before q p ≡ true → ends_by q.last p.last ≡ true
before_ends q p h = go (ends_by p.last q.last) refl (ends_by q.last p.last) refl h
  where
    go : (b : Bool) → ends_by p.last q.last ≡ b → (c : Bool) → ends_by q.last p.last ≡ c → (not b || (c && nat_lt q.first p.first)) ≡ true → c ≡ true
    go false e c f h = sym f ∙ ends_either p.last q.last e
    go true e true f h = refl
    go true e false f h = absurd cc

-- and began before it, where both end together
before_begins : (q p : Stamped) → is_before q p ≡ true → ends_by p.last q.last ≡ true → q.first < p.first
before_begins q p h e = ltb-true q.first p.first (go (ends_by p.last q.last) e (ends_by q.last p.last) h)
  where
    go : (b : Bool) → b ≡ true → (c : Bool) → (not b || (c && nat_lt q.first p.first)) ≡ true → nat_lt q.first p.first ≡ true
    go true e true h = h
    go true e false h = absurd cc
    go false e c h = absurd cc

before_on : (a b c : Stamped) → is_before a b ≡ true → is_before b c ≡ true → is_before a c ≡ true
before_on a b c h k = go (ends_by c.last a.last) refl
  where
    ab : ends_by a.last b.last ≡ true
    ab = before_ends a b h

    bc : ends_by b.last c.last ≡ true
    bc = before_ends b c k

    ac : ends_by a.last c.last ≡ true
    ac = ends_on a.last b.last c.last ab bc

    go : (e : Bool) → ends_by c.last a.last ≡ e → (not e || (ends_by a.last c.last && nat_lt a.first c.first)) ≡ true
    go false e = refl
    go true e =
        let one : a.first < b.first = before_begins a b h (ends_on b.last c.last a.last bc e) in
        let two : b.first < c.first = before_begins b c k (ends_on c.last a.last b.last e ab) in
        both_true _ _ ac (lt-ltb a.first c.first (omega (arith, one, two)))

-- what another one isn't before ends no later than that
pub not_before_ends : (q p : Stamped) → is_before q p ≡ false → ends_by p.last q.last ≡ true
not_before_ends q p h = go (ends_by p.last q.last) h
  where
    go : (b : Bool) → (not b || (ends_by q.last p.last && nat_lt q.first p.first)) ≡ false → b ≡ true
    go true h = refl
    go false h = absurd cc

-- ---- the first of several

module _ (is_tried : Pick → Bool) where
  -- whether what is tried isn't before an operation
  abbrev pub is_past : Stamped → Pick → Bool
  is_past p x = not (is_tried x && is_before x.operation p)

  -- one that is tried, with no other one before it
  pub record First (xs : List Pick) : Type 0 where
    pub place : ℕ
    pub pick : Pick
    pub there : slice_get xs place ≡ Some pick
    pub may : is_tried pick ≡ true
    pub none : list_all (is_past pick.operation) xs ≡ true

  past_untried : (p : Stamped) (x : Pick) → is_tried x ≡ false → is_past p x ≡ true
  past_untried p x e = go (is_tried x) e
    where
      go : (b : Bool) → b ≡ false → not (b && is_before x.operation p) ≡ true
      go true e = absurd cc
      go false e = refl

  past_behind : (p : Stamped) (x : Pick) → is_before x.operation p ≡ false → is_past p x ≡ true
  past_behind p x e = go (is_tried x) (is_before x.operation p) e
    where
      go : (b c : Bool) → c ≡ false → not (b && c) ≡ true
      go true true e = absurd cc
      go true false e = refl
      go false c e = refl

  pub all_untried : (p : Stamped) (xs : List Pick) → list_all (λ x. not (is_tried x)) xs ≡ true → list_all (is_past p) xs ≡ true
  all_untried p [] h = refl
  all_untried p (x ∷ xs) h = go (is_tried x) refl (all_untried p xs) h
    where
      go : (b : Bool) → is_tried x ≡ b → (list_all (λ x. not (is_tried x)) xs ≡ true → list_all (is_past p) xs ≡ true)
          → (not b && list_all (λ x. not (is_tried x)) xs) ≡ true → list_all (is_past p) (x ∷ xs) ≡ true
      go true e more h = absurd cc
      go false e more h = both_true _ _ (past_untried p x e) (more h)

  all_sooner : (p q : Stamped) → is_before p q ≡ true → (xs : List Pick) → list_all (is_past q) xs ≡ true → list_all (is_past p) xs ≡ true
  all_sooner p q e [] h = refl
  all_sooner p q e (x ∷ xs) h = go (is_tried x) (is_before x.operation p) refl (is_before x.operation q) refl (all_sooner p q e xs) h
    where
      go : (a b : Bool) → is_before x.operation p ≡ b → (c : Bool) → is_before x.operation q ≡ c → (list_all (is_past q) xs ≡ true → list_all (is_past p) xs ≡ true)
          → (not (a && c) && list_all (is_past q) xs) ≡ true → (not (a && b) && list_all (is_past p) xs) ≡ true
      go false b f c g more h = more h
      go true false f true g more h = absurd cc
      go true false f false g more h = more h
      go true true f false g more h = absurd (cc (sym g ∙ before_on x.operation p q f e))
      go true true f true g more h = absurd cc

  pub first_of : (xs : List Pick) → (list_all (λ x. not (is_tried x)) xs ≡ true) ⊎ First xs
  first_of [] = inl refl
  first_of (x ∷ xs) = go (is_tried x) refl (first_of xs)
    where
      itself : is_tried x ≡ true → list_all (is_past x.operation) xs ≡ true → First (x ∷ xs)
      itself e h = record { place = 0; pick = x; there = refl; may = e; none = both_true _ _ (past_behind x.operation x (never_itself x.operation)) h }

      behind : (m : First xs) → is_past m.pick.operation x ≡ true → First (x ∷ xs)
      behind m h = record { place = suc m.place; pick = m.pick; there = m.there; may = m.may; none = both_true _ _ h m.none }

      sooner : is_tried x ≡ true → (m : First xs) → (b : Bool) → is_before x.operation m.pick.operation ≡ b → First (x ∷ xs)
      sooner e m true g = itself e (all_sooner x.operation m.pick.operation g xs m.none)
      sooner e m false g = behind m (past_behind m.pick.operation x g)

      go : (b : Bool) → is_tried x ≡ b → (list_all (λ x. not (is_tried x)) xs ≡ true) ⊎ First xs → (list_all (λ x. not (is_tried x)) (x ∷ xs) ≡ true) ⊎ First (x ∷ xs)
      go false e (inl n) = inl (both_true _ _ (ap not e) n)
      go false e (inr m) = inr (behind m (past_untried m.pick.operation x e))
      go true e (inl n) = inr (itself e (all_untried x.operation xs n))
      go true e (inr m) = inr (sooner e m (is_before x.operation m.pick.operation) refl)

  -- an operation that one of those tried is before ends no sooner than one that none of them is before
  pub ends_before : (m o : Stamped) (xs : List Pick) → list_all (is_past m) xs ≡ true → list_all (is_past o) xs ≡ false → ends_by m.last o.last ≡ true
  ends_before m o [] h k = absurd cc
  ends_before m o (x ∷ xs) h k = go (is_tried x) (is_before x.operation m) refl (is_before x.operation o) refl (ends_before m o xs) h k
    where
      go : (a b : Bool) → is_before x.operation m ≡ b → (c : Bool) → is_before x.operation o ≡ c
          → (list_all (is_past m) xs ≡ true → list_all (is_past o) xs ≡ false → ends_by m.last o.last ≡ true)
          → (not (a && b) && list_all (is_past m) xs) ≡ true → (not (a && c) && list_all (is_past o) xs) ≡ false → ends_by m.last o.last ≡ true
      go false b f c g more h k = more h k
      go true true f c g more h k = absurd cc
      go true false f false g more h k = more h k
      go true false f true g more h k = ends_on m.last x.operation.last o.last (not_before_ends x.operation m f) (before_ends x.operation o g)
