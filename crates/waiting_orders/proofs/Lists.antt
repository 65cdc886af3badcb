-- What each of some operations has, and times that are kept.
use Rattle.std.proofs.Common.{◌≡◌, ℕ, ◌≤◌, ◌<◌, Bool, true, false, not, ◌&&◌, ◌||◌, cond, nat_le, Option, None, Some, IfSome, List, [], ◌∷◌, ◌++◌, refl, sym, subst, arith}
use Rattle.std.specs.List.{AllByRecursion, filter}
use Rattle.std.proofs.lemmas.Bool.{leb-true, leb-false, le-leb}
use Rattle.history.specs.declared.operations.Stamped.{Stamped}
use Rattle.history.specs.Linearizability.{IsPending, MayComeBefore, KeepsTime}
use Rattle.waiting_orders.specs.Waiting.{Where, IsOpenAt, OtherIsOpen, waits, is_open_at, other_is_open}

pub all_joined : (P : Stamped → Type 0) (xs ys : List Stamped) → AllByRecursion P xs → AllByRecursion P ys → AllByRecursion P (xs ++ ys)
all_joined P [] ys a b = b
all_joined P (x ∷ xs) ys a b = (a.0, all_joined P xs ys a.1 b)

pub all_without : (P : Stamped → Type 0) (xs : List Stamped) (o : Stamped) (ys : List Stamped) → AllByRecursion P (xs ++ o ∷ ys) → AllByRecursion P (xs ++ ys)
all_without P [] o ys a = a.1
all_without P (x ∷ xs) o ys a = (a.0, all_without P xs o ys a.1)

pub all_weaker : (P Q : Stamped → Type 0) → ((x : Stamped) → P x → Q x) → (xs : List Stamped) → AllByRecursion P xs → AllByRecursion Q xs
all_weaker P Q f [] a = tt
all_weaker P Q f (x ∷ xs) a = (f x a.0, all_weaker P Q f xs a.1)

pub all_filtered : (P : Stamped → Type 0) (test : Stamped → Bool) (xs : List Stamped) → AllByRecursion P xs → AllByRecursion P (filter test xs)
all_filtered P test [] a = tt
all_filtered P test (x ∷ xs) a = go (test x) (all_filtered P test xs a.1)
  where
    go : (b : Bool) → AllByRecursion P (filter test xs) → AllByRecursion P (cond b (x ∷ filter test xs) (filter test xs))
    go true more = (a.0, more)
    go false more = more

pub all_pass : (test : Stamped → Bool) (xs : List Stamped) → AllByRecursion (λ x. test x ≡ true) (filter test xs)
all_pass test [] = tt
all_pass test (x ∷ xs) = go (test x) refl (all_pass test xs)
  where
    go : (b : Bool) → test x ≡ b → AllByRecursion (λ x. test x ≡ true) (filter test xs) → AllByRecursion (λ x. test x ≡ true) (cond b (x ∷ filter test xs) (filter test xs))
    go true e more = (e, more)
    go false e more = more

pub where_any : (b : Bool) (P : Type 0) → P → Where b P
where_any true P p = p
where_any false P p = tt

pub where_not : (b : Bool) (P : Type 0) → b ≡ false → Where b P
where_not true P e = absurd cc
where_not false P e = tt

-- ---- times

pub keeps_without : (xs : List Stamped) (o : Stamped) (ys : List Stamped) → KeepsTime (xs ++ o ∷ ys) → KeepsTime (xs ++ ys)
keeps_without [] o ys h = h.1
keeps_without (x ∷ xs) o ys h = (all_without (MayComeBefore x) xs o ys h.0, keeps_without xs o ys h.1)

pub keeps_last : (xs ys : List Stamped) → KeepsTime (xs ++ ys) → KeepsTime ys
keeps_last [] ys h = h
keeps_last (x ∷ xs) ys h = keeps_last xs ys h.1

-- the later one of two numbers
pub record Later (now first : ℕ) : Type 0 where
  pub time : ℕ
  pub since : now ≤ time
  pub began : first ≤ time
  pub least : (l : ℕ) → now ≤ l → first ≤ l → time ≤ l

pub later : (now first : ℕ) → Later now first
later now first = go (nat_le first now) refl
  where
    go : (b : Bool) → nat_le first now ≡ b → Later now first
    go true e = let h : first ≤ now = leb-true _ _ e in record { time = now; since = omega arith; began = h; least = λ l a b. a }
    go false e = let h : now < first = leb-false _ _ e in record { time = first; since = omega (arith, h); began = omega arith; least = λ l a b. b }

pub still_open : (now first time : ℕ) → ((l : ℕ) → now ≤ l → first ≤ l → time ≤ l) → (last : Option ℕ) → IfSome last (λ last. now ≤ last) → IfSome last (λ last. first ≤ last)
    → IfSome last (λ last. time ≤ last)
still_open now first time least None a b = tt
still_open now first time least (Some last) a b = least last a b

pub all_still_open : (now : ℕ) (o : Stamped) (l : Later now o.first) (ys : List Stamped) → AllByRecursion (IsOpenAt now) ys → AllByRecursion (MayComeBefore o) ys → AllByRecursion (IsOpenAt l.time) ys
all_still_open now o l [] a b = tt
all_still_open now o l (y ∷ ys) a b = (still_open now o.first l.time l.least y.last a.0 b.0, all_still_open now o l ys a.1 b.1)

pub pending_open : (time : ℕ) (y : Stamped) → IsPending y → IsOpenAt time y
pending_open time y p = subst (λ last. IfSome last (λ last. time ≤ last)) (sym p.not_ended) tt

-- ---- tests

pub both_true : (a b : Bool) → a ≡ true → b ≡ true → (a && b) ≡ true
both_true true b e f = f
both_true false b e f = absurd cc

pub or_left : (a b : Bool) → a ≡ true → (a || b) ≡ true
or_left true b e = refl
or_left false b e = absurd cc

pub or_right : (a b : Bool) → b ≡ true → (a || b) ≡ true
or_right true b e = refl
or_right false b e = e

pub open_true : (time later : ℕ) (last : Option ℕ) → time ≤ later → IfSome last (λ last. later ≤ last) → is_open_at time last ≡ true
open_true time later None h k = refl
open_true time later (Some last) h k = le-leb time last (omega (arith, h, k))

pub other_open_true : (time later : ℕ) → time ≤ later → (o : Stamped) → OtherIsOpen later o → other_is_open time o ≡ true
other_open_true time later h o k = go (waits o) k
  where
    go : (b : Bool) → Where (not b) (IsOpenAt later o) → (b || is_open_at time o.last) ≡ true
    go true k = refl
    go false k = open_true time later o.last h k
