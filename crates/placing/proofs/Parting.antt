-- An order of a history parted at one of its operations: what stands before it and behind it, and their times.
use Rattle.std.proofs.Common.{◌≡◌, ℕ, zero, suc, ◌+◌, ◌≤◌, ◌<◌, Bool, true, false, nat_le, Option, None, Some, IfSome, List, [], ◌∷◌, ◌++◌, length, slice_index_or, refl, sym, ap, ◌∙◌, subst, arith}
use Rattle.std.specs.List.{sum_by, AllByRecursion, Contains}
use Rattle.std.specs.List.Sorted.{IsPermutation}
use Rattle.std.proofs.lemmas.Bool.{leb-true, leb-false}
use Rattle.std.proofs.lemmas.List.Sums.{sum_by-cons, sum_by-append}
use Rattle.std.proofs.lemmas.List.Elements.{All-from_recursion}
use Rattle.std.proofs.lemmas.List.Sorted.{sum_by-IsPermutation, Contains-permutation}
use Rattle.history.specs.declared.operations.Stamped.{Stamped}
use Rattle.history.specs.Linearizability.{Answered, operations_of, IsPending, MayComeBefore, KeepsTime}

-- ---- where an operation stands

-- an order has an operation between these
pub record PartsAt (order : List Answered) (o : Stamped) : Type 0 where
  pub before : List Answered
  pub here : Answered
  pub behind : List Answered
  pub is : order ≡ before ++ here ∷ behind
  pub same : here.operation ≡ o

find : (o : Stamped) (order : List Answered) (left : List Stamped) → AllByRecursion IsPending left → (IsPending o → ⊥)
    → (k : ℕ) → k < length (operations_of order ++ left) → slice_index_or (operations_of order ++ left) k o ≡ o → PartsAt order o
find o [] left p n k lt e = absurd (n (subst IsPending e (All-from_recursion IsPending left p k o lt)))
find o (a ∷ rest) left p n zero lt e = record { before = []; here = a; behind = rest; is = refl; same = e }
find o (a ∷ rest) left p n (suc k) lt e =
    let more = find o rest left p n k (omega arith) e in
    record { before = a ∷ more.before; here = more.here; behind = more.behind; is = ap (λ r. a ∷ r) more.is; same = more.same }

-- an operation that isn't pending stands in each order
pub parts_at : (ops : List Stamped) (o : Stamped) (order : List Answered) (left : List Stamped) → IsPermutation ops (operations_of order ++ left)
    → AllByRecursion IsPending left → (IsPending o → ⊥) → Contains ops o → PartsAt order o
parts_at ops o order left moved p n c =
    let k = Contains-permutation ops (operations_of order ++ left) o moved c in
    find o order left p n k.0 k.1 k.2

-- ---- sums

-- a sum over the operations of an order with one of them between
pub sum_parted : (f : Stamped → ℕ) (xs : List Answered) (a : Answered) (ys : List Answered)
    → sum_by f (operations_of (xs ++ a ∷ ys)) ≡ sum_by f (operations_of xs) + (f a.operation + sum_by f (operations_of ys))
sum_parted f [] a ys = let e = sum_by-cons f a.operation (operations_of ys) in omega (arith, e)
sum_parted f (x ∷ xs) a ys =
    let e = sum_by-cons f x.operation (operations_of (xs ++ a ∷ ys)) in
    let d = sum_by-cons f x.operation (operations_of xs) in
    let k = sum_parted f xs a ys in
    omega (arith, e, d, k)

-- a sum over a history is that over an order and those left out
pub sum_ordered : (f : Stamped → ℕ) (ops : List Stamped) (order : List Answered) (left : List Stamped) → IsPermutation ops (operations_of order ++ left)
    → sum_by f ops ≡ sum_by f (operations_of order) + sum_by f left
sum_ordered f ops order left moved =
    sym (sum_by-IsPermutation f ops (operations_of order ++ left) moved) ∙ sum_by-append f (operations_of order) left

pub sum_zero : {X : Type 0} (f : X → ℕ) (xs : List X) → AllByRecursion (λ x. f x ≡ 0) xs → sum_by f xs ≡ 0
sum_zero f [] h = refl
sum_zero f (x ∷ xs) h =
    let k = sum_zero f xs h.1 in
    let e = h.0 in
    sum_by-cons f x xs ∙ omega (arith, e, k)

-- where each operation counts at most as much as the same in an order
pub sum_at_most : (f : Stamped → ℕ) (g : Answered → ℕ) (xs : List Answered) → AllByRecursion (λ a. f a.operation ≤ g a) xs
    → sum_by f (operations_of xs) ≤ sum_by g xs
sum_at_most f g [] h = omega arith
sum_at_most f g (a ∷ rest) h =
    let k = sum_at_most f g rest h.1 in
    let e = sum_by-cons f a.operation (operations_of rest) in
    let d = sum_by-cons g a rest in
    let j = h.0 in
    omega (arith, e, d, j, k)

pub sum_at_least : (f : Stamped → ℕ) (g : Answered → ℕ) (xs : List Answered) → AllByRecursion (λ a. g a ≤ f a.operation) xs
    → sum_by g xs ≤ sum_by f (operations_of xs)
sum_at_least f g [] h = omega arith
sum_at_least f g (a ∷ rest) h =
    let k = sum_at_least f g rest h.1 in
    let e = sum_by-cons f a.operation (operations_of rest) in
    let d = sum_by-cons g a rest in
    let j = h.0 in
    omega (arith, e, d, j, k)

-- ---- times

-- operations began by a time
abbrev pub BeganBy : ℕ → List Stamped → Type 0
BeganBy time os = AllByRecursion (λ o. o.first ≤ time) os

-- an operation may stand behind another one and those before it
abbrev pub MayFollow : List Stamped → Stamped → Stamped → Type 0
MayFollow os a y = IfSome y.last (λ last. (a.first ≤ last) × BeganBy last os)

-- of the operations of an order, the one between and those behind it have a property
pub parted_have : (P : Stamped → Type 0) (xs : List Answered) (a : Answered) (ys : List Answered) → AllByRecursion P (operations_of (xs ++ a ∷ ys))
    → P a.operation × AllByRecursion P (operations_of ys)
parted_have P [] a ys h = h
parted_have P (x ∷ xs) a ys h = parted_have P xs a ys h.1

began_more : (x : Stamped) (os : List Stamped) (last : Option ℕ) → IfSome last (λ last. x.first ≤ last) → IfSome last (λ last. BeganBy last os) → IfSome last (λ last. BeganBy last (x ∷ os))
began_more x os None h k = tt
began_more x os (Some last) h k = (h, k)

follows_more : (x a : Stamped) (os : List Stamped) (last : Option ℕ) → IfSome last (λ last. x.first ≤ last) → IfSome last (λ last. (a.first ≤ last) × BeganBy last os)
    → IfSome last (λ last. (a.first ≤ last) × BeganBy last (x ∷ os))
follows_more x a os None h k = tt
follows_more x a os (Some last) h k = (k.0, (h, k.1))

all_follow_more : (x a : Stamped) (os ys : List Stamped) → AllByRecursion (MayComeBefore x) ys → AllByRecursion (MayFollow os a) ys → AllByRecursion (MayFollow (x ∷ os) a) ys
all_follow_more x a os [] h k = tt
all_follow_more x a os (y ∷ ys) h k = (follows_more x a os y.last h.0 k.0, all_follow_more x a os ys h.1 k.1)

none_before : (last : Option ℕ) → IfSome last (λ last. BeganBy last [])
none_before None = tt
none_before (Some last) = tt

just_follow : (a : Stamped) (ys : List Stamped) → AllByRecursion (MayComeBefore a) ys → AllByRecursion (MayFollow [] a) ys
just_follow a [] h = tt
just_follow a (y ∷ ys) h = (go y.last h.0, just_follow a ys h.1)
  where
    go : (last : Option ℕ) → IfSome last (λ last. a.first ≤ last) → IfSome last (λ last. (a.first ≤ last) × BeganBy last [])
    go None h = tt
    go (Some last) h = (h, tt)

-- what keeps time: those before an operation began by its end, and those behind it may follow all of these
pub times_parted : (xs : List Answered) (a : Answered) (ys : List Answered) → KeepsTime (operations_of (xs ++ a ∷ ys))
    → IfSome a.operation.last (λ last. BeganBy last (operations_of xs)) × AllByRecursion (MayFollow (operations_of xs) a.operation) (operations_of ys)
times_parted [] a ys h = (none_before a.operation.last, just_follow a.operation (operations_of ys) h.0)
times_parted (x ∷ xs) a ys h =
    let more = times_parted xs a ys h.1 in
    let those = parted_have (MayComeBefore x.operation) xs a ys h.0 in
    (began_more x.operation (operations_of xs) a.operation.last those.0 more.0, all_follow_more x.operation a.operation (operations_of xs) (operations_of ys) those.1 more.1)

-- the time by which an operation and some others have begun: none is sooner
pub record LatestStart (o : Stamped) (os : List Stamped) : Type 0 where
  pub time : ℕ
  pub began : o.first ≤ time
  pub others : BeganBy time os
  pub least : (last : ℕ) → o.first ≤ last → BeganBy last os → time ≤ last

began_later : (time later : ℕ) → time ≤ later → (os : List Stamped) → BeganBy time os → BeganBy later os
began_later time later h [] b = tt
began_later time later h (o ∷ os) b = let k = b.0 in (omega (arith, k), began_later time later h os b.1)

pub latest_start : (o : Stamped) (os : List Stamped) → LatestStart o os
latest_start o [] = record { time = o.first; began = omega arith; others = tt; least = λ last h b. h }
latest_start o (p ∷ ps) = go (latest_start o ps) _ refl
  where
    go : (more : LatestStart o ps) (b : Bool) → nat_le p.first more.time ≡ b → LatestStart o (p ∷ ps)
    go more true e = record { time = more.time; began = more.began; others = (leb-true _ _ e, more.others); least = λ last h b. more.least last h b.1 }
    go more false e =
        let j : more.time < p.first = leb-false _ _ e in
        let k = more.began in
        record {
          time = p.first;
          began = omega (arith, k);
          others = (omega arith, began_later more.time p.first (omega arith) ps more.others);
          least = λ last h b. b.0;
        }
