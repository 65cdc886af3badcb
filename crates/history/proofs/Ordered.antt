-- The operations by rising place are those that have one, and their places rise.
use Rattle.std.proofs.Common.{◌≡◌, ℕ, ◌≤◌, ◌<◌, Bool, true, false, cond, nat_le, if◌then◌else◌, is_some, List, [], ◌∷◌, refl, arith}
use Rattle.std.specs.List.{AllByRecursion, filter}
use Rattle.std.specs.List.Sorted.{IsPermutation}
use Rattle.std.proofs.lemmas.Bool.{leb-true, leb-false}
use Rattle.std.proofs.lemmas.List.Sorted.{IsPermutation-refl, IsPermutation-sym, IsPermutation-cons, IsPermutation-trans, IsPermutation-middle}
use Rattle.history.specs.declared.operations.Stamped.{Stamped}
use Rattle.history.specs.History.{point_or_zero, inserted, by_point}
use Rattle.history.specs.Order.{Rises}

-- a number isn't above that of an operation put in, nor those of the list
all-inserted : (n : ℕ) (o : Stamped) (ps : List Stamped) → n ≤ point_or_zero o.at → AllByRecursion (λ p. n ≤ point_or_zero p.at) ps → AllByRecursion (λ p. n ≤ point_or_zero p.at) (inserted o ps)
all-inserted n o [] h a = (h, tt)
all-inserted n o (p ∷ ps) h a = go (nat_le (point_or_zero o.at) (point_or_zero p.at)) (all-inserted n o ps h a.1)
  where
    go : (b : Bool) → AllByRecursion (λ p. n ≤ point_or_zero p.at) (inserted o ps) → AllByRecursion (λ p. n ≤ point_or_zero p.at) (if b then o ∷ p ∷ ps else p ∷ inserted o ps)
    go true more = (h, a)
    go false more = (a.0, more)

all_above : (n m : ℕ) → n ≤ m → (ps : List Stamped) → AllByRecursion (λ p. m ≤ point_or_zero p.at) ps → AllByRecursion (λ p. n ≤ point_or_zero p.at) ps
all_above n m h [] a = tt
all_above n m h (p ∷ ps) a = let k : m ≤ point_or_zero p.at = a.0 in (omega arith, all_above n m h ps a.1)

rises-inserted : (o : Stamped) (ps : List Stamped) → Rises ps → Rises (inserted o ps)
rises-inserted o [] h = (tt, tt)
rises-inserted o (p ∷ ps) h = go (nat_le (point_or_zero o.at) (point_or_zero p.at)) refl (rises-inserted o ps h.1)
  where
    go : (b : Bool) → nat_le (point_or_zero o.at) (point_or_zero p.at) ≡ b → Rises (inserted o ps) → Rises (if b then o ∷ p ∷ ps else p ∷ inserted o ps)
    go true e more =
        let k : point_or_zero o.at ≤ point_or_zero p.at = leb-true _ _ e in
        ((k, all_above _ _ k ps h.0), h)
    go false e more =
        let k : point_or_zero p.at < point_or_zero o.at = leb-false _ _ e in
        (all-inserted (point_or_zero p.at) o ps (omega arith) h.0, more)

-- the places rise
pub rising_rises : (ops : List Stamped) → Rises (by_point ops)
rising_rises [] = tt
rising_rises (o ∷ os) = go (is_some o.at) (rising_rises os)
  where
    go : (b : Bool) → Rises (by_point os) → Rises (if b then inserted o (by_point os) else by_point os)
    go true h = rises-inserted o (by_point os) h
    go false h = h

inserted_moves : (o : Stamped) (ps : List Stamped) → IsPermutation (o ∷ ps) (inserted o ps)
inserted_moves o [] = IsPermutation-refl (o ∷ [])
inserted_moves o (p ∷ ps) = go (nat_le (point_or_zero o.at) (point_or_zero p.at)) (inserted_moves o ps)
  where
    go : (b : Bool) → IsPermutation (o ∷ ps) (inserted o ps) → IsPermutation (o ∷ p ∷ ps) (if b then o ∷ p ∷ ps else p ∷ inserted o ps)
    go true h = IsPermutation-refl (o ∷ p ∷ ps)
    go false h =
        IsPermutation-trans (o ∷ p ∷ ps) (p ∷ o ∷ ps) (p ∷ inserted o ps)
        (IsPermutation-sym _ _ (IsPermutation-middle (p ∷ []) o ps)) (IsPermutation-cons p _ _ h)

-- the operations are those that have a place
pub rising_moves : (ops : List Stamped) → IsPermutation (filter (λ o. is_some o.at) ops) (by_point ops)
rising_moves [] = IsPermutation-refl []
rising_moves (o ∷ os) = go (is_some o.at) (rising_moves os)
  where
    go : (b : Bool) → IsPermutation (filter (λ o. is_some o.at) os) (by_point os)
        → IsPermutation (cond b (o ∷ filter (λ o. is_some o.at) os) (filter (λ o. is_some o.at) os))
        (if b then inserted o (by_point os) else by_point os)
    go true h = IsPermutation-trans _ _ _ (IsPermutation-cons o _ _ h) (inserted_moves o (by_point os))
    go false h = h
