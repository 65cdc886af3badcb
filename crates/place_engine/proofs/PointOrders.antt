-- Operations in the order of their points, and so much earlier.
use Rattle.std.proofs.Common.{◌≡◌, ◌≢◌, ℕ, ◌-◌, ◌<◌, ◌≤◌, Bool, true, false, nat_le, if◌then◌else◌, List, [], ◌∷◌, map, Option, None, Some}
use Rattle.std.proofs.Common.{option_map, is_some, IfSome, IsSome, refl, sym, ap, ◌∙◌, subst, arith}
use Rattle.std.specs.List.{AllByRecursion}
use Rattle.std.proofs.lemmas.Bool.{leb-true, leb-false, le-leb, lt-leb}
use Rattle.history.specs.declared.operations.Reply.{Reply}
use Rattle.history.specs.declared.operations.Stamped.{Stamped}
use Rattle.history.specs.Queue.{Queue}
use Rattle.history.specs.History.{LiesIn, IsPlaced, AreApart, point_or_zero, inserted, by_point, answer, IsSequentialRun}
use Rattle.place_engine.specs.GivenParts.{earlier_by}

-- ---- points by rising numbers

module _ (P : Stamped → Type 0) where
  all-inserted : (o : Stamped) (ps : List Stamped) → P o → AllByRecursion P ps → AllByRecursion P (inserted o ps)
  all-inserted o [] is all = (is, tt)
  all-inserted o (p ∷ ps) is all = by (all-inserted o ps is all.1) (nat_le (point_or_zero o.at) (point_or_zero p.at))
    where
      by : AllByRecursion P (inserted o ps) → (b : Bool) → AllByRecursion P (if b then o ∷ p ∷ ps else p ∷ inserted o ps)
      by rest true = (is, all)
      by rest false = (all.0, rest)

  all-by_point : (os : List Stamped) → AllByRecursion P os → AllByRecursion P (by_point os)
  all-by_point [] all = tt
  all-by_point (o ∷ os) all = by (all-by_point os all.1) (is_some o.at)
    where
      by : AllByRecursion P (by_point os) → (b : Bool) → AllByRecursion P (if b then inserted o (by_point os) else by_point os)
      by rest true = all-inserted o (by_point os) all.0 rest
      by rest false = rest

-- where an operation has a point, it is a number or later
abbrev pub IsAtLeast : ℕ → Stamped → Type 0
IsAtLeast least o = IfSome o.at (λ at. least ≤ at)

pointed-least : (least : ℕ) (os : List Stamped) → AllByRecursion (IsAtLeast least) os → AllByRecursion (λ o. least ≤ point_or_zero o.at) (by_point os)
pointed-least least [] all = tt
pointed-least least (o ∷ os) all = by (pointed-least least os all.1) o.at refl all.0
  where
    by : AllByRecursion (λ o. least ≤ point_or_zero o.at) (by_point os) → (at : Option ℕ) → o.at ≡ at → IfSome at (λ at. least ≤ at)
        → AllByRecursion (λ o. least ≤ point_or_zero o.at) (if is_some at then inserted o (by_point os) else by_point os)
    by rest None e h = rest
    by rest (Some at) e h = all-inserted (λ o. least ≤ point_or_zero o.at) o (by_point os) (subst (λ (a : Option ℕ). least ≤ point_or_zero a) (sym e) h) rest

inserted-first : (o : Stamped) (ps : List Stamped) → AllByRecursion (λ p. point_or_zero o.at ≤ point_or_zero p.at) ps → inserted o ps ≡ o ∷ ps
inserted-first o [] all = refl
inserted-first o (p ∷ ps) all = ap (λ b. if b then o ∷ p ∷ ps else p ∷ inserted o ps) (le-leb (point_or_zero o.at) (point_or_zero p.at) all.0)

-- the operation whose point is before those of all others comes first
pub by_point-first : (o : Stamped) (at : ℕ) (os : List Stamped) → o.at ≡ Some at → AllByRecursion (IsAtLeast at) os → by_point (o ∷ os) ≡ o ∷ by_point os
by_point-first o at os e all =
    let point : point_or_zero o.at ≡ at = ap point_or_zero e in
    ap (λ (a : Option ℕ). if is_some a then inserted o (by_point os) else by_point os) e
    ∙ inserted-first o (by_point os)
    (subst (λ (n : ℕ). AllByRecursion (λ p. n ≤ point_or_zero p.at) (by_point os)) (sym point) (pointed-least at os all))

-- the point of a call that begins later comes later
pub later-point : (number first : ℕ) (last at : Option ℕ) (reply : Option Reply) → LiesIn first last at reply → number < first → IfSome at (λ at. number ≤ at)
later-point number first last None reply lies less = tt
later-point number first last (Some at) reply lies less = let from : first ≤ at = lies.not_before in omega (arith, from, less)

-- ---- numbers that are so much less

module _ (end : ℕ) where
  -- an operation begins behind the end
  abbrev BeginsBehind : Stamped → Type 0
  BeginsBehind o = end < o.first

  ended-earlier : (number reply : Option ℕ) → IsSome number → IsSome (option_map (λ n. n - end) number)
  ended-earlier None reply h = h
  ended-earlier (Some n) reply h = refl

  ended-back : (number : Option ℕ) → IsSome (option_map (λ n. n - end) number) → IsSome number
  ended-back None h = h
  ended-back (Some n) h = refl

  after-earlier : (first : ℕ) (at : Option ℕ) → IfSome at (λ at. first ≤ at) → IfSome (option_map (λ n. n - end) at) (λ at. first - end ≤ at)
  after-earlier first None h = tt
  after-earlier first (Some at) h = omega (arith, h)

  within-earlier : (at last : Option ℕ) → IfSome at (λ at. IfSome last (λ last. at ≤ last))
      → IfSome (option_map (λ n. n - end) at) (λ at. IfSome (option_map (λ n. n - end) last) (λ last. at ≤ last))
  within-earlier None last h = tt
  within-earlier (Some at) None h = tt
  within-earlier (Some at) (Some last) h = omega (arith, h)

  pub placed-earlier : (os : List Stamped) → AllByRecursion IsPlaced os → AllByRecursion IsPlaced (map (earlier_by end) os)
  placed-earlier [] all = tt
  placed-earlier (o ∷ os) all = (
    record {
      ended = (λ h. all.0.ended.0 (ended-back o.last h), λ h. ended-earlier o.last None (all.0.ended.1 h));
      placed = λ h. ended-earlier o.at None (all.0.placed h);
      not_before = after-earlier o.first o.at all.0.not_before;
      not_after = within-earlier o.at o.last all.0.not_after;
    },
    placed-earlier os all.1,
  )

  other-earlier : (a : ℕ) (at : Option ℕ) → end ≤ a → IfSome at (λ at. end ≤ at) → at ≢ Some a → option_map (λ n. n - end) at ≢ Some (a - end)
  other-earlier a None low h other same = absurd cc
  other-earlier a (Some b) low h other same =
      let less : b - end ≡ a - end = cc in
      let is : b ≡ a = omega (arith, less, low, h) in
      other (ap (λ (n : ℕ). Some n) is)

  others-earlier : (a : ℕ) (os : List Stamped) → end ≤ a → AllByRecursion (IsAtLeast end) os → AllByRecursion (λ p. p.at ≢ Some a) os
      → AllByRecursion (λ p. p.at ≢ Some (a - end)) (map (earlier_by end) os)
  others-earlier a [] low all apart = tt
  others-earlier a (o ∷ os) low all apart = (other-earlier a o.at low all.0 apart.0, others-earlier a os low all.1 apart.1)

  pub apart-earlier : (os : List Stamped) → AllByRecursion (IsAtLeast end) os → AreApart os → AreApart (map (earlier_by end) os)
  apart-earlier [] all apart = tt
  apart-earlier (o ∷ os) all apart = (by o.at all.0 apart.0, apart-earlier os all.1 apart.1)
    where
      by : (at : Option ℕ) → IfSome at (λ at. end ≤ at) → IfSome at (λ at. AllByRecursion (λ p. p.at ≢ Some at) os)
          → IfSome (option_map (λ n. n - end) at) (λ at. AllByRecursion (λ p. p.at ≢ Some at) (map (earlier_by end) os))
      by None h apart = tt
      by (Some a) h apart = others-earlier a os h all.1 apart

  -- operations in the order of their points are so
  point-earlier : (at : Option ℕ) → point_or_zero (option_map (λ n. n - end) at) ≡ point_or_zero at - end
  point-earlier None = omega arith
  point-earlier (Some at) = refl

  le-earlier : (a b : ℕ) → end ≤ a → end ≤ b → nat_le (a - end) (b - end) ≡ nat_le a b
  le-earlier a b low h = by (nat_le a b) refl
    where
      by : (t : Bool) → nat_le a b ≡ t → nat_le (a - end) (b - end) ≡ t
      by true e = let le : a ≤ b = leb-true a b e in le-leb (a - end) (b - end) (omega (arith, le))
      by false e = let less : b < a = leb-false a b e in lt-leb (a - end) (b - end) (omega (arith, less, low, h))

  abbrev IsPointedBehind : Stamped → Type 0
  IsPointedBehind o = end ≤ point_or_zero o.at

  inserted-earlier : (o : Stamped) (ps : List Stamped) → IsPointedBehind o → AllByRecursion IsPointedBehind ps
      → inserted (earlier_by end o) (map (earlier_by end) ps) ≡ map (earlier_by end) (inserted o ps)
  inserted-earlier o [] is all = refl
  inserted-earlier o (p ∷ ps) is all =
      let test : nat_le (point_or_zero (earlier_by end o).at) (point_or_zero (earlier_by end p).at) ≡ nat_le (point_or_zero o.at) (point_or_zero p.at) =
      (λ i. nat_le (point-earlier o.at i) (point-earlier p.at i)) ∙ le-earlier (point_or_zero o.at) (point_or_zero p.at) is all.0 in
      ap (λ b. if b then earlier_by end o ∷ map (earlier_by end) (p ∷ ps) else earlier_by end p ∷ inserted (earlier_by end o) (map (earlier_by end) ps)) test
      ∙ by (inserted-earlier o ps is all.1) (nat_le (point_or_zero o.at) (point_or_zero p.at))
    where
      by : inserted (earlier_by end o) (map (earlier_by end) ps) ≡ map (earlier_by end) (inserted o ps) → (t : Bool)
          → (if t then earlier_by end o ∷ map (earlier_by end) (p ∷ ps) else earlier_by end p ∷ inserted (earlier_by end o) (map (earlier_by end) ps))
          ≡ map (earlier_by end) (if t then o ∷ p ∷ ps else p ∷ inserted o ps)
      by rest true = refl
      by rest false = ap (λ (l : List Stamped). earlier_by end p ∷ l) rest

  pub by_point-earlier : (os : List Stamped) → AllByRecursion (IsAtLeast end) os → by_point (map (earlier_by end) os) ≡ map (earlier_by end) (by_point os)
  by_point-earlier [] all = refl
  by_point-earlier (o ∷ os) all = by (by_point-earlier os all.1) o.at refl all.0
    where
      by : by_point (map (earlier_by end) os) ≡ map (earlier_by end) (by_point os) → (at : Option ℕ) → o.at ≡ at → IfSome at (λ at. end ≤ at)
          → (if is_some (option_map (λ n. n - end) at) then inserted (earlier_by end o) (by_point (map (earlier_by end) os)) else by_point (map (earlier_by end) os))
          ≡ map (earlier_by end) (if is_some at then inserted o (by_point os) else by_point os)
      by rest None e h = rest
      by rest (Some at) e h =
          ap (inserted (earlier_by end o)) rest
          ∙ inserted-earlier o (by_point os) (subst (λ (a : Option ℕ). end ≤ point_or_zero a) (sym e) h) (pointed-least end os all.1)

  pub run-earlier : (queue : Queue) (os : List Stamped) → IsSequentialRun queue os → IsSequentialRun queue (map (earlier_by end) os)
  run-earlier queue [] runs = tt
  run-earlier queue (o ∷ os) runs = (runs.0, run-earlier (answer queue o o.reply).after os runs.1)
