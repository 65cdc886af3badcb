-- A stable sort by place gives the operations by rising place.
use Rattle.std.proofs.Common.{◌≡◌, ℕ, ◌≤◌, ◌<◌, Bool, true, false, not, ◌&&◌, cond, nat_le, if◌then◌else◌, None, is_some, filter, map, List, [], ◌∷◌, refl, sym, ap, subst, ◌∙◌, arith, Ordering}
use Rattle.std.specs.Borrow.{Bor}
use Rattle.std.specs.List.{AllByRecursion}
use Rattle.std.specs.List.Sorted.{IsNonDecreasingBy, IsStableByKey}
use Rattle.std.specs.Ordering.{nat_cmp, is_lt}
use Rattle.std.specs.declared.cmp.Ordering.TheVariants.{Less, Equal, Greater}
use Rattle.std.proofs.lemmas.Cmp.{ranked}
use Rattle.std.proofs.lemmas.Bool.{leb-false}
use Rattle.history.specs.declared.operations.Stamped.{Stamped}
use Rattle.history.specs.declared.operations.Op.TheVariants.{Deq}
use Rattle.history.specs.History.{point_or_zero, inserted, by_point}
use Rattle.history.specs.Tables.{shown, numbered}
use Rattle.history.specs.Order.{Rises}
use Rattle.history.proofs.Ordered.{rising_rises}
use Rattle.report.proofs.StableSort.{filter-map, Ascends, ascends, sorted_once}

below_self : (a : ℕ) → a < a → ⊥
below_self a l = omega arith

not_both : (k a b : ℕ) → k ≡ a → k ≡ b → b < a → ⊥
not_both k a b e f l = omega arith

-- whether neither number is below the other
abbrev tied : ℕ → ℕ → Bool
tied a b = not (is_lt (nat_cmp a b)) && not (is_lt (nat_cmp b a))

tied_yes : (a : ℕ) → tied a a ≡ true
tied_yes a = go (nat_cmp a a) refl
  where
    go : (r : Ordering) → nat_cmp a a ≡ r → (not (is_lt r) && not (is_lt r)) ≡ true
    go Less e = let l : a < a = ranked a a Less (sym e) in absurd (below_self a l)
    go Equal e = refl
    go Greater e = refl

tied_only : (a b : ℕ) → tied a b ≡ true → a ≡ b
tied_only a b h = go (nat_cmp a b) (nat_cmp b a) refl refl h
  where
    go : (r s : Ordering) → nat_cmp a b ≡ r → nat_cmp b a ≡ s → (not (is_lt r) && not (is_lt s)) ≡ true → a ≡ b
    go Less s e f h = cc h
    go Equal s e f h = ranked a b Equal (sym e)
    go Greater Less e f h = cc h
    go Greater Equal e f h = sym (ranked b a Equal (sym f))
    go Greater Greater e f h =
        let l : b < a = ranked a b Greater (sym e) in
        let g : a < b = ranked b a Greater (sym f) in
        omega arith

-- the operations of this number
abbrev those : ℕ → List Stamped → List Stamped
those k ops = filter (λ o. tied k (point_or_zero o.at)) ops

apart : (k : ℕ) (o p : Stamped) → point_or_zero p.at < point_or_zero o.at → (a b : Bool) → tied k (point_or_zero o.at) ≡ a
    → tied k (point_or_zero p.at) ≡ b → (qs : List Stamped) → cond b (p ∷ cond a (o ∷ qs) qs) (cond a (o ∷ qs) qs) ≡ cond a (o ∷ cond b (p ∷ qs) qs)
    (cond b (p ∷ qs) qs)
apart k o p l true true e f qs =
    let x : k ≡ point_or_zero o.at = tied_only k _ e in
    let y : k ≡ point_or_zero p.at = tied_only k _ f in
    absurd (not_both k (point_or_zero o.at) (point_or_zero p.at) x y l)
apart k o p l true false e f qs = refl
apart k o p l false true e f qs = refl
apart k o p l false false e f qs = refl

-- putting an operation in leaves those of a number in their order
those-inserted : (k : ℕ) (o : Stamped) (ps : List Stamped) → those k (inserted o ps) ≡ those k (o ∷ ps)
those-inserted k o [] = refl
those-inserted k o (p ∷ ps) = go (nat_le (point_or_zero o.at) (point_or_zero p.at)) refl (those-inserted k o ps)
  where
    go : (b : Bool) → nat_le (point_or_zero o.at) (point_or_zero p.at) ≡ b → those k (inserted o ps) ≡ those k (o ∷ ps) → those k (if b then o ∷ p ∷ ps else p ∷ inserted o ps) ≡ those k (o ∷ p ∷ ps)
    go true e h = refl
    go false e h =
        ap (λ r. cond (tied k (point_or_zero p.at)) (p ∷ r) r) h ∙
        apart k o p (leb-false _ _ e) (tied k (point_or_zero o.at)) (tied k (point_or_zero p.at)) refl refl (those k ps)

those-by_point : (k : ℕ) (ops : List Stamped) → those k (by_point ops) ≡ those k (filter (λ o. is_some o.at) ops)
those-by_point k [] = refl
those-by_point k (o ∷ os) = go (is_some o.at) (those-by_point k os)
  where
    go : (b : Bool) → those k (by_point os) ≡ those k (filter (λ o. is_some o.at) os)
        → those k (if b then inserted o (by_point os) else by_point os) ≡ those k
        (cond b (o ∷ filter (λ o. is_some o.at) os) (filter (λ o. is_some o.at) os))
    go true h = those-inserted k o (by_point os) ∙ ap (λ r. cond (tied k (point_or_zero o.at)) (o ∷ r) r) h
    go false h = h

all_numbers : (m : ℕ) (ops : List Stamped) → AllByRecursion (λ p. m ≤ point_or_zero p.at) ops → AllByRecursion (λ k. m ≤ k) (map (λ e. e.0) (map numbered ops))
all_numbers m [] h = tt
all_numbers m (o ∷ os) h = (h.0, all_numbers m os h.1)

rises_ascends : (ops : List Stamped) → Rises ops → Ascends (map (λ e. e.0) (map numbered ops))
rises_ascends [] h = tt
rises_ascends (o ∷ os) h = (all_numbers (point_or_zero o.at) os h.0, rises_ascends os h.1)

numbers-shown : (es : List (ℕ × Bor Stamped)) → map (λ e. e.0) (map shown es) ≡ map (λ e. e.0) es
numbers-shown [] = refl
numbers-shown (e ∷ es) = ap (λ r. e.0 ∷ r) (numbers-shown es)

-- an operation without a place, of which only its number is asked
none : Stamped
none = record { actor = 0; op = Deq; first = 0; last = None; at = None; reply = None }

-- entries that were sorted stably by their numbers are those of the operations by rising place
pub sorted_rising : (ops : List Stamped) (xs ys : List (ℕ × Bor Stamped)) → map shown xs ≡ map numbered (filter (λ o. is_some o.at) ops)
    → IsNonDecreasingBy (λ e. e.0) ys → IsStableByKey (λ e. e.0) nat_cmp xs ys → map shown ys ≡ map numbered (by_point ops)
sorted_rising ops xs ys e up stable =
    sorted_once (λ e. e.0) tied tied_yes tied_only (map shown ys) (map numbered (by_point ops))
    (subst Ascends (sym (numbers-shown ys)) (ascends (λ e. e.0) ys up))
    (rises_ascends (by_point ops) (rising_rises ops))
    at
  where
    at : (k : ℕ) → filter (λ e. tied k e.0) (map shown ys) ≡ filter (λ e. tied k e.0) (map numbered (by_point ops))
    at k =
        filter-map (λ e. tied k e.0) shown ys ∙
        ap (map shown) (stable (k, record { ref_ptr = (0, 0); now = none })) ∙
        sym (filter-map (λ e. tied k e.0) shown xs) ∙
        ap (filter (λ e. tied k e.0)) e ∙
        filter-map (λ e. tied k e.0) numbered (filter (λ o. is_some o.at) ops) ∙
        ap (map numbered) (sym (those-by_point k ops)) ∙
        sym (filter-map (λ e. tied k e.0) numbered (by_point ops))
