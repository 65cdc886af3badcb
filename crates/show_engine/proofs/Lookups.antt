-- The numbers at which operations take effect, sorted and looked up.
use Rattle.std.proofs.Common.{◌≡◌, ℕ, ◌+◌, ◌<◌, ◌≤◌, Bool, false, ◌||◌, List, [], ◌∷◌, ◌++◌, length, get_or, drop, Option, Some, None, Result, Ok, Err, is_ok, ◌⊎◌, inl, inr, refl, sym, ap, ◌∙◌, arith}
use Rattle.std.specs.Prelude.{MatchResult, nat_eq}
use Rattle.std.proofs.lemmas.Bool.{cases_lt, eq-eqb, ne_eqb}
use Rattle.std.proofs.lemmas.List.{at_drop_more}
use Rattle.std.proofs.lemmas.List.Elements.{All-from_get_or}
use Rattle.std.proofs.lemmas.List.Folds.{list_any_at, list_any_none}
use Rattle.history.specs.declared.operations.Stamped.{Stamped}
use Rattle.show_engine.specs.Pictures.{is_at, points_of, takes_effect, with_point}
use Rattle.show_engine.specs.PicturesWritten.{is_among}

-- a number is among these and another one, if there is one, where it is that one or among these
with_point-among : (at : Option ℕ) (points : List ℕ) (k : ℕ) → is_among (with_point at points) k ≡ (is_at k at || is_among points k)
with_point-among None points k = refl
with_point-among (Some n) points k = refl

-- a number is among those at which operations take effect where one of them takes effect there
pub points_of-among : (ops : List Stamped) (k : ℕ) → is_among (points_of ops) k ≡ takes_effect ops k
points_of-among [] k = refl
points_of-among (o ∷ ops) k = with_point-among o.at (points_of ops) k ∙ ap (λ (b : Bool). is_at k o.at || b) (points_of-among ops k)

-- behind some numbers come those of an operation and of the later ones
pub points_of-drop : (ops : List Stamped) (i : ℕ) (o : Stamped) (points : List ℕ) → i < length ops → o ≡ get_or ops i o → points_of ops ≡ points ++ points_of (drop i ops)
    → points_of ops ≡ points ++ with_point o.at (points_of (drop (i + 1) ops))
points_of-drop ops i o points within is so_far =
    so_far ∙ ap (λ (l : List ℕ). points ++ l)
    (at_drop_more points_of ops i o within ∙ ap (λ (e : Stamped). with_point e.at (points_of (drop (i + 1) ops))) (sym is))

-- what a search in rising numbers found
pub among_found : (xs : List ℕ) (k : ℕ) (r : Result ℕ ℕ)
    → MatchResult r (λ i. (i < length xs) × (get_or xs i 0 ≡ k)) (λ i. (i ≤ length xs) × ((n : ℕ) → n < i → get_or xs n 0 < k) × ((n : ℕ) → i ≤ n → n < length xs → k < get_or xs n 0))
    → is_ok r ≡ is_among xs k
among_found xs k (Ok i) found = sym (list_any_at (λ at. nat_eq at k) xs i 0 found.0 (eq-eqb (get_or xs i 0) k found.1))
among_found xs k (Err i) gap = sym (list_any_none (λ at. nat_eq at k) xs (All-from_get_or (λ at. nat_eq at k ≡ false) xs 0 other))
  where
    other : (n : ℕ) → n < length xs → nat_eq (get_or xs n 0) k ≡ false
    other n within = ne_eqb (get_or xs n 0) k (λ same. apart n within (cases_lt n i) same)
      where
        apart : (n : ℕ) → n < length xs → (n < i) ⊎ (i ≤ n) → get_or xs n 0 ≡ k → ⊥
        apart n within (inl below) same = let h = gap.1 n below in omega (arith, h, same)
        apart n within (inr above) same = let h = gap.2 n above within in omega (arith, h, same)
