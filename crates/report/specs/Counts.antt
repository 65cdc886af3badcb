-- How often each kind occurs in a list.
use Rattle.std.specs.Prelude.{ℕ, Bool, not, List, [], ◌∷◌, map, filter, count_by}

module _ {K : Type 0} (same : K → K → Bool) where
  -- the kinds that occur in a list, in the order in which each first occurs
  abbrev pub kinds_in : List K → List K
  kinds_in [] = []
  kinds_in (k ∷ ks) = k ∷ filter (λ other. not (same k other)) (kinds_in ks)

  -- each kind of a list with how often it occurs there, in that order
  abbrev pub counts : List K → List (K × ℕ)
  counts ks = map (λ k. (k, count_by (same k) ks)) (kinds_in ks)
