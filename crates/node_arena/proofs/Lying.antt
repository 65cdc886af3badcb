-- The values of a queue that ended lie in the slots that its numbers name.
use Rattle.std.proofs.Common.{◌≡◌, ℕ, suc, ◌&&◌, IsTrue, List, [], ◌∷◌, map, set, get_or, Option, Some, None, refl, sym, ap, subst, ◌∙◌, arith}
use Rattle.std.specs.Option.{is_some}
use mathlib.Core.Option.{some}
use lib.ListN.{get_elem?}
use Rattle.atomic_table.proofs.Lists.{set_else}
use Rattle.node_arena.specs.Deeds.{item}
use Rattle.node_arena.specs.Slots.{Lying, item_of}
use Rattle.node_arena.specs.ValueHistories.{number_of}
use Rattle.node_arena.proofs.Emptied.{got_or}
use Rattle.node_arena.specs.ValuesLeft.{with_value, values_of, all_lie}

module _ {T : Type 0} where
  -- each of these values lies in its slot
  abbrev pub Lie : List (Option T) → List (Lying T) → Type 0
  Lie inside q = (m : ℕ) (l : Lying T) → get_elem? q m ≡ some l → get_elem? inside l.slot ≡ some (Some l.value)

  -- no two of them lie in one
  abbrev pub LieApart : List (Lying T) → Type 0
  LieApart q = (m n : ℕ) (k l : Lying T) → get_elem? q m ≡ some k → get_elem? q n ≡ some l → k.slot ≡ l.slot → m ≡ n

  -- the others, where the first one came out
  lie_on : (inside : List (Option T)) (l : Lying T) (q : List (Lying T)) → Lie inside (l ∷ q) → LieApart (l ∷ q) → Lie (set inside l.slot None) q
  lie_on inside l q lie apart m k got = set_else inside l.slot k.slot None (λ e. let n : suc m ≡ 0 = apart (suc m) 0 k l got refl e in omega (arith, n)) ∙ lie (suc m) k got

  apart_on : (l : Lying T) (q : List (Lying T)) → LieApart (l ∷ q) → LieApart q
  apart_on l q apart m n j k a b same = let e : suc m ≡ suc n = apart (suc m) (suc n) j k a b same in omega (arith, e)

  first_lies : (inside : List (Option T)) (l : Lying T) (q : List (Lying T)) → Lie inside (l ∷ q) → get_or inside l.slot None ≡ Some l.value
  first_lies inside l q lie = got_or inside l.slot (Some l.value) None (lie 0 l refl)

  -- they are those of their numbers
  pub values-number_of : (inside : List (Option T)) (q : List (Lying T)) → Lie inside q → LieApart q → values_of inside (map number_of q) ≡ map item_of q
  values-number_of inside [] lie apart = refl
  values-number_of inside (l ∷ q) lie apart =
      ap (λ o. with_value (number_of l) o (values_of (set inside l.slot None) (map number_of q))) (first_lies inside l q lie) ∙
      ap (λ vs. item l.from l.value ∷ vs) (values-number_of (set inside l.slot None) q (lie_on inside l q lie apart) (apart_on l q apart))

  pub all_lie-number_of : (inside : List (Option T)) (q : List (Lying T)) → Lie inside q → LieApart q → IsTrue (all_lie inside (map number_of q))
  all_lie-number_of inside [] lie apart = refl
  all_lie-number_of inside (l ∷ q) lie apart =
      subst (λ o. IsTrue (is_some o && all_lie (set inside l.slot None) (map number_of q))) (sym (first_lies inside l q lie))
      (all_lie-number_of (set inside l.slot None) q (lie_on inside l q lie apart) (apart_on l q apart))
