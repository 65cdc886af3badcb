-- What is so of two lists, element by element.
use Rattle.std.proofs.Common.{◌≡◌, refl, ap, suc, List, [], ◌∷◌, ◌++◌, map, length}
use Rattle.std.specs.List.{AllZip}
use Rattle.carriers.specs.declared.items.ItemOf.{ItemOf}
use Rattle.tasks.specs.Answered.{value_in}

module _ {X Y : Type 0} (R : X → Y → Type 0) where
  -- is so of these behind others
  pub zip-append : (xs us : List X) (ys vs : List Y) → AllZip R xs ys → AllZip R us vs → AllZip R (xs ++ us) (ys ++ vs)
  zip-append [] us [] vs h k = k
  zip-append [] us (y ∷ ys) vs h k = absurd h
  zip-append (x ∷ xs) us [] vs h k = absurd h
  zip-append (x ∷ xs) us (y ∷ ys) vs h k = (h.0, zip-append xs us ys vs h.1 k)

  -- is so of the values of what was popped
  pub zip-values : (xs : List (ItemOf X)) (ys : List Y) → AllZip (λ (x : ItemOf X) y. R x.value y) xs ys → AllZip R (map value_in xs) ys
  zip-values [] [] h = tt
  zip-values [] (y ∷ ys) h = absurd h
  zip-values (x ∷ xs) [] h = absurd h
  zip-values (x ∷ xs) (y ∷ ys) h = (h.0, zip-values xs ys h.1)

  -- both are as long
  pub zip-long : (xs : List X) (ys : List Y) → AllZip R xs ys → length ys ≡ length xs
  zip-long [] [] h = refl
  zip-long [] (y ∷ ys) h = absurd h
  zip-long (x ∷ xs) [] h = absurd h
  zip-long (x ∷ xs) (y ∷ ys) h = ap suc (zip-long xs ys h.1)
