-- Lists whose elements stand beside each other.
use Rattle.std.proofs.Common.{◌≡◌, ap, refl, suc, List, [], ◌∷◌, length}
use Rattle.std.specs.List.{AllZip}

module _ {X Y Z : Type 0} (R : X → Y → Type 0) (T : Y → Z → Type 0) (U : X → Z → Type 0) (through : (x : X) (y : Y) (z : Z) → R x y → T y z → U x z) where
  -- what holds of each and its middle one, and of that and its last one, makes what holds of the first and the last ones
  pub zip-through : (xs : List X) (ys : List Y) (zs : List Z) → AllZip R xs ys → AllZip T ys zs → AllZip U xs zs
  zip-through [] [] [] h k = tt
  zip-through [] [] (z ∷ zs) h k = absurd k
  zip-through [] (y ∷ ys) zs h k = absurd h
  zip-through (x ∷ xs) [] zs h k = absurd h
  zip-through (x ∷ xs) (y ∷ ys) [] h k = absurd k
  zip-through (x ∷ xs) (y ∷ ys) (z ∷ zs) h k = (through x y z h.0 k.0, zip-through xs ys zs h.1 k.1)

-- and as many of them
pub zip-length : {X Y : Type 0} (R : X → Y → Type 0) (xs : List X) (ys : List Y) → AllZip R xs ys → length ys ≡ length xs
zip-length R [] [] h = refl
zip-length R [] (y ∷ ys) h = absurd h
zip-length R (x ∷ xs) [] h = absurd h
zip-length R (x ∷ xs) (y ∷ ys) h = ap suc (zip-length R xs ys h.1)
