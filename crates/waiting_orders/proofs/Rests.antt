-- A list without what stands at a place.
use Rattle.std.proofs.Common.{◌≡◌, ℕ, zero, suc, ◌<◌, ◌≤◌, List, [], ◌∷◌, length, refl, ap, arith}
use Rattle.std.specs.List.{remove}
use Rattle.waiting_orders.specs.Lines.{without}

pub remove_is : {X : Type 0} (k : ℕ) (xs : List X) → k < length xs → remove xs k ≡ without k xs
remove_is k [] h = absurd (omega (arith, h))
remove_is zero (x ∷ xs) h = refl
remove_is (suc k) (x ∷ xs) h = ap (λ l. x ∷ l) (remove_is k xs (omega (arith, h)))

pub without_none : {X : Type 0} (k : ℕ) (xs : List X) → length xs ≤ k → xs ≡ without k xs
without_none k [] h = refl
without_none zero (x ∷ xs) h = absurd (omega (arith, h))
without_none (suc k) (x ∷ xs) h = ap (λ l. x ∷ l) (without_none k xs (omega (arith, h)))
