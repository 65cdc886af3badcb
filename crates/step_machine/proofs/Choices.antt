-- A fact of what a test chooses between.
use Rattle.std.proofs.Common.{◌≡◌, Bool, true, false, if◌then◌else◌, refl}

-- what holds of each, where the test chooses it, holds of the one chosen
pub either : {X : Type 0} (P : X → Type 0) (b : Bool) {x y : X} → (b ≡ true → P x) → (b ≡ false → P y) → P (if b then x else y)
either P true hx hy = hx refl
either P false hx hy = hy refl

-- what holds of both holds of the one chosen
pub both : {X : Type 0} (P : X → Type 0) (b : Bool) {x y : X} → P x → P y → P (if b then x else y)
both P true hx hy = hx
both P false hx hy = hy

-- the same of two things that one test chooses, as the words and the outcome of an exchange
pub tried : {X Y : Type 0} (P : X → Y → Type 0) (b : Bool) {x x' : X} {y y' : Y} → (b ≡ true → P x y) → (b ≡ false → P x' y') → P (if b then x else x') (if b then y else y')
tried P true hx hy = hx refl
tried P false hx hy = hy refl
