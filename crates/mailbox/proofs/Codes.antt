-- No other texts have the numbers of these texts.
use Rattle.std.proofs.Common.{◌≡◌, ◌∙◌, refl, sym, ap, ℕ, List, [], ◌∷◌, ◌++◌, length, append-nil, append_assoc, arith}
use Rattle.std.specs.List.{flat_map}
use Rattle.mailbox.specs.Plans.{row_numbers, plan_numbers}

-- numbers tell what they are of, and where they end
abbrev TellApart : {X : Type 0} → (X → List ℕ) → Type 0
TellApart {X} numbers = (x y : X) (r s : List ℕ) → numbers x ++ r ≡ numbers y ++ s → (x ≡ y) × (r ≡ s)

first_of : List ℕ → ℕ
first_of [] = 0
first_of (n ∷ ns) = n

rest_of : List ℕ → List ℕ
rest_of [] = []
rest_of (n ∷ ns) = ns

byte-apart : TellApart (λ (byte : ℕ). byte ∷ [])
unfolding first_of rest_of
byte-apart x y r s h = (ap first_of h, ap rest_of h)

each-apart : {X : Type 0} (numbers : X → List ℕ) → TellApart numbers → (xs ys : List X) → length xs ≡ length ys → (r s : List ℕ)
    → flat_map numbers xs ++ r ≡ flat_map numbers ys ++ s → (xs ≡ ys) × (r ≡ s)
each-apart numbers apart [] [] same r s h = (refl, h)
each-apart numbers apart [] (y ∷ ys) same r s h = absurd (omega (arith, same))
each-apart numbers apart (x ∷ xs) [] same r s h = absurd (omega (arith, same))
each-apart numbers apart (x ∷ xs) (y ∷ ys) same r s h =
    let one = apart x y (flat_map numbers xs ++ r) (flat_map numbers ys ++ s) (sym (append_assoc (numbers x) (flat_map numbers xs) r) ∙ h ∙ append_assoc (numbers y) (flat_map numbers ys) s) in
    let others = each-apart numbers apart xs ys (omega (arith, same)) r s one.1 in
    (λ i. one.0 i ∷ others.0 i, others.1)

row-apart : {X : Type 0} (numbers : X → List ℕ) → TellApart numbers → TellApart (row_numbers numbers)
unfolding row_numbers first_of rest_of
row-apart numbers apart xs ys r s h = each-apart numbers apart xs ys (ap first_of h) r s (ap rest_of h)

-- the numbers tell the texts
pub plan-same : (a b : List (List (List ℕ))) → plan_numbers a ≡ plan_numbers b → a ≡ b
unfolding plan_numbers
plan-same a b h =
    let text = row-apart (λ (byte : ℕ). byte ∷ []) byte-apart in
    let texts = row-apart (row_numbers (λ (byte : ℕ). byte ∷ [])) text in
    let lists = row-apart (row_numbers (row_numbers (λ (byte : ℕ). byte ∷ []))) texts in
    (lists a b [] [] (append-nil (plan_numbers a) ∙ h ∙ sym (append-nil (plan_numbers b)))).0
