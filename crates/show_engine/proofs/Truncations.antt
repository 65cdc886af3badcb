-- Texts that are truncated where a row ends.
use Rattle.std.proofs.Common.{◌≡◌, ℕ, ◌+◌, ◌-◌, ◌<◌, ◌≤◌, suc, Bool, true, false, List, [], ◌∷◌, ◌++◌, length, take, replicate, refl, sym, ap, ◌∙◌}
use Rattle.std.proofs.Common.{arith, length-append, if◌then◌else◌, decimal, nat_eq}
use Rattle.std.specs.Prelude.{leb}
use Rattle.std.proofs.lemmas.List.{append-nil, length-replicate, length-take-le, take_all, take-append-le}
use Rattle.std.proofs.lemmas.Bool.{leb-true, leb-false}
use Rattle.show_engine.specs.declared.frames.Frame.{Frame}
use Rattle.show_engine.specs.Frames.{column_of}
use Rattle.show_engine.specs.Rows.{beside, names_text, padded}

-- the front of two texts that reaches into the second one
take-over : (p text : List ℕ) (n : ℕ) → take (length p + n) (p ++ text) ≡ p ++ take n text
take-over [] text n = let e : 0 + n ≡ n = omega arith in ap (λ (k : ℕ). take k text) e
take-over (x ∷ p) text n =
    let e : suc (length p) + n ≡ suc (length p + n) = omega arith in
    ap (λ (k : ℕ). take k (x ∷ (p ++ text))) e ∙ ap (λ (l : List ℕ). x ∷ l) (take-over p text n)

-- a text with spaces up to a column is no longer than that, or than it was
pub length-padded : (column room : ℕ) (text : List ℕ) → column ≤ room → length text ≤ room → length (padded column text) ≤ room
length-padded column room text within fits =
    omega (arith, length-append text (replicate (column - length text) 32), length-replicate {A = ℕ} (column - length text) 32)

-- a line that has so many columns of a text goes on with another one at a column, as far as there is room
pub put_over : (room column : ℕ) (whole text line : List ℕ) → column ≤ room → line ≡ take room whole
    → padded column line ++ take (room - length (padded column line)) text ≡ take room (padded column whole ++ text)
put_over room column whole text line within is = by (leb (length whole) room) refl
  where
    by : (b : Bool) → leb (length whole) room ≡ b
        → padded column line ++ take (room - length (padded column line)) text ≡ take room (padded column whole ++ text)
    by true e =
        let fits : length whole ≤ room = leb-true (length whole) room e in
        let same : line ≡ whole = is ∙ take_all room whole fits in
        let short : length (padded column whole) ≤ room = length-padded column room whole within fits in
        let sum : length (padded column whole) + (room - length (padded column whole)) ≡ room = omega (arith, short) in
        ap (λ (l : List ℕ). padded column l ++ take (room - length (padded column l)) text) same
        ∙ sym (take-over (padded column whole) text (room - length (padded column whole)))
        ∙ ap (λ (k : ℕ). take k (padded column whole ++ text)) sum
    by false e =
        let over : room < length whole = leb-false (length whole) room e in
        let full : length line ≡ room = ap length is ∙ length-take-le room whole (omega (arith, over)) in
        let none : column - length line ≡ 0 = omega (arith, full, within) in
        let none_whole : column - length whole ≡ 0 = omega (arith, over, within) in
        let plain : padded column line ≡ line = ap (λ (k : ℕ). line ++ replicate k 32) none ∙ append-nil line in
        let plain_whole : padded column whole ≡ whole = ap (λ (k : ℕ). whole ++ replicate k 32) none_whole ∙ append-nil whole in
        let left : room - length line ≡ 0 = omega (arith, full) in
        ap (λ (l : List ℕ). l ++ take (room - length l) text) plain
        ∙ ap (λ (k : ℕ). line ++ take k text) left
        ∙ append-nil line
        ∙ is
        ∙ sym (take-append-le room whole text (omega (arith, over)))
        ∙ ap (λ (l : List ℕ). take room (l ++ text)) (sym plain_whole)

-- nothing stands beside a row
pub beside-none : (column : ℕ) (side row : List ℕ) (empty : Bool) → empty ≡ nat_eq (length side) 0 → empty ≡ true → beside column side row ≡ row
beside-none column side row empty is true_is = ap (λ (b : Bool). if b then row else padded column row ++ side) (sym is ∙ true_is)

-- something does
pub beside-some : (column : ℕ) (side row : List ℕ) (empty : Bool) → empty ≡ nat_eq (length side) 0 → empty ≡ false → beside column side row ≡ padded column row ++ side
beside-some column side row empty is false_is = ap (λ (b : Bool). if b then row else padded column row ++ side) (sym is ∙ false_is)

-- the numbers of one actor more
pub names_text-more : (f : Frame) (n : ℕ) → names_text f (n + 1) ≡ padded (column_of f (f.first + n) + 1) (names_text f n) ++ decimal (f.first + n)
names_text-more f n = let e : n + 1 ≡ suc n = omega arith in ap (names_text f) e
