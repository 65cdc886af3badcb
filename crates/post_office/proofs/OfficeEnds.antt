-- A list from whose end three elements are taken, and the rest of which is split.
use Rattle.std.proofs.Common.{◌≡◌, ◌∙◌, ap, sym, ℕ, List, ◌++◌, ◌∷◌, [], take, drop, append_assoc}
use Rattle.std.proofs.lemmas.List.{take-append-drop}

-- it is the parts, one behind the other
pub taken_apart : {S : Type 0} (all one two three first second : List S) (x y z : S) (n : ℕ) → all ≡ one ++ z ∷ [] → one ≡ two ++ y ∷ []
    → two ≡ three ++ x ∷ [] → first ≡ take n three → second ≡ drop n three
    → all ≡ first ++ (second ++ x ∷ y ∷ z ∷ [])
taken_apart all one two three first second x y z n a b c d e =
    a ∙ ap (λ l. l ++ z ∷ []) (b ∙ ap (λ l. l ++ y ∷ []) (c ∙ ap (λ l. l ++ x ∷ []) (sym (take-append-drop n three))))
    ∙ ap (λ l. l ++ z ∷ []) (append_assoc (take n three ++ drop n three) (x ∷ []) (y ∷ []))
    ∙ append_assoc (take n three ++ drop n three) (x ∷ y ∷ []) (z ∷ [])
    ∙ append_assoc (take n three) (drop n three) (x ∷ y ∷ z ∷ [])
    ∙ (λ i. sym d i ++ (sym e i ++ x ∷ y ∷ z ∷ []))
