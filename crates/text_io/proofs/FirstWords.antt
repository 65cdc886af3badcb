-- The first words of a line, by which it is told from others.
use Rattle.std.proofs.Common.{◌≡◌, ◌≢◌, ℕ, List, [], ◌∷◌, true, false, ◌==◌, get_or, sym, ap, ◌∙◌}
use Rattle.std.proofs.lemmas.Bool.{eq-eqb}

-- the first byte of the first word
abbrev pub first_byte : List (List ℕ) → ℕ
first_byte words = get_or (get_or words 0 []) 0 0

-- words that begin with other bytes are others
pub apart : (ws vs : List (List ℕ)) → (first_byte ws == first_byte vs) ≡ false → ws ≢ vs
apart ws vs other same =
    let one : (first_byte ws == first_byte vs) ≡ true = eq-eqb (first_byte ws) (first_byte vs) (ap first_byte same) in
    let both : true ≡ false = sym one ∙ other in
    absurd cc

-- what follows the first of two words
pub second_of_two : (words : List (List ℕ)) (a b c : List ℕ) (later : List (List ℕ)) → words ≡ a ∷ later → words ≡ b ∷ c ∷ [] → later ≡ c ∷ []
second_of_two words a b c later first both = cc
