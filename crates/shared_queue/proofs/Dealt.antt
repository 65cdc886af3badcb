-- A list that one element more was pushed on.
use Rattle.std.proofs.Common.{◌≡◌, ◌∙◌, sym, ap, subst, Bool, true, if◌then◌else◌, List, [], ◌∷◌, ◌++◌, map}
use Rattle.std.specs.List.{All}
use Rattle.std.proofs.lemmas.List.{map-append}
use Rattle.std.proofs.lemmas.List.Elements.{All-append, All-cons, All-nil}

-- what holds of all before and of it holds of all, and what they give is one more
pub one_more : {X Y : Type 0} (old new : List X) (x : X) (ok : Bool) → ok ≡ true → new ≡ (if ok then old ++ x ∷ [] else old)
    → (P : X → Type 0) → All P old → P x → (f : X → Y) (ys : List Y) (y : Y) → map f old ≡ ys → f x ≡ y → All P new × (map f new ≡ ys ++ y ∷ [])
one_more old new x ok is_ok pushed P all one f ys y same its =
    let push : new ≡ old ++ x ∷ [] = subst (λ b. new ≡ (if b then old ++ x ∷ [] else old)) is_ok pushed in (
      subst (All P) (sym push) (All-append P old (x ∷ []) all (All-cons P x [] one (All-nil P))),
      ap (map f) push ∙ map-append f old (x ∷ []) ∙ (λ i. same i ++ its i ∷ []),
    )
