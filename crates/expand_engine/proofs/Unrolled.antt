-- Acts that are unrolled a line at a time.
use Rattle.std.proofs.Common.{◌≡◌, ℕ, zero, suc, ◌+◌, List, [], ◌∷◌, ◌++◌, Option, refl, sym, ap, ◌∙◌, append_assoc}
use Rattle.std.specs.Prelude.{replicate}
use Rattle.std.specs.List.{flat_map}
use Rattle.std.proofs.lemmas.List.{append-nil, replicate-append-replicate}
use Rattle.std.proofs.lemmas.List.Concat.{flat_map-append}
use Rattle.expand_engine.specs.declared.recipes.Act.{Act}
use Rattle.expand_engine.specs.declared.recipes.Said.{Said}
use Rattle.expand_engine.specs.UnrolledActs.{Open, acts_done, open_after, repeated, unrolled}

-- the acts so far, and those of the lines that are left, are the same behind one more line
pub unrolled-more : (acts more : List Act) (number : ℕ) (held next : Option Open) (said : Said) (saids : List Said) → more ≡ acts ++ acts_done number held said → next ≡ open_after number held said
    → more ++ unrolled (number + 1) next saids ≡ acts ++ unrolled number held (said ∷ saids)
unrolled-more acts more number held next said saids done opened =
    rw (done, opened) (append_assoc acts (acts_done number held said) (unrolled (number + 1) (open_after number held said) saids))

-- a list once more
repeated-more : {A : Type 0} (times : ℕ) (xs : List A) → repeated times xs ++ xs ≡ repeated (times + 1) xs
repeated-more times xs =
    ap (λ (ys : List _). repeated times xs ++ ys) (sym (append-nil xs)) ∙ sym (flat_map-append (λ copy. copy) (replicate times xs) (xs ∷ []))
    ∙ ap (flat_map (λ copy. copy)) (replicate-append-replicate times 1 xs)

-- nothing so often is nothing
repeated-nothing : {A : Type 0} (times : ℕ) → ◌≡◌ {A = List A} (repeated times []) []
repeated-nothing zero = refl
repeated-nothing (suc times) = repeated-nothing times

-- and adds nothing
pub repeated-none : {A : Type 0} (old xs : List A) (times : ℕ) → xs ≡ [] → old ≡ old ++ repeated times xs
repeated-none old xs times none = rw (none, repeated-nothing times) (sym (append-nil old))

-- behind others
pub repeated-next : {A : Type 0} (old now new xs : List A) (times : ℕ) → now ≡ old ++ repeated times xs → new ≡ now ++ xs → new ≡ old ++ repeated (times + 1) xs
repeated-next old now new xs times first second =
    second ∙ ap (λ (ys : List _). ys ++ xs) first ∙ append_assoc old (repeated times xs) xs ∙ ap (λ (ys : List _). old ++ ys) (repeated-more times xs)
