-- Results that are told one by one.
use Rattle.std.proofs.Common.{◌≡◌, ◌∙◌, sym, ap, subst, List, [], ◌∷◌, ◌++◌, append-nil, append_assoc}
use Rattle.tasks.specs.declared.answers.Done.{Done}

-- some results were told; these are still to be told, of all these
pub record Told {T A : Type 0} (stands stands' : List T → List (Done A) → Type 0) (rest all : List (Done A)) : Type 0 where
  pub before : List (Done A)
  pub split : before ++ rest ≡ all
  pub tells : (given : List T) (told : List (Done A)) → stands given told → stands' given (told ++ before)

module _ {T A : Type 0} (stands : List T → List (Done A) → Type 0) where
  pub told_none : (all rest : List (Done A)) → rest ≡ all → Told stands stands rest all
  told_none all rest same = record { before = []; split = same; tells = λ given told so. subst (stands given) (sym (append-nil told)) so }

  pub told_one : (stands' stands'' : List T → List (Done A) → Type 0) (rest rest' all : List (Done A)) (d : Done A) → Told stands stands' rest all → rest ≡ d ∷ rest'
      → ((given : List T) (told : List (Done A)) → stands' given told → stands'' given (told ++ d ∷ [])) → Told stands stands'' rest' all
  told_one stands' stands'' rest rest' all d h is tell =
      record {
        before = h.before ++ d ∷ [];
        split = append_assoc h.before (d ∷ []) rest' ∙ ap (λ l. h.before ++ l) (sym is) ∙ h.split;
        tells = λ given told so. subst (stands'' given) (append_assoc told h.before (d ∷ [])) (tell given (told ++ h.before) (h.tells given told so));
      }

  pub told_all : (stands' : List T → List (Done A) → Type 0) (rest all : List (Done A)) → Told stands stands' rest all → rest ≡ []
      → (given : List T) (told : List (Done A)) → stands given told → stands' given (told ++ all)
  told_all stands' rest all h none given told so =
      subst (λ l. stands' given (told ++ l)) (sym (append-nil h.before) ∙ ap (λ l. h.before ++ l) (sym none) ∙ h.split) (h.tells given told so)

-- a list with an element isn't empty
pub not_empty : {X Y : Type 0} (before rest : List X) (x : X) (all : List X) → before ++ x ∷ rest ≡ all → all ≡ [] → Y
not_empty [] rest x all same none = absurd (let e : x ∷ rest ≡ [] = same ∙ none in cc)
not_empty (y ∷ before) rest x all same none = absurd (let e : y ∷ (before ++ x ∷ rest) ≡ [] = same ∙ none in cc)
