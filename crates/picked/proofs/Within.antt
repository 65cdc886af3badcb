-- A queue and its seats, and those within.
use Rattle.std.proofs.Common.{◌≡◌, List, [], ◌∷◌, map, ◌∙◌, ap, sym, subst}
use Rattle.std.specs.List.{All}
use mathlib.Core.List.{map-map}
use Rattle.std.proofs.lemmas.List.Elements.{All-cons, All-nil, All-head, All-tail, All-map}
use Rattle.history.specs.Seats.{Permit}

-- what holds of a queue holds of it as one of its kind or split
pub as_same : {Q : Type 0} {q p : Q} → q ≡ p → (P : Q → Type 0) → P q → P p
as_same same P h = subst P same h

-- what holds of what a list is mapped to
unmapped : {A B : Type 0} (P : B → Type 0) (f : A → B) (xs : List A) → All P (map f xs) → All (λ x. P (f x)) xs
unmapped P f [] a = All-nil (λ x. P (f x))
unmapped P f (x ∷ xs) a = All-cons (λ x. P (f x)) x xs (All-head P (f x) (map f xs) a) (unmapped P f xs (All-tail P (f x) (map f xs) a))

-- what holds of each seat holds of each that is made of it
pub each_made : {S X : Type 0} (wrap : S → X) (ss : List S) {xs : List X} → xs ≡ map wrap ss → (P : X → Type 0) → All (λ s. P (wrap s)) ss → All P xs
each_made wrap ss e P all = subst (All P) (sym e) (All-map P wrap ss all)

-- the end of a queue that is one of its kind, and of whose seats these are within
module _ {Q S X : Type 0} (wrap : S → X) {q p : Q} (is : q ≡ p) {xs : List X} (ss : List S) (e : xs ≡ map wrap ss) where
  known_within : {K : Type 0} (known : X → K) → map known xs ≡ map (λ s. known (wrap s)) ss
  known_within known = ap (map known) e ∙ map-map known wrap ss

  pub seats_within : (P : Q → X → Type 0) → All (P q) xs → All (λ s. P p (wrap s)) ss
  seats_within P all = unmapped (P p) wrap ss (subst (All (P p)) e (subst (λ (x : Q). All (P x) xs) is all))

  pub asked_within : {K : Type 0} (asks : Q → List K → Type 0) (known : X → K) → asks q (map known xs) → asks p (map (λ s. known (wrap s)) ss)
  asked_within asks known asked = subst (asks p) (known_within known) (subst (λ (x : Q). asks x (map known xs)) is asked)

  pub closes_within : {K : Type 0} (permits : Q → List Permit) (known : X → K) (closes : List Permit → List K → Type 0)
      → closes (permits p) (map (λ s. known (wrap s)) ss) → closes (permits q) (map known xs)
  closes_within {K = K} permits known closes c = subst (λ (x : Q). closes (permits x) (map known xs)) (sym is)
      (subst (λ (ks : List K). closes (permits p) ks) (sym (known_within known)) c)
