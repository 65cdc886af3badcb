-- The values that one deed more, or deeds of one kind, push and pop.
use Rattle.std.proofs.Common.{◌≡◌, ◌∙◌, inl, inr, refl, ap, ℕ, List, [], ◌∷◌, ◌++◌, map, Option, None, Some, append-nil}
use Rattle.std.proofs.lemmas.Grind.{flat_map-append}
use Rattle.history.specs.declared.refusals.Refusal.{Refusal}
use Rattle.history.specs.declared.refusals.Refusal.TheVariants.{Closed}
use Rattle.carriers.specs.declared.items.ItemOf.{ItemOf}
use Rattle.carriers.specs.Deeds.{Deed, did_push, did_pop, did_shut, item}
use Rattle.carriers.specs.Values.{value_pushed, value_popped, values_pushed, values_popped}
use Rattle.carriers.specs.Knowledge.{KnownOf}
use Rattle.carriers.specs.Answers.{PopRefusedOf}
use Rattle.tasks.specs.Offers.{EndsShutBy}
use Rattle.tasks.specs.Answered.{value_in}

module _ {N : Type 0} where
  module _ (ds : List (Deed N)) (n : ℕ) where
    pub pushed-push : (v : N) → values_pushed (ds ++ did_push n v ∷ []) ≡ values_pushed ds ++ item n v ∷ []
    pushed-push v = flat_map-append value_pushed ds (did_push n v ∷ [])

    pub popped-push : (v : N) → values_popped (ds ++ did_push n v ∷ []) ≡ values_popped ds
    popped-push v = flat_map-append value_popped ds (did_push n v ∷ []) ∙ append-nil (values_popped ds)

    pub pushed-pop : (x : ItemOf N) → values_pushed (ds ++ did_pop n x ∷ []) ≡ values_pushed ds
    pushed-pop x = flat_map-append value_pushed ds (did_pop n x ∷ []) ∙ append-nil (values_pushed ds)

    pub popped-pop : (x : ItemOf N) → values_popped (ds ++ did_pop n x ∷ []) ≡ values_popped ds ++ x ∷ []
    popped-pop x = flat_map-append value_popped ds (did_pop n x ∷ [])

    pub pushed-shut : values_pushed (ds ++ did_shut n ∷ []) ≡ values_pushed ds
    pushed-shut = flat_map-append value_pushed ds (did_shut n ∷ []) ∙ append-nil (values_pushed ds)

    pub popped-shut : values_popped (ds ++ did_shut n ∷ []) ≡ values_popped ds
    popped-shut = flat_map-append value_popped ds (did_shut n ∷ []) ∙ append-nil (values_popped ds)

  pub pushes-pushed : (n : ℕ) (xs : List N) → values_pushed (map (did_push n) xs) ≡ map (item n) xs
  pushes-pushed n [] = refl
  pushes-pushed n (x ∷ xs) = ap (λ l. item n x ∷ l) (pushes-pushed n xs)

  pub pushes-popped : (n : ℕ) (xs : List N) → values_popped (map (did_push n) xs) ≡ []
  pushes-popped n [] = refl
  pushes-popped n (x ∷ xs) = pushes-popped n xs

  pub pops-pushed : (n : ℕ) (xs : List (ItemOf N)) → values_pushed (map (did_pop n) xs) ≡ []
  pops-pushed n [] = refl
  pops-pushed n (x ∷ xs) = pops-pushed n xs

  pub pops-popped : (n : ℕ) (xs : List (ItemOf N)) → values_popped (map (did_pop n) xs) ≡ xs
  pops-popped n [] = refl
  pops-popped n (x ∷ xs) = ap (λ l. x ∷ l) (pops-popped n xs)

  pub values-items : (n : ℕ) (xs : List N) → map value_in (map (item n) xs) ≡ xs
  values-items n [] = refl
  values-items n (x ∷ xs) = ap (λ l. x ∷ l) (values-items n xs)

  -- a pop that was refused, or found none, leaves the seat's own deeds
  pub pop_refused_mine : (k k' : KnownOf N) (refusal : Refusal) → PopRefusedOf k refusal k' → k'.mine ≡ k.mine
  pop_refused_mine k k' Closed h = h.mine
  pop_refused_mine k k' _ h = h.mine

  -- a shut pushes and pops nothing
  pub shut_values : (k k' : KnownOf N) (unshut : Option Refusal) → EndsShutBy k k' unshut → (values_pushed k'.mine ≡ values_pushed k.mine) × (values_popped k'.mine ≡ values_popped k.mine)
  shut_values k k' None (inl h) = (ap values_pushed h.mine ∙ pushed-shut k.mine k.number, ap values_popped h.mine ∙ popped-shut k.mine k.number)
  shut_values k k' None (inr h) = (ap values_pushed h.mine, ap values_popped h.mine)
  shut_values k k' (Some refusal) h = (ap values_pushed h.0.mine, ap values_popped h.0.mine)
