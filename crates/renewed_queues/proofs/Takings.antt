-- One number more that is given, one value more that is taken, and what a whole loop takes.
use Rattle.std.proofs.Common.{◌≡◌, ◌≤◌, ◌∙◌, ℕ, suc, ◌+◌, ◌-◌, List, [], ◌∷◌, ◌++◌, map, Result, Ok, Err, ap, sym, refl, append_assoc, subst, arith}
use Rattle.std.proofs.lemmas.List.{map-append}
use Rattle.history.specs.declared.operations.Entry.TheVariants.{Push}
use Rattle.history.specs.declared.operations.Taken.{Taken}
use Rattle.history.specs.declared.refusals.Refusal.{Refusal}
use Rattle.history.specs.Seats.{Known}
use Rattle.carriers.specs.Drained.{DrainedUntilShut, values_of}
use Rattle.carriers.proofs.Owning.{own_until_shut}
use Rattle.carriers.proofs.Shutting.{ends_shut}
use Rattle.renewed_queues.specs.Deeds.{pushes_from, Gave, Took}

-- one number more
pub gave_more : (k j k' : Known) (first number : ℕ) → first ≤ number → Gave k first number j → j.number ≡ k.number
    → k'.mine ≡ j.mine ++ Push j.number number ∷ [] → Gave k first (number + 1) k'
gave_more k j k' first number le gave same pushed =
    let count : number + 1 - first ≡ suc (number - first) = omega (arith, le) in
    let at : number ≡ first + (number - first) = omega (arith, le) in
    subst (λ n. k'.mine ≡ k.mine ++ pushes_from k.number first n) (sym count)
    (pushed ∙ (λ i. gave i ++ Push (same i) (at i) ∷ []) ∙ append_assoc k.mine (pushes_from k.number first (number - first)) (Push k.number (first + (number - first)) ∷ []))

-- all numbers, where no more are to come
pub gave_all : (k k' : Known) (first number end : ℕ) → Gave k first number k' → number - first ≤ end - first → end ≤ number → Gave k first end k'
gave_all k k' first number end gave within over =
    let same : number - first ≡ end - first = omega (arith, within, over) in
    subst (λ n. k'.mine ≡ k.mine ++ pushes_from k.number first n) same gave

-- the values among items, with one more
values_of-push : (items : List (Result Taken Refusal)) (value : Taken) → values_of (items ++ Ok value ∷ []) ≡ values_of items ++ value ∷ []
values_of-push [] value = refl
values_of-push (Ok v ∷ items) value = ap (λ vs. v ∷ vs) (values_of-push items value)
values_of-push (Err refusal ∷ items) value = values_of-push items value

-- one value more in the list
pub values_more : (before now after : List Taken) (items : List (Result Taken Refusal)) (item : Result Taken Refusal) (value : Taken) → item ≡ Ok value
    → now ≡ before ++ values_of items → after ≡ now ++ value ∷ [] → after ≡ before ++ values_of (items ++ item ∷ [])
values_more before now after items item value is was put =
    put ∙ ap (λ vs. vs ++ value ∷ []) was ∙ append_assoc before (values_of items) (value ∷ [])
    ∙ ap (λ vs. before ++ vs) (sym (values_of-push items value)) ∙ ap (λ i. before ++ values_of (items ++ i ∷ [])) (sym is)

-- each item is a value, with one more
pub each_more : (items : List (Result Taken Refusal)) (item : Result Taken Refusal) (value : Taken) → item ≡ Ok value → items ≡ map Ok (values_of items)
    → items ++ item ∷ [] ≡ map Ok (values_of (items ++ item ∷ []))
each_more items item value is each =
    let one : items ++ Ok value ∷ [] ≡ map Ok (values_of (items ++ Ok value ∷ [])) =
    ap (λ is. is ++ Ok value ∷ []) each ∙ sym (map-append Ok (values_of items) (value ∷ [])) ∙ ap (map Ok) (sym (values_of-push items value)) in
    subst (λ i. items ++ i ∷ [] ≡ map Ok (values_of (items ++ i ∷ []))) (sym is) one

-- a loop that ended where the queue was shut and empty, and whose items are values that were put behind a list
pub took : (k k' : Known) (before after : List Taken) (items : List (Result Taken Refusal)) → after ≡ before ++ values_of items → items ≡ map Ok (values_of items)
    → DrainedUntilShut k items k' → Took k before after k'
took k k' before after items grown each drained =
    record {
      values = values_of items;
      grown = grown;
      popped = own_until_shut k k' items drained;
      ended = ends_shut k k' (values_of items) (subst (λ is. DrainedUntilShut k is k') each drained);
    }
