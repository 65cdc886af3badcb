-- The values that an iterator gave are the seat's own entries since then.
use Rattle.std.proofs.Common.{◌≡◌, List, [], ◌∷◌, ◌++◌, Result, Ok, Err, map, refl, sym, ap, ◌∙◌, append-nil, append_assoc}
use Rattle.history.specs.declared.operations.Entry.TheVariants.{Pop}
use Rattle.history.specs.declared.operations.Taken.{Taken}
use Rattle.history.specs.declared.refusals.Refusal.{Refusal}
use Rattle.history.specs.declared.refusals.Refusal.TheVariants.{Closed}
use Rattle.history.specs.Seats.{Known}
use Rattle.history.specs.Answers.{PopRefused}
use Rattle.carriers.specs.Waits.{FoundEmptyEach}
use Rattle.carriers.specs.Drained.{DrainedUntilEmpty, DrainedUntilShut, HasPopped, values_of}

-- a seat that waits keeps its number and its own entries
pub waited_keeps : (k : Known) (js : List Known) (k' : Known) → FoundEmptyEach k js k' → (k'.number ≡ k.number) × (k'.mine ≡ k.mine)
waited_keeps k [] k' same = (ap (λ a. a.number) same, ap (λ a. a.mine) same)
waited_keeps k (j ∷ js) k' (before, found) = let w = waited_keeps k js j before in (found.number ∙ w.0, found.mine ∙ w.1)

-- a pop that is refused keeps them
pub refused_keeps : (k k' : Known) (refusal : Refusal) → PopRefused k refusal k' → k'.mine ≡ k.mine
refused_keeps k k' Closed f = f.mine
refused_keeps k k' _ f = f.mine

-- no value more is among no items
pub with_none : (k k' : Known) (items : List (Result Taken Refusal)) → items ≡ [] → k'.mine ≡ k.mine → HasPopped k (values_of items) k'
with_none k k' items none same = same ∙ sym (append-nil k.mine) ∙ ap (λ is. k.mine ++ map (Pop k.number) (values_of is)) (sym none)

-- a value more is the next entry
pub with_one : (k j k' : Known) (value : Taken) (items : List (Result Taken Refusal)) → j.number ≡ k.number → j.mine ≡ k.mine ++ Pop k.number value ∷ []
    → HasPopped j (values_of items) k' → HasPopped k (value ∷ values_of items) k'
with_one k j k' value items n m rest = rest ∙ (λ i. m i ++ map (Pop (n i)) (values_of items)) ∙ append_assoc k.mine (Pop k.number value ∷ []) (map (Pop k.number) (values_of items))

pub own_until_empty : (k k' : Known) (items : List (Result Taken Refusal)) → DrainedUntilEmpty k items k' → HasPopped k (values_of items) k'
own_until_empty k k' [] d = with_none k k' [] refl d.mine
own_until_empty k k' (Ok value ∷ items) (j, p, more) = with_one k j k' value items p.number p.mine (own_until_empty j k' items more)
own_until_empty k k' (Err refusal ∷ items) (none, ends, refused) = with_none k k' items none (refused_keeps k k' refusal refused)

pub own_until_shut : (k k' : Known) (items : List (Result Taken Refusal)) → DrainedUntilShut k items k' → HasPopped k (values_of items) k'
own_until_shut k k' [] (j, w, d) = with_none k k' [] refl (d.mine ∙ (waited_keeps k w.0 j w.1).1)
own_until_shut k k' (Ok value ∷ items) (j, (i, w, p), more) =
    let kept = waited_keeps k w.0 i w.1 in
    with_one k j k' value items (p.number ∙ kept.0) (p.mine ∙ (λ a. kept.1 a ++ Pop (kept.0 a) value ∷ [])) (own_until_shut j k' items more)
own_until_shut k k' (Err refusal ∷ items) (none, worn, (j, w, more)) = with_none k k' items none (more.mine ∙ (waited_keeps k w.0 j w.1).1)
