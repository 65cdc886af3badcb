-- The words that a pop of many found, and the values that they say.
use Rattle.std.proofs.Common.{◌≡◌, ℕ, zero, suc, ◌+◌, ◌<◌, ◌≤◌, List, [], ◌∷◌, ◌++◌, length, map, take, set, sym, refl, ap, ◌∙◌, arith, append_assoc}
use Rattle.history.specs.declared.operations.Entry.TheVariants.{Pop}
use Rattle.history.specs.declared.operations.Taken.{Taken}
use Rattle.history.specs.Seats.{Known}
use Rattle.history.specs.Answers.{SeesMore}
use Rattle.ring_queue.specs.Steps.{taken_in, AddsAll, pops}
use Rattle.ring_queue.specs.Batches.{PoppedAll, PopsSome}

-- one word more
pub take_set : (xs : List ℕ) (i w : ℕ) → i < length xs → take (i + 1) (set xs i w) ≡ take i xs ++ w ∷ []
take_set xs i w lt = ap (λ k. take k (set xs i w)) (let e : i + 1 ≡ suc i = omega arith in e) ∙ go xs i lt
  where
    go : (ys : List ℕ) (k : ℕ) → k < length ys → take (suc k) (set ys k w) ≡ take k ys ++ w ∷ []
    go [] k lt = absurd (let f : k < 0 = lt in omega (arith, f))
    go (y ∷ ys) zero lt = refl
    go (y ∷ ys) (suc k) lt = ap (λ us. y ∷ us) (go ys k (let f : suc k < suc (length ys) = lt in omega (arith, f)))

-- the pops of values are those of the words that say them
pops_are : (n : ℕ) (ws : List ℕ) → map (λ value. Pop n value) (map taken_in ws) ≡ pops n ws
pops_are n [] = refl
pops_are n (w ∷ ws) = ap (λ es. Pop n (taken_in w) ∷ es) (pops_are n ws)

length-taken_in : (ws : List ℕ) → length (map taken_in ws) ≡ length ws
length-taken_in [] = refl
length-taken_in (w ∷ ws) = ap suc (length-taken_in ws)

-- values that were popped after their seat saw more
pub popped_after : (a b c : Known) (ws : List ℕ) (most count : ℕ) (before after : List Taken) → SeesMore a b → after ≡ before ++ map taken_in ws
    → AddsAll b (pops b.number ws) c → length ws ≡ count → 1 ≤ count → count ≤ most → PoppedAll a most before after c count
popped_after a b c ws most count before after f into g long some few = record {
  values = map taken_in ws;
  long = length-taken_in ws ∙ long;
  some = some;
  few = few;
  into = into;
  adds = record {
    number = g.number ∙ f.number;
    between = f.between ++ g.between;
    seen = g.seen ∙ (λ i. (f.seen i ++ g.between) ++ pops (f.number i) ws) ∙ ap (λ es. es ++ pops a.number ws)
        (append_assoc a.seen f.between g.between) ∙ ap (λ es. (a.seen ++ (f.between ++ g.between)) ++ es) (sym (pops_are a.number ws));
    mine = g.mine ∙ (λ i. f.mine i ++ pops (f.number i) ws) ∙ ap (λ es. a.mine ++ es) (sym (pops_are a.number ws));
    notes = g.notes ∙ f.notes;
  };
}

-- what a pop of many answers, by the turn that took them
pub pops_some : (a b c : Known) (most count : ℕ) (before mid after : List Taken) → SeesMore a b → mid ≡ before → PoppedAll b most mid after c count → PopsSome a most before after c count
pops_some a b c most zero before mid after f same p = absurd (let some = p.some in omega (arith, some))
pops_some a b c most (suc n) before mid after f same p = record {
  values = p.values;
  long = p.long;
  some = p.some;
  few = p.few;
  into = p.into ∙ ap (λ xs. xs ++ p.values) same;
  adds = record {
    number = p.adds.number ∙ f.number;
    between = f.between ++ p.adds.between;
    seen = p.adds.seen ∙ (λ i. (f.seen i ++ p.adds.between) ++ map (λ value. Pop (f.number i) value) p.values) ∙ ap
        (λ es. es ++ map (λ value. Pop a.number value) p.values) (append_assoc a.seen f.between p.adds.between);
    mine = p.adds.mine ∙ (λ i. f.mine i ++ map (λ value. Pop (f.number i) value) p.values);
    notes = p.adds.notes ∙ f.notes;
  };
}
