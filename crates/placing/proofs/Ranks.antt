-- Numbers that rise: where each stands, and room for as many as each becomes.
use Rattle.std.proofs.Common.{◌≡◌, ℕ, zero, suc, ◌+◌, ◌-◌, ◌*◌, ◌≤◌, ◌<◌, Bool, true, false, nat_lt, Err, Some, List, length, take, slice_get, get_or, refl, ◌∙◌, subst, arith}
use Rattle.std.specs.List.{All, Contains}
use Rattle.std.specs.Ordering.{nat_cmp}
use Rattle.std.specs.List.Sorted.{IsStrictlyIncreasing, IsBinarySearchResult}
use Rattle.std.proofs.Math.Nat.{mul-le-mul_right}
use Rattle.std.proofs.lemmas.Bool.{ltb-true, ltb-false}
use Rattle.std.proofs.lemmas.List.Sorted.{searched}
use Rattle.std.proofs.lemmas.List.{get_or_default}
use Rattle.std.proofs.lemmas.List.Elements.{All-more}
use Rattle.std.proofs.lemmas.Option.{slice_get_within, IfSome_then}
use Rattle.history.specs.declared.operations.Stamped.{Stamped}
use Rattle.placing.specs.SpreadStamps.{IsOfNumbers, AddsStamps}

-- numbers that rise at each step rise over any number of them
rises_over : (numbers : List ℕ) → IsStrictlyIncreasing numbers → (i more : ℕ) → i + more < length numbers → get_or numbers i 0 ≤ get_or numbers (i + more) 0
rises_over numbers r i zero h = subst (λ j. get_or numbers i 0 ≤ get_or numbers j 0) (let e : i ≡ i + 0 = omega arith in e) (omega arith)
rises_over numbers r i (suc more) h =
    let k : get_or numbers i 0 ≤ get_or numbers (i + more) 0 = rises_over numbers r i more (omega arith) in
    let e : i + more + 1 ≡ i + suc more = omega arith in
    let j : get_or numbers (i + more) 0 < get_or numbers (i + more + 1) 0 = r (i + more) (omega arith) in
    subst (λ n. get_or numbers i 0 ≤ get_or numbers n 0) e (omega arith)

pub rises_to : (numbers : List ℕ) → IsStrictlyIncreasing numbers → (i j : ℕ) → i ≤ j → j < length numbers → get_or numbers i 0 ≤ get_or numbers j 0
rises_to numbers r i j h k =
    let e : i + (j - i) ≡ j = omega arith in
    subst (λ n. get_or numbers i 0 ≤ get_or numbers n 0) e (rises_over numbers r i (j - i) (omega arith))

-- what is among numbers that rise is found there
pub is_found : (numbers : List ℕ) (x i : ℕ) → IsStrictlyIncreasing numbers → Contains numbers x → IsBinarySearchResult (λ y. nat_cmp y x) numbers (Err i) → ⊥
is_found numbers x i rises (k, within, there) missed = go (nat_lt k i) refl
  where
    is : get_or numbers k 0 ≡ x
    is = get_or_default numbers k 0 x within ∙ there

    go : (b : Bool) → nat_lt k i ≡ b → ⊥
    go true e = let less = (searched numbers x (Err i) missed (rises_to numbers rises)).1 k (ltb-true _ _ e) in omega (arith, less, is)
    go false e = let more = (searched numbers x (Err i) missed (rises_to numbers rises)).2 k (ltb-false _ _ e) within in omega (arith, more, is)

-- of as many numbers as have room, the last is below 2^64
pub has_room : (numbers : List ℕ) (width number rank limit : ℕ) → slice_get numbers rank ≡ Some number → length numbers * width < limit → rank * width + width < limit
has_room numbers width number rank limit there room =
    let within = slice_get_within numbers rank number there in
    let most : (rank + 1) * width ≤ length numbers * width = mul-le-mul_right {m = rank + 1} {n = length numbers} width (omega (arith, within)) in
    omega (arith, most, room)

-- ---- the numbers that are used

still_used : (old new : List ℕ) → ((n : ℕ) → Contains old n → Contains new n) → (o : Stamped) → IsOfNumbers old o → IsOfNumbers new o
still_used old new stay o h = record { first = stay o.first h.first; last = IfSome_then o.last h.last stay }

-- what a list has is used where one has it all
pub all_still_used : (old new : List ℕ) → ((n : ℕ) → Contains old n → Contains new n) → (ops : List Stamped) → All (IsOfNumbers old) ops → All (IsOfNumbers new) ops
all_still_used old new stay ops all = λ k d within. still_used old new stay (get_or ops k d) (all k d within)

-- the stamps of one more operation are added
pub used_more : (old new : List ℕ) (ops : List Stamped) (i : ℕ) (o : Stamped) → i < length ops → o ≡ get_or ops i o → AddsStamps old new o
    → All (IsOfNumbers old) (take i ops) → All (IsOfNumbers new) (take (i + 1) ops)
used_more old new ops i o within is adds all =
    All-more (IsOfNumbers new) ops i o within (all_still_used old new adds.stay (take i ops) all) (subst (IsOfNumbers new) is adds.added)
