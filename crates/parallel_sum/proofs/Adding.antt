-- The sums of pairs, and what a failed one shows.
use Rattle.std.proofs.Common.{◌≡◌, ◌∙◌, ◌+◌, ◌*◌, ◌^◌, ◌<◌, ◌≤◌, refl, ap, subst, ℕ, zero, suc, List, [], ◌∷◌, map, length, get_or, Result, Ok, Err, IfOk, IfErr, sum, sum_by, arith}
use Rattle.std.specs.List.{AllZip}
use Rattle.std.specs.Global.{Vec}
use Rattle.std.proofs.lemmas.List.Sums.{sum_by-cons}
use Rattle.parallel_sum.specs.declared.pairs.Pair.{Pair}
use Rattle.parallel_sum.specs.declared.pairs.Overflow.{Overflow}
use Rattle.parallel_sum.specs.declared.levels.Failure.{Failure}
use Rattle.parallel_sum.specs.declared.levels.Failure.TheVariants.{Overflow as NoRoom, Memory}
use Rattle.parallel_sum.specs.Sums.{sum_in, IsSumOf}
use Rattle.parallel_sum.specs.Levels.{Failed, AreAdded, FailsSo}

-- as many sums as pairs, which are together as much
pub added_sums : (ps : List Pair) (ss : List ℕ) → AllZip IsSumOf ps (map (λ s. Ok s) ss) → (length ss ≡ length ps) × (sum ss ≡ sum_by sum_in ps)
added_sums [] [] h = (refl, refl)
added_sums [] (s ∷ ss) h = absurd h
added_sums (p ∷ ps) [] h = absurd h
added_sums (p ∷ ps) (s ∷ ss) h =
    let ih = added_sums ps ss h.1 in
    let here : s ≡ sum_in p = h.0 in
    let left = sum_by-cons (λ (x : ℕ). x) s ss in
    let right = sum_by-cons sum_in p ps in
    let rest = ih.1 in
    (ap suc ih.0, omega (arith, here, left, right, rest))

-- a pair that has no room is no more than all
pub failed_large : (ps : List Pair) (rs : List (Result ℕ Overflow)) (k : ℕ) (r : Result ℕ Overflow) → AllZip IsSumOf ps rs → k < length rs → get_or rs k r ≡ r → Failed r → 2 ^ 64 ≤ sum_by sum_in ps
failed_large ps [] k r h low at failed = absurd (omega (arith, low))
failed_large [] (x ∷ rs) k r h low at failed = absurd h
failed_large (p ∷ ps) (x ∷ rs) zero r h low at failed =
    let right = sum_by-cons sum_in p ps in
    let large = no_room p r (subst (IsSumOf p) at h.0) failed in
    omega (arith, right, large)
  where
    no_room : (p : Pair) (r : Result ℕ Overflow) → IsSumOf p r → Failed r → 2 ^ 64 ≤ sum_in p
    no_room p (Ok s) h failed = absurd failed
    no_room p (Err e) h failed = h
failed_large (p ∷ ps) (x ∷ rs) (suc k) r h low at failed =
    let right = sum_by-cons sum_in p ps in
    let ih = failed_large ps rs k r h.1 (omega (arith, low)) at failed in
    omega (arith, right, ih)

-- the sums of a level are together as much as its numbers
pub level_sum : (ps : List Pair) (rs : List (Result ℕ Overflow)) (out : Result (Vec ℕ) Failure) (total : ℕ) → sum_by sum_in ps ≡ total
    → AllZip IsSumOf ps rs → AreAdded rs out → IfOk out (λ sums. sum sums.items ≡ total)
level_sum ps rs (Ok sums) total same zip h = (added_sums ps sums.items (subst (AllZip IsSumOf ps) h zip)).1 ∙ same
level_sum ps rs (Err failure) total same zip h = tt

-- and half as many
pub level_half : (ps : List Pair) (rs : List (Result ℕ Overflow)) (out : Result (Vec ℕ) Failure) (n : ℕ) → 2 * length ps ≤ n + 1
    → AllZip IsSumOf ps rs → AreAdded rs out → IfOk out (λ sums. 2 * length sums.items ≤ n + 1)
level_half ps rs (Ok sums) n few zip h = let many = (added_sums ps sums.items (subst (AllZip IsSumOf ps) h zip)).0 in omega (arith, many, few)
level_half ps rs (Err failure) n few zip h = tt

-- where one of them has no room, all together have none
pub level_fails : (ps : List Pair) (rs : List (Result ℕ Overflow)) (out : Result (Vec ℕ) Failure) (total : ℕ) → sum_by sum_in ps ≡ total
    → AllZip IsSumOf ps rs → AreAdded rs out → IfErr out (FailsSo total)
level_fails ps rs (Ok sums) total same zip h = tt
level_fails ps rs (Err NoRoom) total same zip h = subst (λ n. 2 ^ 64 ≤ n) same (failed_large ps rs h.0 h.1 zip h.2 h.3 h.4)
level_fails ps rs (Err Memory) total same zip h = tt
