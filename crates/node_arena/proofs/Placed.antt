-- Words have places in the table of an arena, no two of them one place; a word is read and written by its place.
use Rattle.std.proofs.Common.{◌≡◌, ◌≢◌, ℕ, ◌+◌, ◌-◌, ◌<◌, Bool, true, false, nat_eq, nat_lt, if◌then◌else◌, zero, suc, List, [], ◌∷◌, ◌++◌, length, get_or, set, replicate, refl, sym, ap, ◌∙◌, arith}
use Rattle.std.proofs.Math.ListN.{length-replicate}
use Rattle.std.proofs.lemmas.Bool.{eqb-true, eqb-false, le-ltb}
use Rattle.std.proofs.lemmas.List.{ext_get_or, get_or-set_same, get_or-set_other, length-set}
use Rattle.std.proofs.lemmas.List.FromFn.{length-map-range_with_len, get_or-map-range_with_len}
use Rattle.node_arena.specs.Places.{place, shared_words}

-- the place of each word is one of the table
pub place_there : (words i : ℕ) → i < words - 42 → place i < words
place_there words zero h = omega arith
place_there words (suc zero) h = omega arith
place_there words (suc (suc zero)) h = omega arith
place_there words (suc (suc (suc zero))) h = omega arith
place_there words (suc (suc (suc (suc zero)))) h = omega arith
place_there words (suc (suc (suc (suc (suc zero))))) h = omega arith
place_there words (suc (suc (suc (suc (suc (suc i)))))) h = omega arith

-- which word lies at a place
abbrev index_at : ℕ → ℕ
index_at p = if nat_lt p 42 then get_or (0 ∷ 1 ∷ replicate 14 0 ++ 2 ∷ 5 ∷ replicate 14 0 ++ 3 ∷ 4 ∷ []) p 0 else p - 42

later : (i : ℕ) → index_at (i + 42) ≡ i
later i = ap (λ b. if b then get_or (0 ∷ 1 ∷ replicate 14 0 ++ 2 ∷ 5 ∷ replicate 14 0 ++ 3 ∷ 4 ∷ []) (i + 42) 0 else i + 42 - 42)
    (le-ltb (i + 42) 42 (omega arith)) ∙ (let h : i + 42 - 42 ≡ i = omega arith in h)

index_at-place : (i : ℕ) → index_at (place i) ≡ i
index_at-place zero = refl
index_at-place (suc zero) = refl
index_at-place (suc (suc zero)) = refl
index_at-place (suc (suc (suc zero))) = refl
index_at-place (suc (suc (suc (suc zero)))) = refl
index_at-place (suc (suc (suc (suc (suc zero))))) = refl
index_at-place (suc (suc (suc (suc (suc (suc i)))))) = later (suc (suc (suc (suc (suc (suc i))))))

-- no two words have one place
pub place_apart : (i j : ℕ) → i ≢ j → place i ≢ place j
place_apart i j ne same = ne (sym (index_at-place i) ∙ (ap index_at same ∙ index_at-place j))

pub length-shared_words : (table : List ℕ) → length (shared_words table) ≡ length table - 42
length-shared_words table = length-map-range_with_len (λ i. get_or table (place i) 0) 0 (length table - 42)

-- a word is read at its place
pub get_or-shared_words : (table : List ℕ) (i : ℕ) → i < length table - 42 → get_or (shared_words table) i 0 ≡ get_or table (place i) 0
get_or-shared_words table i h = get_or-map-range_with_len (λ j. get_or table (place j) 0) 0 (length table - 42) i i 0 h (omega arith)

-- and written there, which leaves the others as they are
pub shared_words-set : (table : List ℕ) (i v : ℕ) → i < length table - 42 → shared_words (set table (place i) v) ≡ set (shared_words table) i v
shared_words-set table i v there = ext_get_or 0 (shared_words after) (set (shared_words table) i v)
    (now ∙ sym (length-set (shared_words table) i v ∙ length-shared_words table)) (λ j h. at j (nat_eq j i) refl (omega (arith, h, now)))
  where
    after : List ℕ
    after = set table (place i) v

    long : length after ≡ length table
    long = length-set table (place i) v

    now : length (shared_words after) ≡ length table - 42
    now = length-shared_words after ∙ ap (λ n. n - 42) long

    at : (j : ℕ) (b : Bool) → nat_eq j i ≡ b → j < length table - 42 → get_or (shared_words after) j 0 ≡ get_or (set (shared_words table) i v) j 0
    at j true e h =
        let same : j ≡ i = eqb-true j i e in
        get_or-shared_words after j (omega (arith, h, long)) ∙
        (ap (λ k. get_or after (place k) 0) same ∙
        (get_or-set_same table (place i) v 0 (place_there (length table) i there) ∙
        (sym (get_or-set_same (shared_words table) i v 0 (omega (arith, there, length-shared_words table))) ∙
        ap (λ k. get_or (set (shared_words table) i v) k 0) (sym same))))
    at j false e h =
        let ne : j ≢ i = eqb-false j i e in
        get_or-shared_words after j (omega (arith, h, long)) ∙
        (get_or-set_other table (place i) (place j) v 0 (place_apart j i ne) ∙
        (sym (get_or-shared_words table j h) ∙
        sym (get_or-set_other (shared_words table) i j v 0 ne)))

-- the words of a table that is all 0
get_or-replicate : (n i : ℕ) → get_or {A = ℕ} (replicate n 0) i 0 ≡ 0
get_or-replicate zero i = refl
get_or-replicate (suc n) zero = refl
get_or-replicate (suc n) (suc i) = get_or-replicate n i

pub shared_words-blank : (words n : ℕ) → words ≡ n + 42 → shared_words (replicate words 0) ≡ replicate n 0
shared_words-blank words n e =
    let table : List ℕ = replicate words 0 in
    let long : length table ≡ words = length-replicate words 0 in
    let now : length (shared_words table) ≡ n = omega (arith, length-shared_words table, long, e) in
    ext_get_or 0 (shared_words table) (replicate n 0) (now ∙ sym (length-replicate n 0)) (λ i h.
    get_or-shared_words table i (omega (arith, h, now, long, e)) ∙ (get_or-replicate words (place i) ∙ sym (get_or-replicate n i)))
