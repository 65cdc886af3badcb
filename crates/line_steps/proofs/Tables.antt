-- The words of a table and the nodes that they stand for: what is read, and what a write of one word makes of them.
use Rattle.std.proofs.Common.{◌≡◌, ℕ, zero, suc, ◌+◌, ◌-◌, ◌*◌, ◌^◌, ◌<◌, List, [], ◌∷◌, ◌++◌, length, get_or, set, refl, sym, ap, subst, arith}
use Rattle.counted_ref.specs.Ref.{ref_of}
use Rattle.counted_ref.specs.Splits.{null_back}
use Rattle.line_steps.specs.Memory.{blank}
use Rattle.line_steps.specs.Words.{value_of, nodes_of, IsTable}

-- two words more of a blank node are read as those behind the end were
pub same_behind : (ws : List ℕ) (q : ℕ) → get_or (ws ++ 0 ∷ 0 ∷ []) q 0 ≡ get_or ws q 0
same_behind [] zero = refl
same_behind [] (suc zero) = refl
same_behind [] (suc (suc q)) = refl
same_behind (a ∷ ws) zero = refl
same_behind (a ∷ ws) (suc q) = same_behind ws q

-- a table stays one with two words more of a blank node
pub table-push : (ws : List ℕ) → IsTable ws → IsTable (ws ++ 0 ∷ 0 ∷ [])
table-push ws h =
    record {
      fresh = subst (λ n. n < 2 ^ 32) (sym (same_behind ws 0)) h.fresh;
      tail_lock = subst (λ n. n < 2 ^ 16) (sym (same_behind ws 4)) h.tail_lock;
      head_lock = subst (λ n. n < 2 ^ 16) (sym (same_behind ws 5)) h.head_lock;
    }

-- there are as many nodes as pairs of words
pub length-nodes_of : (bits : ℕ) (k : ℕ) (ws : List ℕ) → length ws ≡ 2 * k → length (nodes_of bits ws) ≡ k
length-nodes_of bits k [] e = omega arith
length-nodes_of bits k (a ∷ []) e = absurd (omega arith)
length-nodes_of bits k (a ∷ b ∷ ws) e =
    let i : length (nodes_of bits ws) ≡ k - 1 = length-nodes_of bits (k - 1) ws (omega arith) in
    omega arith

-- the two words of one more blank node make one more blank node
pub nodes_of-push : (bits : ℕ) (k : ℕ) (ws : List ℕ) → length ws ≡ 2 * k → nodes_of bits (ws ++ 0 ∷ 0 ∷ []) ≡ nodes_of bits ws ++ blank ∷ []
nodes_of-push bits k [] e = ap (λ r. record { next = r; value = value_of 0 } ∷ []) (null_back bits)
nodes_of-push bits k (a ∷ []) e = absurd (omega arith)
nodes_of-push bits k (a ∷ b ∷ ws) e =
    ap (λ ns. record { next = ref_of bits a; value = value_of b } ∷ ns) (nodes_of-push bits (k - 1) ws (omega arith))

-- the word of a node in the list of the nodes' words
pub next_read : (bits : ℕ) (m : ℕ) (ws : List ℕ) (k : ℕ) → length ws ≡ 2 * m → (get_or (nodes_of bits ws) k blank).next ≡ ref_of bits (get_or ws (2 * k) 0)
next_read bits m [] k e = sym (null_back bits)
next_read bits m (a ∷ []) k e = absurd (omega arith)
next_read bits m (a ∷ b ∷ ws) zero e = refl
next_read bits m (a ∷ b ∷ ws) (suc k) e =
    let f : 2 * suc k ≡ suc (suc (2 * k)) = omega arith in
    rw f (next_read bits (m - 1) ws k (omega arith))

pub value_read : (bits : ℕ) (m : ℕ) (ws : List ℕ) (k : ℕ) → length ws ≡ 2 * m → (get_or (nodes_of bits ws) k blank).value ≡ value_of (get_or ws (2 * k + 1) 0)
value_read bits m [] k e = refl
value_read bits m (a ∷ []) k e = absurd (omega arith)
value_read bits m (a ∷ b ∷ ws) zero e = refl
value_read bits m (a ∷ b ∷ ws) (suc k) e =
    let f : 2 * suc k + 1 ≡ suc (suc (2 * k + 1)) = omega arith in
    rw f (value_read bits (m - 1) ws k (omega arith))

-- the nodes after a word of one node was written
pub next_put : (bits : ℕ) (m : ℕ) (ws : List ℕ) (k w : ℕ) → length ws ≡ 2 * m → k < m
    → nodes_of bits (set ws (2 * k) w) ≡ set (nodes_of bits ws) k (record (get_or (nodes_of bits ws) k blank) { next = ref_of bits w })
next_put bits m [] k w e h = absurd (omega arith)
next_put bits m (a ∷ []) k w e h = absurd (omega arith)
next_put bits m (a ∷ b ∷ ws) zero w e h = refl
next_put bits m (a ∷ b ∷ ws) (suc k) w e h =
    let f : 2 * suc k ≡ suc (suc (2 * k)) = omega arith in
    rw f (ap (λ ns. record { next = ref_of bits a; value = value_of b } ∷ ns) (next_put bits (m - 1) ws k w (omega arith) (omega arith)))

pub value_put : (bits : ℕ) (m : ℕ) (ws : List ℕ) (k w : ℕ) → length ws ≡ 2 * m → k < m
    → nodes_of bits (set ws (2 * k + 1) w) ≡ set (nodes_of bits ws) k (record (get_or (nodes_of bits ws) k blank) { value = value_of w })
value_put bits m [] k w e h = absurd (omega arith)
value_put bits m (a ∷ []) k w e h = absurd (omega arith)
value_put bits m (a ∷ b ∷ ws) zero w e h = refl
value_put bits m (a ∷ b ∷ ws) (suc k) w e h =
    let f : 2 * suc k + 1 ≡ suc (suc (2 * k + 1)) = omega arith in
    rw f (ap (λ ns. record { next = ref_of bits a; value = value_of b } ∷ ns) (value_put bits (m - 1) ws k w (omega arith) (omega arith)))
