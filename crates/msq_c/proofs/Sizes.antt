-- The split for so many nodes, and the greatest count of a queue with these.
use Rattle.std.proofs.Common.{◌≡◌, ℕ, ◌-◌, ◌<◌, ◌≤◌, ◌^◌, min, Bool, true, false, nat_lt, if◌then◌else◌, refl, arith}
use Rattle.std.proofs.lemmas.Bool.{ltb-true}
use Rattle.std.proofs.lemmas.Nat.{pow_pos}
use Rattle.counted_ref.specs.Ref.{IsSplit, reserved_node, count_bits}
use Rattle.picked.specs.Splits.{bits_for, greatest_count}
use Rattle.msq_c.specs.Made.{count_for}

-- what holds of each of five splits where that has enough numbers, and of the last one anyhow, holds of the split for so many nodes
each : (nodes : ℕ) (P : ℕ → Type 0) → (nodes < reserved_node 16 → P 16) → (nodes < reserved_node 20 → P 20) → (nodes < reserved_node 24 → P 24)
    → (nodes < reserved_node 28 → P 28) → P 32 → P (bits_for nodes)
each nodes P p q r s t = go (nat_lt nodes (reserved_node 16)) (nat_lt nodes (reserved_node 20)) (nat_lt nodes (reserved_node 24)) (nat_lt nodes (reserved_node 28)) refl refl refl refl
  where
    go : (a b c d : Bool) → nat_lt nodes (reserved_node 16) ≡ a → nat_lt nodes (reserved_node 20) ≡ b → nat_lt nodes (reserved_node 24) ≡ c → nat_lt nodes (reserved_node 28) ≡ d
        → P (if a then 16 else if b then 20 else if c then 24 else if d then 28 else 32)
    go true b c d e f g h = p (ltb-true _ _ e)
    go false true c d e f g h = q (ltb-true _ _ f)
    go false false true d e f g h = r (ltb-true _ _ g)
    go false false false true e f g h = s (ltb-true _ _ h)
    go false false false false e f g h = t

-- it is a split
pub is_split : (nodes : ℕ) → IsSplit (bits_for nodes)
is_split nodes =
    each nodes IsSplit
    (λ _. record { least = omega arith; most = omega arith })
    (λ _. record { least = omega arith; most = omega arith })
    (λ _. record { least = omega arith; most = omega arith })
    (λ _. record { least = omega arith; most = omega arith })
    record { least = omega arith; most = omega arith }

-- which has enough numbers
pub enough : (nodes : ℕ) → nodes < reserved_node 32 → nodes < reserved_node (bits_for nodes)
enough nodes l = each nodes (λ bits. nodes < reserved_node bits) (λ m. m) (λ m. m) (λ m. m) (λ m. m) l

-- counts go up to 1 at least
pub some_count : (nodes limit : ℕ) → 1 ≤ limit → 1 ≤ count_for nodes limit
some_count nodes limit l = each nodes (λ bits. 1 ≤ min limit (greatest_count bits)) (λ _. omega arith) (λ _. omega arith) (λ _. omega arith) (λ _. omega arith) (omega arith)

-- and fit their bits
pub few_counts : (nodes limit : ℕ) → count_for nodes limit < 2 ^ count_bits (bits_for nodes)
few_counts nodes limit = below limit (2 ^ count_bits (bits_for nodes)) (pow_pos (count_bits (bits_for nodes)))
  where
    below : (a b : ℕ) → 1 ≤ b → min a (b - 1) < b
    below a b l = omega arith
