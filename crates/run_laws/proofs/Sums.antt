-- Sums over numbers in a row, where one of them counts more than before.
use Rattle.std.proofs.Common.{◌≡◌, ◌≢◌, ℕ, zero, suc, ◌+◌, ◌≤◌, ◌<◌, ◌⊎◌, inl, inr, ap, arith}
use Rattle.std.specs.List.{sum_by, range_with_len}
use Rattle.std.proofs.lemmas.List.Sums.{sum_by-cons}
use Rattle.step_machine.proofs.StampsLists.{same_or_not}

module _ (f g : ℕ → ℕ) where
  -- no number counts more
  pub sum_same : (a k : ℕ) → ((n : ℕ) → g n ≡ f n) → sum_by g (range_with_len a k) ≡ sum_by f (range_with_len a k)
  sum_same a zero each = omega arith
  sum_same a (suc k) each = omega (arith, sum_by-cons g a (range_with_len (a + 1) k), sum_by-cons f a (range_with_len (a + 1) k), each a, sum_same (a + 1) k each)

  module _ (you more : ℕ) (others : (n : ℕ) → n ≢ you → g n ≡ f n) (here : g you ≡ f you + more) where
    -- nor does any of those above it
    sum_above : (a k : ℕ) → you < a → sum_by g (range_with_len a k) ≡ sum_by f (range_with_len a k)
    sum_above a zero h = omega arith
    sum_above a (suc k) h = omega (arith, sum_by-cons g a (range_with_len (a + 1) k), sum_by-cons f a (range_with_len (a + 1) k), others a (λ e. omega arith), sum_above (a + 1) k (omega arith))

    -- the one that does is among them
    pub sum_more : (a k : ℕ) → a ≤ you → you < a + k → sum_by g (range_with_len a k) ≡ sum_by f (range_with_len a k) + more
    sum_more a zero low high = absurd (omega arith)
    sum_more a (suc k) low high = go (same_or_not a you) (sum_more (a + 1) k)
      where
        go : (a ≡ you) ⊎ (a ≢ you) → (a + 1 ≤ you → you < a + 1 + k → sum_by g (range_with_len (a + 1) k) ≡ sum_by f (range_with_len (a + 1) k) +
            more) → sum_by g (range_with_len a (suc k)) ≡ sum_by f (range_with_len a (suc k)) + more
        go (inl e) rest = omega (arith, sum_by-cons g a (range_with_len (a + 1) k), sum_by-cons f a (range_with_len (a + 1) k), ap g e, ap f e, here, sum_above (a + 1) k (omega arith))
        go (inr d) rest = omega (arith, sum_by-cons g a (range_with_len (a + 1) k), sum_by-cons f a (range_with_len (a + 1) k), others a d, rest (omega arith) (omega arith))
