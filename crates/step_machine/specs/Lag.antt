-- How far Tail is behind in the queue that lets it lag.
use Rattle.std.specs.Prelude.{◌≡◌, ℕ, ◌+◌, ◌≤◌, List, ◌∷◌, ◌++◌, length}
use Rattle.line_steps.specs.Memory.{Shared}

-- Tail names the last node of the queue's chain or the one before it, and its count is Head's and one more for each
-- node before it
pub record TailLags (m : Shared) (queue : List ℕ) : Type 0 where
  pub before : List ℕ
  pub after : List ℕ
  pub chain : queue ≡ before ++ m.tail.node ∷ after
  pub by_one : length after ≤ 1
  pub count : m.tail.count ≡ m.head.count + length before
