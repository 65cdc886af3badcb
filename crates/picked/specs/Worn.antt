-- Which words stop a queue's calls where they are worn out.
use Rattle.std.specs.Prelude.{ℕ, Option}
use Rattle.history.specs.declared.refusals.WornWord.{WornWord}
use Rattle.node_arena.specs.Machine.{Held}
use Rattle.arena_queue.specs.declared.algorithms.Algorithm.{Ghosts}

-- which stop a push of a node, and what is then in the pocket; which stop a pop; and whether Tail stops a shut
pub record Worn : Type 1 where
  pub push : WornWord → Option Held → Type 0
  pub pop : WornWord → Type 0
  pub shut : Type 0

-- those of an algorithm
abbrev pub worn_by : {A : Type 0} {bits : ℕ} → Ghosts A bits → Worn
worn_by g = record { push = g.push_worn; pop = g.pop_worn; shut = g.shut_worn }
