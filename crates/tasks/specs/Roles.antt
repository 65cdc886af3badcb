-- The roles of the seats of pools.
use Rattle.std.specs.Prelude.{ℕ, ◌+◌, List, [], ◌∷◌, ◌++◌, replicate}
use Rattle.node_arena.specs.declared.roles.Role.{Role}
use Rattle.node_arena.specs.declared.roles.Role.TheVariants.{Giver, Taker, Both}

-- so many workers take tasks, and one who stands behind them gives them
abbrev pub pool_roles : ℕ → List Role
pool_roles workers = replicate workers Taker ++ Giver ∷ []

-- so many workers, and one who stands behind them: each may push and pop
abbrev pub line_roles : ℕ → List Role
line_roles workers = replicate (workers + 1) Both
