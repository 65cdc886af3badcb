-- The seats of an office that is opened over a new queue, or a new ring.
use Rattle.std.specs.Prelude.{ℕ, zero, suc, ◌+◌, List, [], ◌∷◌, ◌++◌, replicate}
use Rattle.carriers.specs.Knowledge.{KnownOf}
use Rattle.node_arena.specs.declared.roles.Role.{Role}
use Rattle.node_arena.specs.declared.roles.Role.TheVariants.{Giver, Taker}
use Rattle.ring_queue.specs.declared.roles.Role as ring_roles
use Rattle.ring_queue.specs.declared.roles.Role.TheVariants as ring_role
use Rattle.value_queue.specs.Queues.{newcomer}

-- one role so many times, and behind it another one so many times; behind these are three of the first
abbrev pub roles_of : {R : Type 0} → (giver taker : R) → (senders receivers : ℕ) → List R
roles_of giver taker senders receivers = replicate senders giver ++ (replicate receivers taker ++ giver ∷ giver ∷ giver ∷ [])

-- the roles of so many senders, and behind them of so many receivers; behind these are the seats that only shut
abbrev pub office_roles : (senders receivers : ℕ) → List Role
office_roles senders receivers = roles_of Giver Taker senders receivers

-- the same as roles of a ring
abbrev pub ring_roles_for : (senders receivers : ℕ) → List ring_roles.Role
ring_roles_for senders receivers = roles_of ring_role.Giver ring_role.Taker senders receivers

-- what so many new seats know that are numbered from this number on
abbrev pub newcomers : {A : Type 0} → (first many : ℕ) → List (KnownOf A)
newcomers first zero = []
newcomers first (suc many) = newcomer first ∷ newcomers (first + 1) many
