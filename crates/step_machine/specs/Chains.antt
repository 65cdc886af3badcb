-- What a chain of nodes has: a last node, the values of the nodes behind its first one, and an end; and so the queue that it
-- holds.
use Rattle.std.specs.Prelude.{ℕ, Bool, nat_eq, List, [], ◌∷◌, map}
use Rattle.step_machine.specs.Below.{reserved_node, Taken, Queue, Shared, node_at}

-- the last node of a chain; 0 of the empty one
abbrev pub last_node : List ℕ → ℕ
last_node [] = 0
last_node (n ∷ []) = n
last_node (n ∷ m ∷ ms) = last_node (m ∷ ms)

-- the values of some nodes
abbrev pub values_of : Shared → List ℕ → List Taken
values_of m ns = map (λ n. (node_at m n).value) ns

-- the values in a queue's chain: those of all its nodes but the first, which is the dummy
abbrev pub queue_values : Shared → List ℕ → List Taken
queue_values m [] = []
queue_values m (dummy ∷ ns) = values_of m ns

-- whether a queue's chain ends at the closed end
abbrev pub is_shut_chain : (bits : ℕ) → Shared → List ℕ → Bool
is_shut_chain bits m queue = nat_eq (node_at m (last_node queue)).next.node (reserved_node bits)

-- the queue that a chain holds
abbrev pub queue_in : (bits : ℕ) → Shared → List ℕ → Queue
queue_in bits m queue = record { values = queue_values m queue; shut = is_shut_chain bits m queue }
