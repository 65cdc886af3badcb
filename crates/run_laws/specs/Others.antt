-- What all seats but one did: their pushes, pops and shuts, and the nodes that they took and gave back.
use Rattle.std.specs.Prelude.{ℕ, ◌+◌, ◌-◌, ◌*◌, Bool, false, not, nat_eq, if◌then◌else◌, List, length, Option}
use Rattle.std.specs.List.{sum_by, count_by, range_with_len}
use Rattle.line_table.specs.declared.lines.Line.{Line}
use Rattle.line_table.specs.declared.lines.Line.TheVariants.{N4, N5, F3}
use Rattle.history.specs.declared.operations.Entry.{Entry}
use Rattle.history.specs.declared.operations.Entry.TheVariants.{Push, Pop, Shut}
use Rattle.node_arena.specs.Traces.{Event, Traced}
use Rattle.node_arena.specs.Turns.{at_n1, at_f1}

-- whether an entry is a push or a shut of another seat: it links a node, or the closed end
abbrev pub is_others_link : (me : ℕ) → Entry → Bool
is_others_link me (Push seat body) = not (nat_eq seat me)
is_others_link me (Pop seat value) = false
is_others_link me (Shut seat) = not (nat_eq seat me)

-- whether an entry is a pop of another seat
abbrev pub is_others_pop : (me : ℕ) → Entry → Bool
is_others_pop me (Push seat body) = false
is_others_pop me (Pop seat value) = not (nat_eq seat me)
is_others_pop me (Shut seat) = false

-- 1 for a node that was taken or given back at a line, by where it went: a won N4, N5 or F3
abbrev pub nodes_at : Line → Option Line → ℕ
nodes_at N4 to = 1 - at_n1 to
nodes_at N5 to = 1 - at_n1 to
nodes_at F3 to = 1 - at_f1 to
nodes_at l to = 0

-- how many nodes were taken and given back on a path
abbrev pub nodes_on : List Event → ℕ
nodes_on es = sum_by (λ e. nodes_at e.line e.to) es

-- how many all seats but one took and gave back
abbrev pub nodes_of_others : (me : ℕ) → Traced → ℕ
nodes_of_others me t = sum_by (λ n. if nat_eq n me then 0 else nodes_on (t.paths n)) (range_with_len 1 (length t.world.actors))

-- how many turns of a seat the others pay for with these entries and so many nodes: so many for each push or shut of
-- another seat, for each pop, and for each node
abbrev pub paid : (link pop node me : ℕ) → List Entry → (nodes : ℕ) → ℕ
paid link pop node me es nodes = link * count_by (is_others_link me) es + pop * count_by (is_others_pop me) es + node * nodes
