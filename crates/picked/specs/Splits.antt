-- The splits of which one is picked by the nodes asked for.
use Rattle.std.specs.Prelude.{ℕ, List, [], ◌∷◌, ◌-◌, ◌^◌, nat_lt, if◌then◌else◌}
use Rattle.counted_ref.specs.Ref.{reserved_node, count_bits}
use Rattle.line_table.specs.declared.lines.Kind.{Kind}
use Rattle.line_table.specs.declared.lines.Kind.TheVariants.{NonBlocking}
use Rattle.node_arena.specs.declared.roles.Role.{Role}
use Rattle.node_arena.specs.Plans.{Layout}
use Rattle.node_arena.specs.NewArenas.{plan, value_plan}

-- the node bits of the splits that are picked from
abbrev pub picked_bits : List ℕ
picked_bits = 16 ∷ 20 ∷ 24 ∷ 28 ∷ 32 ∷ []

-- the node bits for so many nodes: the least of these of which a node may have that number, and 32 where none has it
abbrev pub bits_for : (nodes : ℕ) → ℕ
bits_for nodes =
    if nat_lt nodes (reserved_node 16)
    then 16
    else if nat_lt nodes (reserved_node 20)
    then 20
    else if nat_lt nodes (reserved_node 24) then 24 else if nat_lt nodes (reserved_node 28) then 28 else 32

-- the greatest count of a split
abbrev pub greatest_count : (bits : ℕ) → ℕ
greatest_count bits = 2 ^ count_bits bits - 1

-- the plan of a queue of so many nodes, of the split for these, with this greatest count
abbrev pub limited_plan : Kind → (nodes limit : ℕ) → List Role → Layout
limited_plan kind nodes limit roles = plan (bits_for nodes) kind nodes limit roles

-- the plan of a queue of so many nodes, of the split for these, with the greatest count that it has
abbrev pub picked_plan : Kind → (nodes : ℕ) → List Role → Layout
picked_plan kind nodes roles = limited_plan kind nodes (greatest_count (bits_for nodes)) roles

-- the same of a queue of values, with this greatest count
abbrev pub value_limited_plan : Kind → (nodes limit : ℕ) → List Role → Layout
value_limited_plan kind nodes limit roles = value_plan (bits_for nodes) kind nodes limit roles

-- and with the greatest count that its split has
abbrev pub value_picked_plan : Kind → (nodes : ℕ) → List Role → Layout
value_picked_plan kind nodes roles = value_limited_plan kind nodes (greatest_count (bits_for nodes)) roles

-- of a non-blocking queue of values
abbrev pub non_blocking_plan : (nodes : ℕ) → List Role → Layout
non_blocking_plan nodes roles = value_picked_plan NonBlocking nodes roles
