-- What pushes, pops and shuts of the two-lock queue share.
use Rattle.std.specs.Prelude.{◌≡◌}
use Rattle.line_table.specs.declared.lines.Kind.TheVariants.{TwoLock}
use Rattle.node_arena.specs.Arenas.{Arena}

-- an arena of the two-lock queue
abbrev pub IsTwoLock : Arena → Type 0
IsTwoLock r = r.plan.setup.kind ≡ TwoLock
