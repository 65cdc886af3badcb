-- What pushes and pops of the non-blocking queue share.
use Rattle.std.specs.Prelude.{◌≡◌}
use Rattle.line_table.specs.declared.lines.Kind.TheVariants.{NonBlocking}
use Rattle.node_arena.specs.Arenas.{Arena}

-- an arena of the non-blocking queue
abbrev pub IsNonBlocking : Arena → Type 0
IsNonBlocking r = r.plan.setup.kind ≡ NonBlocking
