use Rattle.std.proofs.Common.{◌-◌}
use Rattle.std.specs.Prelude.{replicate}
use Rattle.show_engine.proofs.Noted.{HasNoted}
use Rattle.show_engine.proofs.legends.note_moves.Given as goal

-- the copies before this one were made and noted
abbrev pub invariant-loop : goal.invariant-loop
invariant-loop g l = HasNoted l.fn.frame l.fn.world l.fn.lines.items (replicate l.count l.one) l.world l.lines.items (replicate (l.count - l.counter) l.one)
