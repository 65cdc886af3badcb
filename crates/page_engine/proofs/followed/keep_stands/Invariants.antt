use Rattle.std.proofs.Common.{◌≡◌, ◌++◌}
use Rattle.run_engine.specs.Pieces.{actors_text}
use Rattle.run_engine.specs.Stands.{standing_text}
use Rattle.page_engine.proofs.followed.keep_stands.Given as goal

-- the lines of the actors so far were kept
abbrev pub invariant-loop-index : goal.invariant-loop-index
invariant-loop-index g l = l.kept.bytes.items ≡ l.fn.kept.bytes.items ++ actors_text (standing_text g.row.B l.world) l.index
