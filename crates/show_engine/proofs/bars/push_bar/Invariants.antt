use Rattle.std.proofs.Common.{◌≡◌, ◌++◌, ◌+◌, length}
use Rattle.show_engine.specs.Timelines.{bar_text}
use Rattle.show_engine.proofs.bars.push_bar.Given as goal

-- the columns before this one have their marks
abbrev pub invariant-loop-column : goal.invariant-loop-column
invariant-loop-column l = record {
  text : l.line ≡ l.fn.line ++ bar_text l.scale l.operation l.column;
  len : length l.line ≡ length l.fn.line + l.column;
}
