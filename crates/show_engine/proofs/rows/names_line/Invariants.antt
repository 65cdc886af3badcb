use Rattle.std.proofs.Common.{◌≡◌, ◌≤◌, ◌+◌, length, take}
use Rattle.show_engine.specs.Rows.{names_text}
use Rattle.show_engine.proofs.rows.names_line.Given as goal

-- the actors before this one have their numbers
abbrev pub invariant-loop-offset : goal.invariant-loop-offset
invariant-loop-offset l = record {
  text : l.line ≡ take (l.frame.width + 1) (names_text l.frame l.offset);
  fits : length l.line ≤ l.frame.width + 1;
}
