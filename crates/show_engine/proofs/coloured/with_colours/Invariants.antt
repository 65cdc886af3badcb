use Rattle.std.proofs.Common.{length, ◌-◌, ◌≤◌, take}
use Rattle.show_engine.specs.Plain.{Colours}
use Rattle.show_engine.proofs.coloured.with_colours.Given as goal

abbrev pub invariant-loop-count : goal.invariant-loop-count
invariant-loop-count l = record {
  coloured : Colours l.line (take l.count l.bytes);
  within : l.count ≤ length l.bytes;
  fits : length l.line ≤ 192;
}

abbrev pub decreases-loop-count : goal.decreases-loop-count
decreases-loop-count l = length l.bytes - l.count
