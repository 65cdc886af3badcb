use Rattle.std.proofs.Common.{◌≡◌, ◌++◌, All, map, take}
use Rattle.recording_text.specs.HeldTexts.{StampsFit, stamped_later}
use Rattle.recording_text.proofs.held.push_later.Given as goal

abbrev pub invariant-loop-index : goal.invariant-loop-index
invariant-loop-index l =
    (l.history.items ≡ l.fn.history.items ++ map (stamped_later l.count) (take l.index l.operations)) × All (StampsFit l.count) (take l.index l.operations)
