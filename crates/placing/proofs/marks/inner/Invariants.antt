use Rattle.std.proofs.Common.{◌≡◌, take}
use Rattle.placing.specs.Parts.{part_of}
use Rattle.placing.proofs.marks.inner.Given as goal

abbrev pub invariant-loop-call : goal.invariant-loop-call
invariant-loop-call l = l.part.items ≡ part_of (take l.call-index l.calls)
