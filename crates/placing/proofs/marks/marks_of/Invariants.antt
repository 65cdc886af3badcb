use Rattle.placing.proofs.Marking.{AreMarked}
use Rattle.placing.proofs.marks.marks_of.Given as goal

abbrev pub invariant-loop-index : goal.invariant-loop-index
invariant-loop-index l = AreMarked l.history l.until l.index l.calls.items
