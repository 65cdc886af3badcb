use Rattle.history.proofs.Placing.{IsPassed}
use Rattle.history.proofs.checks.first_fault.Given as goal

abbrev pub invariant-loop-index : goal.invariant-loop-index
invariant-loop-index l = IsPassed l.history l.index l.places
