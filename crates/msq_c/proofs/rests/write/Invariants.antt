use Rattle.std.proofs.Common.{◌≡◌, ◌++◌}
use Rattle.history.specs.Rests.{left_of}
use Rattle.msq_c.specs.Values.{count_told, AreWritten}
use Rattle.msq_c.proofs.rests.write.Given as goal

abbrev pub invariant-loop-taken : goal.invariant-loop-taken
invariant-loop-taken l = record {
  all : l.yielded ++ left_of l.taken-iterator ≡ left_of l.fn.rest;
  values : AreWritten l.yielded l.fn.values l.values;
  left : l.left ≡ count_told l.yielded;
}
