use Rattle.std.proofs.Common.{◌≡◌, ◌++◌}
use Rattle.carriers.specs.Rests.{left_in}
use Rattle.msq_c.specs.Values.{count_told, AreLaid}
use Rattle.msq_c.proofs.word_rests.write.Given as goal

abbrev pub invariant-loop-front : goal.invariant-loop-front
invariant-loop-front g l = record {
  all : l.yielded ++ left_in l.front-iterator ≡ left_in l.fn.rest;
  values : AreLaid g.I.Item.told l.yielded l.fn.values l.values;
  left : l.left ≡ count_told l.yielded;
}
