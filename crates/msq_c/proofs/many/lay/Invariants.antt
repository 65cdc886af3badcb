use Rattle.std.proofs.Common.{◌≡◌, map, take}
use Rattle.msq_c.specs.Values.{value_of}
use Rattle.msq_c.specs.Many.{laid}
use Rattle.msq_c.proofs.many.lay.Given as goal

abbrev pub invariant-loop-i : goal.invariant-loop-i
invariant-loop-i l = l.values ≡ laid l.from (map value_of (take l.i l.taken)) l.fn.values
