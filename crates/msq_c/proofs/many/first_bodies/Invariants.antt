use Rattle.std.proofs.Common.{◌≡◌, length, take}
use Rattle.msq_c.proofs.many.first_bodies.Given as goal

abbrev pub invariant-loop-i : goal.invariant-loop-i
invariant-loop-i l = record {
  long : length l.bodies ≡ 32;
  those : take l.i l.bodies ≡ take l.i l.numbers;
}
