use Rattle.std.proofs.Common.{◌≡◌, length}
use Rattle.msq_c.specs.WordEnds.{AreEmpty}
use Rattle.msq_c.proofs.slots.empties.Given as goal

abbrev pub invariant-loop-slot : goal.invariant-loop-slot
invariant-loop-slot g l = record {
  empty : AreEmpty g.H.Slot.holds l.handles.items;
  count : length l.handles.items ≡ l.slot-index;
}
