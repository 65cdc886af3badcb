use Rattle.std.proofs.Common.{◌≡◌, ◌-◌, ◌*◌, ◌≤◌, ◌++◌, vec_len, vec_capacity}
use Rattle.std.specs.Slots.{slots_items}
use Rattle.ring_queue.specs.Placed.{beside_from}
use Rattle.ring_queue.proofs.remains.parts_left.Given as goal

abbrev pub invariant-loop-place : goal.invariant-loop-place
invariant-loop-place g l = record {
  told : beside_from l.slots l.width (slots_items l.closed.words) l.head (l.tail - l.head)
      ≡ l.values.items ++ beside_from l.slots l.width (slots_items l.closed.words) l.place (l.tail - l.place);
  len : vec_len l.values ≡ (l.place - l.head) * l.width;
  from : l.head ≤ l.place;
  room : (l.tail - l.head) * l.width ≤ vec_capacity l.values;
}
