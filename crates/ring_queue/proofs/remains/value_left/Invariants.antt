use Rattle.std.proofs.Common.{◌≡◌, ◌+◌, ◌-◌, ◌≤◌, ◌++◌, vec_len, vec_capacity}
use Rattle.std.specs.Slots.{slots_items}
use Rattle.ring_queue.specs.Placed.{parts_from}
use Rattle.ring_queue.proofs.remains.value_left.Given as goal

abbrev pub invariant-loop-part : goal.invariant-loop-part
invariant-loop-part g l = record {
  told : l.initial.values.items ++ parts_from l.slots (slots_items l.closed.words) l.place 0 l.width
      ≡ l.values.items ++ parts_from l.slots (slots_items l.closed.words) l.place l.part (l.width - l.part);
  len : vec_len l.values ≡ vec_len l.initial.values + l.part;
  room : vec_capacity l.initial.values ≤ vec_capacity l.values;
}
