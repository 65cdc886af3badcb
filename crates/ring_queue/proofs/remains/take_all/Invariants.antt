use Rattle.std.proofs.Common.{◌≡◌, ℕ, ◌<◌, ◌≤◌, true, false, take, get_or, vec_capacity}
use Rattle.std.specs.Slots.{slots_items, slots_filled, slots_len}
use Rattle.ring_queue.proofs.remains.take_all.Given as goal

abbrev pub invariant-loop-i : goal.invariant-loop-i
invariant-loop-i g l = record {
  taken : l.room.items ≡ take l.i (slots_items l.closed.slots);
  room : slots_len l.closed.slots ≤ vec_capacity l.room;
  same : slots_items l.closed.slots ≡ slots_items l.initial.closed.slots;
  count : slots_len l.closed.slots ≡ slots_len l.initial.closed.slots;
  words : l.closed.words ≡ l.initial.closed.words;
  full : (k : ℕ) → l.i ≤ k → k < slots_len l.closed.slots → get_or (slots_filled l.closed.slots) k false ≡ true;
  none : (k : ℕ) → k < l.i → get_or (slots_filled l.closed.slots) k false ≡ false;
}
