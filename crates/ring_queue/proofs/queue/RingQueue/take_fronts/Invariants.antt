use Rattle.std.proofs.Common.{◌≡◌, ◌+◌, ◌≤◌, ◌++◌, map, take, vec_len, vec_capacity}
use Rattle.ring_queue.specs.Steps.{taken_in}
use Rattle.ring_queue.proofs.queue.RingQueue.take_fronts.Given as goal

abbrev pub ghost-raise_head : goal.ghost-raise_head
ghost-raise_head g a = a.words.now

abbrev pub invariant-loop-i : goal.invariant-loop-i
invariant-loop-i g l = record {
  items : l.into.items ≡ l.fn.into.items ++ map taken_in (take l.i l.words);
  len : vec_len l.into ≡ vec_len l.fn.into + l.i;
  room : vec_capacity l.fn.into ≤ vec_capacity l.into;
}
