use Rattle.std.proofs.Common.{◌≡◌, ◌*◌, ◌^◌, ◌<◌}
use Rattle.ring_queue.proofs.new_rings.power_from.Given as goal

abbrev pub invariant-loop : goal.invariant-loop
invariant-loop l = (l.slots ≡ 2 ^ l.counter) × (l.slots < 2 * l.room)
