use Rattle.std.proofs.Common.{◌≡◌, map}
use Rattle.msq_c.specs.Blocks.{owned_in}
use Rattle.msq_c.proofs.new_queues.boxed.Given as goal

abbrev pub invariant-loop-seat : goal.invariant-loop-seat
invariant-loop-seat l = map (λ b. owned_in b.value) l.boxes.items ≡ l.yielded
