use Rattle.std.proofs.Common.{◌≡◌, take}
use Rattle.waiting_orders.specs.Listed.{asides_of}
use Rattle.waiting_orders.proofs.orders.asides.Given as goal

abbrev pub invariant-loop-went : goal.invariant-loop-went
invariant-loop-went l = l.asides.items ≡ asides_of (take l.went-index l.walk)
