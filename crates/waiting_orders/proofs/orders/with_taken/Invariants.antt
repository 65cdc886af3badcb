use Rattle.std.proofs.Common.{◌≡◌, ◌++◌, take}
use Rattle.waiting_orders.specs.Listed.{taken_of}
use Rattle.waiting_orders.proofs.orders.with_taken.Given as goal

abbrev pub invariant-loop-went : goal.invariant-loop-went
invariant-loop-went l = l.pushes.items ≡ taken_of (take l.went-index l.walk)

abbrev pub invariant-loop-push : goal.invariant-loop-push
invariant-loop-push l = l.pushes.items ≡ taken_of l.walk ++ take l.push-index l.staying
