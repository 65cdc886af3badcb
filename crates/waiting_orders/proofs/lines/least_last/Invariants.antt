use Rattle.std.proofs.Common.{take}
use Rattle.waiting_orders.specs.Lines.{IsLimit}
use Rattle.waiting_orders.proofs.lines.least_last.Given as goal

abbrev pub invariant-loop-place : goal.invariant-loop-place
invariant-loop-place l = IsLimit (take l.place l.operations) l.limit
