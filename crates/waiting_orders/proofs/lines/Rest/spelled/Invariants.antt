use Rattle.std.proofs.Common.{◌≡◌}
use Rattle.waiting_orders.specs.Lines.{spelled, view_left}
use Rattle.waiting_orders.proofs.lines.Rest.spelled.Given as goal

abbrev pub invariant-loop-place : goal.invariant-loop-place
invariant-loop-place l = l.places.items ≡ spelled l.place (view_left l.self)
