use Rattle.std.proofs.Common.{◌≡◌, ◌++◌}
use Rattle.waiting_orders.specs.Lines.{later_to, view_left, view_picks}
use Rattle.waiting_orders.proofs.lines.Rest.push_all_later.Given as goal

abbrev pub invariant-loop-place : goal.invariant-loop-place
invariant-loop-place l = view_picks l.picks.items ≡ view_picks l.initial.picks.items ++ later_to l.operations (view_left l.self) l.place
