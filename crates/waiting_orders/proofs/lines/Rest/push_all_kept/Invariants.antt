use Rattle.std.proofs.Common.{◌≡◌, ◌++◌}
use Rattle.waiting_orders.specs.Lines.{gathered, kept_at, view_left, view_picks}
use Rattle.waiting_orders.proofs.lines.Rest.push_all_kept.Given as goal

abbrev pub invariant-loop-at : goal.invariant-loop-at
invariant-loop-at l = view_picks l.picks.items ≡ view_picks l.initial.picks.items ++ gathered (kept_at l.operations (view_left l.self)) 0 l.at
