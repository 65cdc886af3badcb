use Rattle.std.proofs.Common.{◌≡◌, ◌++◌}
use Rattle.waiting_orders.specs.Nodes.{pending_to, view, views}
use Rattle.waiting_orders.proofs.nodes.Node.push_all_pending.Given as goal

abbrev pub invariant-loop-at : goal.invariant-loop-at
invariant-loop-at l = views l.new.items ≡ views l.initial.new.items ++ pending_to l.at (view l.self) l.front l.ways
