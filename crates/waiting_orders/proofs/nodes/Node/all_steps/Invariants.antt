use Rattle.std.proofs.Common.{◌≡◌}
use Rattle.waiting_orders.specs.Nodes.{steps_to, view, views}
use Rattle.waiting_orders.proofs.nodes.Node.all_steps.Given as goal

abbrev pub invariant-loop-at : goal.invariant-loop-at
invariant-loop-at l = views l.new.items ≡ steps_to l.at l.pushes (view l.self) l.front l.ways
