use Rattle.std.proofs.Common.{◌≡◌, ◌++◌}
use Rattle.waiting_orders.specs.Nodes.{suits, takes_to, view, views}
use Rattle.waiting_orders.proofs.nodes.Node.push_takes.Given as goal

abbrev pub invariant-loop-at : goal.invariant-loop-at
invariant-loop-at l = views l.new.items ≡ views l.initial.new.items ++ takes_to l.at (suits l.front l.value) (view l.self) l.front l.way
