use Rattle.std.proofs.Common.{◌≡◌, drop}
use Rattle.step_machine.specs.Places.{held}
use Rattle.step_machine.proofs.places.is_held.Given as goal

-- no actor before this one has the node
abbrev pub invariant-loop-actor : goal.invariant-loop-actor
invariant-loop-actor g l = held l.node l.actor-items ≡ held l.node (drop l.actor-index l.actor-items)
