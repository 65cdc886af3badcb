use Rattle.std.proofs.Common.{◌≡◌, map, take}
use Rattle.msq_c.specs.Made.{ring_role_number}
use Rattle.msq_c.proofs.new_queues.ring_roles_of.Given as goal

abbrev pub invariant-loop-number : goal.invariant-loop-number
invariant-loop-number l = map ring_role_number l.roles.items ≡ take l.number-index l.numbers
