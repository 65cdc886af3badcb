use Rattle.std.specs.Prelude.{◌≡◌, ◌++◌, replicate}
use Rattle.post_office.proofs.new_offices.roles_for.Given as goal

abbrev pub invariant-loop : goal.invariant-loop
invariant-loop g l = l.roles.items ≡ replicate l.counter l.fn.giver

abbrev pub invariant-loop-2 : goal.invariant-loop-2
invariant-loop-2 g l = l.roles.items ≡ replicate l.fn.senders l.fn.giver ++ replicate l.counter l.fn.taker

abbrev pub invariant-loop-3 : goal.invariant-loop-3
invariant-loop-3 g l = l.roles.items ≡ (replicate l.fn.senders l.fn.giver ++ replicate l.fn.receivers l.fn.taker) ++ replicate l.counter l.fn.giver
