use Rattle.std.specs.Prelude.{◌≡◌, replicate}
use Rattle.node_arena.specs.declared.roles.Role.TheVariants.{Both}
use Rattle.tasks.proofs.new_pools.roles_for.Given as goal

abbrev pub invariant-loop : goal.invariant-loop
invariant-loop l = l.roles.items ≡ replicate l.counter Both
