-- A world that calls lead to is reached, and its sizes are in range.
use Rattle.std.proofs.Common.{rules}
use Rattle.step_machine.proofs.Reached.{made_reached, made_in_range}
use Rattle.step_machine.proofs.benches.on_bench.Goals as goal

pub returns-clause-reached : goal.returns-clause-reached
returns-clause-reached g c = made_reached _ (search rules)

pub returns-clause-sized : goal.returns-clause-sized
returns-clause-sized g c = (made_in_range c.lock-world.result.value (search rules)).sized
