use Rattle.expand_engine.proofs.Standing.{fault_at, refused_at}
use Rattle.expand_engine.proofs.running.history_with_bits.Goals as goal

pub returns-in-Some-clause-fault : goal.returns-in-Some-clause-fault
returns-in-Some-clause-fault g c = fault_at c.in_ok-world.world c.args.acts.now c.in_ok-done.done c.in-Some.stop c.requires.acts c.in_ok-done.ensures.ok c.in-Some.is

pub returns-in-Some-clause-refused : goal.returns-in-Some-clause-refused
returns-in-Some-clause-refused g c =
    rw c.in_ok-world.ensures.ok at (refused_at c.in_ok-world.world c.args.acts.now c.in_ok-done.done c.in-Some.stop c.requires.acts c.in_ok-done.ensures.ok c.in-Some.is)
