-- The lemmas are the laws.
use Rattle.step_machine.proofs.Locks.{locks_name_their_holders, locks_are_of_actors}
use Rattle.step_machine.proofs.two_lock_laws.locks_name_their_holders.Goals as goal

pub returns-clause-holders : goal.returns-clause-holders
returns-clause-holders c = locks_name_their_holders

pub returns-clause-actors : goal.returns-clause-actors
returns-clause-actors c = locks_are_of_actors
