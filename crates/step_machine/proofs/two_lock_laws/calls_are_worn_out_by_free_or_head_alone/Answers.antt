-- The lemmas are the laws.
use Rattle.step_machine.proofs.TwoLockLaws.{find_free_or_head, refused_for_free_or_head}
use Rattle.step_machine.proofs.two_lock_laws.calls_are_worn_out_by_free_or_head_alone.Goals as goal

pub returns-clause-found : goal.returns-clause-found
returns-clause-found c = find_free_or_head

pub returns-clause-in_history : goal.returns-clause-in_history
returns-clause-in_history c = refused_for_free_or_head
