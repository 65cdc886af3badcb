-- Each lemma is a clause of the law.
use Rattle.history.proofs.FirstFault.{first_is_misshapen, first_is_outside, first_is_shared}
use Rattle.history.proofs.laws.a_fault_is_the_first_of_the_list.Goals as goal

pub returns : goal.returns
returns c = record { shape = first_is_misshapen; span = first_is_outside; shared = first_is_shared }
