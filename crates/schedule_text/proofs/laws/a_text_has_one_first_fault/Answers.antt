use Rattle.schedule_text.proofs.OneText.{one_fault_of_schedule}
use Rattle.schedule_text.proofs.laws.a_text_has_one_first_fault.Goals as goal

pub returns : goal.returns
returns c = one_fault_of_schedule
