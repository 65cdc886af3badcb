use Rattle.schedule_text.proofs.OneText.{no_fault_of_schedule}
use Rattle.schedule_text.proofs.laws.the_text_of_a_schedule_has_no_fault.Goals as goal

pub returns : goal.returns
returns c = no_fault_of_schedule
