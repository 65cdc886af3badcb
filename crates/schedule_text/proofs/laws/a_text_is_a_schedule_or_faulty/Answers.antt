use Rattle.schedule_text.proofs.ReadOrFaulty.{not_neither_of_schedule}
use Rattle.schedule_text.proofs.laws.a_text_is_a_schedule_or_faulty.Goals as goal

pub returns : goal.returns
returns c = not_neither_of_schedule
