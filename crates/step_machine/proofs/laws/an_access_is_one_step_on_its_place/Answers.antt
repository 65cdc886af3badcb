-- The two lemmas are the law.
use Rattle.step_machine.proofs.Tables.{one_step, place-word_step}
use Rattle.step_machine.proofs.laws.an_access_is_one_step_on_its_place.Goals as goal

pub returns : goal.returns
returns c = record { step = λ bits s a split h. one_step bits split s a h.names h.held h.given; place = place-word_step }
