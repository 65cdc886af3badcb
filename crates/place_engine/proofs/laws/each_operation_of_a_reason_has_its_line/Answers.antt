-- Each lemma is a clause of the law.
use Rattle.place_engine.proofs.Places.{lines_in-recording, header_of-recording, places-in}
use Rattle.place_engine.proofs.laws.each_operation_of_a_reason_has_its_line.Goals as goal

pub returns : goal.returns
returns c = record { lines = lines_in-recording; header = header_of-recording; stands = places-in }
