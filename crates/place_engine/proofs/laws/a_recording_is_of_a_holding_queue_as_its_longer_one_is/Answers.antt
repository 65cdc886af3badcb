-- Each lemma is a clause of the law.
use Rattle.recording_text.specs.HeldTexts.{longer}
use Rattle.place_engine.proofs.Behind.{points-behind}
use Rattle.place_engine.proofs.HeldReasons.{reason-given}
use Rattle.place_engine.proofs.OfHolding.{holding-as_longer}
use Rattle.place_engine.proofs.OfTexts.{of_queue-as_history}
use Rattle.place_engine.proofs.laws.a_recording_is_of_a_holding_queue_as_its_longer_one_is.Goals as goal

pub returns : goal.returns
returns c = record {
  queue = λ held rs range.
      let texts = holding-as_longer held rs range in
      let numbers = of_queue-as_history (longer held rs) in
      (λ is. numbers.0 (texts.0 is), λ is. texts.1 (numbers.1 is));
  given = λ held rs reason range is. reason-given held rs range reason is;
  points = λ held rs new some range spread judged. points-behind held rs some range new spread judged;
}
