-- What is written, and what is begun, of what is found of a recorded history.
use Rattle.std.proofs.Common.{◌≡◌, ℕ, List, Option, Result, OnOk, IfErr}
use Rattle.std.proofs.lemmas.Result.{on_ok_weaker, IfErr-weaker}
use Rattle.std.specs.Io.KnownBytes.{Appends}
use Rattle.history.specs.declared.operations.Stamped.{Stamped}
use Rattle.history.specs.declared.refusals.Refusal.{Refusal}
use Rattle.history.specs.declared.refusals.Refusal.TheVariants.{Write}
use Rattle.placing.specs.declared.answers.Placed.{Placed}
use Rattle.placing.specs.Answers.{IsAnswer, HasCause}
use Rattle.place_engine.proofs.Saying.{says}
use Rattle.place_engine.specs.Given.{IsRecordOf}
use Rattle.text_io.specs.Blocks.{TakesPrefix}
use Rattle.text_io.specs.Devices.{SinkState}
use Rattle.show_engine.specs.declared.frames.View.{View}
use Rattle.show_engine.specs.Found.{BeginsFound, DrawsFound}
use Rattle.show_engine.specs.Reasons.{found_picture}

module _ {A : Type 0} (view : View) (given : Option (List ℕ)) (text : List ℕ) (ops : List Stamped) (answer : Placed) (room : ℕ) (a b : SinkState)
    (result : Result A Refusal) (history : IsRecordOf given text ops) (answers : IsAnswer ops answer) (cause : HasCause ops room answer) where
  pub draws_found : OnOk result (Appends a.contents b.contents (found_picture view text ops answer)) → OnOk result (DrawsFound view given room a b)
  draws_found =
      on_ok_weaker result
      (λ written. record {
        text = text;
        operations = ops;
        answer = answer;
        history = history;
        answers = answers;
        cause = cause;
        right = says ops answer answers;
        written = written;
      })

  pub begins_found : IfErr result (λ refusal. refusal ≡ Write → TakesPrefix a.contents b.contents (found_picture view text ops answer))
      → IfErr result (λ refusal. refusal ≡ Write → BeginsFound view given room a b)
  begins_found =
      IfErr-weaker result (λ refusal. refusal ≡ Write → TakesPrefix a.contents b.contents (found_picture view text ops answer))
      (λ refusal. refusal ≡ Write → BeginsFound view given room a b)
      (λ refusal begun write. record {
        text = text;
        operations = ops;
        answer = answer;
        history = history;
        answers = answers;
        cause = cause;
        begun = begun write;
      })
