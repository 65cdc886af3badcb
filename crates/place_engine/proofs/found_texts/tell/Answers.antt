-- What is written of points is the text that tells an answer, and where a write fails a prefix of that.
use Rattle.std.proofs.lemmas.List.{length-map}
use Rattle.std.proofs.lemmas.Result.{IfErr-weaker}
use Rattle.recording_text.specs.RecordingReading.{bytes_of}
use Rattle.place_engine.proofs.found_texts.tell.Goals as goal

pub returns-in-History-clause-ok : goal.returns-in-History-clause-ok
returns-in-History-clause-ok g c = rw c.in-History.is (rw (length-map c.args.held.now bytes_of) (rw c.deref.ensures.value at c.tell_points.ensures.ok))

pub returns-in-History-clause-prefix : goal.returns-in-History-clause-prefix
returns-in-History-clause-prefix g c = rw c.in-History.is (rw (length-map c.args.held.now bytes_of) (rw c.deref.ensures.value at c.tell_points.ensures.prefix))

pub returns-in-Ok-clause-prefix : goal.returns-in-Ok-clause-prefix
returns-in-Ok-clause-prefix g c =
    rw c.in-Impossible.is
    (IfErr-weaker c.send.result _ _ (λ refusal begun write. begun) (rw c.in-Ok.ensures at (rw c.deref-in-Ok.ensures.value at c.send.ensures.prefix)))
