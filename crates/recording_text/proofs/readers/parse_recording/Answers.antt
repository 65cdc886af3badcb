use Rattle.std.proofs.Common.{◌≡◌, [], rules, subst}
use Rattle.std.proofs.lemmas.Result.{IfOk-weaker}
use Rattle.recording_text.proofs.Steps.{stands-alone}
use Rattle.recording_text.specs.RecordingReading.{StandsFor, StandsBehind, known_by}
use Rattle.recording_text.proofs.readers.parse_recording.Goals as goal

pub returns-clause-ok : goal.returns-clause-ok
returns-clause-ok c =
    let text = c.args.text.now in
    let new = known_by c.parse_behind.new.known in
    let none : known_by c.new-known.result ≡ [] = search rules in
    IfOk-weaker c.parse_behind.result (λ ops. StandsBehind (known_by c.new-known.result) new text ops.items) (λ ops. StandsFor text ops.items)
    (λ ops is. stands-alone new text ops.items (subst (λ start. StandsBehind start new text ops.items) none is)) c.parse_behind.ensures.ok
