-- Recordings of a queue of texts.
use Rattle.std.specs.Prelude.{◌≤◌, ◌↔◌, List, IsSome, IfSome, All}
use Rattle.recording_text.specs.Recordings.{Recorded}
use Rattle.recording_text.specs.TextQueues.{IsLinearizableRecording}

-- an operation of a recording is a call: it ended exactly where it was told something, and not before it began
pub record IsRecordedCall (r : Recorded) : Type 0 where
  pub ended : IsSome r.last ↔ IsSome r.told
  pub spans : IfSome r.last (λ last. r.first ≤ last)

-- a recording is one of a queue of texts: its operations are calls, and it is linearizable
pub record IsOfTextQueue (rs : List Recorded) : Type 0 where
  pub calls : All IsRecordedCall rs
  pub linearizable : IsLinearizableRecording rs
