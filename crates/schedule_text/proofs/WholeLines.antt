-- A line that was read ahead whole.
use Rattle.std.proofs.Common.{◌≡◌, ℕ, ◌+◌, ◌<◌, List, [], ◌∷◌, ◌++◌, Option, None, Some, length, drop, refl, sym, ap, subst, ◌∙◌, append_assoc, drop_at, length-append}
use Rattle.std.specs.Io.KnownBytes.{Consumes, prepend_known}
use Rattle.history.specs.declared.text_causes.TextCause.{TextCause}
use Rattle.history.specs.declared.text_causes.TextCause.TheVariants.{End}
use Rattle.text_io.specs.Lines.{HasNo, line, words_of}
use Rattle.text_io.specs.LineReadings.{IsWrong}
use Rattle.history.specs.declared.refusals.Refusal.TheVariants.{Text}
use Rattle.schedule_text.specs.declared.schedules.Event.{Event}
use Rattle.schedule_text.specs.declared.schedules.Version.{Version}
use Rattle.schedule_text.specs.Texts.{happens, events_left, Tells, IsEventInRange}
use Rattle.text_io.specs.Devices.{SourceState}
use Rattle.schedule_text.specs.Streams.{stream}
use Rattle.schedule_text.specs.SourceLines.{IsFirstFaultFrom, IsStopped, GaveSaid}
use Rattle.schedule_text.proofs.Refusing.{refused_event}
use Rattle.schedule_text.proofs.Spelling.{spaced-said}

-- bytes in front of known ones
Consumes-front : (known : Option (List ℕ)) (bytes rest : List ℕ) → Consumes (prepend_known (bytes ++ rest) known) (prepend_known rest known) bytes
Consumes-front None bytes rest = tt
Consumes-front (Some left) bytes rest = append_assoc bytes rest left

-- what is left of the bytes read ahead behind their first line
behind_line : (says rest old new : List ℕ) → old ≡ line says ++ rest → new ≡ drop (length says + 1) old → new ≡ rest
behind_line says rest old new front gone =
    gone ∙ ap (λ (l : List ℕ). drop (length says + 1) l) front ∙ drop_at (line says) rest (length says + 1) (length-append says (10 ∷ []))

-- the first line of the bytes read ahead says an event: they are gone over to its end, and the source isn't called
pub said_ahead : (v : Version) (left : ℕ) (event : Event) (says rest old new : List ℕ) (source : SourceState) → old ≡ line says ++ rest
    → new ≡ drop (length says + 1) old → Tells v (words_of says) event → IsEventInRange event
    → GaveSaid (events_left v left) (happens event) (stream old source) (stream new source)
said_ahead v left event says rest old new source front gone tells range =
    let known = source.left in
    let is : new ≡ rest = behind_line says rest old new front gone in
    let given : Consumes (prepend_known old known) (prepend_known new known) (line says) =
    subst (λ (l : List ℕ). Consumes (prepend_known l known) (prepend_known new known) (line says)) (sym front)
    (subst (λ (l : List ℕ). Consumes (prepend_known (line says ++ rest) known) (prepend_known l known) (line says)) (sym is)
    (Consumes-front known (line says) rest)) in
    record {
      may = tells.0;
      range = range;
      given = subst (λ (l : List ℕ). Consumes (prepend_known old known) (prepend_known new known) (line l)) (spaced-said (happens event) says tells.1) given;
      quiet = refl;
    }

-- it is wrong
pub stopped_ahead : (before : ℕ) (v : Version) (left : ℕ) (says rest old new : List ℕ) (source : SourceState) (cause : TextCause)
    → HasNo 10 says → old ≡ line says ++ rest → 0 < left
    → IsWrong (Tells v (words_of says)) IsEventInRange cause → IsStopped before (events_left v left) (stream old source) (stream new source) (Text (before + 1) cause)
stopped_ahead before v left says rest old new source cause whole front some wrong = (
  by source.left,
  refl,
  λ (ends : cause ≡ End).
      absurd (subst (λ (k : TextCause). IsWrong (Tells v (words_of says)) IsEventInRange k) ends wrong),
)
  where
    by : (bytes : Option (List ℕ)) → IsFirstFaultFrom before (events_left v left) (prepend_known old bytes) (before + 1) cause
    by None = tt
    by (Some more) =
        refused_event before v left (old ++ more) says (rest ++ more) cause some whole
        (ap (λ (l : List ℕ). l ++ more) front ∙ append_assoc (line says) rest more) wrong
