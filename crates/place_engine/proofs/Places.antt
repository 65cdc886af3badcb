-- The operations of a reason stand in the list, and the lines of a recording are those of its operations.
use Rattle.std.proofs.Common.{◌≡◌, ◌-◌, ℕ, List, [], ◌∷◌, ◌++◌, All, length, map, refl, sym, ap, ◌∙◌, arith, append-nil, codes}
use Rattle.std.specs.List.{AllByRecursion, flat_map}
use Rattle.std.proofs.lemmas.List.{append_assoc}
use Rattle.std.proofs.lemmas.List.Elements.{All-nil, All-cons, All-head, All-tail, All-append, All-weaker}
use Rattle.std.proofs.lemmas.Option.{slice_get_within}
use Rattle.text_io.specs.Lines.{line, spaced}
use Rattle.text_io.specs.Numerals.{numeral}
use Rattle.text_io.specs.Grammars.{lines_of}
use Rattle.history.specs.declared.operations.Stamped.{Stamped}
use Rattle.recording_text.specs.Recordings.{Recorded}
use Rattle.recording_text.specs.RecordingLines.{Version, Count, Operation, VersionDue, CountDue, Operations, IsReadable, IsRecordingInRange}
use Rattle.recording_text.specs.RecordingLines.{operation_words, recording_grammar, recording_text, version_line}
use Rattle.recording_text.proofs.Known.{by_recursion}
use Rattle.recording_text.proofs.Spelling.{IsSoundGrammar-recording}
use Rattle.placing.specs.declared.answers.Held.{Held}
use Rattle.placing.specs.declared.answers.Held.TheVariants.{Value, Left}
use Rattle.placing.specs.declared.answers.Span.{Span}
use Rattle.placing.specs.declared.answers.Reason.{Reason}
use Rattle.placing.specs.declared.answers.Reason.TheVariants.{Shape, Span as Spans, Reply, Sooner, Order, Full, Late, Twice, Unshut, Undrained, Stuck}
use Rattle.placing.specs.Reasons.{StandsAt, IsPlace, IsOfValue, IsLeft, IsHeld, IsThere, IsReason}
use Rattle.place_engine.specs.Given.{header_of}
use Rattle.place_engine.specs.WhyTexts.{lines_in, lines_of_recording, places_held, places_of, IsPlaceIn}
use Rattle.place_engine.proofs.Lines.{lines_in-line}

-- the lines of operations, and then those of what follows them
lines_in-operations : (rs : List Recorded) (rest : List ℕ) → AllByRecursion IsReadable rs
    → lines_in (lines_of recording_grammar (map (λ r. Operation r) rs) ++ rest) ≡ map (λ r. spaced (operation_words r)) rs ++ lines_in rest
lines_in-operations [] rest all = refl
lines_in-operations (r ∷ rs) rest all =
    let says = spaced (operation_words r) in
    let later = lines_of recording_grammar (map (λ r. Operation r) rs) in
    ap lines_in (append_assoc (line says) later rest)
    ∙ lines_in-line says (later ++ rest) (IsSoundGrammar-recording.no_feed (Operations 1) (Operation r) all.0.0)
    ∙ ap (λ (lines : List (List ℕ)). says ∷ lines) (lines_in-operations rs rest all.1)

-- the lines of a recording in range
pub lines_in-recording : (rs : List Recorded) → IsRecordingInRange rs → lines_in (recording_text rs) ≡ lines_of_recording rs
unfolding recording_text
lines_in-recording rs range =
    let count = spaced (codes "operations" ∷ numeral (length rs) ∷ []) in
    let later = lines_of recording_grammar (map (λ r. Operation r) rs) in
    lines_in-line version_line (line count ++ later) (IsSoundGrammar-recording.no_feed VersionDue Version tt)
    ∙ ap (λ (lines : List (List ℕ)). version_line ∷ lines)
    (lines_in-line count later (IsSoundGrammar-recording.no_feed CountDue (Count (length rs)) tt)
    ∙ ap (λ (lines : List (List ℕ)). count ∷ lines) (ap lines_in (sym (append-nil later)) ∙ lines_in-operations rs [] (by_recursion IsReadable rs range.each)))

-- two of them are before those of its operations
pub header_of-recording : (rs : List Recorded) → header_of (recording_text rs) ≡ 2
unfolding recording_text
header_of-recording rs = refl

module _ (ops : List Stamped) where
  -- an operation that stands at a place
  stands-in : (place : ℕ) (o : Stamped) → StandsAt ops place o → IsPlaceIn ops place
  stands-in place o stands = (stands.from_one, omega (arith, stands.from_one, slice_get_within ops (place - 1) o stands.there))

  one : (place : ℕ) → IsPlaceIn ops place → (places : List ℕ) → All (IsPlaceIn ops) places → All (IsPlaceIn ops) (place ∷ places)
  one place is places all = All-cons (IsPlaceIn ops) place places is all

  only : (place : ℕ) → IsPlaceIn ops place → All (IsPlaceIn ops) (place ∷ [])
  only place is = one place is [] (All-nil (IsPlaceIn ops))

  -- the places of what stays
  held-in : (from until : ℕ) (held : Held) → IsHeld ops from until held → All (IsPlaceIn ops) (places_held held)
  held-in from until (Value push take) is = one push (stands-in push is.pushing is.push_stands) (take ∷ []) (only take (stands-in take is.taking is.take_stands))
  held-in from until (Left places) is = All-weaker (IsLeft ops from) (IsPlaceIn ops) (λ place left. stands-in place left.operation left.stands) places.items is.each

  there-in : (from until : ℕ) (held : Held) → IsThere ops from until held → All (IsPlaceIn ops) (places_held held)
  there-in from until (Value push take) is = one push (stands-in push is.pushing is.push_stands) (take ∷ []) (only take (stands-in take is.taking is.take_stands))
  there-in from until (Left places) is = All-weaker (IsLeft ops from) (IsPlaceIn ops) (λ place left. stands-in place left.operation left.stands) places.items is.each

  spans-in : (spans : List Span) → All (λ span. IsHeld ops span.first span.last span.held) spans → All (IsPlaceIn ops) (flat_map (λ span. places_held span.held) spans)
  spans-in [] all = All-nil (IsPlaceIn ops)
  spans-in (span ∷ spans) all =
      let Holds = λ (span : Span). IsHeld ops span.first span.last span.held in
      All-append (IsPlaceIn ops) (places_held span.held) (flat_map (λ span. places_held span.held) spans)
      (held-in span.first span.last span.held (All-head Holds span spans all)) (spans-in spans (All-tail Holds span spans all))

-- the places of a reason are those of operations
pub places-in : (ops : List Stamped) (reason : Reason) → IsReason ops reason → All (IsPlaceIn ops) (places_of reason)
places-in ops (Shape place) is = only ops place (stands-in ops place is.0 is.1)
places-in ops (Spans place) is = only ops place (stands-in ops place is.0 is.1)
places-in ops (Reply place) is = only ops place (stands-in ops place is.0 is.1)
places-in ops (Sooner place others) is =
    one ops place (stands-in ops place is.operation is.stands) others.items
    (All-weaker (IsOfValue ops is.value) (IsPlaceIn ops) (λ place of. stands-in ops place of.operation of.stands) others.items is.others_too)
places-in ops (Order place push held) is =
    one ops place (stands-in ops place is.operation is.stands) (push ∷ places_held held)
    (one ops push (stands-in ops push is.pushing is.push_stands) (places_held held) (held-in ops is.pushing.first is.time held is.stays))
places-in ops (Full place spans) is =
    one ops place (stands-in ops place is.operation is.stands) (flat_map (λ span. places_held span.held) spans.items) (spans-in ops spans.items is.each)
places-in ops (Late place other) is =
    one ops place (stands-in ops place is.operation is.stands) (other ∷ []) (only ops other (stands-in ops other is.evidence is.other_stands))
places-in ops (Twice place other) is =
    one ops place (stands-in ops place is.operation is.stands) (other ∷ []) (only ops other (stands-in ops other is.one is.other_stands))
places-in ops (Unshut place) is = only ops place (stands-in ops place is.operation is.stands)
places-in ops (Undrained place held) is =
    one ops place (stands-in ops place is.operation is.stands) (places_held held) (there-in ops is.from is.until held is.stays)
places-in ops (Stuck place others) is =
    one ops place (stands-in ops place is.stands.0 is.stands.1) others.items
    (All-weaker (IsPlace ops) (IsPlaceIn ops) (λ other at. stands-in ops other at.operation at.stands) others.items is.others_stand)
