-- The lines that tell the operations of a reason as the text says them, and what is written with them or without.
use Rattle.std.specs.Prelude.{ℕ, ◌+◌, ◌-◌, ◌==◌, ◌≤◌, length, map, nat_le, Bool, if◌then◌else◌, List, [], ◌∷◌, ◌++◌, slice_get, codes, decimal}
use Rattle.std.specs.List.{flat_map, slice_split}
use Rattle.std.specs.Option.{option_map_or}
use Rattle.text_io.specs.Lines.{line, spaced}
use Rattle.text_io.specs.Numerals.{numeral}
use Rattle.history.specs.declared.operations.Stamped.{Stamped}
use Rattle.recording_text.specs.Recordings.{Recorded}
use Rattle.recording_text.specs.RecordingLines.{operation_words, version_line}
use Rattle.placing.specs.declared.answers.Held.{Held}
use Rattle.placing.specs.declared.answers.Held.TheVariants.{Value, Left}
use Rattle.placing.specs.declared.answers.Reason.{Reason}
use Rattle.placing.specs.declared.answers.Reason.TheVariants.{Shape, Span as Spans, Reply, Sooner, Order, Full, Late, Twice, Unshut, Undrained, Stuck}
use Rattle.placing.specs.declared.answers.Placed.{Placed}
use Rattle.placing.specs.declared.answers.Placed.TheVariants.{History, Impossible, Open}
use Rattle.place_engine.specs.Given.{header_of}
use Rattle.history_text.specs.HistoryText.{history_text}
use Rattle.place_engine.specs.FoundTexts.{no_text, open_text}
use Rattle.place_engine.specs.GivenParts.{given_part}

-- the places of the operations by which a value stays: its push and the take that began later, or pushes
abbrev pub places_held : Held → List ℕ
places_held (Value push take) = push ∷ take ∷ []
places_held (Left places) = places.items

-- the places of the operations of a reason: that which it is of, and the others
abbrev pub places_of : Reason → List ℕ
places_of (Shape place) = place ∷ []
places_of (Spans place) = place ∷ []
places_of (Reply place) = place ∷ []
places_of (Sooner place others) = place ∷ others.items
places_of (Order place push held) = place ∷ push ∷ places_held held
places_of (Full place spans) = place ∷ flat_map (λ span. places_held span.held) spans.items
places_of (Late place other) = place ∷ other ∷ []
places_of (Twice place other) = place ∷ other ∷ []
places_of (Unshut place) = place ∷ []
places_of (Undrained place held) = place ∷ places_held held
places_of (Stuck place others) = place ∷ others.items

-- the lines of a text: what stands between its line feeds
abbrev pub lines_in : List ℕ → List (List ℕ)
lines_in text = slice_split (λ b. b == 10) text

-- the line of this number, from 1, with the number before it; nothing where there is no such line
abbrev pub numbered_line : List (List ℕ) → ℕ → List ℕ
numbered_line lines number = option_map_or (λ says. decimal number ++ codes " " ++ line says) (slice_get lines (number - 1)) []

-- the line of the text that is held at this place, from 1, with the place before it; nothing where there is none
abbrev pub held_line : (held : List (List ℕ)) (place : ℕ) → List ℕ
held_line held place = option_map_or (λ text. codes "held " ++ (decimal place ++ codes " " ++ line text)) (slice_get held (place - 1)) []

-- the line of the operation at a place: of the first, what is held, and of the others their line of a text, behind so many
abbrev pub told_line : (held lines : List (List ℕ)) (header place : ℕ) → List ℕ
told_line held lines header place =
    if nat_le place (length held) then held_line held place else numbered_line lines (place - length held + header)

-- the lines of a text that say the operations of a reason, each with its number, and what is held of them
unfoldable pub why_text : (held : List (List ℕ)) → List ℕ → Reason → List ℕ
why_text held text reason = flat_map (λ place. told_line held (lines_in text) (header_of text) place) (places_of reason)

-- the line that tells a reason, and, where they are asked for, those of its operations
abbrev pub reason_text : (held : List (List ℕ)) (why : Bool) (text : List ℕ) → Reason → List ℕ
reason_text held why text reason = no_text (length held) reason ++ (if why then why_text held text reason else [])

-- the text that tells what is found of a text, of a queue that holds these at the start: the given operations with points, or a
-- line, behind a reason with those of its operations, where they are asked for
abbrev pub answer_text : (held : List (List ℕ)) (why : Bool) (text : List ℕ) → Placed → List ℕ
answer_text held why text (History new) = history_text (given_part (length held) new.items)
answer_text held why text (Impossible reason) = reason_text held why text reason
answer_text held why text (Open cause) = open_text cause

-- what the lines of a recording say: its first two, those of its operations, and nothing behind the last line feed
abbrev pub lines_of_recording : List Recorded → List (List ℕ)
lines_of_recording rs =
    version_line ∷ spaced (codes "operations" ∷ numeral (length rs) ∷ []) ∷ map (λ r. spaced (operation_words r)) rs ++ [] ∷ []

-- a place is one of a list, counted from 1
abbrev pub IsPlaceIn : List Stamped → ℕ → Type 0
IsPlaceIn ops place = (1 ≤ place) × (place ≤ length ops)
