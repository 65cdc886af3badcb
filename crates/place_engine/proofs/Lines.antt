-- The lines of a text, and one with its number.
use Rattle.std.proofs.Common.{◌≡◌, ◌≢◌, ◌==◌, ◌+◌, ◌-◌, ◌<◌, ◌≤◌, if◌then◌else◌, arith, length, sym, ◌∙◌, ℕ, List, [], ◌∷◌, ◌++◌, Option, Some, Bor, ap, map, option_map, refl, codes, decimal, false}
use Rattle.std.specs.Prelude.{slice_get}
use Rattle.std.specs.Option.{option_map_or}
use Rattle.std.proofs.lemmas.Bool.{ne_eqb, eq-eqb, le-leb, lt-leb}
use Rattle.std.proofs.lemmas.List.{append_assoc, length-map}
use Rattle.std.proofs.lemmas.List.Elements.{All-weaker}
use Rattle.std.proofs.lemmas.List.Splits.{slice_split_at, slice_split_none}
use Rattle.std.proofs.lemmas.Option.{slice_get-map}
use Rattle.text_io.specs.Lines.{HasNo, line}
use Rattle.recording_text.specs.RecordingReading.{bytes_of}
use Rattle.place_engine.specs.WhyTexts.{held_line, lines_in, numbered_line, told_line}

-- the first line, and then those of what follows it
pub lines_in-line : (says later : List ℕ) → HasNo 10 says → lines_in (line says ++ later) ≡ says ∷ lines_in later
lines_in-line says later none =
    ap lines_in (append_assoc says (10 ∷ []) later)
    ∙ slice_split_at (λ b. b == 10) says 10 later (All-weaker (λ b. b ≢ 10) (λ b. (b == 10) ≡ false) (λ b h. ne_eqb b 10 h) says none) (eq-eqb 10 10 refl)

-- what has no line feed is one line
pub lines_in-rest : (rest : List ℕ) → HasNo 10 rest → lines_in rest ≡ rest ∷ []
lines_in-rest rest none =
    slice_split_none (λ b. b == 10) rest (All-weaker (λ b. b ≢ 10) (λ b. (b == 10) ≡ false) (λ b h. ne_eqb b 10 h) rest none)

-- a line that is there, with its number
pub numbered_line-there : (lines : List (Bor (List ℕ))) (number : ℕ) (says : Bor (List ℕ)) → slice_get lines (number - 1) ≡ Some says
    → numbered_line (map bytes_of lines) number ≡ decimal number ++ codes " " ++ line says.now
numbered_line-there lines number says there =
    ap (λ (o : Option (List ℕ)). option_map_or (λ says. decimal number ++ codes " " ++ line says) o [])
    (slice_get-map bytes_of lines (number - 1) ∙ ap (option_map bytes_of) there)

-- what is held at a place, with the place
pub held_line-there : (held : List (Bor (List ℕ))) (place : ℕ) (text : Bor (List ℕ)) → slice_get held (place - 1) ≡ Some text
    → held_line (map bytes_of held) place ≡ codes "held " ++ (decimal place ++ codes " " ++ line text.now)
held_line-there held place text there =
    ap (λ (o : Option (List ℕ)). option_map_or (λ text. codes "held " ++ (decimal place ++ codes " " ++ line text)) o [])
    (slice_get-map bytes_of held (place - 1) ∙ ap (option_map bytes_of) there)

-- the line that is told at a place: of what is held, and of an operation
pub told_line-held : (held : List (Bor (List ℕ))) (lines : List (List ℕ)) (header place : ℕ) → place ≤ length held
    → held_line (map bytes_of held) place ≡ told_line (map bytes_of held) lines header place
told_line-held held lines header place low =
    let long = length-map held bytes_of in
    ap (λ b. if b then held_line (map bytes_of held) place else numbered_line lines (place - length (map bytes_of held) + header))
    (sym (le-leb place (length (map bytes_of held)) (omega (arith, low, long))))

pub told_line-given : (held : List (Bor (List ℕ))) (lines : List (List ℕ)) (header place : ℕ) → length held < place
    → numbered_line lines (place - length held + header) ≡ told_line (map bytes_of held) lines header place
told_line-given held lines header place high =
    let long = length-map held bytes_of in
    ap (λ count. numbered_line lines (place - count + header)) (sym long)
    ∙ ap (λ b. if b then held_line (map bytes_of held) place else numbered_line lines (place - length (map bytes_of held) + header))
    (sym (lt-leb place (length (map bytes_of held)) (omega (arith, high, long))))
