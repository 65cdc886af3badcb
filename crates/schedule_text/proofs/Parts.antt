-- The text of a schedule, in two parts: the header, and the events.
use Rattle.std.proofs.Common.{◌≡◌, ℕ, List, [], ◌∷◌, ◌++◌, length, map, refl, sym, ap, ◌∙◌, append_assoc}
use Rattle.std.specs.List.{flat_map}
use Rattle.std.proofs.lemmas.List.Concat.{flat_map-append}
use Rattle.text_io.specs.Grammars.{lines_of}
use Rattle.schedule_text.specs.declared.schedules.Event.{Event}
use Rattle.schedule_text.specs.Schedules.{Schedule}
use Rattle.schedule_text.specs.Texts.{Said, version, queue, happens, bits_said, sizes_said, header_by, schedule_lines, header_text, event_text, schedule_text}

-- the lines of events
pub lines_of-happens : (es : List Event) → lines_of schedule_lines (map happens es) ≡ flat_map event_text es
unfolding event_text
lines_of-happens [] = refl
lines_of-happens (e ∷ es) = ap (λ rest. event_text e ++ rest) (lines_of-happens es)

-- the lines of two lists
pub lines_of-append : (xs ys : List Said) → lines_of schedule_lines (xs ++ ys) ≡ lines_of schedule_lines xs ++ lines_of schedule_lines ys
lines_of-append xs ys = flat_map-append _ xs ys

-- the text is the header's, and that of the events
pub schedule_text_parts : (s : Schedule) → schedule_text s ≡ header_text s ++ flat_map event_text s.events
unfolding schedule_text header_text
schedule_text_parts s = lines_of-append (header_by s) (map happens s.events) ∙ ap (λ rest. lines_of schedule_lines (header_by s) ++ rest) (lines_of-happens s.events)

-- the header is its first lines, the line of how many bits hold a node, and the lines of the sizes
pub header_text_parts : (s : Schedule) (count : ℕ) → count ≡ length s.events
    → (([] ++ lines_of schedule_lines (version s.version ∷ queue s.kind ∷ [])) ++ lines_of schedule_lines (bits_said s.version s.bits))
    ++ lines_of schedule_lines (sizes_said s.nodes s.limit s.actors count) ≡ header_text s
unfolding header_text
header_text_parts s count is =
    let first = version s.version ∷ queue s.kind ∷ [] in
    let bits = bits_said s.version s.bits in
    let sizes = sizes_said s.nodes s.limit s.actors in
    append_assoc (lines_of schedule_lines first) (lines_of schedule_lines bits) (lines_of schedule_lines (sizes count))
    ∙ ap (λ rest. lines_of schedule_lines first ++ rest) (sym (lines_of-append bits (sizes count))) ∙ sym (lines_of-append first (bits ++ sizes count))
    ∙ ap (λ n. lines_of schedule_lines (first ++ bits ++ sizes n)) is

-- one more line behind others
line_more : (old : List ℕ) (rs : List Said) (r : Said) → (old ++ lines_of schedule_lines rs) ++ lines_of schedule_lines (r ∷ []) ≡ old ++ lines_of schedule_lines (rs ++ r ∷ [])
line_more old rs r =
    append_assoc old (lines_of schedule_lines rs) (lines_of schedule_lines (r ∷ []))
    ∙ ap (λ (l : List ℕ). old ++ l) (sym (lines_of-append rs (r ∷ [])))

-- four lines, one after another
pub four_lines : (old : List ℕ) (a b c d : Said) → (((old ++ lines_of schedule_lines (a ∷ [])) ++ lines_of schedule_lines (b ∷ [])) ++ lines_of schedule_lines (c ∷ []))
    ++ lines_of schedule_lines (d ∷ []) ≡ old ++ lines_of schedule_lines (a ∷ b ∷ c ∷ d ∷ [])
four_lines old a b c d =
    ap (λ (l : List ℕ). (l ++ lines_of schedule_lines (c ∷ [])) ++ lines_of schedule_lines (d ∷ [])) (line_more old (a ∷ []) b)
    ∙ ap (λ (l : List ℕ). l ++ lines_of schedule_lines (d ∷ [])) (line_more old (a ∷ b ∷ []) c)
    ∙ line_more old (a ∷ b ∷ c ∷ []) d
