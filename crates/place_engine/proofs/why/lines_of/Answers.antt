use Rattle.std.proofs.Common.{◌≡◌, ◌++◌, ◌∷◌, [], ◌∙◌, ap, sym, map}
use Rattle.std.proofs.lemmas.List.{append_assoc, map-append}
use Rattle.recording_text.specs.RecordingReading.{bytes_of}
use Rattle.place_engine.specs.WhyTexts.{lines_in}
use Rattle.place_engine.proofs.Lines.{lines_in-line, lines_in-rest}
use Rattle.place_engine.proofs.why.lines_of.Goals as goal

pub loop-line-preserved : goal.loop-line-preserved
loop-line-preserved c =
    let found = c.in-Some.ensures in
    let rest : lines_in c.loop-line.rest.now ≡ c.in-Some.line.now ∷ lines_in c.in-Some.later.now = ap lines_in found.1 ∙ lines_in-line c.in-Some.line.now c.in-Some.later.now found.0 in
    let lines : map bytes_of c.push.new.self.items ≡ map bytes_of c.loop-line.lines.items ++ c.in-Some.line.now ∷ [] =
    ap (map bytes_of) c.in_ok-push.ensures.items ∙ map-append bytes_of c.loop-line.lines.items (c.in-Some.line ∷ []) in
    c.loop-line.invariant ∙ ap (λ later. map bytes_of c.loop-line.lines.items ++ later) rest
    ∙ sym (append_assoc (map bytes_of c.loop-line.lines.items) (c.in-Some.line.now ∷ []) (lines_in c.in-Some.later.now))
    ∙ ap (λ lines. lines ++ lines_in c.in-Some.later.now) (sym lines)

pub returns : goal.returns
returns c =
    let rest : lines_in c.loop-line.rest.now ≡ c.loop-line.rest.now ∷ [] = lines_in-rest c.loop-line.rest.now c.in_default.ensures in
    let lines : map bytes_of c.push-2.new.self.items ≡ map bytes_of c.loop-line.lines.items ++ c.loop-line.rest.now ∷ [] =
    ap (map bytes_of) c.in_ok-push-2.ensures.items ∙ map-append bytes_of c.loop-line.lines.items (c.loop-line.rest ∷ []) in
    lines ∙ ap (λ later. map bytes_of c.loop-line.lines.items ++ later) (sym rest) ∙ sym c.loop-line.invariant
