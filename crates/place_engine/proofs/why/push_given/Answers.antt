use Rattle.std.proofs.Common.{◌≡◌, ◌++◌, ◌-◌, ◌∙◌, Some, ap, subst, sym, map}
use Rattle.std.specs.Prelude.{slice_get, OnOk}
use Rattle.std.proofs.lemmas.Option.{slice_get-get_or}
use Rattle.recording_text.specs.RecordingReading.{bytes_of}
use Rattle.place_engine.specs.WhyTexts.{numbered_line}
use Rattle.place_engine.proofs.Lines.{numbered_line-there}
use Rattle.place_engine.proofs.why.push_given.Goals as goal

pub returns : goal.returns
returns c =
    let at = c.in-Some-get.ensures.lookup in
    let found : slice_get c.args.lines.now (c.in-Some.number - 1) ≡ Some c.in-Some-get.says.now =
    subst (λ i. slice_get c.args.lines.now i ≡ Some c.in-Some-get.says.now) c.saturating_sub.ensures
    (slice_get-get_or c.args.lines.now c.saturating_sub.result c.in-Some-get.says.now at.3.0 ∙ ap Some (sym at.1)) in
    let there = numbered_line-there c.args.lines.now c.in-Some.number c.in-Some-get.says.now found in
    subst (λ text. OnOk c.push_numbered.result (c.push_numbered.new.into.items ≡ c.args.into.now.items ++ text))
    (sym there ∙ ap (numbered_line (map bytes_of c.args.lines.now)) c.in-Some.ensures.1) c.push_numbered.ensures
