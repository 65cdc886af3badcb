use Rattle.std.proofs.Common.{◌≡◌, ◌++◌, ◌-◌, ◌∙◌, Some, ap, subst, sym}
use Rattle.std.specs.Prelude.{slice_get, OnOk}
use Rattle.std.proofs.lemmas.Option.{slice_get-get_or}
use Rattle.place_engine.proofs.Lines.{held_line-there}
use Rattle.place_engine.proofs.why.push_held_line.Goals as goal

pub returns : goal.returns
returns c =
    let at = c.in-Some.ensures.lookup in
    let found : slice_get c.args.held.now (c.args.place - 1) ≡ Some c.in-Some.text.now =
    subst (λ i. slice_get c.args.held.now i ≡ Some c.in-Some.text.now) c.saturating_sub.ensures
    (slice_get-get_or c.args.held.now c.saturating_sub.result c.in-Some.text.now at.3.0 ∙ ap Some (sym at.1)) in
    subst (λ text. OnOk c.push_held_text.result (c.push_held_text.new.into.items ≡ c.args.into.now.items ++ text))
    (sym (held_line-there c.args.held.now c.args.place c.in-Some.text.now found)) c.push_held_text.ensures
