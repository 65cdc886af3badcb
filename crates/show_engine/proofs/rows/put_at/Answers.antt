use Rattle.std.proofs.Common.{◌≡◌, ◌-◌, ◌++◌, ap, ◌∙◌, List, ℕ, take, length, replicate}
use Rattle.std.proofs.lemmas.List.{take_min}
use Rattle.show_engine.specs.Rows.{padded}
use Rattle.show_engine.proofs.Truncations.{put_over}
use Rattle.show_engine.proofs.rows.put_at.Goals as goal

pub returns-clause-text : goal.returns-clause-text
returns-clause-text c = λ whole is.
    let line = c.args.line.now in
    let text = c.args.text.now in
    let room = c.args.room in
    let column = c.args.column in
    let spaces : c.push_spaces.new.line ≡ padded column line =
    c.push_spaces.ensures.text ∙ ap (λ (k : ℕ). line ++ replicate k 32) (c.saturating_sub.ensures ∙ ap (λ (l : List ℕ). column - length l) c.as_slice.ensures) in
    c.push.ensures.bytes
    ∙ ap (λ (k : ℕ). c.push_spaces.new.line ++ take k text) c.min.ensures
    ∙ ap (λ (l : List ℕ). c.push_spaces.new.line ++ l) (take_min (room - length c.as_slice-2.result.now) text)
    ∙ ap (λ (l : List ℕ). c.push_spaces.new.line ++ take (room - length l) text) c.as_slice-2.ensures
    ∙ ap (λ (l : List ℕ). l ++ take (room - length l) text) spaces
    ∙ put_over room column whole text line c.requires.column is
