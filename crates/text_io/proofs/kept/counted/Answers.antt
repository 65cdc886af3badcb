use Rattle.std.proofs.Common.{◌≡◌, ◌≤◌, ℕ, List, [], ◌∷◌, sym, ap, ◌∙◌}
use Rattle.text_io.specs.Lines.{spaced, words_of}
use Rattle.text_io.specs.Numerals.{numeral}
use Rattle.text_io.proofs.Splits.{spaced-words_of}
use Rattle.text_io.proofs.ReadingBack.{ReadsLine-kept, two_words}
use Rattle.text_io.proofs.kept.counted.Goals as goal

pub returns : goal.returns
returns c =
    let line : List ℕ = c.args.line.now in
    let label : List ℕ = c.args.label.now in
    rw c.kept_or_range.ensures
    (ReadsLine-kept (λ v. v) (λ n. words_of line ≡ label ∷ numeral n ∷ []) (λ n. line ≡ spaced (label ∷ numeral n ∷ [])) (λ n. n ≤ c.args.most)
    (λ n there. sym (spaced-words_of line) ∙ ap spaced there) (λ n said. ap words_of said ∙ two_words label n c.requires)
    c.counted_in.result (rw c.of.ensures at c.counted_in.ensures))
