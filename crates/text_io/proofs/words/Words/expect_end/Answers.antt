use Rattle.std.proofs.Common.{refl, ◌∙◌}
use Rattle.text_io.proofs.Splits.{words_of_some}
use Rattle.text_io.proofs.words.Words.expect_end.Goals as goal

pub returns-in-Some-clause-err : goal.returns-in-Some-clause-err
returns-in-Some-clause-err c = (refl, λ none. words_of_some c.in-Some.field-0.now ((rw c.in-Some.is at c.self.view_is) ∙ none))
