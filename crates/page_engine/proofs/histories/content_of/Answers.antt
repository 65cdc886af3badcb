use Rattle.std.proofs.Common.{◌≡◌, ◌∙◌, ap, ◌++◌, List, [], ℕ}
use Rattle.std.specs.Prelude.{unwrap_or}
use Rattle.text_io.specs.Devices.{SinkState}
use Rattle.placing.specs.Answers.{IsAnswer, HasCause}
use Rattle.place_engine.proofs.Saying.{says}
use Rattle.page_engine.proofs.histories.content_of.Goals as goal

-- what is kept where nothing was, and then more, is both
both : (none first all text more : List ℕ) → none ≡ [] → first ≡ none ++ text → all ≡ first ++ more → all ≡ text ++ more
both none first all text more empty kept told = told ∙ ap (λ l. l ++ more) (kept ∙ ap (λ l. l ++ text) empty)

pub returns-in-Ok-clause-found : goal.returns-in-Ok-clause-found
returns-in-Ok-clause-found c =
    let given = c.args.given.now in
    let found = c.in_ok-found.found in
    let answers : IsAnswer given.history.items found = rw c.deref.ensures.value at c.in_ok-found.ensures.answer in
    let cause : HasCause given.history.items c.args.room found = rw c.deref.ensures.value at c.in_ok-found.ensures.cause in
    record {
      answer = found;
      answers = answers;
      cause = cause;
      right = says given.history.items found answers;
      told = both _ _ _ given.text.items _ (ap (λ (s : SinkState). unwrap_or s.contents []) c.new-kept.ensures)
          (rw c.deref-2.ensures.value at c.in_ok-put.ensures.kept) (rw c.deref-3.ensures.value at c.in-Ok.ensures.ok);
    }
