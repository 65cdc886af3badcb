use Rattle.placing.specs.Answers.{IsAnswer, HasCause}
use Rattle.place_engine.proofs.Saying.{says}
use Rattle.place_engine.proofs.engine.place_text.Goals as goal

pub returns-clause-ok : goal.returns-clause-ok
returns-clause-ok g c =
    let given = c.in_ok-given.given in
    let history = given.history.items in
    let answers : IsAnswer history c.in_ok-found.found = rw c.deref.ensures.value at c.in_ok-found.ensures.answer in
    let cause : HasCause history c.args.room c.in_ok-found.found = rw c.deref.ensures.value at c.in_ok-found.ensures.cause in
    record {
      text = given.text.items;
      operations = history;
      history = c.in_ok-given.ensures.ok;
      answers = answers;
      cause = cause;
      right = says history c.in_ok-found.found answers;
      written = rw c.deref-3.ensures.value at c.in_ok-tell.ensures.ok;
    }

pub returns-clause-overlap : goal.returns-clause-overlap
returns-clause-overlap g c =
    (c.in_ok-given.given.text.items, c.in_ok-given.ensures.ok.read, rw c.deref-2.ensures.value at c.in_ok-overlap.ensures.ok)
