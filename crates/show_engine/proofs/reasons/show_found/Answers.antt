-- What is drawn is of the history that was read, and of what was found of it.
use Rattle.placing.specs.Answers.{IsAnswer, HasCause}
use Rattle.show_engine.proofs.ToldFound.{begins_found, draws_found}
use Rattle.show_engine.proofs.reasons.show_found.Goals as goal

pub returns-clause-ok : goal.returns-clause-ok
returns-clause-ok g c =
    let given = c.in_ok-given.given in
    let history = given.history.items in
    let found = c.in_ok-found.found in
    let answers : IsAnswer history found = rw c.deref.ensures.value at c.in_ok-found.ensures.answer in
    let cause : HasCause history c.args.room found = rw c.deref.ensures.value at c.in_ok-found.ensures.cause in
    draws_found c.args.view (g.R.Source.state c.args.reader.now).left given.text.items history found c.args.room (g.W.Sink.state c.args.writer.now)
    (g.W.Sink.state c.draw_found.new.writer) c.draw_found.result
    c.in_ok-given.ensures.ok answers cause (rw (c.deref-2.ensures.value, c.deref-3.ensures.value) at c.draw_found.ensures.ok)

pub returns-clause-prefix : goal.returns-clause-prefix
returns-clause-prefix g c =
    let given = c.in_ok-given.given in
    let history = given.history.items in
    let found = c.in_ok-found.found in
    let answers : IsAnswer history found = rw c.deref.ensures.value at c.in_ok-found.ensures.answer in
    let cause : HasCause history c.args.room found = rw c.deref.ensures.value at c.in_ok-found.ensures.cause in
    begins_found c.args.view (g.R.Source.state c.args.reader.now).left given.text.items history found c.args.room (g.W.Sink.state c.args.writer.now)
    (g.W.Sink.state c.draw_found.new.writer) c.draw_found.result
    c.in_ok-given.ensures.ok answers cause (rw (c.deref-2.ensures.value, c.deref-3.ensures.value) at c.draw_found.ensures.prefix)
