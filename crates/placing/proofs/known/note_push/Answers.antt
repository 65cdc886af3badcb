use Rattle.placing.proofs.Pushed.{notes_first, notes_again}
use Rattle.placing.proofs.known.note_push.Goals as goal

pub returns-then-added : goal.returns-then-added
returns-then-added c =
    notes_first c.args.seen.now c.insert.new.self c.args.again.now c.args.operation.now c.in-Some.value c.number-body.result c.in_ok-added.added
    c.number-body.ensures.value c.in-Some.ensures.value c.in_ok-added.ensures.added c.in_ok-added.ensures.updates.0 c.if-added.true

pub returns : goal.returns
returns c =
    notes_again c.args.seen.now c.insert.new.self c.args.again.now c.insert-2.new.self c.args.operation.now c.in-Some.value c.number-body.result
    c.number-body.ensures.value c.in-Some.ensures.value c.in_ok-added.ensures.updates.0 c.in_ok-insert.ensures.updates.0
