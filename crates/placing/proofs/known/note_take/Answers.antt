use Rattle.placing.proofs.Pushed.{takes_one}
use Rattle.placing.proofs.known.note_take.Goals as goal

pub returns : goal.returns
returns c =
    takes_one c.args.values.now c.insert.new.self c.args.operation.now c.in-Some.value c.number-body.result c.number-body.ensures.value c.in-Some.ensures.value
    c.in_ok-insert.ensures.updates.0
