use Rattle.tasks.proofs.Rounds.{serves_same, serves_sent, serves_unsent}
use Rattle.tasks.proofs.worker.serve_one.Goals as goal

pub returns-in-Err-clause-served : goal.returns-in-Err-clause-served
returns-in-Err-clause-served g c = serves_same g.T.Task.answers _ _ _ c.in-Err.ensures.none

pub returns-in-Ok-send-clause-served : goal.returns-in-Ok-send-clause-served
returns-in-Ok-send-clause-served g c =
    let C = g.C.Carrier in
    let D = g.D.Carrier in
    let p = c.args.post.now in
    serves_sent g.T.Task.answers (C.known p.taker) (C.known c.take.new.seat) (D.known p.giver) (D.known c.send.new.seat) c.in-Ok.front c.run.result
    c.in-Ok.ensures.taken c.run.ensures c.take.ensures.number c.in-Ok-send.ensures.sent

pub returns-in-Err-send-clause-served : goal.returns-in-Err-send-clause-served
returns-in-Err-send-clause-served g c =
    let C = g.C.Carrier in
    let D = g.D.Carrier in
    let p = c.args.post.now in
    serves_unsent g.T.Task.answers (C.known p.taker) (C.known c.take.new.seat) (D.known p.giver) (D.known c.send.new.seat) c.in-Ok.front c.run.result
    c.in-Ok.ensures.taken c.run.ensures c.in-Err-send.unsendable c.in-Err-send.ensures.sent
