use Rattle.std.proofs.Common.{◌∙◌, refl}
use Rattle.tasks.proofs.Rounds.{serves_none, serves_on}
use Rattle.tasks.proofs.worker.serve.Goals as goal

pub loop-init : goal.loop-init
loop-init g c = record { can = tt; finite = tt; post = c.requires; taker = refl; giver = refl; served = serves_none g.T.Task.answers _ _ }

pub loop-preserved : goal.loop-preserved
loop-preserved g c =
    let C = g.C.Carrier in
    let D = g.D.Carrier in
    let was = c.loop.invariant in
    record {
      can = tt;
      finite = tt;
      post = c.serve_one.ensures.post;
      taker = c.serve_one.ensures.taker ∙ was.taker;
      giver = c.serve_one.ensures.giver ∙ was.giver;
      served = serves_on g.T.Task.answers (C.known c.args.post.taker) (C.known c.loop.post.taker) (C.known c.serve_one.new.post.taker)
          (D.known c.args.post.giver) (D.known c.loop.post.giver) (D.known c.serve_one.new.post.giver) _ was.taker was.giver was.served
          c.in-Ok.ensures.served;
    }

pub returns-in-Err-clause-served : goal.returns-in-Err-clause-served
returns-in-Err-clause-served g c =
    let C = g.C.Carrier in
    let D = g.D.Carrier in
    let was = c.loop.invariant in
    record {
      post = c.serve_one.ensures.post;
      taker_number = c.serve_one.ensures.taker ∙ was.taker;
      giver_number = c.serve_one.ensures.giver ∙ was.giver;
      served = serves_on g.T.Task.answers (C.known c.args.post.taker) (C.known c.loop.post.taker) (C.known c.serve_one.new.post.taker)
          (D.known c.args.post.giver) (D.known c.loop.post.giver) (D.known c.serve_one.new.post.giver) _ was.taker was.giver was.served
          c.in-Err.ensures.served;
    }

pub returns-in-Err-clause-ended : goal.returns-in-Err-clause-ended
returns-in-Err-clause-ended g c = record { last = c.loop.post; post = c.loop.invariant.post; ends = c.in-Err.ensures.ended }
