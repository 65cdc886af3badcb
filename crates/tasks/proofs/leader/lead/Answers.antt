use Rattle.std.proofs.Common.{refl}
use Rattle.tasks.proofs.Deeds.{shut_values}
use Rattle.tasks.proofs.Handing.{leads_on}
use Rattle.tasks.proofs.Going.{goes_tasks, goes_on}
use Rattle.tasks.proofs.leader.lead.Goals as goal

pub returns-clause-ended : goal.returns-clause-ended
returns-clause-ended g c =
    let C = g.C.Carrier in
    let D = g.D.Carrier in
    let l = c.lead_on-refused.new.leader in
    let goes = c.lead_on-refused.ensures.leading in
    let k = C.known l.tasks in
    let k' = C.known c.shut_or_stop-unshut.new.seat in
    let o = D.known l.results in
    let end = c.shut_or_stop-unshut.ensures in
    let same = shut_values k k' c.shut_or_stop-unshut.result end.shut in
    let last = goes_tasks C.is_seat C.permits C.known D.is_seat D.permits D.known g.T.Task.answers g.F.Feed.stands _ _ l goes.leading
    c.shut_or_stop-unshut.new.seat l.feed l.given l.awaited end.seat end.number
    (leads_on g.T.Task.answers (g.F.Feed.stands l.feed) k k' o o l.given l.awaited goes.leading.so end.number same.0 same.1 refl) in
    record {
      goes = goes_on C.is_seat C.permits C.known D.is_seat D.permits D.known g.T.Task.answers g.F.Feed.stands _ _ c.args.leader l _ goes last;
      told = c.lead_on-refused.ensures.ended;
      before = k;
      shut = end.shut;
    }
