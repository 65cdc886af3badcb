use Rattle.std.proofs.Common.{◌∙◌, refl}
use Rattle.tasks.proofs.Going.{goes_same, goes_on}
use Rattle.tasks.proofs.leader.lead_on.Goals as goal

pub loop-init : goal.loop-init
loop-init g c =
    let C = g.C.Carrier in
    let D = g.D.Carrier in
    record { can = tt; finite = tt; goes = goes_same C.is_seat C.permits C.known D.is_seat D.permits D.known g.T.Task.answers g.F.Feed.stands _ _ _ c.requires; kept = refl }

pub loop-preserved : goal.loop-preserved
loop-preserved g c =
    let C = g.C.Carrier in
    let D = g.D.Carrier in
    record {
      can = tt;
      finite = tt;
      goes = goes_on C.is_seat C.permits C.known D.is_seat D.permits D.known g.T.Task.answers g.F.Feed.stands _ _ _ _ _
          c.loop.invariant.goes c.turn.ensures.leading;
      kept = c.turn.ensures.kept ∙ c.loop.invariant.kept;
    }
