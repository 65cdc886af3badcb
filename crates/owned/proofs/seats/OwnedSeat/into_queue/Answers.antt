use Rattle.std.proofs.Common.{ap, sym}
use Rattle.owned.proofs.SeatShares.{all_sit}
use Rattle.owned.proofs.seats.OwnedSeat.into_queue.Goals as goal

pub returns-in-Ok-clause-sit : goal.returns-in-Ok-clause-sit
returns-in-Ok-clause-sit g c = all_sit c.args.others.items c.args.self c.without_shares-seats.result.items c.without_shares-seats.ensures
    g.met.C.Carrier.seat_prop c.in-Ok.queue (sym c.in-Ok.ensures.ok) c.requires.others

pub returns-in-Err-clause-back : goal.returns-in-Err-clause-back
returns-in-Err-clause-back g c =
    let same = ap (λ s. s.value) c.in-Err.ensures.err in (
      same,
      c.without_shares-seats.ensures,
      all_sit c.args.others.items c.args.self c.without_shares-seats.result.items c.without_shares-seats.ensures
          g.met.C.Carrier.seat_prop c.in-Err.queue.value (sym same) c.requires.others,
    )
