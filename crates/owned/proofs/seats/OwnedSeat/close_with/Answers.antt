use Rattle.std.proofs.Common.{subst, map, sym}
use Rattle.carriers.specs.Ends.{ClosesOf}
use Rattle.owned.specs.Owned.{queue_of}
use Rattle.owned.proofs.SeatShares.{all_known}
use Rattle.owned.proofs.seats.OwnedSeat.close_with.Goals as goal

pub close_with-requires-clause-asked : goal.close_with-requires-clause-asked
close_with-requires-clause-asked g c =
    subst (λ q. g.C.CloseCarrier.asks q (map g.C.Carrier.known c.in_ok-queue.seats.items)) (sym c.in_ok-queue.ensures.queue)
    (subst (g.C.CloseCarrier.asks (queue_of c.args.self))
    (sym (all_known c.args.others.items c.args.self c.in_ok-queue.seats.items c.in_ok-queue.ensures.seats g.C.Carrier.known)) c.requires.asked)

pub returns-clause-rest : goal.returns-clause-rest
returns-clause-rest g c =
    subst (λ ks. ClosesOf (g.C.Carrier.permits (queue_of c.args.self)) ks c.close_with.result.0)
    (all_known c.args.others.items c.args.self c.in_ok-queue.seats.items c.in_ok-queue.ensures.seats g.C.Carrier.known)
    (subst (λ q. ClosesOf (g.C.Carrier.permits q) (map g.C.Carrier.known c.in_ok-queue.seats.items) c.close_with.result.0) c.in_ok-queue.ensures.queue c.close_with.ensures.rest)
