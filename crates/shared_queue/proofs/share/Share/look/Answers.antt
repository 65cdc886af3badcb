-- The seat is its queue's by its type.
use Rattle.std.proofs.Common.{sym, subst}
use Rattle.shared_queue.proofs.Shares.{share_in, share_stays}
use Rattle.shared_queue.proofs.share.Share.look.Goals as goal

pub look-requires : goal.look-requires
look-requires g c =
    subst (λ q. g.C.Carrier.is_seat q c.args.self.now.seat) (sym c.queue.ensures) (share_in g.met.C.Carrier.seat_prop c.deref.result.now c.args.self.now c.deref.ensures).0

pub invariant_of-self : goal.invariant_of-self
invariant_of-self g c =
    let here = subst (λ q. g.C.Carrier.is_seat q c.look.new.seat) c.queue.ensures c.look.ensures.seat in
    record { sits = share_stays g.met.C.Carrier.seat_prop c.deref.result.now c.args.self.now c.deref.ensures c.look.new.seat here c.look.ensures.number }
