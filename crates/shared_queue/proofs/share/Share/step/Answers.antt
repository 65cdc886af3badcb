-- The seat is its queue's by its type, before each access and after it.
use Rattle.std.proofs.Common.{◌∙◌, refl}
use Rattle.shared_queue.specs.Steps.{from_here, rests}
use Rattle.shared_queue.proofs.Shares.{share_in, share_stays}
use Rattle.shared_queue.proofs.Stepping.{goes_on, comes}
use Rattle.shared_queue.proofs.share.Share.step.Goals as goal

pub loop-init : goal.loop-init
loop-init g c = record { queue = refl; number = refl; goes = from_here }

pub make-seen-requires-after_bounds : goal.make-seen-requires-after_bounds
make-seen-requires-after_bounds g c κs within = share_in g.met.C.Carrier.seat_prop c.deref.result.now c.loop.self c.deref.ensures

pub invariant_of-self : goal.invariant_of-self
invariant_of-self g c =
    record { sits = share_stays g.met.C.Carrier.seat_prop c.deref.result.now c.loop.self c.deref.ensures c.make-seen.new.seat c.make-seen.ensures.seat c.make-seen.ensures.number }

pub returns-in_default : goal.returns-in_default
returns-in_default g c = record {
  queue = c.loop.invariant.queue;
  number = c.make-seen.ensures.number ∙ c.loop.invariant.number;
  steps = comes _ _ _ _ _ c.loop.invariant.goes _ c.access-due.ensures _ _ _ c.make-seen.ensures.makes _ _ c.make-seen.ensures.call c.advance.ensures.call _ c.advance.ensures.act _;
}

pub loop-preserved : goal.loop-preserved
loop-preserved g c = record {
  queue = c.loop.invariant.queue;
  number = c.make-seen.ensures.number ∙ c.loop.invariant.number;
  goes = goes_on _ _ _ _ _ c.loop.invariant.goes _ c.access-due.ensures _ _ _ c.make-seen.ensures.makes _ _ c.make-seen.ensures.call c.advance.ensures.call _ c.advance.ensures.act _ c.in-GoOn.is;
}

pub returns-clause-steps : goal.returns-clause-steps
returns-clause-steps g c = rests c.loop.invariant.goes
