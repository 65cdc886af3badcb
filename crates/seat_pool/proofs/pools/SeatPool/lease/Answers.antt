use Rattle.std.proofs.Common.{◌∙◌, ap}
use Rattle.seat_pool.proofs.Queues.{held_has_part}
use Rattle.seat_pool.proofs.pools.SeatPool.lease.Goals as goal

pub returns-clause-able : goal.returns-clause-able
returns-clause-able g c = held_has_part c.in_ok-held.held c.in-Ok.pool.value.home (c.in_ok-held.ensures.from.home ∙ ap (λ s. s.home) c.deref.ensures)
