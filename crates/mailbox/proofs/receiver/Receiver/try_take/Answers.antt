use Rattle.mailbox.proofs.Order.{in_order, in_order-after, in_order-then}
use Rattle.mailbox.proofs.receiver.Receiver.try_take.Goals as goal

pub returns-then-has_lost-clause-order : goal.returns-then-has_lost-clause-order
returns-then-has_lost-clause-order g c = in_order _ _ (g.met.Q.Fifo.sound _ _ c.requires.office.seat) c.requires.office.only

pub returns-in_err-front-clause-order : goal.returns-in_err-front-clause-order
returns-in_err-front-clause-order g c = in_order-after _ (g.Q.Fifo.known c.args.self.now.seat) _ c.try_pop.ensures.number c.requires.office.only (g.met.Q.Fifo.sound _ _ c.try_pop.ensures.seat)

pub returns-in_default-clause-order : goal.returns-in_default-clause-order
returns-in_default-clause-order g c = in_order-after _ (g.Q.Fifo.known c.args.self.now.seat) _ c.try_pop.ensures.number c.requires.office.only (g.met.Q.Fifo.sound _ _ c.try_pop.ensures.seat)

pub returns-in_err-letter-clause-order : goal.returns-in_err-letter-clause-order
returns-in_err-letter-clause-order g c =
    in_order-then g.Q.Fifo.known _ c.args.self.now.seat _ _ c.open.ensures.seat c.try_pop.ensures.number c.requires.office.only (g.met.Q.Fifo.sound _ _ c.try_pop.ensures.seat)

pub returns-clause-order : goal.returns-clause-order
returns-clause-order g c = in_order-then g.Q.Fifo.known _ c.args.self.now.seat _ _ c.open.ensures.seat c.try_pop.ensures.number c.requires.office.only (g.met.Q.Fifo.sound _ _ c.try_pop.ensures.seat)
