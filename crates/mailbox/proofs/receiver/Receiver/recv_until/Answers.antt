use Rattle.mailbox.proofs.Order.{in_order, in_order-after, in_order-then}
use Rattle.mailbox.proofs.receiver.Receiver.recv_until.Goals as goal

pub returns-then-has_lost-clause-order : goal.returns-then-has_lost-clause-order
returns-then-has_lost-clause-order g c = in_order _ _ (g.met.Q.Fifo.sound _ _ c.requires.office.seat) c.requires.office.only

pub returns-in_err-front-clause-order : goal.returns-in_err-front-clause-order
returns-in_err-front-clause-order g c = in_order-after _ (g.Q.Fifo.known c.args.self.now.seat) _ c.recv_until.ensures.number c.requires.office.only (g.met.Q.Fifo.sound _ _ c.recv_until.ensures.seat)

pub returns-in_err-open-in-Done-clause-order : goal.returns-in_err-open-in-Done-clause-order
returns-in_err-open-in-Done-clause-order g c =
    in_order-then g.Q.Fifo.known _ c.args.self.now.seat _ _ c.open.ensures.seat c.recv_until.ensures.number c.requires.office.only (g.met.Q.Fifo.sound _ _ c.recv_until.ensures.seat)

pub returns-in_ok-open-in-Done-clause-order : goal.returns-in_ok-open-in-Done-clause-order
returns-in_ok-open-in-Done-clause-order g c =
    in_order-then g.Q.Fifo.known _ c.args.self.now.seat _ _ c.open.ensures.seat c.recv_until.ensures.number c.requires.office.only (g.met.Q.Fifo.sound _ _ c.recv_until.ensures.seat)

pub returns-in-Late-clause-order : goal.returns-in-Late-clause-order
returns-in-Late-clause-order g c = in_order-after _ (g.Q.Fifo.known c.args.self.now.seat) _ c.recv_until.ensures.number c.requires.office.only (g.met.Q.Fifo.sound _ _ c.recv_until.ensures.seat)
