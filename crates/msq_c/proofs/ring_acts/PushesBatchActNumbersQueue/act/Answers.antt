use Rattle.std.proofs.Common.{◌∙◌, sym}
use Rattle.carriers.specs.Numbers.{fifo_of}
use Rattle.msq_c.proofs.AtOnce.{tells_push}
use Rattle.msq_c.proofs.ring_acts.PushesBatchActNumbersQueue.act.Goals as goal

pub returns-clause-told : goal.returns-clause-told
returns-clause-told c = let e = c.try_push_all.ensures in tells_push c.in-Second-Second.ring c.in-Second-Second.seat c.try_push_all.new.seat (fifo_of c.args.queue.now) c.args.seat.now
    (sym c.queue.ensures ∙ c.in-Second-Second.is-0) c.in-Second-Second.is-1 c.args.self.turns c.args.self.bodies.now c.try_push_all.result c.requires.asked.some e.count e.pushed e.refused e.refusal e.caused
