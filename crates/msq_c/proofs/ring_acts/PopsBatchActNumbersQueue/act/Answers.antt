use Rattle.std.proofs.Common.{◌∙◌, sym}
use Rattle.carriers.specs.Numbers.{fifo_of}
use Rattle.msq_c.proofs.AtOnce.{tells_pop}
use Rattle.msq_c.proofs.ring_acts.PopsBatchActNumbersQueue.act.Goals as goal

pub returns-clause-told : goal.returns-clause-told
returns-clause-told c = let e = c.try_pop_up_to-answer.ensures in tells_pop c.in-Second-Second.ring c.in-Second-Second.seat c.try_pop_up_to-answer.new.seat (fifo_of c.args.queue.now) c.args.seat.now
    (sym c.queue.ensures ∙ c.in-Second-Second.is-0) c.in-Second-Second.is-1 c.args.self.turns c.args.self.most c.args.self.into.items c.try_pop_up_to-answer.new.into.items c.try_pop_up_to-answer.result
    c.requires.asked.none e.popped e.refused e.refusal e.caused
