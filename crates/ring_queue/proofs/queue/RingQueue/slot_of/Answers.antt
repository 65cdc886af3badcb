use Rattle.std.proofs.Common.{◌-◌, bit_and, ap, ◌∙◌}
use Rattle.std.proofs.Props.{props}
use Rattle.std.proofs.Math.Logic.{∥∥₁_elim}
use Rattle.ring_queue.specs.declared.queue.RingQueue.{RingQueue}
use Rattle.ring_queue.proofs.Bits.{mask_of}
use Rattle.ring_queue.proofs.queue.RingQueue.slot_of.Goals as goal

pub returns-clause-value : goal.returns-clause-value
returns-clause-value g c =
    ap (λ (q : RingQueue _). bit_and c.args.place (q.plan.slots - 1)) c.self.view_is ∙ ∥∥₁_elim c.args.self.now.laid.planned.power (hlevel props) (λ h. mask_of _ _ h.0 h.1)
