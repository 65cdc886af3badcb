use Rattle.std.proofs.Common.{bit_and, sym, ap, ◌∙◌}
use Rattle.std.proofs.Props.{props}
use Rattle.std.proofs.Math.Logic.{∥∥₁_elim}
use Rattle.ring_queue.specs.declared.queue.RingQueue.{RingQueue}
use Rattle.ring_queue.proofs.Bits.{parity_even, parity_odd}
use Rattle.ring_queue.proofs.queue.RingQueue.parity_of.Goals as goal

pub returns-then-place-self-eq0 : goal.returns-then-place-self-eq0
returns-then-place-self-eq0 g c =
    let same = ap (λ (q : RingQueue _). bit_and c.args.place q.plan.slots) c.self.view_is in
    ∥∥₁_elim c.args.self.now.laid.planned.power (hlevel props) (λ h. parity_even _ _ h.0 h.1 (sym same ∙ c.if-place-self-eq0.true))

pub returns-else-place-self-eq0 : goal.returns-else-place-self-eq0
returns-else-place-self-eq0 g c =
    let same = ap (λ (q : RingQueue _). bit_and c.args.place q.plan.slots) c.self.view_is in
    ∥∥₁_elim c.args.self.now.laid.planned.power (hlevel props) (λ h. parity_odd _ _ h.0 h.1 (λ z. c.if-place-self-eq0.false (same ∙ z)))
