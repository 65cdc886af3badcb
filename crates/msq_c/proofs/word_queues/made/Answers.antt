use Rattle.msq_c.proofs.WordMade.{made_if}
use Rattle.msq_c.proofs.word_queues.made.Goals as goal

pub returns-clause-made : goal.returns-clause-made
returns-clause-made g c z u = made_if g.H.Slot.holds g.H.Slot.own c.sealed.result (λ v. v.items) (λ b. b.value) c.in_ok-boxes.boxes.items c.args.owned.items c.in_ok-boxes.ensures.boxes z u
    c.sealed.ensures.put
