use Rattle.std.proofs.Common.{subst, sym, ◌∙◌}
use Rattle.msq_c.specs.WordMade.{AreAsked}
use Rattle.msq_c.proofs.word_queues.create.Goals as goal

pub returns-clause-made : goal.returns-clause-made
returns-clause-made g c = subst (AreAsked g.H.Slot.holds g.H.Slot.own c.args.kind c.args.nodes c.args.limit c.args.roles.now)
    (sym (c.hand_over.ensures ∙ c.deref_mut.ensures.value)) c.in_ok-handles.ensures.made
