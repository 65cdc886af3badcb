use Rattle.std.proofs.Common.{◌∙◌, map, length, subst, sym}
use Rattle.msq_c.specs.NewShares.{AreNewOf, share_at}
use Rattle.msq_c.proofs.NewShares.{not_filled}
use Rattle.msq_c.proofs.new_shares.create.Goals as goal

pub returns-in-Ok-clause-made : goal.returns-in-Ok-clause-made
returns-in-Ok-clause-made g c =
    subst (λ hs. AreNewOf g.C.NewQueue.is_new c.args.kind c.args.capacity c.args.limit (length c.args.slots.now) (map (share_at g.H.Slot.own) hs))
    (sym (c.hand_over.ensures ∙ c.deref_mut.ensures.value)) c.in-Ok.ensures.made

pub returns-in-Err-clause-refused : goal.returns-in-Err-clause-refused
returns-in-Err-clause-refused g c = not_filled g.H.Slot.holds c.args.kind c.args.capacity c.args.limit c.args.slots.now c.in-Err.refusal c.if-not-all_are_empty.ensures c.in-Err.ensures.refused
