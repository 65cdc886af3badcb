use Rattle.msq_c.specs.NewShares.{AreNewOf}
use Rattle.msq_c.proofs.NewShares.{sealed_new, sealed_many}
use Rattle.msq_c.proofs.new_shares.handles_of.Goals as goal

pub returns-clause-made : goal.returns-clause-made
returns-clause-made g c = sealed_new g.H.Slot.holds g.H.Slot.own (λ b. b.share) (λ v. v.items) (λ b. b.value) c.in_ok-boxes.boxes.items c.in_ok-shares.shares.items c.in_ok-boxes.ensures.boxes
    (AreNewOf g.C.NewQueue.is_new c.args.kind c.args.capacity c.args.limit c.args.count) c.sealed.result c.in_ok-shares.ensures.made c.sealed.ensures.put

pub returns-clause-len : goal.returns-clause-len
returns-clause-len g c = sealed_many g.H.Slot.holds g.H.Slot.own (λ b. b.share) (λ v. v.items) (λ b. b.value) c.in_ok-boxes.boxes.items c.in_ok-shares.shares.items c.in_ok-boxes.ensures.boxes
    c.args.count c.sealed.result c.in_ok-shares.ensures.len c.sealed.ensures.len
