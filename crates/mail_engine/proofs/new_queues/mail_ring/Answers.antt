use Rattle.std.proofs.Common.{arith, ◌≡◌, ◌∙◌, ◌-◌, ◌^◌, ap, subst, ◌∷◌, ◌++◌, []}
use Rattle.std.proofs.lemmas.Grind.{common_steps}
use Rattle.ring_queue.specs.Plans.{permits_by}
use Rattle.ring_queue.specs.NewRings.{IsMade}
use Rattle.ring_queue.specs.Queues.{IsNumberSeat, permits_in}
use Rattle.ring_queue.specs.Seats.{known_of}
use Rattle.mail_engine.specs.Rows.{givers_and_taker, IsMailRing}
use Rattle.mail_engine.proofs.Rows.{opened, permits_by-ring}
use Rattle.mail_engine.proofs.new_queues.mail_ring.Goals as goal

pub returns-clause-opened : goal.returns-clause-opened
returns-clause-opened c =
    let row : permits_in c.in_ok-queue.queue ≡ givers_and_taker c.args.senders =
    c.in_ok-queue.ensures.permits ∙ ap permits_by (c.deref.ensures.value ∙ c.in_ok-roles.ensures.roles) ∙ permits_by-ring c.args.senders in
    let whole : c.in_ok-queue.seats.items ≡ c.pop.new.self.items ++ c.in-Some.receiver ∷ [] = grind (arith, common_steps) in
    opened IsNumberSeat permits_in known_of c.args.senders c.in_ok-queue.queue c.in_ok-queue.seats.items c.pop.new.self.items c.in-Some.receiver
    row whole c.in_ok-queue.ensures.unused c.in_ok-queue.ensures.seats

pub returns-clause-made : goal.returns-clause-made
returns-clause-made c =
    let roles = c.deref.ensures.value ∙ c.in_ok-roles.ensures.roles in
    let whole : c.in_ok-queue.seats.items ≡ c.pop.new.self.items ++ c.in-Some.receiver ∷ [] = grind (arith, common_steps) in
    subst (IsMailRing c.args.values c.args.senders c.in_ok-queue.queue) whole
    (subst (λ rs. IsMade c.args.values (2 ^ 62 - 1) rs c.in_ok-queue.queue c.in_ok-queue.seats.items) roles c.in_ok-queue.ensures.ok)
