use Rattle.std.proofs.Common.{arith, ◌≡◌, ◌∙◌, ap, subst, ◌∷◌, ◌++◌, []}
use Rattle.std.proofs.lemmas.Grind.{common_steps}
use Rattle.node_arena.specs.Plans.{permits_by}
use Rattle.node_arena.specs.Seats.{known_of}
use Rattle.arena_queue.specs.Queues.{IsQueueSeat, IsQueueMade, permits_of}
use Rattle.mail_engine.specs.Rows.{giver_and_taker_roles, givers_and_taker}
use Rattle.mail_engine.proofs.Rows.{opened, permits_by-givers}
use Rattle.mail_engine.proofs.new_queues.mail_queue.Goals as goal

pub returns-clause-opened : goal.returns-clause-opened
returns-clause-opened g c =
    let row : permits_of c.in_ok-queue.queue ≡ givers_and_taker c.args.senders =
    c.in_ok-queue.ensures.permits ∙ ap permits_by (c.deref.ensures.value ∙ c.in_ok-roles.ensures.roles) ∙ permits_by-givers c.args.senders in
    let whole : c.in_ok-queue.seats.items ≡ c.pop.new.self.items ++ c.in-Some.receiver ∷ [] = grind (arith, common_steps) in
    opened IsQueueSeat permits_of known_of c.args.senders c.in_ok-queue.queue c.in_ok-queue.seats.items c.pop.new.self.items c.in-Some.receiver
    row whole c.in_ok-queue.ensures.unused c.in_ok-queue.ensures.seats

pub returns-clause-made : goal.returns-clause-made
returns-clause-made g c =
    let roles = c.deref.ensures.value ∙ c.in_ok-roles.ensures.roles in
    let whole : c.in_ok-queue.seats.items ≡ c.pop.new.self.items ++ c.in-Some.receiver ∷ [] = grind (arith, common_steps) in
    subst (IsQueueMade g.A.Algorithm.kind c.args.nodes c.args.limit (giver_and_taker_roles c.args.senders) c.in_ok-queue.queue) whole
    (subst (λ rs. IsQueueMade g.A.Algorithm.kind c.args.nodes c.args.limit rs c.in_ok-queue.queue c.in_ok-queue.seats.items) roles c.in_ok-queue.ensures.ok)
