use Rattle.std.proofs.Common.{◌≡◌, ◌∙◌, ap}
use Rattle.node_arena.specs.Plans.{permits_by}
use Rattle.value_queue.specs.Queues.{IsQueueSeat, permits_of}
use Rattle.value_queue.specs.ValuesSeen.{known_by}
use Rattle.tasks.specs.Roles.{pool_roles}
use Rattle.tasks.proofs.NewCrews.{many, crew_of}
use Rattle.tasks.proofs.new_queues.pool_queue.Goals as goal

pub returns-clause-crew : goal.returns-clause-crew
returns-clause-crew g c =
    let made = c.in_ok-queue in
    let given = c.deref.ensures in
    let roles = c.in_ok-roles.ensures.roles in
    let same : c.deref.result.now ≡ pool_roles c.args.workers = cc in
    crew_of IsQueueSeat permits_of known_by made.queue made.seats.items c.args.workers (made.ensures.permits ∙ ap permits_by same) made.ensures.seats made.ensures.unused

pub returns-clause-many : goal.returns-clause-many
returns-clause-many g c =
    let made = c.in_ok-queue in
    let given = c.deref.ensures in
    let roles = c.in_ok-roles.ensures.roles in
    let same : c.deref.result.now ≡ pool_roles c.args.workers = cc in
    many IsQueueSeat permits_of known_by made.queue made.seats.items c.args.workers (made.ensures.permits ∙ ap permits_by same) made.ensures.seats made.ensures.unused
