use Rattle.std.proofs.Common.{◌≡◌, ◌∙◌, ◌+◌, ◌<◌, ap, arith}
use Rattle.node_arena.specs.Plans.{permits_by}
use Rattle.value_queue.specs.Queues.{IsQueueSeat, permits_of}
use Rattle.value_queue.specs.ValuesSeen.{known_by}
use Rattle.tasks.specs.Roles.{line_roles}
use Rattle.tasks.proofs.FedSeats as made_by
use Rattle.tasks.proofs.new_pools.line.Goals as goal

pub returns-clause-line : goal.returns-clause-line
returns-clause-line g c =
    let made = c.in_ok-queue in
    let given = c.deref.ensures in
    let roles = c.in_ok-roles.ensures.roles in
    let same : c.deref.result.now ≡ line_roles c.args.workers = cc in
    let some : 0 < c.args.workers + 1 = omega arith in
    made_by.line IsQueueSeat permits_of known_by made.queue made.seats.items (c.args.workers + 1) (made.ensures.permits ∙ ap permits_by same) made.ensures.seats made.ensures.unused some

pub returns-clause-many : goal.returns-clause-many
returns-clause-many g c =
    let made = c.in_ok-queue in
    let given = c.deref.ensures in
    let roles = c.in_ok-roles.ensures.roles in
    let same : c.deref.result.now ≡ line_roles c.args.workers = cc in
    made_by.many IsQueueSeat permits_of known_by made.queue made.seats.items (c.args.workers + 1) (made.ensures.permits ∙ ap permits_by same) made.ensures.seats made.ensures.unused
