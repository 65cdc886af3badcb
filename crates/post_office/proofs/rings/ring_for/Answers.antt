-- The new ring permits what the roles of an office do.
use Rattle.std.proofs.Common.{◌≡◌, ◌∙◌, ap}
use Rattle.ring_queue.specs.Plans.{permits_by}
use Rattle.post_office.specs.Roles.{ring_roles_for}
use Rattle.post_office.proofs.RingRoles.{permits_alike}
use Rattle.post_office.proofs.rings.ring_for.Goals as goal

pub returns-clause-permits : goal.returns-clause-permits
returns-clause-permits g c =
    let same : c.deref.result.now ≡ ring_roles_for c.args.senders c.args.receivers = let given = c.deref.ensures in let roles = c.in_ok-roles.ensures.roles in cc in
    c.in_ok-ring.ensures.permits ∙ ap permits_by same ∙ permits_alike c.args.senders c.args.receivers

pub returns-clause-sized : goal.returns-clause-sized
returns-clause-sized g c = c.in_ok-ring.ensures.ok.full_at ∙ c.max-most.ensures
