-- The seats of the new queue are those of the roles.
use Rattle.std.proofs.Common.{◌≡◌, ◌∙◌, ℕ, ◌+◌, ◌<◌, ◌≤◌, ap, sym, subst, map}
use mathlib.Core.List.{map-map}
use Rattle.std.proofs.lemmas.Result.{IfOk-weaker}
use Rattle.history.specs.Seats.{MayPop}
use Rattle.node_arena.specs.Plans.{permits_by}
use Rattle.value_queue.specs.ValuesSeen.{known_by}
use Rattle.picked.specs.Values.{permits_of, IsQueueSeat}
use Rattle.shared_queue.specs.Handles.{sender_seat, receiver_seat}
use Rattle.post_office.specs.Offices.{office_queue, AreOf}
use Rattle.post_office.specs.Roles.{office_roles, newcomers}
use Rattle.post_office.proofs.Dealing.{desks_are, known_senders, known_receivers, only_takers}
use Rattle.post_office.proofs.new_offices.PostOffice+ValueQueue+T.open.Goals as goal

pub new-requires-2-after_bounds : goal.new-requires-2-after_bounds
new-requires-2-after_bounds g c κs within =
    let made = c.in_ok-queue in
    let given = c.deref.ensures in
    let roles = c.in_ok-roles.ensures.roles in
    let same : c.deref.result.now ≡ office_roles c.args.senders c.args.receivers = cc in
    desks_are IsQueueSeat permits_of known_by made.queue c.args.senders c.args.receivers (made.ensures.permits ∙ ap permits_by same)
    made.seats.items made.ensures.seats made.ensures.unused c.in_ok-desks.desks c.in_ok-desks.ensures.desks c.in_ok-desks.ensures.many

pub returns-clause-senders : goal.returns-clause-senders
returns-clause-senders g c =
    let made = c.in_ok-queue in
    let given = c.deref.ensures in
    let roles = c.in_ok-roles.ensures.roles in
    let same : c.deref.result.now ≡ office_roles c.args.senders c.args.receivers = cc in
    let all = known_senders IsQueueSeat permits_of known_by made.queue c.args.senders c.args.receivers (made.ensures.permits ∙ ap permits_by same)
    made.seats.items made.ensures.seats made.ensures.unused c.in_ok-desks.desks c.in_ok-desks.ensures.desks c.in_ok-desks.ensures.many in
    IfOk-weaker c.new-2.result (λ r. map sender_seat r.1.items ≡ c.in_ok-desks.desks.senders.items) (λ r. map (λ h. known_by (sender_seat h)) r.1.items ≡ newcomers 1 c.args.senders)
    (λ r e. sym (map-map known_by sender_seat r.1.items) ∙ ap (map known_by) e ∙ all) c.new-2.ensures.senders

pub returns-clause-receivers : goal.returns-clause-receivers
returns-clause-receivers g c =
    let made = c.in_ok-queue in
    let given = c.deref.ensures in
    let roles = c.in_ok-roles.ensures.roles in
    let same : c.deref.result.now ≡ office_roles c.args.senders c.args.receivers = cc in
    let all = known_receivers IsQueueSeat permits_of known_by made.queue c.args.senders c.args.receivers (made.ensures.permits ∙ ap permits_by same)
    made.seats.items made.ensures.seats made.ensures.unused c.in_ok-desks.desks c.in_ok-desks.ensures.desks c.in_ok-desks.ensures.many in
    IfOk-weaker c.new-2.result (λ r. map receiver_seat r.2.items ≡ c.in_ok-desks.desks.receivers.items)
    (λ r. map (λ h. known_by (receiver_seat h)) r.2.items ≡ newcomers (c.args.senders + 1) c.args.receivers)
    (λ r e. sym (map-map known_by receiver_seat r.2.items) ∙ ap (map known_by) e ∙ all) c.new-2.ensures.receivers

pub returns-clause-takers : goal.returns-clause-takers
returns-clause-takers g c =
    let made = c.in_ok-queue in
    let given = c.deref.ensures in
    let roles = c.in_ok-roles.ensures.roles in
    let same : c.deref.result.now ≡ office_roles c.args.senders c.args.receivers = cc in
    let only = only_takers IsQueueSeat permits_of known_by made.queue c.args.senders c.args.receivers (made.ensures.permits ∙ ap permits_by same) in
    IfOk-weaker c.new-2.result (λ r. AreOf made.queue r.0 r.1.items r.2.items) (λ r. (n : ℕ) → MayPop (permits_of (office_queue r.0)) n
    → (c.args.senders < n) × (n ≤ c.args.senders + c.args.receivers))
    (λ r of n may. only n (subst (λ q. MayPop (permits_of q) n) of.office may)) c.new-2.ensures.queue
