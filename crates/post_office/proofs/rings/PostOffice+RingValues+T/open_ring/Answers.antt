-- The seats of the new ring are those of the roles.
use Rattle.std.proofs.Common.{◌≡◌, ◌∙◌, ℕ, ◌+◌, ◌<◌, ◌≤◌, ap, sym, subst, map}
use mathlib.Core.List.{map-map}
use Rattle.std.proofs.lemmas.Result.{IfOk-weaker}
use Rattle.std.specs.Prelude.{max}
use Rattle.history.specs.Seats.{MayPop}
use Rattle.ring_values.specs.ValuesSeen.{known_by}
use Rattle.ring_values.specs.Queues.{plan_of, permits_of, IsQueueSeat}
use Rattle.shared_queue.specs.Handles.{sender_seat, receiver_seat}
use Rattle.post_office.specs.Offices.{office_queue, AreOf}
use Rattle.post_office.specs.Roles.{newcomers}
use Rattle.post_office.proofs.Dealing.{desks_are, known_senders, known_receivers, only_takers}
use Rattle.post_office.proofs.rings.PostOffice+RingValues+T.open_ring.Goals as goal

pub new-requires-after_bounds : goal.new-requires-after_bounds
new-requires-after_bounds g c κs within =
    let made = c.in_ok-queue in
    desks_are IsQueueSeat permits_of known_by made.queue c.args.senders c.args.receivers made.ensures.permits
    made.seats.items made.ensures.seats made.ensures.unused c.in_ok-desks.desks c.in_ok-desks.ensures.desks c.in_ok-desks.ensures.many

pub returns-clause-senders : goal.returns-clause-senders
returns-clause-senders g c =
    let made = c.in_ok-queue in
    let all = known_senders IsQueueSeat permits_of known_by made.queue c.args.senders c.args.receivers made.ensures.permits
    made.seats.items made.ensures.seats made.ensures.unused c.in_ok-desks.desks c.in_ok-desks.ensures.desks c.in_ok-desks.ensures.many in
    IfOk-weaker c.new.result (λ r. map sender_seat r.1.items ≡ c.in_ok-desks.desks.senders.items) (λ r. map (λ h. known_by (sender_seat h)) r.1.items ≡ newcomers 1 c.args.senders)
    (λ r e. sym (map-map known_by sender_seat r.1.items) ∙ ap (map known_by) e ∙ all) c.new.ensures.senders

pub returns-clause-receivers : goal.returns-clause-receivers
returns-clause-receivers g c =
    let made = c.in_ok-queue in
    let all = known_receivers IsQueueSeat permits_of known_by made.queue c.args.senders c.args.receivers made.ensures.permits
    made.seats.items made.ensures.seats made.ensures.unused c.in_ok-desks.desks c.in_ok-desks.ensures.desks c.in_ok-desks.ensures.many in
    IfOk-weaker c.new.result (λ r. map receiver_seat r.2.items ≡ c.in_ok-desks.desks.receivers.items)
    (λ r. map (λ h. known_by (receiver_seat h)) r.2.items ≡ newcomers (c.args.senders + 1) c.args.receivers)
    (λ r e. sym (map-map known_by receiver_seat r.2.items) ∙ ap (map known_by) e ∙ all) c.new.ensures.receivers

pub returns-clause-takers : goal.returns-clause-takers
returns-clause-takers g c =
    let made = c.in_ok-queue in
    let only = only_takers IsQueueSeat permits_of known_by made.queue c.args.senders c.args.receivers made.ensures.permits in
    IfOk-weaker c.new.result (λ r. AreOf made.queue r.0 r.1.items r.2.items) (λ r. (n : ℕ) → MayPop (permits_of (office_queue r.0)) n → (c.args.senders < n) × (n ≤ c.args.senders + c.args.receivers))
    (λ r of n may. only n (subst (λ q. MayPop (permits_of q) n) of.office may)) c.new.ensures.queue

pub returns-clause-sized : goal.returns-clause-sized
returns-clause-sized g c =
    let made = c.in_ok-queue in
    IfOk-weaker c.new.result (λ r. AreOf made.queue r.0 r.1.items r.2.items) (λ r. (plan_of (office_queue r.0)).most ≡ max c.args.places 1)
    (λ r of. ap (λ q. (plan_of q).most) of.office ∙ made.ensures.sized) c.new.ensures.queue
