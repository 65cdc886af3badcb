use Rattle.std.proofs.Common.{◌-◌, ◌^◌, ◌∙◌, refl, ap, subst, sym}
use Rattle.std.proofs.lemmas.Result.{IfOk-weaker}
use Rattle.ring_queue.specs.declared.roles.Role.TheVariants.{Giver, Taker}
use Rattle.ring_queue.specs.NewRings.{IsMade}
use Rattle.ring_queue.specs.Plans.{permit_of, permits_by}
use Rattle.ring_queue.specs.Queues.{IsNumberSeat, permits_in}
use Rattle.ring_queue.specs.Seats.{known_of}
use Rattle.job_engine.specs.Crews.{ring_crew_roles}
use Rattle.job_engine.proofs.NewSeats.{crew-new, map-crew_of}
use Rattle.job_engine.proofs.crews.results_by_ring.Goals as goal

pub results_over-requires-clause-crew : goal.results_over-requires-clause-crew
results_over-requires-clause-crew g c κs within =
    let made = c.in_ok-queue in
    let roles = c.deref.ensures.value ∙ c.in_ok-roles.ensures.roles in
    crew-new IsNumberSeat permits_in known_of made.queue made.seats.items c.args.workers (permit_of Taker) (permit_of Giver) refl refl
    (made.ensures.permits ∙ ap permits_by roles ∙ map-crew_of permit_of Taker Giver c.args.workers) made.ensures.seats made.ensures.unused

pub returns-clause-over : goal.returns-clause-over
returns-clause-over g c =
    let made = c.in_ok-queue in
    let roles = c.deref.ensures.value ∙ c.in_ok-roles.ensures.roles in
    IfOk-weaker c.results_over.result _ _ (λ r same. (
      made.seats.items,
      subst (λ q. IsMade c.args.values (2 ^ 62 - 1) (ring_crew_roles c.args.workers) q made.seats.items) (sym same)
          (subst (λ rs. IsMade c.args.values (2 ^ 62 - 1) rs made.queue made.seats.items) roles made.ensures.ok),
    )) c.results_over.ensures.same
