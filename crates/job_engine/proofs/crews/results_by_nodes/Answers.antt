use Rattle.std.proofs.Common.{◌-◌, ◌^◌, ◌∙◌, refl, ap}
use Rattle.std.proofs.lemmas.Result.{IfOk-weaker}
use Rattle.counted_ref.specs.Ref.{count_bits}
use Rattle.node_arena.specs.declared.roles.Role.TheVariants.{Giver, Taker}
use Rattle.node_arena.specs.Plans.{permit_of, permits_by}
use Rattle.node_arena.specs.NewArenas.{plan}
use Rattle.node_arena.specs.Seats.{known_of, plan_of}
use Rattle.picked.specs.Picked.{IsAnySeat, any_permits_of, any_arena_of}
use Rattle.job_engine.proofs.NewSeats.{crew-new, map-crew_of}
use Rattle.job_engine.proofs.crews.results_by_nodes.Goals as goal

pub results_over-requires-clause-crew : goal.results_over-requires-clause-crew
results_over-requires-clause-crew g c κs within =
    let made = c.in_ok-queue in
    let roles = c.deref.ensures.value ∙ c.in_ok-roles.ensures.roles in
    crew-new IsAnySeat any_permits_of known_of made.queue made.seats.items c.args.workers (permit_of Taker) (permit_of Giver) refl refl
    (made.ensures.permits ∙ ap permits_by roles ∙ map-crew_of permit_of Taker Giver c.args.workers) made.ensures.seats made.ensures.unused

pub returns-clause-over : goal.returns-clause-over
returns-clause-over g c =
    let roles = c.deref.ensures.value ∙ c.in_ok-roles.ensures.roles in
    IfOk-weaker c.results_over.result _ _ (λ r same. ap (λ q. plan_of (any_arena_of q)) same ∙ c.in_ok-queue.ensures.ok.plan ∙ ap
    (plan 24 c.args.kind c.args.nodes (2 ^ count_bits 24 - 1)) roles) c.results_over.ensures.same
