use Rattle.std.proofs.Common.{refl, ◌∙◌}
use Rattle.std.proofs.lemmas.Result.{err_from_is_err_and}
use Rattle.schedule_text.specs.declared.schedules.Event.TheVariants.{Steps}
use Rattle.schedule_text.proofs.Absent.{no_steps}
use Rattle.schedule_text.proofs.events.steps_in.Goals as goal

pub returns-in_err-count : goal.returns-in_err-count
returns-in_err-count c =
    let p = err_from_is_err_and c.from_residual-in_err-count.result c.from_residual-in_err-count.ensures.1 in
    let actor = c.in_ok-actor.ensures in
    λ v. rw p.1 (p.2 ∙ c.in_err-count.ensures.0, no_steps v _ _ actor.0 actor.1 c.in_err-count.ensures.1)

pub returns : goal.returns
returns c =
    let actor = c.in_ok-actor.ensures in
    let count = c.in_ok-count.ensures in
    λ v. (Steps actor.0 count.0, (tt, rw (actor.1, count.1, c.in_ok-expect_end.ensures.ok) refl), c.steps_of.ensures actor.0 count.0 actor.2 count.2)
