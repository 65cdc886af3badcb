use Rattle.std.proofs.Common.{◌≡◌, ◌∙◌, ap}
use Rattle.schedule_text.specs.Schedules.{Schedule}
use Rattle.show_engine.proofs.Shown.{effects_whole}
use Rattle.show_engine.proofs.counts.count.Goals as goal

pub returns-in_ok-effects-in-None-clause-ok : goal.returns-in_ok-effects-in-None-clause-ok
returns-in_ok-effects-in-None-clause-ok g c =
    let items : c.deref.result.now ≡ c.args.schedule.now.events = c.deref.ensures.value ∙ ap (λ (s : Schedule). s.events) c.schedule.view_is in
    let run = rw (items, c.in_ok-world.ensures.ok) at c.in_ok-run.ensures.ok in
    let whole = rw (items, c.in_ok-world.ensures.ok) at (c.in_ok-run.ensures.whole c.in-None.is) in
    record { run = run; effects = effects_whole c.args.schedule.now _ run _ _ c.in_ok-effects-in-None.ensures.ok c.in-None.is whole }

pub count_again-requires-clause-run : goal.count_again-requires-clause-run
count_again-requires-clause-run g c =
    let items : c.deref.result.now ≡ c.args.schedule.now.events = c.deref.ensures.value ∙ ap (λ (s : Schedule). s.events) c.schedule.view_is in
    rw (items, c.in_ok-world.ensures.ok) at c.in_ok-run.ensures.ok
