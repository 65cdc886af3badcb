use Rattle.show_engine.proofs.Shown.{effects_again}
use Rattle.show_engine.proofs.counts.count_again.Goals as goal

pub returns-clause-ok : goal.returns-clause-ok
returns-clause-ok g c =
    let run = c.requires.run in
    record { run = run; effects = effects_again c.args.schedule.now _ run _ _ c.in_ok-effects.ensures.ok c.in_ok-world.ensures.ok }
