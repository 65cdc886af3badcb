use Rattle.std.proofs.Common.{sym, ◌∙◌}
use Rattle.step_machine.specs.Machine.{actor_of}
use Rattle.run_engine.proofs.Told.{line_in_either, line_in_step}
use Rattle.run_engine.proofs.events.make_step.Goals as goal

pub returns-in-Went-clause-at : goal.returns-in-Went-clause-at
returns-in-Went-clause-at g c =
    let w = c.args.world.now in
    let me = c.args.actor in
    sym (line_in_step w me (actor_of w me) c.in_ok-line.field-0 c.in_ok-line.ensures.told) ∙ line_in_either _ c.in-Went.line c.in-Went.is

pub returns-in-Went-2-clause-at : goal.returns-in-Went-2-clause-at
returns-in-Went-2-clause-at g c =
    let w = c.args.world.now in
    let me = c.args.actor in
    sym (line_in_step w me (actor_of w me) c.in_ok-line.field-0 c.in_ok-line.ensures.told) ∙ line_in_either _ c.in-Went.line c.in-Went.is
