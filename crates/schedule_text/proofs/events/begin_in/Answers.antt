use Rattle.schedule_text.specs.declared.schedules.Event.TheVariants.{Begin}
use Rattle.schedule_text.proofs.events.begin_in.Goals as goal

pub returns : goal.returns
returns c =
    let actor = c.in_ok-actor.ensures in
    let call = c.in_ok-call.ensures in
    (Begin actor.0 call.0, (call.1.0, cc (actor.1, call.1.1)), c.begin_of.ensures actor.0 call.0 actor.2 call.2)
