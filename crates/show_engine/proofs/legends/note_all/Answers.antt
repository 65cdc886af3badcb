use Rattle.std.proofs.Common.{ap, refl}
use Rattle.std.specs.Prelude.{replicate}
use Rattle.std.proofs.lemmas.List.{drop_all}
use Rattle.schedule_text.specs.Schedules.{moves_of}
use Rattle.show_engine.proofs.Noted.{HasNoted-all, HasNoted-none, noted_event}
use Rattle.show_engine.proofs.legends.note_all.Goals as goal

pub loop-event-init : goal.loop-event-init
loop-event-init g c = HasNoted-none c.args.frame c.args.world.now c.args.lines.now.items (moves_of c.args.events.now) _ refl

pub loop-event-preserved : goal.loop-event-preserved
loop-event-preserved g c =
    let one = c.moves_in-one in
    noted_event c.args.frame c.args.world.now c.args.lines.now.items c.args.events.now c.loop-event.event-index c.event-item.result
    (replicate one.result.1 one.result.0) c.loop-event.world _ c.loop-event.lines.items _
    c.loop-event-test.true c.event-item.is one.ensures.moves c.loop-event.invariant c.in_ok-note_moves.ensures.ok c.in_ok-note_moves.ensures.lines

pub returns-clause-lines : goal.returns-clause-lines
returns-clause-lines g c =
    HasNoted-all c.args.frame c.args.world.now c.args.lines.now.items (moves_of c.args.events.now) c.loop-event.world c.loop-event.lines.items _ c.loop-event.invariant
    (ap moves_of (drop_all c.loop-event.event-index c.args.events.now c.loop-event-test.false))
