use Rattle.std.proofs.Common.{refl}
use Rattle.std.proofs.lemmas.Result.{err_from_is_err_and}
use Rattle.run_engine.proofs.Answered.{Answers-counted, Answers-telling, Answers-unmade}
use Rattle.show_engine.specs.PicturesWritten.{the_picture}
use Rattle.show_engine.proofs.Shown.{framed_as, picture_due}
use Rattle.show_engine.proofs.engine.show_with_bits.Goals as goal

pub returns-in_err-counted : goal.returns-in_err-counted
returns-in_err-counted g c =
    let p = err_from_is_err_and c.from_residual.result c.from_residual.ensures.1 in
    rw p.1 (Answers-unmade (the_picture c.args.view) _ (g.W.Sink.state c.args.writer.now) _ c.in_err-counted.field-0.0 p.0 p.2 c.in_err-counted.ensures.memory refl)

pub returns-in_err-draw : goal.returns-in_err-draw
returns-in_err-draw g c =
    let p = err_from_is_err_and c.from_residual-in_err-draw.result c.from_residual-in_err-draw.ensures.1 in
    let s = c.args.schedule.now in
    let a = g.W.Sink.state c.args.writer.now in
    let b = g.W.Sink.state c.draw.new.writer in
    let counted = c.in_ok-counted.counted in
    let count = c.in_ok-counted.ensures.ok in
    let frame_is = framed_as c.args.view _ s c.of-frame.result c.of-frame.ensures.frame c.schedule.view_is in
    let due = picture_due c.args.view s c.of-frame.result counted frame_is count g.row.B c.requires.bits in
    let tells = c.in_err-draw.ensures count.run.world count.run.led count.run.steps in
    rw p.1 (Answers-telling (the_picture c.args.view) s counted.run count.run _ due a b _ c.in_err-draw.field-0.0 p.0 p.2 tells)

pub returns : goal.returns
returns g c =
    let s = c.args.schedule.now in
    let a = g.W.Sink.state c.args.writer.now in
    let b = g.W.Sink.state c.draw.new.writer in
    let counted = c.in_ok-counted.counted in
    let count = c.in_ok-counted.ensures.ok in
    let frame_is = framed_as c.args.view _ s c.of-frame.result c.of-frame.ensures.frame c.schedule.view_is in
    let due = picture_due c.args.view s c.of-frame.result counted frame_is count g.row.B c.requires.bits in
    let tells = c.in_ok-draw.ensures count.run.world count.run.led count.run.steps in
    Answers-counted (the_picture c.args.view) s counted.run count.run _ due a b _ c.refuse_at.result c.refuse_at.ensures tells.ok tells.quiet
