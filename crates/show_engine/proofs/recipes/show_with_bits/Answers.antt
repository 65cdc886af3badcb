use Rattle.std.proofs.Common.{refl, ap, ◌∙◌}
use Rattle.std.proofs.lemmas.Result.{err_from_is_err_and}
use Rattle.run_engine.specs.declared.counts.RunExtent.{RunExtent}
use Rattle.expand_engine.proofs.AnsweredRecipes.{AnswersOf-ended, AnswersOf-telling, AnswersOf-unmade}
use Rattle.show_engine.specs.PicturesWritten.{the_picture}
use Rattle.show_engine.proofs.Shown.{framed_as, picture_due}
use Rattle.show_engine.proofs.recipes.show_with_bits.Goals as goal

pub returns-in_err-counted : goal.returns-in_err-counted
returns-in_err-counted g c =
    let p = err_from_is_err_and c.from_residual.result c.from_residual.ensures.1 in
    rw p.1 (AnswersOf-unmade (the_picture c.args.view) _ (g.W.Sink.state c.args.writer.now) _ c.in_err-counted.field-0.0 p.0 p.2 c.in_err-counted.ensures.memory refl)

pub returns-in_err-draw : goal.returns-in_err-draw
returns-in_err-draw g c =
    let p = err_from_is_err_and c.from_residual-in_err-draw.result c.from_residual-in_err-draw.ensures.1 in
    let e = c.args.expansion.now in
    let s = e.schedule in
    let a = g.W.Sink.state c.args.writer.now in
    let b = g.W.Sink.state c.draw.new.writer in
    let counted = c.in_ok-counted.counted in
    let count = c.in_ok-counted.ensures.ok in
    let made = c.requires.made in
    let frame_is = framed_as c.args.view _ s c.of-frame.result c.of-frame.ensures.frame c.schedule.view_is in
    let due = picture_due c.args.view s c.of-frame.result counted frame_is count g.row.B c.requires.bits in
    let refuses = ap (λ (r : RunExtent). r.refusal) c.in_ok-counted.ensures.same ∙ made.refusal in
    let tells = c.in_err-draw.ensures count.run.world count.run.led count.run.steps in
    rw p.1 (AnswersOf-telling (the_picture c.args.view) e counted.run count.run refuses made.fault _ due a b _ c.in_err-draw.field-0.0 p.0 p.2 tells)

pub returns : goal.returns
returns g c =
    let e = c.args.expansion.now in
    let s = e.schedule in
    let a = g.W.Sink.state c.args.writer.now in
    let b = g.W.Sink.state c.draw.new.writer in
    let counted = c.in_ok-counted.counted in
    let count = c.in_ok-counted.ensures.ok in
    let made = c.requires.made in
    let frame_is = framed_as c.args.view _ s c.of-frame.result c.of-frame.ensures.frame c.schedule.view_is in
    let due = picture_due c.args.view s c.of-frame.result counted frame_is count g.row.B c.requires.bits in
    let refuses = ap (λ (r : RunExtent). r.refusal) c.in_ok-counted.ensures.same ∙ made.refusal in
    let tells = c.in_ok-draw.ensures count.run.world count.run.led count.run.steps in
    AnswersOf-ended (the_picture c.args.view) e counted.run count.run refuses made.fault _ due a b _ c.refuse.result c.refuse.ensures tells.ok tells.quiet
