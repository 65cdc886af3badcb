use Rattle.std.proofs.Common.{◌≡◌, ap, subst, ◌∙◌, List, ℕ, OnErr}
use Rattle.history.specs.declared.operations.Stamped.{Stamped}
use Rattle.text_io.specs.Blocks.{TakesPrefix}
use Rattle.show_engine.specs.declared.scales.Scale.{Scale}
use Rattle.show_engine.specs.Scales.{end_of_history, scale_of}
use Rattle.show_engine.specs.Timelines.{scaled_text, timeline_text}
use Rattle.show_engine.proofs.Told.{begins_timeline}
use Rattle.show_engine.proofs.timeline.show_history.Goals as goal

pub returns-clause-prefix : goal.returns-clause-prefix
returns-clause-prefix g c =
    let a = g.W.Sink.state c.args.writer.now in
    let b = g.W.Sink.state c.write_timeline.new.writer in
    let ops = c.in_ok-history.history.items in
    let view = c.args.view in
    let last = c.end_of_history-last.result in
    let last_is : last ≡ end_of_history ops = c.end_of_history-last.ensures ∙ ap end_of_history c.deref.ensures.value in
    let same : scaled_text c.of.result last c.deref-2.result.now ≡ timeline_text view ops =
    ap (λ (s : Scale). scaled_text s last c.deref-2.result.now) c.of.ensures.scale
    ∙ ap (λ (n : ℕ). scaled_text (scale_of view n) n c.deref-2.result.now) last_is
    ∙ ap (λ (listed : List Stamped). scaled_text (scale_of view (end_of_history ops)) (end_of_history ops) listed) c.deref-2.ensures.value in
    begins_timeline view (g.R.Source.state c.args.reader.now).left ops a b c.write_timeline.result c.in_ok-history.ensures.ok
    (subst (λ (text : List ℕ). OnErr c.write_timeline.result (TakesPrefix a.contents b.contents text)) same c.write_timeline.ensures.prefix)
