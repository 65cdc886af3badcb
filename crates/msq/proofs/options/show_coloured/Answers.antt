use Rattle.msq.proofs.Drawing.{contents_unused, Draws-carried, OnOk-carried}
use Rattle.msq.proofs.options.show_coloured.Goals as goal

pub returns : goal.returns
returns g c =
    let state = g.W.Sink.state in
    let done = c.finished-outcome in
    let drawn = c.show_by-drawn in
    record {
      drawn = rw c.into_inner.ensures
          (OnOk-carried done.result drawn.result _ _ _ done.ensures.same drawn.ensures.drawn done.ensures.kept
          (λ d kept. Draws-carried _ _ _ _ _ _ _ _ _ (contents_unused state c.new-coloured.result c.args.writer c.new-coloured.ensures) kept d));
    }
