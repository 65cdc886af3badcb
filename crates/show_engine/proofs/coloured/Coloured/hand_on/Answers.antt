use Rattle.std.proofs.Common.{◌∙◌}
use Rattle.std.proofs.KnownBytes.{Keeps-trans}
use Rattle.show_engine.proofs.Chunks.{plain_of-sent}
use Rattle.show_engine.proofs.coloured.Coloured.hand_on.Goals as goal

pub loop-self-preserved : goal.loop-self-preserved
loop-self-preserved g c =
    let before = c.loop-self in
    record {
      keeps = Keeps-trans _ _ _ before.invariant.keeps
          (plain_of-sent _ _ before.self.held _ before.self.from c.in_ok-count.count c.as_slice-in-loop-self.ensures c.in_ok-count.ensures.bytes);
      quiet = ◌∙◌ {b = (g.W.Sink.state before.self.inner).failures} c.in_ok-count.ensures.failures before.invariant.quiet;
      full = before.invariant.full;
    }
