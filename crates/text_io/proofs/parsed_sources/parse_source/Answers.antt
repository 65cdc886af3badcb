use Rattle.std.proofs.Common.{◌∙◌}
use Rattle.std.proofs.KnownBytes.{Consumes-trans}
use Rattle.text_io.proofs.parsed_sources.parse_source.Goals as goal

pub loop-block-preserved : goal.loop-block-preserved
loop-block-preserved g c =
    let gave = c.in_ok-read_to.ensures.text in
    record {
      room = c.loop-block.invariant.room;
      gave = rw gave.added (Consumes-trans _ _ _ _ _ c.loop-block.invariant.gave gave.given);
      calls = c.in_ok-read_to.ensures.err ∙ c.loop-block.invariant.calls;
    }
