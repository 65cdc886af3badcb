use Rattle.std.proofs.Common.{refl, ap, subst}
use Rattle.schedule_text.specs.EventStreams.{EventStream, IsRefused, lines_given}
use Rattle.schedule_text.specs.Streams.{stream}
use Rattle.schedule_text.specs.Texts.{events_left}
use Rattle.schedule_text.proofs.event_stream.EventStream.go_on.Goals as goal

pub returns-in-Err : goal.returns-in-Err
returns-in-Err g c =
    record {
      refused =
          subst (λ (s : EventStream). IsRefused (lines_given s) (events_left s.header.version s.left) (stream s.ahead (g.R.Source.state c.args.reader.now))
          (stream c.told-refusal.new.ahead (g.R.Source.state c.told-refusal.new.reader)) c.told-refusal.result)
          c.self.view_is (rw c.header_lines.ensures.count at (c.told-refusal.ensures _ _ (stream c.self.inside.ahead (g.R.Source.state c.args.reader.now)) c.in-Err.ensures.err));
      header = ap (λ (s : EventStream). s.header) c.self.view_is;
      stays = refl;
    }
