use Rattle.std.proofs.Common.{ℕ, List, subst}
use Rattle.schedule_text.specs.EventStreams.{IsRefused}
use Rattle.schedule_text.specs.Streams.{stream}
use Rattle.schedule_text.specs.Texts.{version_due}
use Rattle.schedule_text.proofs.EventStreams.{refused_source}
use Rattle.schedule_text.proofs.event_stream.EventStream.start.Goals as goal

pub returns-in-Err-clause-err : goal.returns-in-Err-clause-err
returns-in-Err-clause-err g c =
    let first = g.R.Source.state c.args.reader.now in
    let last = stream c.told.new.ahead (g.R.Source.state c.told.new.reader) in
    refused_source first (g.R.Source.state c.told.new.reader) c.told.new.ahead c.told.result
    (subst (λ (ahead : List ℕ). IsRefused 0 version_due (stream ahead first) last c.told.result) c.new-ahead.ensures
    (c.told.ensures 0 version_due (stream c.new-ahead.result first) c.in-Err.ensures.err))
