use Rattle.schedule_text.proofs.EventStreams.{read_back_from}
use Rattle.schedule_text.proofs.source_schedules.read_schedule.Goals as goal

pub returns-clause-back : goal.returns-clause-back
returns-clause-back g c =
    read_back_from (g.R.Source.state c.args.reader.now) (g.R.Source.state c.schedule_from.new.reader) _ c.schedule_from.ensures.text c.schedule_from.ensures.range c.schedule_from.ensures.err
