use Rattle.expand_engine.proofs.Standing.{stops_read, whole_read}
use Rattle.expand_engine.proofs.engine.schedule_of_text.Goals as goal

pub returns-in-Ok-clause-ok : goal.returns-in-Ok-clause-ok
returns-in-Ok-clause-ok g c = whole_read (g.R.Source.state c.args.reader.now).left c.in_ok-expansion.expansion c.in_ok-expansion.ensures.ok c.in-Ok.ensures

pub returns-in-Err-clause-err : goal.returns-in-Err-clause-err
returns-in-Err-clause-err g c =
    stops_read (g.R.Source.state c.args.reader.now) (g.R.Source.state c.read_recipe.new.reader) c.in_ok-expansion.expansion c.in-Err.fault c.in_ok-expansion.ensures.ok c.in_ok-expansion.ensures.reader
    c.in-Err.ensures
