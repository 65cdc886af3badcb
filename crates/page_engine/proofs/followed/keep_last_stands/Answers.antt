use Rattle.page_engine.proofs.Due.{last_stopped}
use Rattle.page_engine.proofs.followed.keep_last_stands.Goals as goal

pub returns-in-Some-clause-kept : goal.returns-in-Some-clause-kept
returns-in-Some-clause-kept g c = last_stopped c.args.schedule.now c.args.extent.now c.args.kept.now.bytes.items _ c.in-Some.is
