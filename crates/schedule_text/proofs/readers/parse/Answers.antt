use Rattle.schedule_text.proofs.OneText.{read_back}
use Rattle.schedule_text.proofs.readers.parse.Goals as goal

pub returns-clause-back : goal.returns-clause-back
returns-clause-back c = read_back _ _ c.schedule_of.ensures.text c.schedule_of.ensures.range c.schedule_of.ensures.err
