use Rattle.expand_engine.proofs.Leading.{acts_lead}
use Rattle.expand_engine.proofs.laws.the_events_of_acts_lead_where_the_acts_do.Goals as goal

pub returns : goal.returns
returns c = λ w v acts events led. acts_lead acts w v events led
