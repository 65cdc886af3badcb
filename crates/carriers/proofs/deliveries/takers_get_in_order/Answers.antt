-- The lemmas are the law.
use Rattle.carriers.proofs.Delivering.{sent-RunsTo, taken-in_order}
use Rattle.carriers.proofs.deliveries.takers_get_in_order.Goals as goal

pub returns-clause-together : goal.returns-clause-together
returns-clause-together g c = sent-RunsTo

pub returns-clause-each : goal.returns-clause-each
returns-clause-each g c = taken-in_order
