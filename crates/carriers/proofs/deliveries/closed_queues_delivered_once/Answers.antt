use Rattle.carriers.proofs.Together.{handed_over_once}
use Rattle.carriers.proofs.deliveries.closed_queues_delivered_once.Goals as goal

pub returns : goal.returns
returns g c = handed_over_once
