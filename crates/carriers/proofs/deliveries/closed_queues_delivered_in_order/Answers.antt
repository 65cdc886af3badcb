-- The history of the closed queue has just the deeds of each seat handed in as its own.
use Rattle.carriers.specs.Rests.{left_in, was_shut_in}
use Rattle.carriers.proofs.Delivering.{all-deliver}
use Rattle.carriers.proofs.deliveries.closed_queues_delivered_in_order.Goals as goal

pub returns : goal.returns
returns g c = λ permits seats rest closed. all-deliver seats closed.history (was_shut_in rest) (left_in rest) closed.runs closed.own
