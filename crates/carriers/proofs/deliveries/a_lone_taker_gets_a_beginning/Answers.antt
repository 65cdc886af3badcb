use Rattle.carriers.proofs.Alone.{lone_beginning}
use Rattle.carriers.proofs.deliveries.a_lone_taker_gets_a_beginning.Goals as goal

pub returns : goal.returns
returns g c = lone_beginning
