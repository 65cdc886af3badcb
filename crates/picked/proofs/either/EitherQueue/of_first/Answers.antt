use Rattle.picked.specs.Either.{IsEitherSeat, first_of, as_first}
use Rattle.picked.proofs.Within.{each_made}
use Rattle.picked.proofs.either.EitherQueue.of_first.Goals as goal

pub returns-clause-each : goal.returns-clause-each
returns-clause-each g c = each_made as_first _ c.in_ok-list.ensures.seats (IsEitherSeat g.A.Fifo.is_seat g.B.Fifo.is_seat (first_of c.args.queue)) c.requires
