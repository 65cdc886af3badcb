use Rattle.picked.specs.Either.{IsEitherSeat, second_of, as_second}
use Rattle.picked.proofs.Within.{each_made}
use Rattle.picked.proofs.either.EitherQueue.of_second.Goals as goal

pub returns-clause-each : goal.returns-clause-each
returns-clause-each g c = each_made as_second _ c.in_ok-list.ensures.seats (IsEitherSeat g.A.Fifo.is_seat g.B.Fifo.is_seat (second_of c.args.queue)) c.requires
