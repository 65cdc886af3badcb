use Rattle.carriers.specs.Ends.{ClosesOf}
use Rattle.picked.specs.Either.{IsEitherSeat, as_first, as_second, either_permits, either_known}
use Rattle.picked.specs.EitherEnds.{EitherAsks}
use Rattle.picked.proofs.Within.{seats_within, asked_within, closes_within}
use Rattle.picked.proofs.either.EitherQueue.close_values_with.Goals as goal

pub close_with-rest-requires-clause-seats : goal.close_with-rest-requires-clause-seats
close_with-rest-requires-clause-seats g c = seats_within as_first c.in-First-First.is-0 _ (c.taken_out.ensures as_first (λ x s is. is)) (IsEitherSeat g.A.Carrier.is_seat g.B.Carrier.is_seat) c.requires.seats

pub close_with-rest-requires-clause-asked : goal.close_with-rest-requires-clause-asked
close_with-rest-requires-clause-asked g c = asked_within as_first c.in-First-First.is-0 _ (c.taken_out.ensures as_first (λ x s is. is)) (EitherAsks g.A.CloseCarrier.asks g.B.CloseCarrier.asks) (either_known g.A.Carrier.known g.B.Carrier.known) c.requires.asked

pub returns-in-First-First-clause-rest : goal.returns-in-First-First-clause-rest
returns-in-First-First-clause-rest g c = closes_within as_first c.in-First-First.is-0 _ (c.taken_out.ensures as_first (λ x s is. is)) (either_permits g.A.Carrier.permits g.B.Carrier.permits) (either_known g.A.Carrier.known g.B.Carrier.known) (λ ps ks. ClosesOf ps ks c.close_with-rest.result.0) c.close_with-rest.ensures.rest

pub close_with-rest-requires-in-Second-Second-clause-seats : goal.close_with-rest-requires-in-Second-Second-clause-seats
close_with-rest-requires-in-Second-Second-clause-seats g c = seats_within as_second c.in-Second-Second.is-0 _ (c.taken_out-in-Second-Second.ensures as_second (λ x s is. is)) (IsEitherSeat g.A.Carrier.is_seat g.B.Carrier.is_seat) c.requires.seats

pub close_with-rest-requires-in-Second-Second-clause-asked : goal.close_with-rest-requires-in-Second-Second-clause-asked
close_with-rest-requires-in-Second-Second-clause-asked g c = asked_within as_second c.in-Second-Second.is-0 _ (c.taken_out-in-Second-Second.ensures as_second (λ x s is. is)) (EitherAsks g.A.CloseCarrier.asks g.B.CloseCarrier.asks) (either_known g.A.Carrier.known g.B.Carrier.known) c.requires.asked

pub returns-in-Second-Second-clause-rest : goal.returns-in-Second-Second-clause-rest
returns-in-Second-Second-clause-rest g c = closes_within as_second c.in-Second-Second.is-0 _ (c.taken_out-in-Second-Second.ensures as_second (λ x s is. is)) (either_permits g.A.Carrier.permits g.B.Carrier.permits) (either_known g.A.Carrier.known g.B.Carrier.known) (λ ps ks. ClosesOf ps ks c.close_with-rest-in-Second-Second.result.0) c.close_with-rest-in-Second-Second.ensures.rest
