use Rattle.std.proofs.Common.{sym, subst, map}
use Rattle.carriers.specs.Numbers.{fifo_of}
use Rattle.std.specs.List.{All}
use Rattle.history.specs.Ends.{Closes}
use Rattle.picked.specs.Either.{IsEitherSeat}
use Rattle.picked.specs.Picked.{IsPickedSeat}
use Rattle.ring_queue.specs.Queues.{IsNumberSeat}
use Rattle.msq_c.specs.Queues.{Queue, known_of, permits_of, EndsWith}
use Rattle.msq_c.proofs.QueueEnds.{room_by_all, asked_by_all}
use Rattle.msq_c.proofs.share_ends.NumbersQueueEndQueue.end_with.Goals as goal

pub close_with-requires-clause-room : goal.close_with-requires-clause-room
close_with-requires-clause-room c κs = room_by_all (fifo_of c.args.self) c.into_queue.result c.into_queue.ensures c.args.seats.items c.args.room c.requires.room

pub close_with-requires-clause-seats : goal.close_with-requires-clause-seats
close_with-requires-clause-seats c κs = subst (λ (q : Queue). All (IsEitherSeat IsPickedSeat IsNumberSeat q) c.args.seats.items) (sym c.into_queue.ensures) c.requires.seats

pub close_with-requires-clause-asked : goal.close_with-requires-clause-asked
close_with-requires-clause-asked c κs = asked_by_all (fifo_of c.args.self) c.into_queue.result c.into_queue.ensures c.args.seats.items c.args.room c.requires.room

pub returns-clause-closes : goal.returns-clause-closes
returns-clause-closes c = subst (λ (q : Queue). Closes (permits_of q) (map known_of c.args.seats.items) c.close_with.result.0) c.into_queue.ensures c.close_with.ensures.rest

pub returns-clause-ends : goal.returns-clause-ends
returns-clause-ends c = subst (λ (q : Queue). EndsWith q c.close_with.result.1 c.close_with.result.0) c.into_queue.ensures c.close_with.ensures.ends
