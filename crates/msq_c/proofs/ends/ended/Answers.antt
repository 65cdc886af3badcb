use Rattle.std.proofs.Common.{ap, ◌∙◌, sym, subst}
use Rattle.std.specs.List.{All}
use Rattle.carriers.specs.Numbers.{fifo_of}
use Rattle.picked.specs.Picked.{IsPickedSeat}
use Rattle.ring_queue.specs.Queues.{IsNumberSeat}
use Rattle.picked.specs.Either.{IsEitherSeat}
use Rattle.msq_c.specs.Queues.{Queue}
use Rattle.msq_c.proofs.QueueEnds.{rest_room, asked, closes, ends}
use Rattle.msq_c.proofs.ends.ended.Goals as goal

pub into_queue-requires-clause-others : goal.into_queue-requires-clause-others
into_queue-requires-clause-others c κs k d l = ap (λ (q : Queue). record { queue = q }) (c.requires.others k d l)

pub close_with-requires-clause-room : goal.close_with-requires-clause-room
close_with-requires-clause-room c ls = rest_room c.args.last c.args.others.items c.into_queue-queue.result c.in-Ok.seats.items
    (c.into_queue-queue.ensures ∙ ap fifo_of c.in-Ok.ensures.queue) c.in-Ok.ensures.seats c.args.room c.requires.room

pub close_with-requires-clause-seats : goal.close_with-requires-clause-seats
close_with-requires-clause-seats c ls = subst (λ q. All (IsEitherSeat IsPickedSeat IsNumberSeat q) c.in-Ok.seats.items) (sym c.into_queue-queue.ensures) c.in-Ok.ensures.sit

pub close_with-requires-clause-asked : goal.close_with-requires-clause-asked
close_with-requires-clause-asked c ls = asked c.args.last c.args.others.items c.into_queue-queue.result c.in-Ok.seats.items
    (c.into_queue-queue.ensures ∙ ap fifo_of c.in-Ok.ensures.queue) c.in-Ok.ensures.seats c.args.room c.requires.room

pub returns-in-Ok-clause-closes : goal.returns-in-Ok-clause-closes
returns-in-Ok-clause-closes c = closes c.args.last c.args.others.items c.into_queue-queue.result c.in-Ok.seats.items
    (c.into_queue-queue.ensures ∙ ap fifo_of c.in-Ok.ensures.queue) c.in-Ok.ensures.seats c.args.room c.requires.room _ c.close_with.ensures.rest

pub returns-in-Ok-clause-ends : goal.returns-in-Ok-clause-ends
returns-in-Ok-clause-ends c = ends c.args.last c.args.others.items c.into_queue-queue.result c.in-Ok.seats.items
    (c.into_queue-queue.ensures ∙ ap fifo_of c.in-Ok.ensures.queue) c.in-Ok.ensures.seats c.args.room c.requires.room _ _ c.close_with.ensures.ends
