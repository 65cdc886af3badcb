use Rattle.std.specs.List.{All}
use Rattle.value_queue.specs.Ends.{HasRoom}
use Rattle.picked.specs.AnyValues.{arena_of, IsQueueSeat}
use Rattle.picked.proofs.Within.{as_same}
use Rattle.picked.proofs.kind_values.AnyValuesCloseCarrier.close_with.Goals as goal

pub close_with-requires : goal.close_with-requires
close_with-requires g c = record {
  room = as_same c.in-NonBlocking.is (λ q. HasRoom (arena_of q) c.args.room) c.requires.room;
  seats = as_same c.in-NonBlocking.is (λ q. All (IsQueueSeat q) c.args.seats.items) c.requires.seats;
}

pub close_with-requires-in-TwoLock : goal.close_with-requires-in-TwoLock
close_with-requires-in-TwoLock g c = record {
  room = as_same c.in-TwoLock.is (λ q. HasRoom (arena_of q) c.args.room) c.requires.room;
  seats = as_same c.in-TwoLock.is (λ q. All (IsQueueSeat q) c.args.seats.items) c.requires.seats;
}
