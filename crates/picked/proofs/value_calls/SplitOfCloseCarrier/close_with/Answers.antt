use Rattle.std.proofs.Common.{lit≤}
use Rattle.std.specs.List.{All}
use Rattle.value_queue.specs.Ends.{HasRoom}
use Rattle.picked.specs.Values.{arena_of, IsQueueSeat}
use Rattle.picked.proofs.Within.{as_same}
use Rattle.picked.proofs.value_calls.SplitOfCloseCarrier.close_with.Goals as goal

pub close_with-requires : goal.close_with-requires
close_with-requires g c = (lit≤ tt, as_same c.in-Bits16.is (λ q. HasRoom (arena_of q) c.args.room × All (IsQueueSeat q) c.args.seats.items) (c.requires.room, c.requires.seats))

pub close_with-requires-in-Bits20 : goal.close_with-requires-in-Bits20
close_with-requires-in-Bits20 g c = (lit≤ tt, as_same c.in-Bits20.is (λ q. HasRoom (arena_of q) c.args.room × All (IsQueueSeat q) c.args.seats.items) (c.requires.room, c.requires.seats))

pub close_with-requires-in-Bits24 : goal.close_with-requires-in-Bits24
close_with-requires-in-Bits24 g c = (lit≤ tt, as_same c.in-Bits24.is (λ q. HasRoom (arena_of q) c.args.room × All (IsQueueSeat q) c.args.seats.items) (c.requires.room, c.requires.seats))

pub close_with-requires-in-Bits28 : goal.close_with-requires-in-Bits28
close_with-requires-in-Bits28 g c = (lit≤ tt, as_same c.in-Bits28.is (λ q. HasRoom (arena_of q) c.args.room × All (IsQueueSeat q) c.args.seats.items) (c.requires.room, c.requires.seats))

pub close_with-requires-in-Bits32 : goal.close_with-requires-in-Bits32
close_with-requires-in-Bits32 g c = (lit≤ tt, as_same c.in-Bits32.is (λ q. HasRoom (arena_of q) c.args.room × All (IsQueueSeat q) c.args.seats.items) (c.requires.room, c.requires.seats))
