use Rattle.std.proofs.Common.{lit≤}
use Rattle.std.specs.List.{All}
use Rattle.node_arena.specs.Ended.{HasRoomFor}
use Rattle.picked.specs.Values.{arena_of, IsQueueSeat}
use Rattle.picked.proofs.Within.{as_same}
use Rattle.picked.proofs.values.SplitOf.close_values.Goals as goal

pub close_values-requires : goal.close_values-requires
close_values-requires g c =
    (lit≤ tt, as_same c.in-Bits16.is (λ q. HasRoomFor (arena_of q) c.args.numbers × (HasRoomFor (arena_of q) c.args.slots × All (IsQueueSeat q) c.args.seats.items)) (c.requires.numbers, (c.requires.slots, c.requires.seats)))

pub close_values-requires-in-Bits20 : goal.close_values-requires-in-Bits20
close_values-requires-in-Bits20 g c =
    (lit≤ tt, as_same c.in-Bits20.is (λ q. HasRoomFor (arena_of q) c.args.numbers × (HasRoomFor (arena_of q) c.args.slots × All (IsQueueSeat q) c.args.seats.items)) (c.requires.numbers, (c.requires.slots, c.requires.seats)))

pub close_values-requires-in-Bits24 : goal.close_values-requires-in-Bits24
close_values-requires-in-Bits24 g c =
    (lit≤ tt, as_same c.in-Bits24.is (λ q. HasRoomFor (arena_of q) c.args.numbers × (HasRoomFor (arena_of q) c.args.slots × All (IsQueueSeat q) c.args.seats.items)) (c.requires.numbers, (c.requires.slots, c.requires.seats)))

pub close_values-requires-in-Bits28 : goal.close_values-requires-in-Bits28
close_values-requires-in-Bits28 g c =
    (lit≤ tt, as_same c.in-Bits28.is (λ q. HasRoomFor (arena_of q) c.args.numbers × (HasRoomFor (arena_of q) c.args.slots × All (IsQueueSeat q) c.args.seats.items)) (c.requires.numbers, (c.requires.slots, c.requires.seats)))

pub close_values-requires-in-Bits32 : goal.close_values-requires-in-Bits32
close_values-requires-in-Bits32 g c =
    (lit≤ tt, as_same c.in-Bits32.is (λ q. HasRoomFor (arena_of q) c.args.numbers × (HasRoomFor (arena_of q) c.args.slots × All (IsQueueSeat q) c.args.seats.items)) (c.requires.numbers, (c.requires.slots, c.requires.seats)))
