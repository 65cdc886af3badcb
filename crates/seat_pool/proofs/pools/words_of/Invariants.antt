use Rattle.std.proofs.Common.{map}
use Rattle.seat_pool.specs.Words.{AreWords}
use Rattle.std.specs.Prelude.{take}
use Rattle.seat_pool.proofs.pools.words_of.Given as goal

abbrev pub invariant-loop-seat : goal.invariant-loop-seat
invariant-loop-seat g l = AreWords (g.C.Carrier.permits l.fn.queue) (map (λ s. (g.C.Carrier.known s).number) (take l.seat-index l.fn.seats)) l.words.items
