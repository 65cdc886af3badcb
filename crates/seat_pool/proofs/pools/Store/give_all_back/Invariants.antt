use Rattle.std.specs.List.{All}
use Rattle.seat_pool.specs.Pools.{IsFrom}
use Rattle.seat_pool.proofs.pools.Store.give_all_back.Given as goal

abbrev pub invariant-loop-held : goal.invariant-loop-held
invariant-loop-held g l = All (IsFrom l.self) l.held-iterator.rest.items
