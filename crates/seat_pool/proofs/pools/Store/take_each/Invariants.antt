use Rattle.std.proofs.Common.{◌≡◌, ◌≤◌, map, take, vec_len, vec_capacity}
use Rattle.std.specs.List.{All}
use Rattle.seat_pool.specs.Pools.{numbers_of, places_of, IsFrom}
use Rattle.seat_pool.proofs.pools.Store.take_each.Given as goal

abbrev pub invariant-loop-place : goal.invariant-loop-place
invariant-loop-place g l = record {
  from : All (IsFrom l.self) l.all.items;
  few : l.out ≤ l.place;
  many : vec_len l.all ≤ l.place;
  room : places_of l.self ≤ vec_capacity l.all;
  numbers : l.out ≡ 0 → map (λ h. (g.C.Carrier.known h.seat).number) l.all.items ≡ take l.place (numbers_of g.C.Carrier.known l.self);
}
