use Rattle.std.proofs.Common.{arith, ap}
use Rattle.std.proofs.lemmas.List.{length-map}
use Rattle.seat_pool.specs.Pools.{places_of}
use Rattle.seat_pool.proofs.pools.SeatPool.into_parts.Goals as goal

pub parts_by-requires-clause-room : goal.parts_by-requires-clause-room
parts_by-requires-clause-room g c κs within =
    let store = c.args.self.store.value in
    omega (
      arith,
      c.in-Ok.ensures.capacity,
      c.places.ensures,
      ap places_of c.deref.ensures,
      store.seated,
      length-map store.home.first.value.items (λ s. (g.C.Carrier.known s).number),
    )
