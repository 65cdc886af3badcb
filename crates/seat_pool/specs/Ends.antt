-- The end of a pool.
use Rattle.std.specs.Prelude.{◌≡◌, ◌<◌}
use Rattle.seat_pool.specs.declared.pools.SeatPool.{SeatPool}
use Rattle.seat_pool.specs.declared.ends.Lack.{Lack}
use Rattle.seat_pool.specs.declared.ends.Lack.TheVariants as lack
use Rattle.seat_pool.specs.declared.ends.Unparted.{Unparted}
use Rattle.seat_pool.specs.declared.ends.Unparted.TheVariants.{Leased, InUse, Memory}

-- a number of seats that are leased is above 0
abbrev pub LacksSome : Lack → Type 0
LacksSome (lack.Leased out) = 0 < out
LacksSome lack.Memory = Unit {0}

-- a pool comes back as it was, and a number of seats that are leased is above 0
abbrev pub GivesPoolBack : {C A S : Type 0} → SeatPool C A S → Unparted C A S → Type 0
GivesPoolBack pool (Leased same out) = (same ≡ pool) × (0 < out)
GivesPoolBack pool (InUse same) = same ≡ pool
GivesPoolBack pool (Memory same) = same ≡ pool
