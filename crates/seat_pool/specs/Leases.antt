-- A lease of a seat.
use Rattle.std.specs.Prelude.{◌≡◌, ℕ, List}
use Rattle.history.specs.Seats.{Permit}
use Rattle.carriers.specs.Knowledge.{KnownOf}
use Rattle.carriers.specs.declared.queues.Carrier.{Ghosts}
use Rattle.seat_pool.specs.declared.parts.Part.{Part}
use Rattle.seat_pool.specs.declared.pools.Store.{Store}
use Rattle.seat_pool.specs.declared.leases.Lease.{Lease}
use Rattle.seat_pool.specs.Parts.{HasPart}
use Rattle.seat_pool.specs.Pools.{queue_in}

module _ {C A S : Type 0} {carrier : Ghosts C A S} where
  -- what the pool that gave a lease shares
  abbrev pub pool_of : Lease C A S carrier → Store C A S
  pool_of lease = lease.pool.value

  -- the queue of a lease
  abbrev pub queue_of : Lease C A S carrier → C
  queue_of lease = queue_in (pool_of lease)

  -- the seat of a lease
  abbrev pub seat_of : Lease C A S carrier → S
  seat_of lease = lease.held.seat

  -- what the seat of a lease may do
  abbrev pub part_of : Lease C A S carrier → Part
  part_of lease = lease.held.part

  -- the seat of a lease may push, and may pop, just as its part says
  abbrev pub IsAble : (permits : C → List Permit) (known : S → KnownOf A) → Lease C A S carrier → Type 0
  IsAble permits known lease = HasPart (permits (queue_of lease)) (known (seat_of lease)).number (part_of lease)

  -- the place where the seat of a lease belongs
  abbrev pub place_of : Lease C A S carrier → ℕ
  place_of lease = lease.held.place

  -- a lease stays the one of the same seat of the same pool
  pub record IsSameLease (old new : Lease C A S carrier) : Type 0 where
    pub pool : pool_of new ≡ pool_of old
    pub part : part_of new ≡ part_of old
    pub place : place_of new ≡ place_of old
