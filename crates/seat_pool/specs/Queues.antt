-- A pool as a queue, whose seats are its leases.
use Rattle.std.specs.Prelude.{◌≡◌}
use Rattle.std.proofs.Common.{◌∙◌, refl, ap, sym, subst}
use Rattle.std.proofs.Math.Logic.{∥∥₁_elim, ∥∥₁_prop}
use Rattle.carriers.specs.Knowledge.{IsSoundOf}
use Rattle.carriers.specs.declared.queues.Carrier.{Ghosts}
use Rattle.seat_pool.specs.declared.pools.Store.{Store}
use Rattle.seat_pool.specs.declared.pools.SeatPool.{SeatPool}
use Rattle.seat_pool.specs.declared.leases.Lease.{Lease}
use Rattle.seat_pool.specs.Leases.{pool_of, seat_of}
use Rattle.seat_pool.specs.Pools.{store_of, queue_in}

module _ {C A S : Type 0} {carrier : Ghosts C A S} where
  -- a lease is one of this pool's
  abbrev pub IsLeaseOf : SeatPool C A S → Lease C A S carrier → Type 0
  IsLeaseOf pool lease = ∥ pool_of lease ≡ store_of pool ∥₁

  -- that it is has at most one proof
  pub IsLeaseOf-prop : (pool : SeatPool C A S) (lease : Lease C A S carrier) → IsProp (IsLeaseOf pool lease)
  IsLeaseOf-prop pool lease = ∥∥₁_prop

  module _ (prop : (q : C) (s : S) → IsProp (carrier.is_seat q s)) (pool : SeatPool C A S) (lease : Lease C A S carrier) (is : IsLeaseOf pool lease) where
    -- its seat is one of the queue's, and in no call
    pub sits_in : (store : Store C A S) → store ≡ store_of pool → carrier.is_seat (queue_in store) (seat_of lease)
    sits_in store same = subst (λ s. carrier.is_seat (queue_in s) (seat_of lease)) (sym same)
        (∥∥₁_elim is (prop (queue_in (store_of pool)) (seat_of lease)) (λ of. ∥∥₁_elim lease.held.belongs (prop (queue_in (store_of pool)) (seat_of lease))
        (λ b. subst (λ h. carrier.is_seat h.queue (seat_of lease)) (lease.home ∙ ap (λ s. s.home) of) b.seat)))

    -- what it knows is sound, as the queue says of its seats
    pub lease_is_sound : ((q : C) (s : S) → carrier.is_seat q s → IsSoundOf (carrier.permits q) (carrier.known s))
        → IsSoundOf (carrier.permits (queue_in (store_of pool))) (carrier.known (seat_of lease))
    lease_is_sound sound = sound (queue_in (store_of pool)) (seat_of lease) (sits_in (store_of pool) refl)
