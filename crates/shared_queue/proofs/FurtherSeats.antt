-- A further sender or receiver, by a lease of the same pool.
use Rattle.std.proofs.Common.{◌≡◌, ◌↔◌, ◌∙◌, ap, sym}
use Rattle.std.proofs.Math.Logic.{∥∥₁_elim, ∥∥₁_map, ∥∥₁_prop}
use Rattle.history.specs.Seats.{MayPush, MayPop}
use Rattle.carriers.specs.declared.queues.Carrier.{Ghosts}
use Rattle.seat_pool.specs.declared.pools.SeatPool.{SeatPool}
use Rattle.seat_pool.specs.declared.leases.Lease.{Lease}
use Rattle.seat_pool.specs.Leases.{pool_of, part_of, seat_of}
use Rattle.seat_pool.specs.Pools.{store_of, queue_in}
use Rattle.seat_pool.specs.Queues.{IsLeaseOf}
use Rattle.seat_pool.proofs.Kept.{MayPush-prop, MayPop-prop}
use Rattle.seat_pool.proofs.Queues.{as_able, has_part_in}

module _ {C A S : Type 0} {carrier : Ghosts C A S} (pool pool' : SeatPool C A S) (lease lease' : Lease C A S carrier)
    (same : pool' ≡ pool) (of_pool : pool_of lease' ≡ pool_of lease) (part : part_of lease' ≡ part_of lease) where
  abbrev Gives : SeatPool C A S → Lease C A S carrier → Type 0
  Gives p l = IsLeaseOf p l × MayPush (carrier.permits (queue_in (store_of p))) (carrier.known (seat_of l)).number

  abbrev Takes : SeatPool C A S → Lease C A S carrier → Type 0
  Takes p l = IsLeaseOf p l × MayPop (carrier.permits (queue_in (store_of p))) (carrier.known (seat_of l)).number

  -- its lease is one of the pool
  sits_too : IsLeaseOf pool lease → IsLeaseOf pool' lease'
  sits_too is = ∥∥₁_map is (λ of. of_pool ∙ of ∙ ap store_of (sym same))

  -- its seat may do what the first one's may
  able_too : IsLeaseOf pool lease
      → (MayPush (carrier.permits (queue_in (store_of pool'))) (carrier.known (seat_of lease')).number ↔ MayPush (carrier.permits (queue_in (store_of pool))) (carrier.known (seat_of lease)).number)
      × (MayPop (carrier.permits (queue_in (store_of pool'))) (carrier.known (seat_of lease')).number ↔ MayPop (carrier.permits (queue_in (store_of pool))) (carrier.known (seat_of lease)).number)
  able_too is = as_able (carrier.permits (queue_in (store_of pool))) (carrier.permits (queue_in (store_of pool'))) (carrier.known (seat_of lease)).number (carrier.known (seat_of lease')).number
      (part_of lease) (part_of lease') (has_part_in pool lease is) (has_part_in pool' lease' (sits_too is)) part

  pub gives_too : ∥ Gives pool lease ∥₁ → Gives pool' lease'
  gives_too own =
      let is : IsLeaseOf pool lease = ∥∥₁_elim own ∥∥₁_prop (λ x. x.0) in
      let may = ∥∥₁_elim own (MayPush-prop (carrier.permits (queue_in (store_of pool))) (carrier.known (seat_of lease)).number) (λ x. x.1) in
      (sits_too is, (able_too is).0.1 may)

  pub takes_too : ∥ Takes pool lease ∥₁ → Takes pool' lease'
  takes_too own =
      let is : IsLeaseOf pool lease = ∥∥₁_elim own ∥∥₁_prop (λ x. x.0) in
      let may = ∥∥₁_elim own (MayPop-prop (carrier.permits (queue_in (store_of pool))) (carrier.known (seat_of lease)).number) (λ x. x.1) in
      (sits_too is, (able_too is).1.1 may)
