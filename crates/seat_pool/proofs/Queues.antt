-- What the seats of a pool's leases may do, and where they belong.
use Rattle.std.proofs.Common.{◌≡◌, ℕ, List, ◌↔◌, ◌∙◌, ap, sym, subst}
use Rattle.std.proofs.Math.Logic.{∥∥₁_elim, ∥∥₁_prop}
use Rattle.std.proofs.Props.{props}
use Rattle.history.specs.Seats.{Permit, MayPush, MayPop}
use Rattle.carriers.specs.declared.queues.Carrier.{Ghosts}
use Rattle.seat_pool.specs.declared.pools.Store.{Store}
use Rattle.seat_pool.specs.declared.pools.SeatPool.{SeatPool}
use Rattle.seat_pool.specs.declared.places.Home.{Home}
use Rattle.seat_pool.specs.declared.leases.Held.{Held}
use Rattle.seat_pool.specs.declared.leases.Lease.{Lease}
use Rattle.seat_pool.specs.declared.parts.Part.{Part}
use Rattle.seat_pool.specs.Leases.{pool_of, part_of, seat_of}
use Rattle.seat_pool.specs.Parts.{HasPart}
use Rattle.seat_pool.specs.Places.{Belongs}
use Rattle.seat_pool.specs.Pools.{store_of, queue_in}
use Rattle.seat_pool.specs.Queues.{IsLeaseOf}
use Rattle.seat_pool.proofs.Kept.{MayPush-prop, MayPop-prop, still}

HasPart-prop : (permits : List Permit) (n : ℕ) (part : Part) → IsProp (HasPart permits n part)
HasPart-prop permits n part = hlevel (props, MayPush-prop permits n, MayPop-prop permits n)

-- seats of one part may do the same
pub as_able : (permits permits' : List Permit) (n n' : ℕ) (part part' : Part) → HasPart permits n part → HasPart permits' n' part' → part' ≡ part
    → (MayPush permits' n' ↔ MayPush permits n) × (MayPop permits' n' ↔ MayPop permits n)
as_able permits permits' n n' part part' has has' same =
    let has'' : HasPart permits' n' part = subst (HasPart permits' n') same has' in (
      (λ m. has.0.1 (has''.0.0 m), λ m. has''.0.1 (has.0.0 m)),
      (λ m. has.1.1 (has''.1.0 m), λ m. has''.1.1 (has.1.0 m)),
    )

module _ {C A S : Type 0} {carrier : Ghosts C A S} where
  -- a seat out of its place has its part
  pub held_has_part : (held : Held C A S carrier) (home : Home C A S) → held.home.value ≡ home → HasPart (carrier.permits home.queue) (carrier.known held.seat).number held.part
  held_has_part held home same = ∥∥₁_elim held.belongs (HasPart-prop (carrier.permits home.queue) (carrier.known held.seat).number held.part)
      (λ b. subst (λ h. HasPart (carrier.permits h.queue) (carrier.known held.seat).number held.part) same b.able)

  pub has_part_in : (pool : SeatPool C A S) (lease : Lease C A S carrier) → IsLeaseOf pool lease
      → HasPart (carrier.permits (queue_in (store_of pool))) (carrier.known (seat_of lease)).number (part_of lease)
  has_part_in pool lease is = ∥∥₁_elim is (HasPart-prop (carrier.permits (queue_in (store_of pool))) (carrier.known (seat_of lease)).number (part_of lease))
      (λ of. subst (λ s. HasPart (carrier.permits (queue_in s)) (carrier.known (seat_of lease)).number (part_of lease)) of (held_has_part lease.held (pool_of lease).home lease.home))

  -- a seat that a call of the pool left the queue's, with its number, belongs where it did
  pub stays : (pool : SeatPool C A S) (lease : Lease C A S carrier) → IsLeaseOf pool lease → (store : Store C A S) → store ≡ store_of pool → (s : S)
      → carrier.is_seat (queue_in store) s → (carrier.known s).number ≡ (carrier.known (seat_of lease)).number
      → ∥ Belongs carrier.is_seat carrier.permits carrier.known lease.held.home.value lease.held.place lease.held.part s ∥₁
  stays pool lease is store same s sit kept = ∥∥₁_elim is ∥∥₁_prop (λ of.
      still carrier.is_seat carrier.permits carrier.known lease.held.home.value store.home (lease.home ∙ ap (λ t. t.home) (of ∙ sym same))
      lease.held.place lease.held.part (seat_of lease) s lease.held.belongs sit kept)
