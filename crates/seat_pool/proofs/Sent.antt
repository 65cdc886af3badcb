-- A pool and a lease may cross threads where the queue may: its seats may by what a `Carrier` is, and so may the table that holds them.
use denote.Builtin.{u64}
use denote.Param.Send.{sendable, IsSync, IsSend, Frees}
use denote.Param.SendFields.{declared_send, declared_sync, as_row_send, as_row_sync}
use denote.RattleType.{RattleType}
use denote.Ref.{NamedLft}
use denote.Struct.Field.{row_field, usize-field, shr_ref_field}
use Rattle.carriers.specs.declared.queues.Carrier.{Ghosts}
use Rattle.std.proofs.Crossing.{crosses, Arc-sync, Arc-send, frees}
use Rattle.std.proofs.Crossing as heap
use Rattle.std.specs.contracts.option.Option as option
use Rattle.seat_pool.specs.contracts.pools.SeatPool as pool
use Rattle.seat_pool.specs.contracts.pools.Store as store
use Rattle.seat_pool.specs.contracts.leases.Held as held
use Rattle.seat_pool.specs.contracts.leases.Lease as lease
use Rattle.seat_pool.specs.contracts.parts.Part as part
use Rattle.seat_pool.specs.contracts.places.Home as home
use Rattle.seat_pool.specs.contracts.places.Places as places
use Rattle.seat_pool.specs.contracts.places.PlacesTableRuleOptionSeatHomeHome.TheImpl as kept
use Rattle.std.specs.contracts.alloc.Global as global
use Rattle.std.specs.contracts.impls.GlobalAllocator.TheImpl.{ghosts}
use Rattle.atomic_table.specs.contracts.owned.Table as table
use Rattle.atomic_table.proofs.shared.Shared.TheSendSync.{the_send as table_send, the_sync as table_sync}
use Rattle.atomic_table.proofs.shared.Seat.TheSendSync.{the_send as token_send}
use Rattle.atomic_table.proofs.send_lease.SendLease.TheSendSync.{the_send as lease_send, the_sync as lease_sync}
use Rattle.atomic_table.specs.declared.shared.TableRule as rule
use Rattle.std.specs.declared.alloc.Allocator as alloc

module _ (S V K P A : RattleType) (r : rule.Ghosts P.Denot S.Denot V.Denot K.Denot) (a : alloc.Ghosts A.Denot) (ss : IsSend S) (send : IsSend A) (sync : IsSync A) (f : Frees a a.dealloc_token) where
  its_send : IsSend (table.the_row S V K P A r a)
  its_send = declared_send (table.the_type S V K P A r a) (
    table_send S V K P r ss,
    (
      as_row_send usize-field (search sendable),
      (
        as_row_send usize-field (search sendable),
        (lease_send u64 A a send f, (lease_send S A a send f, (as_row_send (row_field A) send, tt))),
      ),
    ),
  )

  its_sync : IsSync (table.the_row S V K P A r a)
  its_sync = declared_sync (table.the_type S V K P A r a) (
    table_sync S V K P r ss,
    (
      as_row_sync usize-field (search sendable),
      (
        as_row_sync usize-field (search sendable),
        (lease_sync u64 A a send f, (lease_sync S A a send f, (as_row_sync (row_field A) sync, tt))),
      ),
    ),
  )

module _ (C A S : RattleType) (carrier : Ghosts C.Denot A.Denot S.Denot) (send : IsSend C) (sync : IsSync C) (seat : IsSend S) where
  home_send : IsSend (home.the_row C A S)
  home_send = declared_send (home.the_type C A S) (as_row_send (row_field C) send, (search (crosses, sendable), tt))

  home_sync : IsSync (home.the_row C A S)
  home_sync = declared_sync (home.the_type C A S) (as_row_sync (row_field C) sync, (search (crosses, sendable), tt))

  slot : IsSend (option.the_row S)
  slot = search sendable depth 12

  store_send : IsSend (store.the_row C A S carrier)
  store_send = declared_send (store.the_type C A S carrier) (
    home_send,
    (
      its_send (option.the_row S) (home.the_row C A S) (home.the_row C A S)
          (places.the_row C) global.the_row (kept.ghosts C A S carrier kept.no_dict kept.no_dict kept.no_dict) ghosts slot heap.send heap.sync frees,
      tt,
    ),
  )

  store_sync : IsSync (store.the_row C A S carrier)
  store_sync = declared_sync (store.the_type C A S carrier) (
    home_sync,
    (
      its_sync (option.the_row S) (home.the_row C A S) (home.the_row C A S)
          (places.the_row C) global.the_row (kept.ghosts C A S carrier kept.no_dict kept.no_dict kept.no_dict) ghosts slot heap.send heap.sync frees,
      tt,
    ),
  )

  pub pool_send : IsSend (pool.the_row C A S carrier)
  pool_send = declared_send (pool.the_type C A S carrier) (Arc-send (store.the_row C A S carrier) store_send store_sync, tt)

  pub pool_sync : IsSync (pool.the_row C A S carrier)
  pool_sync = declared_sync (pool.the_type C A S carrier) (Arc-sync (store.the_row C A S carrier) store_send store_sync, tt)

  held_send : IsSend (held.the_row C A S carrier)
  held_send = declared_send (held.the_type C A S carrier) (
    search (crosses, sendable),
    (
      token_send (option.the_row S) (home.the_row C A S) slot,
      (as_row_send (row_field S) seat, (as_row_send usize-field (search sendable), (as_row_send part.the_field (search sendable depth 20), tt))),
    ),
  )

  -- a lease may go to a thread
  pub leased_send : IsSend (lease.the_row C A S carrier)
  leased_send = declared_send (lease.the_type C A S carrier) (Arc-send (store.the_row C A S carrier) store_send store_sync, (held_send, tt))

  -- a reference to a pool may go to a thread
  pub pool_lent : (ℓ : NamedLft) → IsSend (shr_ref_field ℓ (pool.the_row C A S carrier) tt).row
  pool_lent ℓ = let shared : IsSync (pool.the_row C A S carrier) = pool_sync in search (sendable, shared) depth 20
