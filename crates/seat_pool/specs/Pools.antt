-- A pool of seats.
use Rattle.std.specs.Prelude.{◌≡◌, ℕ, ◌<◌, List}
use Rattle.carriers.specs.Knowledge.{KnownOf}
use Rattle.carriers.specs.declared.queues.Carrier.{Ghosts}
use Rattle.seat_pool.specs.declared.pools.Store.{Store}
use Rattle.seat_pool.specs.declared.pools.SeatPool.{SeatPool}
use Rattle.seat_pool.specs.declared.leases.Held.{Held}
use Rattle.seat_pool.specs.Places.{numbers_in}

module _ {C A S : Type 0} where
  -- what a handle of a pool shares with the others
  abbrev pub store_of : SeatPool C A S → Store C A S
  store_of pool = pool.store.value

  -- the queue of a pool
  abbrev pub queue_in : Store C A S → C
  queue_in store = store.home.queue

  -- the numbers of the seats that a pool was made with, in their order
  abbrev pub numbers_of : (known : S → KnownOf A) → Store C A S → List ℕ
  numbers_of known store = numbers_in known store.home

  -- how many places a pool has
  abbrev pub places_of : Store C A S → ℕ
  places_of store = store.table.shared.table_id.words

-- a seat was taken from a place of this pool
pub record IsFrom {C A S : Type 0} {carrier : Ghosts C A S} (store : Store C A S) (held : Held C A S carrier) : Type 0 where
  pub home : held.home.value ≡ store.home
  pub here : held.place < places_of store
  pub table : held.token.table_id ≡ store.table.shared.table_id
