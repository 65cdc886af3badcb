-- What clauses say of a ring's seats.
use Rattle.std.specs.Prelude.{◌≡◌, ◌-◌, ◌^◌, ◌<◌, ◌≤◌, false, Some, slice_get, List}
use Rattle.atomic_table.specs.Seated.{TableId}
use Rattle.history.specs.Seats.{Known, IsSound}
use Rattle.ring_queue.specs.declared.roles.Role.{Role}
use Rattle.ring_queue.specs.declared.seats.Seat.{Seat}
use Rattle.ring_queue.specs.Plans.{Layout, permits_of}
use Rattle.ring_queue.specs.Knowledge.{SeatView, seated, knows, known_by}
use Rattle.ring_queue.specs.Steps.{Rests}
use Rattle.node_arena.specs.Deeds.{Deed}
use Rattle.ring_queue.specs.Beside.{HasNone, KnowsNow, Stays}

-- what a seat knows
abbrev pub view : {T : Type 0} → Seat T → SeatView
view s = knows s.token.me.0.plain

-- what a seat knows of its queue
abbrev pub known_of : {T : Type 0} → Seat T → Known
known_of s = known_by (view s)

-- what a seat may do
abbrev pub role_of : {T : Type 0} → Seat T → Role
role_of s = s.role

-- what a seat has seen of the history of values
abbrev pub deeds_of : {T : Type 0} → Seat T → List (Deed T)
deeds_of s = s.token.me.0.deeds

-- no slot is out with a seat
abbrev pub HasNoSlot : {T : Type 0} → Seat T → Type 0
HasNoSlot s = HasNone s.token.me

-- a seat of a table: it has its number and its role, stores its head and its tail, and what it knows is sound, of values too; which values isn't said, so that this has at most one proof. Where no values are carried no slot is
-- out with it
pub record Sits {T : Type 0} (z : Layout) (t : TableId) (s : Seat T) : Type 0 where
  pub table : s.token.table_id ≡ t
  pub seat : s.token.me.0.plain ≡ seated (view s)
  pub none_out : z.carries ≡ false → HasNone s.token.me
  pub number : s.number ≡ (view s).number
  pub from : 1 ≤ s.number
  pub role : slice_get z.roles (s.number - 1) ≡ Some s.role
  pub head : s.head ≡ (view s).head
  pub below : s.head < 2 ^ 62
  pub tail : s.tail ≡ (view s).tail
  pub tail_below : s.tail < 2 ^ 62
  pub sound : IsSound (permits_of z) (known_of s)
  pub valued : ∥ KnowsNow z.carries z s.token.me.0 ∥₁

-- a seat of any ring, in no call
pub record IsAtRest {T : Type 0} (z : Layout) (t : TableId) (s : Seat T) : Type 0 where
  pub sits : Sits z t s
  pub rests : Rests (view s).stage

-- a seat in no call, of a ring whose values aren't words in their places
pub record IsReady {T : Type 0} (z : Layout) (t : TableId) (s : Seat T) : Type 0 where
  pub sits : Sits z t s
  pub rests : Rests (view s).stage
  pub unplaced : z.placed ≡ false

-- a seat is the same one by its number and its role
pub record KeepsName {T : Type 0} (s t : Seat T) : Type 0 where
  pub number : t.number ≡ s.number
  pub role : t.role ≡ s.role

-- no slot moved, and what a seat has seen of values goes on
abbrev pub KeepsSlots : {T : Type 0} → Seat T → Seat T → Type 0
KeepsSlots s t = Stays s.token.me t.token.me
