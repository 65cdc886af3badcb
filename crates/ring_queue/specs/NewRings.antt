-- What a new ring is, and why it is refused.
use Rattle.std.specs.Prelude.{◌≡◌, ◌⊎◌, ℕ, ◌+◌, ◌*◌, ◌^◌, ◌<◌, ◌≤◌, Bool, false, if◌then◌else◌, List, [], length, Option, Some, slice_get, slice_index_or}
use Rattle.atomic_table.specs.Seated.{TableId}
use Rattle.atomic_table.specs.declared.shared.Seat.{Seat as Token}
use Rattle.history.specs.declared.refusals.Refusal.{Refusal}
use Rattle.history.specs.declared.refusals.Refusal.TheVariants.{Memory, BadSize}
use Rattle.ring_queue.specs.declared.roles.Role.{Role}
use Rattle.ring_queue.specs.declared.queue.RingQueue.{RingQueue}
use Rattle.ring_queue.specs.declared.seats.Seat.{Seat}
use Rattle.ring_queue.specs.Beside.{Beside}
use Rattle.ring_queue.specs.Words.{slot_word}
use Rattle.ring_queue.specs.Plans.{Layout}
use Rattle.ring_queue.specs.Knowledge.{keeper, new_seat}
use Rattle.ring_queue.specs.PlacedSeats.{said_by}
use Rattle.ring_queue.specs.Seats.{IsAtRest, IsReady, HasNoSlot, deeds_of, view}
use Rattle.ring_queue.specs.Queues.{IsNumberSeat}

-- the words at the start, with so many behind those of the queue, for further words of values and for flags
pub record AreFirst (slots behind : ℕ) (words : List ℕ) : Type 0 where
  pub wide : length words ≡ 32 + 2 * slots + behind
  pub tail : slice_index_or words 0 0 ≡ slots
  pub head : slice_index_or words 16 0 ≡ slots
  pub blank : (i : ℕ) → i < slots → slice_index_or words (slot_word i) 0 ≡ 0
  pub down : (i : ℕ) → slice_index_or words (32 + 2 * slots + i) 0 ≡ 0

-- the ring's own token, which deals this number next
pub record IsKeeper {T : Type 0} (z : Layout) (t : TableId) (k : Token (Option T) (Beside T)) (n : ℕ) : Type 0 where
  pub table : k.table_id ≡ t
  pub seat : k.me.0.plain ≡ keeper z.slots n
  pub held : k.me.1 ≡ []

-- a seat that was just dealt: it is in no call, and knows nothing, of values neither; no slot is out with it, and it begins to look for one
-- apart from the others
pub record IsDealt {T : Type 0} (z : Layout) (t : TableId) (n : ℕ) (s : Seat T) : Type 0 where
  pub ready : IsReady z t s
  pub view : view s ≡ new_seat z.slots n
  pub none_done : deeds_of s ≡ []
  pub none_out : HasNoSlot s
  pub near : s.near ≡ 64 * n

-- seats that were just dealt, numbered from 1
abbrev pub AreDealt : {T : Type 0} → Layout → TableId → List (Seat T) → Type 0
AreDealt z t seats = (k : ℕ) (s : Seat _) → slice_get seats k ≡ Some s → IsDealt z t (k + 1) s

-- a seat that was just dealt by a ring of any kind: it is in no call, and knows nothing, of values neither; no slot is out with it, and
-- it begins to look for one apart from the others
pub record IsFresh {T : Type 0} (z : Layout) (t : TableId) (n : ℕ) (s : Seat T) : Type 0 where
  pub ready : IsAtRest z t s
  pub view : view s ≡ new_seat z.slots n
  pub none_done : deeds_of s ≡ []
  pub none_said : said_by s ≡ []
  pub none_out : HasNoSlot s
  pub near : s.near ≡ 64 * n

-- seats that were just dealt by a ring of any kind, numbered from 1
abbrev pub AreFresh : {T : Type 0} → Layout → TableId → List (Seat T) → Type 0
AreFresh z t seats = (k : ℕ) (s : Seat _) → slice_get seats k ≡ Some s → IsFresh z t (k + 1) s

-- the least power of two that is no less than a number
pub record IsLeastPower (least n : ℕ) : Type 0 where
  pub bits : ℕ
  pub power : n ≡ 2 ^ bits
  pub enough : least ≤ n
  pub close : n < 2 * least

-- a new seat of a ring: it may begin a call, and knows nothing
pub record IsNewSeat {T : Type 0} (q : RingQueue T) (n : ℕ) (s : Seat T) : Type 0 where
  pub ready : IsNumberSeat q s
  pub view : view s ≡ new_seat q.plan.slots n

-- for how many slots a ring asks: one for each value that it has room for, and where it carries values one more for each seat, which
-- has it in hand while it calls
abbrev pub slots_for : (carries : Bool) → (most : ℕ) → List Role → ℕ
slots_for carries most roles = if carries then most + length roles else most

-- how many slots a ring has for such sizes: by powers of two the fewest that it asks for
abbrev pub HasSlots : (carries : Bool) → (most : ℕ) → List Role → (slots : ℕ) → Type 0
HasSlots carries most roles slots = IsLeastPower (slots_for carries most roles) slots

-- a new ring of these sizes, with a new seat for each role, numbered from 1
pub record IsMade {T : Type 0} (most limit : ℕ) (roles : List Role) (q : RingQueue T) (seats : List (Seat T)) : Type 0 where
  pub full_at : q.plan.most ≡ most
  pub goes_to : q.plan.limit ≡ limit
  pub deals : q.plan.roles ≡ roles
  pub numbers : q.plan.carries ≡ false
  pub slots : HasSlots false most roles q.plan.slots
  pub count : length seats ≡ length roles
  pub each : (k : ℕ) (s : Seat T) → slice_get seats k ≡ Some s → IsNewSeat q (k + 1) s

-- a new ring of these sizes, which carries values or doesn't, with a new seat for each role, numbered from 1
pub record IsMadeFor {T : Type 0} (carries : Bool) (most limit : ℕ) (roles : List Role) (q : RingQueue T) (seats : List (Seat T)) : Type 0 where
  pub full_at : q.plan.most ≡ most
  pub goes_to : q.plan.limit ≡ limit
  pub deals : q.plan.roles ≡ roles
  pub values : q.plan.carries ≡ carries
  pub slots : HasSlots carries most roles q.plan.slots
  pub count : length seats ≡ length roles
  pub each : AreDealt q.plan q.table.shared.table_id seats

-- a new ring of these sizes, of any kind, whose values are of so many words where they lie in their places, with a new seat for each role, numbered from 1
pub record IsMadeOf {T : Type 0} (carries placed : Bool) (parts most limit : ℕ) (roles : List Role) (q : RingQueue T) (seats : List (Seat T)) : Type 0 where
  pub full_at : q.plan.most ≡ most
  pub goes_to : q.plan.limit ≡ limit
  pub deals : q.plan.roles ≡ roles
  pub values : q.plan.carries ≡ carries
  pub words : q.plan.placed ≡ placed
  pub width : q.plan.width ≡ parts
  pub slots : HasSlots carries most roles q.plan.slots
  pub count : length seats ≡ length roles
  pub each : AreFresh q.plan q.table.shared.table_id seats

-- the sizes of a ring are in their ranges
pub record IsSized (carries : Bool) (most limit : ℕ) (roles : List Role) : Type 0 where
  pub some_values : 1 ≤ most
  pub some_roles : 1 ≤ length roles
  pub few_roles : length roles < 2 ^ 15
  pub slots : ℕ
  pub has_slots : HasSlots carries most roles slots
  pub above : slots ≤ limit
  pub limited : limit < 2 ^ 62

-- a count is out of its range
abbrev pub IsMiscounted : (most : ℕ) → List Role → Type 0
IsMiscounted most roles = (most ≡ 0) ⊎ (length roles ≡ 0) ⊎ (2 ^ 15 ≤ length roles)

-- the limit is out of its range
abbrev pub IsMislimited : (carries : Bool) → (most limit : ℕ) → List Role → Type 0
IsMislimited carries most limit roles = ((slots : ℕ) × HasSlots carries most roles slots × (limit < slots)) ⊎ (2 ^ 62 ≤ limit)

-- a new ring is refused for this cause: a size is out of its range, or memory was refused where all are in theirs
abbrev pub RingRefused : (carries : Bool) → (most limit : ℕ) → List Role → Refusal → Type 0
RingRefused carries most limit roles BadSize = IsMiscounted most roles ⊎ IsMislimited carries most limit roles
RingRefused carries most limit roles Memory = IsSized carries most limit roles
RingRefused carries most limit roles _ = ⊥
