-- What a seat is told of how many values its ring holds.
use Rattle.std.specs.Prelude.{◌≡◌, ℕ, ◌+◌, ◌-◌, ◌≤◌, Bool, List, length}
use Rattle.std.specs.List.{count_by}
use Rattle.history.specs.declared.operations.Entry.{Entry}
use Rattle.history.specs.declared.operations.Taken.{Taken}
use Rattle.history.specs.Entries.{is_push, is_pop, Leads}
use Rattle.history.specs.Seats.{Known}
use Rattle.node_arena.specs.declared.lengths.Len.{Len}
use Rattle.node_arena.specs.Looks.{WasMeanwhile}
use Rattle.ring_queue.specs.declared.seats.Seat.{Seat}
use Rattle.ring_queue.specs.Plans.{Layout}
use Rattle.ring_queue.specs.Seats.{view}

-- the ring's length was between these bounds after a history no older than what the seat had seen; they are no further apart than
-- the pops that took effect meanwhile
pub record WasSoLong (k : Known) (len : Len) (k' : Known) : Type 0 where
  pub now : List Entry
  pub meanwhile : WasMeanwhile k now k'
  pub shut : Bool
  pub values : List Taken
  pub leads : Leads now shut values
  pub least : len.least ≤ length values
  pub most : length values ≤ len.most
  pub near : len.most + count_by is_pop k.seen ≤ len.least + count_by is_pop k'.seen

-- after how many pushes more the places are used up that come before the limit
abbrev pub pushes_left : Layout → (es : List Entry) → ℕ
pushes_left z es = z.limit - (z.slots + count_by is_push es)

-- so many pushes were left after a history no older than what the seat had seen
pub record LeavesPushes (z : Layout) (k : Known) (left : ℕ) (k' : Known) : Type 0 where
  pub now : List Entry
  pub meanwhile : WasMeanwhile k now k'
  pub exact : left ≡ pushes_left z now

-- the places up to a seat's head are those of the first lap and of all pops that it has seen
abbrev pub HeadCounts : {T : Type 0} → Layout → Seat T → Type 0
HeadCounts z t = t.head ≡ z.slots + count_by is_pop (view t).seen
