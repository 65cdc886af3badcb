-- What a seat of a queue of values on a ring finds that looks at it.
use Rattle.std.specs.Prelude.{◌≡◌, ℕ, ◌+◌, ◌-◌, ◌≤◌, Bool, List, length}
use Rattle.std.specs.List.{count_by}
use Rattle.carriers.specs.declared.items.ItemOf.{ItemOf}
use Rattle.carriers.specs.Deeds.{Deed, is_pushing, is_popping, RunsTo}
use Rattle.node_arena.specs.declared.lengths.Len.{Len}
use Rattle.ring_queue.specs.declared.seats.Seat.{Seat}
use Rattle.ring_queue.specs.Plans.{Layout}
use Rattle.value_queue.specs.Looks.{WasMeanwhileOf}
use Rattle.ring_values.specs.ValuesSeen.{seen_by, known_by}

-- the ring's length was between these bounds after deeds no older than what the seat had seen; they are no further apart than the
-- pops that took effect meanwhile
pub record WasSoLongOf {T : Type 0} (s t : Seat T) (len : Len) : Type 0 where
  pub now : List (Deed T)
  pub meanwhile : WasMeanwhileOf (known_by s) now (known_by t)
  pub shut : Bool
  pub values : List (ItemOf T)
  pub runs : RunsTo now shut values
  pub least : len.least ≤ length values
  pub most : length values ≤ len.most
  pub near : len.most + count_by is_popping (seen_by s) ≤ len.least + count_by is_popping (seen_by t)

-- after how many pushes more the places are used up that come before the limit
abbrev pub pushes_left_of : {A : Type 0} → Layout → (ds : List (Deed A)) → ℕ
pushes_left_of z ds = z.limit - (z.slots + count_by is_pushing ds)

-- so many pushes were left after deeds no older than what the seat had seen
pub record LeavesPushesOf {T : Type 0} (z : Layout) (s t : Seat T) (left : ℕ) : Type 0 where
  pub now : List (Deed T)
  pub meanwhile : WasMeanwhileOf (known_by s) now (known_by t)
  pub exact : left ≡ pushes_left_of z now
