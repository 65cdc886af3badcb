-- What `Arena::new` gives, and why it is refused.
use Rattle.std.specs.Prelude.{◌≡◌, ℕ, ◌+◌, ◌*◌, Bool, true, false, List, [], ◌∷◌, length, take, get_or, replicate, Option, Some, None, slice_get}
use Rattle.atomic_table.specs.Seated.{TableId}
use Rattle.atomic_table.specs.declared.shared.Seat.{Seat as Token}
use Rattle.line_table.specs.declared.lines.Kind.{Kind}
use Rattle.history.specs.declared.refusals.Refusal.{Refusal}
use Rattle.history.specs.declared.refusals.Refusal.TheVariants.{Memory, BadSize}
use Rattle.step_machine.specs.Calls.{IsUnsized}
use Rattle.step_machine.specs.Machine.{IsSized}
use Rattle.node_arena.specs.declared.roles.Role.{Role}
use Rattle.node_arena.specs.Beside.{Beside}
use Rattle.node_arena.specs.Arenas.{Arena}
use Rattle.node_arena.specs.declared.seats.Seat.{Seat}
use Rattle.node_arena.specs.Knowledge.{keeper, new_seat}
use Rattle.node_arena.specs.Plans.{Layout}
use Rattle.node_arena.specs.Places.{shared_words}
use Rattle.node_arena.specs.Seats.{IsReady, Sits, HasNoSlot, view, pocket_of, keeps_of, plan_of}
use Rattle.node_arena.specs.Hands.{deeds_of}

-- the shared words at the start, in the order of their indexes: one node was used, the dummy, which Head and Tail name
abbrev pub first_memory_words : (nodes : ℕ) → List ℕ
first_memory_words nodes = 1 ∷ 0 ∷ 1 ∷ 1 ∷ 0 ∷ 0 ∷ replicate (2 * nodes) 0

-- a plan by its parts
abbrev pub planned : (bits : ℕ) → Kind → (nodes limit : ℕ) → List Role → (carries : Bool) → Layout
planned bits kind nodes limit roles carries = record { setup = record { kind = kind; bits = bits; size = nodes; limit = limit }; roles = roles; carries = carries }

-- the plan of an arena of numbers, by its parts
abbrev pub plan : (bits : ℕ) → Kind → (nodes limit : ℕ) → List Role → Layout
plan bits kind nodes limit roles = planned bits kind nodes limit roles false

-- that of an arena that carries values
abbrev pub value_plan : (bits : ℕ) → Kind → (nodes limit : ℕ) → List Role → Layout
value_plan bits kind nodes limit roles = planned bits kind nodes limit roles true

-- a table's words at the start: the shared words lie in the first ones, and so many flags follow, all down
pub record LieFirst (nodes flags : ℕ) (table : List ℕ) : Type 0 where
  pub count : length table ≡ 48 + 2 * nodes + flags
  pub words : shared_words (take (48 + 2 * nodes) table) ≡ first_memory_words nodes
  pub down : (i : ℕ) → get_or table (48 + 2 * nodes + i) 0 ≡ 0

-- the arena's own token, which deals this number next
pub record IsKeeper {T : Type 0} (t : TableId) (k : Token (Option T) (Beside T)) (n : ℕ) : Type 0 where
  pub table : k.table_id ≡ t
  pub seat : k.me.0.plain ≡ keeper n
  pub held : k.me.1 ≡ []

-- a seat that was just dealt: it knows nothing, its pocket is empty, it keeps no nodes, and no slot is out with it
pub record IsDealt {T : Type 0} (z : Layout) (t : TableId) (n : ℕ) (s : Seat T) : Type 0 where
  pub seat : Sits z t s
  pub view : view s ≡ new_seat n
  pub number : s.number ≡ n
  pub pocket : pocket_of s ≡ None
  pub failed : s.failed ≡ 0
  pub keeps : keeps_of s ≡ false
  pub none_out : HasNoSlot s
  pub deeds : deeds_of s ≡ []

-- seats that were just dealt, numbered from 1
abbrev pub AreDealt : {T : Type 0} → Layout → TableId → List (Seat T) → Type 0
AreDealt z t seats = (k : ℕ) (s : Seat _) → slice_get seats k ≡ Some s → IsDealt z t (k + 1) s

-- a new seat of an arena: it may begin a call, knows nothing, its pocket is empty, it keeps no nodes, and no slot is out with it
pub record IsNewSeat {T : Type 0} (r : Arena) (n : ℕ) (s : Seat T) : Type 0 where
  pub ready : IsReady r s
  pub view : view s ≡ new_seat n
  pub number : s.number ≡ n
  pub pocket : pocket_of s ≡ None
  pub failed : s.failed ≡ 0
  pub keeps : keeps_of s ≡ false
  pub none_out : HasNoSlot s
  pub deeds : deeds_of s ≡ []

-- a new arena of a plan, with a new seat for each role, numbered from 1
pub record IsMade {T : Type 0} (z : Layout) (r : Arena) (seats : List (Seat T)) : Type 0 where
  pub plan : plan_of r ≡ z
  pub count : length seats ≡ length z.roles
  pub each : (k : ℕ) (s : Seat T) → slice_get seats k ≡ Some s → IsNewSeat r (k + 1) s

-- a new arena is refused for this cause: a size is out of its range, or memory was refused where all are in theirs
abbrev pub NewRefused : Layout → Refusal → Type 0
NewRefused z BadSize = IsUnsized z.setup (length z.roles)
NewRefused z Memory = IsSized z.setup (length z.roles)
NewRefused z _ = ⊥
