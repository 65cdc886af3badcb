-- The room that a world keeps for nodes and operations, and its lists after an outcome was told.
use Rattle.std.specs.Prelude.{◌≡◌, ℕ, ◌+◌, ◌-◌, ◌<◌, ◌≤◌, ◌⊎◌, List, [], ◌∷◌, ◌++◌, length, Option, Some, None, slice_set, slice_get, nat_eq, if◌then◌else◌}
use Rattle.std.specs.List.{sum_by}
use Rattle.line_steps.specs.Rooms.{Memory}
use Rattle.step_machine.specs.Below.{Line, N1, N2, N3, N4, N5, Op, Reply, Stamped, Setup, Actor, Outcome, action, outcome, found, memory_after}
use Rattle.step_machine.specs.Machine.{entry_or, new_operation, with_outcome, with_operation}

-- whether an actor at a line still looks for a node, as a number
abbrev pub wants_node : Option Line → ℕ
wants_node (Some N1) = 1
wants_node (Some N2) = 1
wants_node (Some N3) = 1
wants_node (Some N4) = 1
wants_node (Some N5) = 1
wants_node _ = 0

-- how many actors still look for a node
abbrev pub wanting_node : List Actor → ℕ
wanting_node actors = sum_by (λ a. wants_node a.line) actors

-- whether an actor has a call without a number, as a number
abbrev pub is_unrecorded : Option Line → Option ℕ → ℕ
is_unrecorded None entry = 0
is_unrecorded (Some l) None = 1
is_unrecorded (Some l) (Some entry) = 0

-- how many actors have a call without a number
abbrev pub unrecorded : List Actor → ℕ
unrecorded actors = sum_by (λ a. is_unrecorded a.line a.entry) actors

-- there is room for every node, or for those used and one more for each actor that looks for one
abbrev pub HasNodes : (size fresh room : ℕ) → List Actor → Type 0
HasNodes size fresh room actors = (room ≡ size) ⊎ (fresh + wanting_node actors ≤ room)

-- a call's operation stands in the list already, or there is room for it
abbrev pub HasEntry : Option ℕ → (len capacity : ℕ) → Type 0
HasEntry None len capacity = len < capacity
HasEntry (Some entry) len capacity = entry < len

-- the actor of a number in a list of actors; none for 0 and above their number
abbrev pub actor_in : List Actor → ℕ → Option Actor
actor_in actors me = if nat_eq me 0 then None else slice_get actors (me - 1)

-- an actor after it was told an outcome, with its entry in a list of operations that was so long
abbrev pub entered : (entry : Option ℕ) → (len : ℕ) → Outcome → Actor
entered entry len o = record o.actor { entry = Some (entry_or entry len) }

-- the actors after one of them was told an outcome
abbrev pub actors_after : (me : ℕ) → (entry : Option ℕ) → (len : ℕ) → Outcome → List Actor → List Actor
actors_after me entry len o actors = slice_set actors (me - 1) (entered entry len o)

-- the operations once that of a call stands in their list: its first step adds it
abbrev pub listed : (entry : Option ℕ) → Stamped → List Stamped → List Stamped
listed None new ops = ops ++ new ∷ []
listed (Some entry) new ops = ops

-- the operations after the call of an actor was told an outcome
abbrev pub operations_after : (me : ℕ) → Op → (entry : Option ℕ) → (now : ℕ) → Outcome → List Stamped → List Stamped
operations_after me op entry now o operations = with_operation entry (new_operation me op now) (with_outcome now o) operations

-- the outcome of a step at a line, on a memory
abbrev pub led : Setup → (now me : ℕ) → Actor → Line → Memory → Outcome
led s now me a l m = outcome s now me a l (found (action s me a l) m.words)

-- the reply of an operation, where it is there and its call is complete
abbrev pub reply_in : Option Stamped → Option Reply
reply_in None = None
reply_in (Some operation) = operation.reply

-- what a step at a line left: the memory, the operations, its actor and the reply
pub record TookStep (s : Setup) (now me : ℕ) (l : Line) (old : Memory) (ops : List Stamped) (a : Actor) (new : Memory) (told : List Stamped) (b : Actor) (r : Option Reply) : Type 0 where
  pub memory : new ≡ memory_after (action s me a l) (led s now me a l old) old
  pub actor : b ≡ entered a.entry (length ops) (led s now me a l old)
  pub operations : told ≡ operations_after me a.op a.entry now (led s now me a l old) ops
  pub reply : r ≡ (led s now me a l old).reply
