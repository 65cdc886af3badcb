-- What clauses say of an arena and its seats.
use Rattle.std.specs.Prelude.{◌≡◌, ℕ, ◌+◌, ◌-◌, ◌^◌, ◌<◌, nat_lt, List, ◌++◌, Option, Some, None, slice_get, Bool, true, false, ◌&&◌}
use Rattle.std.specs.List.{count_by}
use Rattle.std.specs.Option.{is_some, unwrap_or}
use Rattle.line_table.specs.declared.lines.Line.{Line}
use Rattle.line_table.specs.declared.lines.Line.TheVariants.{E9, D13, A5, B5, S4, S8}
use Rattle.history.specs.declared.operations.Entry.{Entry}
use Rattle.history.specs.Entries.{is_push, is_pop, is_shut}
use Rattle.history.specs.Seats.{Permit, Known, IsSound}
use Rattle.line_steps.specs.declared.actors.Setup.{Setup}
use Rattle.line_steps.specs.declared.actors.Held.{Held}
use Rattle.line_steps.specs.Lines.{action}
use Rattle.step_machine.specs.Tables.{WordStep, word_step}
use Rattle.step_machine.specs.Machine.{AnyMove}
use Rattle.atomic_table.specs.Seated.{TableId}
use Rattle.node_arena.specs.declared.roles.Role.{Role}
use Rattle.node_arena.specs.Arenas.{Arena}
use Rattle.node_arena.specs.declared.seats.Seat.{Seat}
use Rattle.node_arena.specs.Prologues.{Prologue, after_prologue, at_rest, CanStart}
use Rattle.node_arena.specs.Knowledge.{SeatView, seated, knows, known_by}
use Rattle.node_arena.specs.Plans.{Layout, IsTable, PermitsLine, permits_by, may_push, may_pop}
use Rattle.node_arena.specs.Traces.{Traced}
use Rattle.node_arena.specs.Rule.{Steps, LearnsRun, Fitted}
use Rattle.node_arena.specs.Deeds.{Deed}
use Rattle.node_arena.specs.Slots.{Try}
use Rattle.node_arena.specs.Beside.{HasNone, KnowsNow, LoadedAt, Moves}

-- the plan of an arena
abbrev pub plan_of : Arena → Layout
plan_of r = r.plan

-- the setup of an arena
abbrev pub setup_of : Arena → Setup
setup_of r = r.plan.setup

-- what each seat of an arena may do
abbrev pub permits_of : Arena → List Permit
permits_of r = permits_by r.plan.roles

-- what a seat knows
abbrev pub view : {T : Type 0} → Seat T → SeatView
view s = knows s.token.me.0.plain

-- what a seat knows of its queue
abbrev pub known_of : {T : Type 0} → Seat T → Known
known_of s = known_by (view s)

-- the number of a seat
abbrev pub number_of : {T : Type 0} → Seat T → ℕ
number_of s = s.number

-- the role of a seat
abbrev pub role_of : {T : Type 0} → Seat T → Role
role_of s = s.role

-- a pocket that holds a node, or an empty one
abbrev pub some_if : Bool → Held → Option Held
some_if true h = Some h
some_if false h = None

-- the node in a seat's pocket, as the seat stores it
abbrev pub pocket_of : {T : Type 0} → Seat T → Option Held
pocket_of s = some_if s.full s.held

-- the failed turns of a seat's last call, as the seat stores them
abbrev pub failed_of : {T : Type 0} → Seat T → ℕ
failed_of s = s.failed

-- a seat that keeps another pocket and another number of failed turns: an emptied one still has the node's number, which
-- then means nothing
abbrev pub keeping : {T : Type 0} → Seat T → Option Held → ℕ → Seat T
keeping s pocket failed = record s { full = is_some pocket; held = unwrap_or pocket s.held; failed = failed }

-- whether a seat keeps a node that comes free at its pop
abbrev pub keeps_of : {T : Type 0} → Seat T → Bool
keeps_of s = s.keeps

-- a seat that was told whether to keep its nodes: it does where it may push and pop too
abbrev pub told_to_keep : {T : Type 0} → Seat T → Bool → Seat T
told_to_keep s keeps = record s { keeps = keeps && may_push s.role && may_pop s.role }

-- whether an arena carries values
abbrev pub carries_of : Arena → Bool
carries_of r = r.plan.carries

-- no slot is out with a seat
abbrev pub HasNoSlot : {T : Type 0} → Seat T → Type 0
HasNoSlot s = HasNone s.token.me

-- the arena's table is laid out for its plan
abbrev pub IsArena : Arena → Type 0
IsArena r = IsTable r.plan r.key r.id

-- a seat of a table: it is an actor by its number, has its role, counts its own pushes and pops, has whether a shut is its
-- own, and fits to some traced world, and what it knows of values is so; which world and which values aren't said, so that this
-- has at most one proof
pub record Sits {T : Type 0} (z : Layout) (t : TableId) (s : Seat T) : Type 0 where
  pub table : s.token.table_id ≡ t
  pub seat : s.token.me.0.plain ≡ seated (view s)
  pub none_out : z.carries ≡ false → HasNone s.token.me
  pub number : s.number ≡ (view s).number
  pub role : slice_get z.roles (s.number - 1) ≡ Some s.role
  pub pushes : s.pushes ≡ count_by is_push (view s).mine
  pub pops : s.pops ≡ count_by is_pop (view s).mine
  pub shut : s.shut ≡ nat_lt 0 (count_by is_shut (view s).mine)
  pub fitted : ∥ Fitted z (view s) ∥₁
  pub valued : ∥ KnowsNow z s.token.me.0 ∥₁

-- a seat of an arena
pub record IsSeat {T : Type 0} (r : Arena) (s : Seat T) : Type 0 where
  pub arena : IsArena r
  pub sits : Sits r.plan r.id s

-- what each seat of any arena knows is sound
abbrev pub EachSeatIsSound : Type 0 → Type 0
EachSeatIsSound T = (r : Arena) (s : Seat T) → IsSeat r s → IsSound (permits_of r) (known_of s)

-- the seat keeps its number, its role, whether it keeps nodes, its pocket and its count of failed turns
pub record KeepsStored {T : Type 0} (s t : Seat T) : Type 0 where
  pub number : t.number ≡ s.number
  pub role : t.role ≡ s.role
  pub keeps : keeps_of t ≡ keeps_of s
  pub pocket : pocket_of t ≡ pocket_of s
  pub failed : t.failed ≡ s.failed

-- a seat is the same one by its number and its role, and keeps nodes as before
pub record KeepsName {T : Type 0} (s t : Seat T) : Type 0 where
  pub number : t.number ≡ s.number
  pub role : t.role ≡ s.role
  pub keeps : keeps_of t ≡ keeps_of s

-- how many pushes a line counts
abbrev pub pushes_at : Line → ℕ
pushes_at E9 = 1
pushes_at A5 = 1
pushes_at l = 0

-- how many pops a line counts
abbrev pub pops_at : Line → ℕ
pops_at D13 = 1
pops_at B5 = 1
pops_at l = 0

-- whether a seat made a shut, by whether it had made one before a line
abbrev pub shut_by : Line → Bool → Bool
shut_by S4 before = true
shut_by S8 before = true
shut_by l before = before

-- a seat that counts what a line counts
abbrev pub counting : {T : Type 0} → Seat T → Line → Seat T
counting s l = record s { pushes = s.pushes + pushes_at l; pops = s.pops + pops_at l; shut = shut_by l s.shut }

-- a counter of a seat has room for what a line counts
abbrev pub HasRoom : {T : Type 0} → Seat T → Line → Type 0
HasRoom s E9 = s.pushes + 1 < 2 ^ 64
HasRoom s A5 = s.pushes + 1 < 2 ^ 64
HasRoom s D13 = s.pops + 1 < 2 ^ 64
HasRoom s B5 = s.pops + 1 < 2 ^ 64
HasRoom s l = Unit {0}

-- a seat's actor, led there, stands before a line
pub record IsBefore {T : Type 0} (r : Arena) (s : Seat T) (prologue : Prologue) (l : Line) : Type 0 where
  pub seat : IsSeat r s
  pub can : CanStart prologue (view s).actor
  pub line : (after_prologue r.plan.setup (view s).number prologue (view s).actor).line ≡ Some l

-- the seat's next move by the rule is this step on a word, at this line, with these moves before it, and the seat's role
-- permits it; where values are carried and the line may push, the slot of the body is out with the seat, with a value in it, and
-- where it may pop, none is
pub record MayStep {T : Type 0} (r : Arena) (s : Seat T) (prologue : Prologue) (l : Line) (x : WordStep) : Type 0 where
  pub seat : IsSeat r s
  pub leads : CanStart prologue (view s).actor
  pub line : (after_prologue r.plan.setup (view s).number prologue (view s).actor).line ≡ Some l
  pub access : word_step r.plan.setup.bits (action r.plan.setup (view s).number (after_prologue r.plan.setup (view s).number prologue (view s).actor) l) ≡ x
  pub permits : PermitsLine s.role l
  pub loaded : LoadedAt l r.plan (after_prologue r.plan.setup (view s).number prologue (view s).actor).val.body s.token.me

-- what a seat has seen of the history of values
abbrev pub deeds_of : {T : Type 0} → Seat T → List (Deed T)
deeds_of s = s.token.me.0.deeds

-- a seat's tries at slots
abbrev pub tries_of : {T : Type 0} → Seat T → List Try
tries_of s = s.token.me.0.tries

-- what a seat has seen of values goes on from what it had seen
pub record SeesMoreDeeds {T : Type 0} (s t : Seat T) : Type 0 where
  pub between : List (Deed T)
  pub deeds : deeds_of t ≡ deeds_of s ++ between

-- the slots that are out with a seat are those that were, it has tried no more of them, and what it has seen of values goes on
pub record KeepsSlots {T : Type 0} (s t : Seat T) : Type 0 where
  pub same : t.token.me.1 ≡ s.token.me.1
  pub hand : t.token.me.0.hand ≡ s.token.me.0.hand
  pub tries : tries_of t ≡ tries_of s
  pub number : (view t).number ≡ (view s).number
  pub more : SeesMoreDeeds s t

-- the seat made that step, and found this number; what it then knows of values is so
pub record DidStep {T : Type 0} (r : Arena) (s t : Seat T) (prologue : Prologue) (l : Line) (n : ℕ) : Type 0 where
  pub seat : IsSeat r t
  pub stored : KeepsStored s t
  pub told : Steps r.plan prologue l n (view s) (view t)
  pub moves : Moves r.plan s.token.me t.token.me
  pub valued : KnowsNow r.plan t.token.me.0

-- the seat made that step
abbrev pub DidSome : {T : Type 0} → Arena → Seat T → Seat T → Prologue → Line → Type 0
DidSome r s t prologue l = (n : ℕ) × DidStep r s t prologue l n

-- a seat in no call, or whose actor may give up or rest: its pocket is the one that its actor then has
pub record IsReady {T : Type 0} (r : Arena) (s : Seat T) : Type 0 where
  pub seat : IsSeat r s
  pub free : (at_rest (view s).actor).line ≡ None
  pub pocket : pocket_of s ≡ (at_rest (view s).actor).pocket

-- a seat stores and knows the same as before, but that it has now seen this, which begins with what it had seen, and knows of the
-- run up to this world
pub record Sees {T : Type 0} (z : Layout) (s t : Seat T) (all : List Entry) (was : Traced) : Type 0 where
  pub stored : KeepsStored s t
  pub ran : List AnyMove
  pub run : LearnsRun z (view s) ran was
  pub knows : view t ≡ record (view s) { seen = all; ran = ran }
  pub more : List Entry
  pub begins : all ≡ (view s).seen ++ more

-- two seats have seen one history of values, which goes on from what each had seen
pub record MeetsValues {T : Type 0} (s t s' t' : Seat T) : Type 0 where
  pub same : deeds_of t' ≡ deeds_of s'
  pub first : SeesMoreDeeds s s'
  pub second : SeesMoreDeeds t t'

-- two seats have met: both have seen the history of one world, which begins with what each had seen, and where values are carried
-- one of these; no slot is out with one of them
pub record Meets {T : Type 0} (r : Arena) (s t s' t' : Seat T) : Type 0 where
  pub one : IsReady r s'
  pub other : IsReady r t'
  pub was : Traced
  pub all : List Entry
  pub history : was.history ≡ all
  pub first : Sees r.plan s s' all was
  pub second : Sees r.plan t t' all was
  pub none_out : HasNoSlot s' × HasNoSlot t'
  pub values : carries_of r ≡ true → MeetsValues s t s' t'
