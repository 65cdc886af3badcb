-- What an arena is made for: its setup, and the role of each seat.
use Rattle.std.specs.Prelude.{◌≡◌, ◌+◌, ◌*◌, ℕ, if◌then◌else◌, Bool, true, false, IsTrue, List, length, map}
use Rattle.atomic_table.specs.Seated.{TableId}
use Rattle.line_table.specs.declared.lines.Line.{Line}
use Rattle.line_table.specs.declared.lines.Line.TheVariants.{E9, D13, A5, B5, S4, S8}
use Rattle.history.specs.declared.operations.Entry.{Entry}
use Rattle.history.specs.Seats as seats
use Rattle.history.specs.Seats.{Permit}
use Rattle.line_steps.specs.declared.actors.Setup.{Setup}
use Rattle.step_machine.specs.Machine.{IsSized}
use Rattle.node_arena.specs.declared.roles.Role.{Role}
use Rattle.node_arena.specs.declared.roles.Role.TheVariants.{Giver, Taker, Both}

-- the plan of an arena: the kind of queue, how many nodes and the greatest count, the roles of the seats from 1 on, and
-- whether it carries values: each number pushed is then that of the slot in which its value lies
pub record Layout : Type 0 where
  pub setup : Setup
  pub roles : List Role
  pub carries : Bool

-- whether a role may push
abbrev pub may_push : Role → Bool
may_push Giver = true
may_push Taker = false
may_push Both = true

-- whether a role may pop
abbrev pub may_pop : Role → Bool
may_pop Giver = false
may_pop Taker = true
may_pop Both = true

-- what a role permits
abbrev pub permit_of : Role → Permit
permit_of r = record { pushes = may_push r; pops = may_pop r }

-- what each seat may do, by the roles
abbrev pub permits_by : List Role → List Permit
permits_by roles = map permit_of roles

-- a role permits what a line adds to the history
abbrev pub PermitsLine : Role → Line → Type 0
PermitsLine r E9 = IsTrue (may_push r)
PermitsLine r A5 = IsTrue (may_push r)
PermitsLine r D13 = IsTrue (may_pop r)
PermitsLine r B5 = IsTrue (may_pop r)
PermitsLine r S4 = IsTrue (may_push r)
PermitsLine r S8 = IsTrue (may_push r)
PermitsLine r l = Unit {0}

-- an entry is permitted by the role of its seat
abbrev pub RolesPermit : List Role → Entry → Type 0
RolesPermit roles e = seats.IsPermitted (permits_by roles) e

-- a plan's sizes are in their ranges
abbrev pub IsPlanned : Layout → Type 0
IsPlanned z = IsSized z.setup (length z.roles)

-- how many slots there are: one a node, where values are carried
abbrev pub slots_of : Layout → ℕ
slots_of z = if z.carries then z.setup.size else 0

-- a table, made about a plan, is laid out for it
pub record IsTable (z about : Layout) (t : TableId) : Type 0 where
  pub sized : IsPlanned z
  pub key : about ≡ z
  pub words : t.words ≡ 48 + 2 * z.setup.size + slots_of z
  pub slots : t.slots ≡ slots_of z
