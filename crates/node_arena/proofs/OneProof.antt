-- That a seat is an arena's has at most one proof: its equations are between values of sets, and that it fits to some traced
-- world doesn't say to which.
use Rattle.std.specs.Coded.{Coded-set}
use Rattle.std.proofs.Props.{props}
use Rattle.atomic_table.specs.Seated.{TableId, table_id_coded}
use Rattle.line_table.specs.contracts.lines.Line as line
use Rattle.line_table.specs.declared.lines.Line.{Line}
use Rattle.history.specs.contracts.operations.Entry as entry
use Rattle.history.specs.contracts.operations.Op as op
use Rattle.history.specs.contracts.operations.Reply as reply
use Rattle.history.specs.contracts.operations.Taken as taken
use Rattle.history.specs.declared.operations.Entry.{Entry}
use Rattle.history.specs.declared.operations.Op.{Op}
use Rattle.history.specs.declared.operations.Reply.{Reply}
use Rattle.history.specs.declared.operations.Taken.{Taken}
use Rattle.line_steps.specs.contracts.actors.Held as held
use Rattle.line_steps.specs.contracts.actors.Setup as setup
use Rattle.line_steps.specs.declared.actors.Held.{Held}
use Rattle.line_steps.specs.declared.actors.Setup.{Setup}
use Rattle.node_arena.specs.contracts.roles.Role as role
use Rattle.node_arena.specs.declared.roles.Role.{Role}
use Rattle.node_arena.specs.declared.seats.Seat.{Seat}
use Rattle.node_arena.specs.Arenas.{Arena}
use Rattle.node_arena.specs.Plans.{Layout, IsTable}
use Rattle.node_arena.specs.Knowledge.{SeatView, View}
use Rattle.node_arena.specs.Seats.{Sits, IsSeat, IsReady}

Line-set : IsSet Line
Line-set = Coded-set line.the_row.coded

pub Held-set : IsSet Held
Held-set = Coded-set held.the_row.coded

Role-set : IsSet Role
Role-set = Coded-set role.the_row.coded

Setup-set : IsSet Setup
Setup-set = Coded-set setup.the_row.coded

TableId-set : IsSet TableId
TableId-set = Coded-set table_id_coded

-- what a seat knows is of a set, as views are
SeatView-set : IsSet SeatView
SeatView-set = hlevel (
  props,
  Line-set,
  Held-set,
  Coded-set {A = Entry} entry.the_row.coded,
  Coded-set {A = Op} op.the_row.coded,
  Coded-set {A = Reply} reply.the_row.coded,
  Coded-set {A = Taken} taken.the_row.coded,
)

View-set : IsSet View
View-set = hlevel (props, SeatView-set)

Layout-set : IsSet Layout
Layout-set = hlevel (props, Setup-set, Role-set)

IsTable-prop : (z about : Layout) (t : TableId) → IsProp (IsTable z about t)
IsTable-prop z about t = hlevel (props, Layout-set)

Sits-prop : {T : Type 0} (z : Layout) (t : TableId) (s : Seat T) → IsProp (Sits z t s)
Sits-prop z t s = hlevel (props, TableId-set, View-set, Role-set)

pub IsSeat-prop : {T : Type 0} (r : Arena) (s : Seat T) → IsProp (IsSeat r s)
IsSeat-prop r s = hlevel (IsTable-prop, Sits-prop)

-- and that it is one in no call
pub IsReady-prop : {T : Type 0} (r : Arena) (s : Seat T) → IsProp (IsReady r s)
IsReady-prop r s = hlevel (props, IsSeat-prop, Line-set, Held-set)
