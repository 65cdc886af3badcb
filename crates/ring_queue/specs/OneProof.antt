-- That a seat is a ring's has at most one proof: its equations are between values of sets, and what it knows is sound in one way.
use Rattle.std.specs.Coded.{Coded-set}
use Rattle.std.proofs.Props.{props}
use Rattle.atomic_table.specs.Seated.{TableId, table_id_coded}
use Rattle.history.specs.contracts.operations.Entry as entry
use Rattle.history.specs.contracts.operations.Taken as taken
use Rattle.history.specs.declared.operations.Entry.{Entry}
use Rattle.history.specs.declared.operations.Taken.{Taken}
use Rattle.history.proofs.OneProof.{IsSound-prop}
use Rattle.ring_queue.specs.contracts.roles.Role as role
use Rattle.ring_queue.specs.declared.roles.Role.{Role}
use Rattle.ring_queue.specs.declared.queue.RingQueue.{RingQueue}
use Rattle.ring_queue.specs.declared.seats.Seat.{Seat}
use Rattle.ring_queue.specs.Plans.{Layout}
use Rattle.ring_queue.specs.Knowledge.{Stage, rests, claimed, found, unfilled, head_due, SeatView, View}
use Rattle.ring_queue.specs.Paths.{Line, Event}
use Rattle.ring_queue.specs.Steps.{Rests}
use Rattle.ring_queue.specs.Seats.{Sits, IsReady}
use Rattle.ring_queue.specs.PlacedSeats.{IsWordSeat}
use Rattle.ring_queue.specs.Queues.{IsNumberSeat}

Role-set : IsSet Role
Role-set = Coded-set role.the_row.coded

TableId-set : IsSet TableId
TableId-set = Coded-set table_id_coded

Stage-set : IsSet Stage
Stage-set = hlevel (props, Coded-set {A = Taken} taken.the_row.coded)

Line-set : IsSet Line
Line-set = hlevel props

Event-set : IsSet Event
Event-set = hlevel (props, Line-set, Coded-set {A = Entry} entry.the_row.coded)

SeatView-set : IsSet SeatView
SeatView-set = hlevel (props, Stage-set, Event-set, Coded-set {A = Entry} entry.the_row.coded)

View-set : IsSet View
View-set = hlevel (props, SeatView-set)

Rests-prop : (st : Stage) → IsProp (Rests st)
Rests-prop rests = hlevel props
Rests-prop (claimed p xs) = hlevel props
Rests-prop (found ws) = hlevel props
Rests-prop unfilled = hlevel props
Rests-prop head_due = hlevel props

Sits-prop : {T : Type 0} (z : Layout) (t : TableId) (s : Seat T) → IsProp (Sits z t s)
Sits-prop z t s = hlevel (props, TableId-set, View-set, Role-set, IsSound-prop)

-- a seat of a table is in no call
pub IsReady-prop : {T : Type 0} (z : Layout) (t : TableId) (s : Seat T) → IsProp (IsReady z t s)
IsReady-prop z t s = hlevel (props, Sits-prop, Rests-prop)

-- a seat is a ring's, in no call
pub IsNumberSeat-prop : {T : Type 0} (q : RingQueue T) (s : Seat T) → IsProp (IsNumberSeat q s)
IsNumberSeat-prop q s = hlevel (props, Sits-prop, Rests-prop)

-- a seat is one of a ring of words, in no call
pub IsWordSeat-prop : {T : Type 0} (q : RingQueue T) (s : Seat T) → IsProp (IsWordSeat q s)
IsWordSeat-prop q s = hlevel (props, Sits-prop, Rests-prop)
