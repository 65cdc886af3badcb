-- The failed turns of a seat are paid by what the others did: those of its whole life, and those of some lines of its own.
use Rattle.std.specs.Prelude.{◌≡◌, ℕ, ◌+◌, ◌≤◌, List, ◌∷◌, ◌++◌, length, Some}
use mathlib.Core.Option.{some}
use lib.ListN.{get_elem?}
use Rattle.atomic_table.specs.Table.{State}
use Rattle.line_table.specs.declared.lines.Kind.TheVariants.{NonBlocking}
use Rattle.line_table.specs.declared.lines.Line.{Line}
use Rattle.line_table.specs.declared.lines.Line.TheVariants.{N1, F1, E2, D2, S1}
use Rattle.history.specs.declared.operations.Entry.{Entry}
use Rattle.step_machine.specs.Words.{memory_words}
use Rattle.step_machine.specs.Machine.{AnyMove}
use Rattle.node_arena.specs.Traces.{Event, Traced, trace, IsTraced}
use Rattle.node_arena.specs.Turns.{failed_turns}
use Rattle.node_arena.specs.Knowledge.{SeatView, View, members}
use Rattle.node_arena.specs.Places.{shared_words}
use Rattle.node_arena.specs.Plans.{Layout}
use Rattle.node_arena.specs.Rule.{Holds, Fits, IsRunTo}
use Rattle.node_arena.specs.Arenas.{Arena}
use Rattle.node_arena.specs.declared.seats.Seat.{Seat}
use Rattle.node_arena.specs.Seats.{IsReady, IsSeat, view}
use Rattle.node_arena.specs.Paths.{IsLater, added}
use Rattle.run_laws.specs.Others.{nodes_of_others, paid}

-- how many turns of a seat all that the others did pays for, from the start on
abbrev pub paid_by : (link pop node me : ℕ) → Traced → ℕ
paid_by link pop node me t = paid link pop node me t.history (nodes_of_others me t)

-- a fact of all traced worlds of the non-blocking queue
abbrev pub OfTraces : (Traced → Type 0) → Type 0
OfTraces P = (t : Traced) → IsTraced t → t.world.setup.kind ≡ NonBlocking → P t

-- the turns of each seat that failed, from the start on, are paid by the others
abbrev pub TurnsArePaid : (link pop node : ℕ) → Traced → Type 0
TurnsArePaid link pop node t = (me : ℕ) → failed_turns (t.paths me) ≤ paid_by link pop node me t

-- a seat went through its last lines after a world in which its path was still without them, and from which moves lead on to
-- this one: the turns that failed at these lines are at most so many, and those that the others paid for meanwhile
pub record PaidSince (own link pop node me : ℕ) (before added : List Event) (t : Traced) : Type 0 where
  pub was : Traced
  pub reached : IsTraced was
  pub moves : List AnyMove
  pub led : trace moves was ≡ Some t
  pub path : was.paths me ≡ before
  pub entries : List Entry
  pub history : t.history ≡ was.history ++ entries
  pub nodes : ℕ
  pub taken : nodes_of_others me t ≡ nodes_of_others me was + nodes
  pub turns : failed_turns added ≤ own + paid link pop node me entries nodes

-- of whichever last lines of each seat the failed turns are paid
abbrev pub LinesArePaid : (own link pop node : ℕ) → Traced → Type 0
LinesArePaid own link pop node t =
    (me : ℕ) (before added : List Event) → t.paths me ≡ before ++ added → PaidSince own link pop node me before added t

-- whether a line is one at which a call may begin
abbrev pub IsFirst : Line → Type 0
IsFirst N1 = Unit {0}
IsFirst E2 = Unit {0}
IsFirst F1 = Unit {0}
IsFirst D2 = Unit {0}
IsFirst S1 = Unit {0}
IsFirst l = ⊥

-- the same of last lines that begin at such a line
abbrev pub CallsArePaid : (own link pop node : ℕ) → Traced → Type 0
CallsArePaid own link pop node t =
    (me : ℕ) (before rest : List Event) (first : Event) → t.paths me ≡ before ++ first ∷ rest → IsFirst first.line →
    PaidSince own link pop node me before (first ∷ rest) t

-- from one world on to a later one a seat went through these lines: the turns that failed at them are at most so many, and
-- those that the others paid for meanwhile
pub record PaidBetween (own link pop node me : ℕ) (added : List Event) (was t : Traced) : Type 0 where
  pub entries : List Entry
  pub history : t.history ≡ was.history ++ entries
  pub nodes : ℕ
  pub taken : nodes_of_others me t ≡ nodes_of_others me was + nodes
  pub turns : failed_turns added ≤ own + paid link pop node me entries nodes

-- of two moments of a seat of a non-blocking queue, in the first of which it may begin a call: from the world that its run leads
-- to in the one on to that in the other the turns that failed are paid
abbrev pub AreMomentsPaid : (own link pop node : ℕ) → Type 0 → Type 0
AreMomentsPaid own link pop node T =
    (r : Arena) (s t : Seat T) (was now : Traced) → r.plan.setup.kind ≡ NonBlocking → IsReady r s → IsSeat r t → (view t).number ≡ (view s).number → IsLater s t
    → IsRunTo r.plan (view s).ran was → IsRunTo r.plan (view t).ran now → PaidBetween own link pop node (view s).number (added s t) was now

-- moves lead to a world with exactly the shared words that lie in the table, to which each seat fits, and in which the
-- failed turns of each seat are paid by what the others did
pub record IsPaidMoment (link pop node : ℕ) (z : Layout) (s : State ℕ View) : Type 0 where
  pub trace : Traced
  pub reached : IsTraced trace
  pub setup : trace.world.setup ≡ z.setup
  pub peopled : length trace.world.actors ≡ length z.roles
  pub words : shared_words s.words ≡ memory_words z.setup.bits trace.world.shared
  pub fits : (j i : ℕ) (u : View) (v : SeatView) → get_elem? s.views j ≡ some u → get_elem? (members u) i ≡ some v → Fits trace v
  pub turns : (j i : ℕ) (u : View) (v : SeatView) → get_elem? s.views j ≡ some u → get_elem? (members u) i ≡ some v → failed_turns v.path ≤ paid_by link pop node v.number trace
  pub calls : CallsArePaid 1 link pop node trace
  pub lines : LinesArePaid 2 link pop node trace

-- whatever the rule of a non-blocking queue holds of is such a moment
abbrev pub EachMomentIsPaid : (link pop node : ℕ) → Type 0
EachMomentIsPaid link pop node =
    (z : Layout) (s : State ℕ View) → Holds z s → z.setup.kind ≡ NonBlocking → IsPaidMoment link pop node z s
