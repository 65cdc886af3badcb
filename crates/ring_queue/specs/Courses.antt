-- Courses of a ring's table, by its states and by what steps tell their seats alone: whichever runs fit these states, the runs that
-- steps tell of are beginnings of one another, in the order of the steps.
use Rattle.std.specs.Prelude.{◌≡◌, ◌≢◌, ℕ, ◌+◌, ◌≤◌, List, [], ◌∷◌, ◌++◌, length, slice_set, true, Option}
use Rattle.std.specs.List.{AllByRecursion}
use mathlib.Core.List.{IsPrefix}
use mathlib.Core.Option.{some}
use lib.ListN.{get_elem?}
use Rattle.atomic_table.specs.Table.{State, Me}
use Rattle.history.specs.declared.operations.Entry.{Entry}
use Rattle.history.specs.Entries.{own_entries, IsQueueRun}
use Rattle.node_arena.specs.KnownRuns.{IsAmong, Keeps}
use Rattle.ring_queue.specs.Plans.{Layout, words_of}
use Rattle.ring_queue.specs.Paths.{Event, Step, Ran, accessed, added_by, sees}
use Rattle.ring_queue.specs.Knowledge.{SeatView, View, keeper, gathered, seated, paired, spent, new_seat, knowing, knows}
use Rattle.ring_queue.specs.Rule.{Holds}
use Rattle.ring_queue.specs.Meets.{learned}
use Rattle.ring_queue.specs.Steps.{Went, TailFound, TailSeen, HeadFound, PlacesClaimed, PlaceFilledBy, FrontFound, NextFound, FrontsTaken, EndFound, ShutMade}
use Rattle.ring_queue.specs.Beside.{Beside, plain_state}

-- a step tells a seat, by what it knew before and knows afterwards, which access it made
pub record Goes (z : Layout) (v v' : SeatView) : Type 0 where
  pub event : Event
  pub number : v'.number ≡ v.number
  pub went : Went z v event v'

-- a state comes after another by a step of which a seat is told this: of the views its own alone changes
pub record IsStep (z : Layout) (s s' : State ℕ View) : Type 0 where
  pub id : ℕ
  pub before : SeatView
  pub after : SeatView
  pub seat : get_elem? s.views id ≡ some (seated before)
  pub views : s'.views ≡ slice_set s.views id (seated after)
  pub told : Goes z before after

-- a state comes after another by a change of views that isn't a step: each seat is still there, and knows no less of the run
pub record IsQuiet (s s' : State ℕ View) : Type 0 where
  pub words : s'.words ≡ s.words
  pub kept : Keeps knowing s.views s'.views

-- a state comes after another one
pub data IsAfter (z : Layout) (s s' : State ℕ View) : Type 0 where
  stepped : IsStep z s s' → IsAfter z s s'
  quiet : IsQuiet s s' → IsAfter z s s'

-- states by the rule, each of which comes after the one before it
abbrev pub IsCourse : (z : Layout) → State ℕ View → List (State ℕ View) → Type 0
IsCourse z s [] = Holds z s
IsCourse z s (t ∷ ts) = Holds z s × IsAfter z s t × IsCourse z t ts

-- the last of some states
abbrev pub last_state : State ℕ View → List (State ℕ View) → State ℕ View
last_state s [] = s
last_state s (t ∷ ts) = last_state t ts

-- a seat is among the views of a state
abbrev pub IsMember : State ℕ View → SeatView → Type 0
IsMember s v = IsAmong knowing s.views v

-- whichever runs fit the states before and after a step: the one is the other with just the access of which the step tells, its seat
-- then knows all of it, and the history goes on with what took its effect with this access, which is all of this seat, whose own
-- entries are just those of the history
pub record AddsItsAccess (z : Layout) (s t : State ℕ View) (h : Holds z s) (k : Holds z t) (g : IsStep z s t) : Type 0 where
  pub run : k.run.trace ≡ accessed h.run.trace g.before.number g.told.event
  pub known : g.after.ran ≡ k.run.trace
  pub history : k.ring.history ≡ h.ring.history ++ g.told.event.adds
  pub own : own_entries g.before.number g.told.event.adds ≡ g.told.event.adds
  pub mine : own_entries g.before.number k.ring.history ≡ g.after.mine

-- of each step
abbrev pub EachStepAddsItsAccess : Type 0
EachStepAddsItsAccess = (z : Layout) (s t : State ℕ View) (h : Holds z s) (k : Holds z t) (g : IsStep z s t) → AddsItsAccess z s t h k g

-- what each seat knows of the run in a state is a beginning of what the next step's seat then knows of it
abbrev pub StepsComeInOrder : Type 0
StepsComeInOrder = (z : Layout) (s t : State ℕ View) → Holds z s → Holds z t → (g : IsStep z s t) (v : SeatView) → IsMember s v → IsPrefix v.ran g.after.ran

-- at each step but one that fills a place, a seat has then seen what any seat had seen before
abbrev pub WhatWasSeenIsSeen : Type 0
WhatWasSeenIsSeen = (z : Layout) (s t : State ℕ View) → Holds z s → Holds z t → (g : IsStep z s t) (v : SeatView) → sees g.told.event.line ≡ true → IsMember s v → IsPrefix v.seen g.after.seen

-- what the seat of a step then knows of the run
abbrev pub told_in : (z : Layout) (s t : State ℕ View) → IsAfter z s t → List (List Step)
told_in z s t (stepped g) = g.after.ran ∷ []
told_in z s t (quiet q) = []

-- the same of the steps of a course, in order
abbrev pub runs_of : (z : Layout) (s : State ℕ View) (ts : List (State ℕ View)) → IsCourse z s ts → List (List Step)
runs_of z s [] c = []
runs_of z s (t ∷ ts) c = told_in z s t c.1 ++ runs_of z t ts c.2

-- a run goes on to a longer one
pub record IsEarlier (run later : List Step) : Type 0 where
  pub more : List Step
  pub goes_on : later ≡ run ++ more
  pub some : 1 ≤ length more

-- each of these runs goes on to all later ones
abbrev pub AreInOrder : List (List Step) → Type 0
AreInOrder [] = Unit {0}
AreInOrder (run ∷ runs) = AllByRecursion (IsEarlier run) runs × AreInOrder runs

-- the runs of which the steps of a course tell are one, which goes on from each step to all later ones, and what took its effect with
-- each is the history of a queue
pub record IsOfOneRun (z : Layout) (s : State ℕ View) (ts : List (State ℕ View)) (c : IsCourse z s ts) : Type 0 where
  pub ordered : AreInOrder (runs_of z s ts c)
  pub legal : AllByRecursion (λ run. IsQueueRun (added_by run)) (runs_of z s ts c)

-- each course of the table is so
abbrev pub EachCourseIsOfOneRun : Type 0
EachCourseIsOfOneRun = (z : Layout) (s : State ℕ View) (ts : List (State ℕ View)) (c : IsCourse z s ts) → IsOfOneRun z s ts c

-- of two steps one comes first: the run of which the later one tells is that of the other, with accesses of any seats, and with its own
-- one; so the history goes on from what had taken its effect with the first by what these added, and then by what the later one adds;
-- and the later one's seat has seen what the first one's had then seen, but where it fills a place
pub record ComesFirst (z : Layout) (s t s' t' : State ℕ View) (a : IsStep z s t) (b : IsStep z s' t') : Type 0 where
  pub between : List Step
  pub run : b.after.ran ≡ accessed (a.after.ran ++ between) b.before.number b.told.event
  pub history : added_by b.after.ran ≡ (added_by a.after.ran ++ added_by between) ++ b.told.event.adds
  pub seen : sees b.told.event.line ≡ true → IsPrefix a.after.seen b.after.seen

-- a step comes first of itself and each later step of a course
abbrev pub WhatWasDoneComesFirst : Type 0
WhatWasDoneComesFirst =
    (z : Layout) (s t : State ℕ View) (a : IsStep z s t) (ts : List (State ℕ View)) (u : State ℕ View) (b : IsStep z (last_state t ts) u)
    → Holds z s → IsCourse z t ts → Holds z u → ComesFirst z s t (last_state t ts) u a b

-- each line tells its seat which access it made
pub record EachLineTells : Type 0 where
  pub tail_found : (z : Layout) (v : SeatView) (n : ℕ) (v' : SeatView) → TailFound z v n v' → Goes z v v'
  pub tail_seen : (z : Layout) (v : SeatView) (n : ℕ) (v' : SeatView) → TailSeen z v n v' → Goes z v v'
  pub head_found : (z : Layout) (v : SeatView) (n : ℕ) (v' : SeatView) → HeadFound z v n v' → Goes z v v'
  pub claimed : (z : Layout) (bodies : List ℕ) (v : SeatView) (n : ℕ) (v' : SeatView) → PlacesClaimed z bodies v n v' → Goes z v v'
  pub filled : (z : Layout) (i w : ℕ) (v : SeatView) (n : ℕ) (v' : SeatView) → PlaceFilledBy z i w v n v' → Goes z v v'
  pub front_found : (z : Layout) (v : SeatView) (n : ℕ) (v' : SeatView) → FrontFound z v n v' → Goes z v v'
  pub next_found : (z : Layout) (ws : List ℕ) (v : SeatView) (n : ℕ) (v' : SeatView) → NextFound z ws v n v' → Goes z v v'
  pub taken : (z : Layout) (ws : List ℕ) (v : SeatView) (n : ℕ) (v' : SeatView) → FrontsTaken z ws v n v' → Goes z v v'
  pub end_found : (z : Layout) (v : SeatView) (n : ℕ) (v' : SeatView) → EndFound z v n v' → Goes z v v'
  pub shut : (z : Layout) (v : SeatView) (n : ℕ) (v' : SeatView) → ShutMade z v n v' → Goes z v v'

-- of a table with slots too: a step that tells a seat of it which access it made is a step of the queue's part of the table
abbrev pub ToldStepsAreSteps : Type 0 → Type 0
ToldStepsAreSteps T =
    (z : Layout) (s s' : State (Option T) (Beside T)) (id : ℕ) (me me' : Me (Option T) (Beside T)) → get_elem? s.views id ≡ some me.0 → s'.views ≡ slice_set s.views id me'.0
    → me.0.plain ≡ seated (knows me.0.plain) → me'.0.plain ≡ seated (knows me'.0.plain) → Goes z (knows me.0.plain) (knows me'.0.plain)
    → IsStep z (plain_state (words_of z) s) (plain_state (words_of z) s')

-- each change of views that isn't a step is quiet: two seats become one; two that are one become two; a token that knows nothing is cut
-- from a seat's; a seat is dealt; a token comes that gathers, and takes in a seat; and two seats that are one meet
pub record OtherChangesAreQuiet : Type 0 where
  pub pairs : (views : List View) (id other : ℕ) (v w : SeatView) → get_elem? views id ≡ some (seated v) → other ≢ id → get_elem? views other ≡ some (seated w)
      → Keeps knowing views (slice_set (slice_set views id (paired v w)) other spent)
  pub parts : (views : List View) (id : ℕ) (v w : SeatView) → get_elem? views id ≡ some (paired v w) → Keeps knowing views (slice_set views id (seated v) ++ seated w ∷ [])
  pub spares : (views : List View) (id : ℕ) (v : SeatView) → get_elem? views id ≡ some (seated v) → Keeps knowing views (slice_set views id (seated v) ++ spent ∷ [])
  pub deals : (views : List View) (id m n : ℕ) → get_elem? views id ≡ some (keeper m n) → Keeps knowing views (slice_set views id (keeper m (n + 1)) ++ seated (new_seat m n) ∷ [])
  pub comes : (views : List View) → Keeps knowing views (views ++ gathered [] ∷ [])
  pub gathers : (views : List View) (id other : ℕ) (vs : List SeatView) (w : SeatView) → get_elem? views id ≡ some (gathered vs) → other ≢ id → get_elem? views other ≡ some (seated w)
      → Keeps knowing views (slice_set (slice_set views id (gathered (vs ++ w ∷ []))) other spent)
  pub meets : (views : List View) (id : ℕ) (v w : SeatView) (es : List Entry) (run : List Step) → get_elem? views id ≡ some (paired v w) → Ran run v.number v.ran → Ran run w.number w.ran
      → Keeps knowing views (slice_set views id (paired (learned es run v) (learned es run w)))
