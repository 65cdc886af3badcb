-- Courses of the table, by its states and by what steps tell their seats alone: whichever worlds fit these states, the worlds that
-- steps tell of lie on one list of moves, in the order of the steps.
use Rattle.std.specs.Prelude.{◌≡◌, ◌≢◌, ℕ, ◌+◌, ◌<◌, ◌≤◌, List, [], ◌∷◌, ◌++◌, length, slice_get, slice_set, true, Option, Some, IsSome}
use Rattle.std.specs.List.{AllByRecursion}
use mathlib.Core.List.{IsPrefix}
use mathlib.Core.Option.{some}
use lib.ListN.{get_elem?}
use Rattle.atomic_table.specs.Table.{State, Me}
use Rattle.line_table.specs.declared.lines.Line.{Line}
use Rattle.history.specs.declared.operations.Op.{Op}
use Rattle.history.specs.declared.operations.Reply.{Reply}
use Rattle.history.specs.declared.operations.Stamped.{Stamped}
use Rattle.history.specs.Linearizability.{IsLinearizable, EndsBefore}
use Rattle.line_steps.specs.Outcomes.{last_of}
use Rattle.step_machine.specs.Stamps.{makers}
use Rattle.step_machine.specs.Machine.{AnyMove}
use Rattle.step_machine.specs.Words.{memory_words}
use Rattle.step_machine.specs.Pasts.{IsBefore}
use Rattle.node_arena.specs.Places.{shared_words}
use Rattle.node_arena.specs.Traces.{Traced, LeadsBy, step_at, outcome_at, trace, first_trace, sees}
use Rattle.node_arena.specs.Prologues.{Prologue, begins, after_prologue}
use Rattle.node_arena.specs.Knowledge.{SeatView, View, keeper, gathered, seated, paired, spent, knows}
use Rattle.node_arena.specs.Beside.{Beside, plain_state, words_of, HoldsFor, TellsBeside}
use Rattle.node_arena.specs.Plans.{Layout}
use Rattle.node_arena.specs.Rule.{IsMember, Keeps, IsQuiet, Holds, Steps, line_or_first}

-- a state comes after another by a step of which a seat is told this: of the views its own alone changes
pub record IsStep (z : Layout) (s s' : State ℕ View) : Type 0 where
  pub id : ℕ
  pub before : SeatView
  pub after : SeatView
  pub prologue : Prologue
  pub line : Line
  pub found : ℕ
  pub seat : get_elem? s.views id ≡ some (seated before)
  pub views : s'.views ≡ slice_set s.views id (seated after)
  pub told : Steps z prologue line found before after

-- a state comes after another one
pub data IsAfter (z : Layout) (s s' : State ℕ View) : Type 0 where
  stepped : IsStep z s s' → IsAfter z s s'
  quiet : IsQuiet s s' → IsAfter z s s'

-- states by the rule, each of which comes after the one before it
abbrev pub IsCourse : (z : Layout) → State ℕ View → List (State ℕ View) → Type 0
IsCourse z s [] = Holds z s
IsCourse z s (t ∷ ts) = Holds z s × IsAfter z s t × IsCourse z t ts

-- the world after a step, as it tells
abbrev pub landed : (z : Layout) (s t : State ℕ View) → IsStep z s t → Traced
landed z s t g = step_at g.told.was g.before.number (after_prologue z.setup g.before.number g.prologue g.before.actor) g.line

-- what a step replies
abbrev pub reply_of : (z : Layout) (s t : State ℕ View) → IsStep z s t → Option Reply
reply_of z s t g = (outcome_at g.told.was.world.setup g.told.was g.before.number (after_prologue z.setup g.before.number g.prologue g.before.actor) g.line).reply

-- the same of what may be a step
abbrev pub landed_in : (z : Layout) (s t : State ℕ View) → IsAfter z s t → List Traced
landed_in z s t (stepped g) = landed z s t g ∷ []
landed_in z s t (quiet q) = []

-- the worlds after the steps of a course, in order
abbrev pub worlds_of : (z : Layout) (s : State ℕ View) (ts : List (State ℕ View)) → IsCourse z s ts → List Traced
worlds_of z s [] c = []
worlds_of z s (t ∷ ts) c = landed_in z s t c.1 ++ worlds_of z t ts c.2

-- what each seat knows of the run in a state is a beginning of what the next step's seat then knows of it
abbrev pub StepsComeInOrder : Type 0
StepsComeInOrder = (z : Layout) (s t : State ℕ View) → Holds z s → Holds z t → (g : IsStep z s t) (v : SeatView) → IsMember s v → IsPrefix v.ran g.after.ran

-- whichever worlds fit the states before and after a step: moves of its seat's actor alone lead from the one, at most so many to
-- the world in which the step tells that it was made, and at most so many to the other, which is the world after the step, as it
-- tells, and has the words of the table
pub record HasOneWorld (few most : ℕ) (z : Layout) (s t : State ℕ View) (h : Holds z s) (k : Holds z t) (g : IsStep z s t) : Type 0 where
  pub sets_out : LeadsBy g.before.number few h.trace g.told.was
  pub leads : LeadsBy g.before.number most h.trace k.trace
  pub lands : k.trace ≡ landed z s t g
  pub words : shared_words t.words ≡ memory_words z.setup.bits (landed z s t g).world.shared

-- of each step
abbrev pub EachStepHasOneWorld : (few most : ℕ) → Type 0
EachStepHasOneWorld few most = (z : Layout) (s t : State ℕ View) (h : Holds z s) (k : Holds z t) (g : IsStep z s t) → HasOneWorld few most z s t h k g

-- at a step at a line at which it sees the whole history, a seat has then seen what any seat had seen before
abbrev pub WhatWasSeenIsSeen : Type 0
WhatWasSeenIsSeen = (z : Layout) (s t : State ℕ View) → Holds z s → Holds z t → (g : IsStep z s t) (v : SeatView) → sees g.line ≡ true → IsMember s v → IsPrefix v.seen g.after.seen

-- one list of moves goes through these worlds, one after another: so many lead to the first of them, and further ones, of which
-- one at least takes a number, from each to the next
abbrev pub Advances : (first : Traced) → (done : List AnyMove) → List Traced → Type 0
Advances first done [] = Unit {0}
Advances first done (t ∷ ts) = (more : List AnyMove) × (trace (done ++ more) first ≡ Some t) × (1 ≤ length (makers more)) × Advances first (done ++ more) ts

-- a world is a past of a later one, in whose history its order is kept
pub record IsEarlier (t u : Traced) : Type 0 where
  pub before : IsBefore t.world u.world
  pub fewer : t.world.steps < u.world.steps

-- each of these worlds is a past of all later ones
abbrev pub AreInOrder : List Traced → Type 0
AreInOrder [] = Unit {0}
AreInOrder (t ∷ ts) = AllByRecursion (IsEarlier t) ts × AreInOrder ts

-- the worlds after the steps of a course lie on one list of moves from the opening world of the plan, in the order of the steps; each
-- is a past of the later ones, and its history is linearizable
pub record IsOfTheMachine (z : Layout) (s : State ℕ View) (ts : List (State ℕ View)) (c : IsCourse z s ts) : Type 0 where
  pub through : Advances (first_trace z.setup (length z.roles)) [] (worlds_of z s ts c)
  pub ordered : AreInOrder (worlds_of z s ts c)
  pub linearizable : AllByRecursion (λ t. IsLinearizable t.world.operations) (worlds_of z s ts c)

-- a step tells an operation of its seat's actor what it made of it: it takes so many numbers, the operation ends with it where the
-- step replies, and is new where a call begins with it; the seat's actor says where the operation stands, which stays so while
-- the call goes on
pub record TellsItsOperation (numbers : ℕ) (z : Layout) (s t : State ℕ View) (g : IsStep z s t) : Type 0 where
  pub number : (landed z s t g).world.steps ≡ g.told.was.world.steps + numbers
  pub place : ℕ
  pub operation : Stamped
  pub there : slice_get (landed z s t g).world.operations place ≡ Some operation
  pub actor : operation.actor ≡ g.before.number
  pub last : operation.last ≡ last_of (landed z s t g).world.steps (reply_of z s t g)
  pub reply : operation.reply ≡ reply_of z s t g
  pub entry : g.after.actor.entry ≡ Some place
  pub goes_on : (e : ℕ) → (after_prologue z.setup g.before.number g.prologue g.before.actor).entry ≡ Some e → place ≡ e
  pub new : (op : Op) → g.prologue ≡ begins op → (operation.op ≡ op) × (operation.first ≡ (landed z s t g).world.steps)

-- of each step
abbrev pub EachStepTellsItsOperation : (numbers : ℕ) → Type 0
EachStepTellsItsOperation numbers = (z : Layout) (s t : State ℕ View) (g : IsStep z s t) → TellsItsOperation numbers z s t g

-- the last of some states
abbrev pub last_state : State ℕ View → List (State ℕ View) → State ℕ View
last_state s [] = s
last_state s (t ∷ ts) = last_state t ts

-- what had ended after a step stands so after any later step of a course, and ended before each operation that begins with that
abbrev pub WhatEndedComesFirst : Type 0
WhatEndedComesFirst =
    (z : Layout) (s t : State ℕ View) (a : IsStep z s t) (ts : List (State ℕ View)) (u : State ℕ View) (b : IsStep z (last_state t ts) u) (i : ℕ) (o : Stamped)
    → IsCourse z t ts → Holds z u → slice_get (landed z s t a).world.operations i ≡ Some o → IsSome o.last
    → (slice_get (landed z (last_state t ts) u b).world.operations i ≡ Some o)
    × ((j : ℕ) (p : Stamped) → slice_get (landed z (last_state t ts) u b).world.operations j ≡ Some p → p.first ≡ (landed z (last_state t ts) u b).world.steps → EndsBefore o p)

-- each course of the table is one of the machine
abbrev pub EachCourseIsOfTheMachine : Type 0
EachCourseIsOfTheMachine = (z : Layout) (s : State ℕ View) (ts : List (State ℕ View)) (c : IsCourse z s ts) → IsOfTheMachine z s ts c

-- of a table with slots too: a step that a seat of it is told of is a step of the queue's part of the table
abbrev pub ToldStepsAreSteps : Type 0 → Type 0
ToldStepsAreSteps T =
    (z : Layout) (s s' : State (Option T) (Beside T)) (id : ℕ) (prologue : Prologue) (n : ℕ) (me me' : Me (Option T) (Beside T)) → get_elem? s.views id ≡ some me.0
    → s'.views ≡ slice_set s.views id me'.0 → me.0.plain ≡ seated (knows me.0.plain) → TellsBeside z prologue me n me' → IsStep z (plain_state (words_of z) s) (plain_state (words_of z) s')

-- of a table that carries values: at a step at a line at which it sees the whole history, a seat has then seen of the history of
-- values what any seat had seen of it before
abbrev pub SeenValuesAreSeen : Type 0 → Type 0
SeenValuesAreSeen T =
    (z : Layout) (s s' : State (Option T) (Beside T)) (id : ℕ) (prologue : Prologue) (n : ℕ) (me me' : Me (Option T) (Beside T)) → z.carries ≡ true → HoldsFor z s → HoldsFor z s'
    → get_elem? s.views id ≡ some me.0 → s'.views ≡ slice_set s.views id me'.0 → me.0.plain ≡ seated (knows me.0.plain) → TellsBeside z prologue me n me'
    → sees (line_or_first (after_prologue z.setup (knows me.0.plain).number prologue (knows me.0.plain).actor).line) ≡ true
    → (j : ℕ) (w : Beside T) (v : SeatView) → get_elem? s.views j ≡ some w → w.plain ≡ seated v → IsPrefix w.deeds me'.0.deeds

-- two seats become one
abbrev pub PairsKeep : Type 0
PairsKeep = (views : List View) (id other : ℕ) (v w : SeatView) → get_elem? views id ≡ some (seated v) → other ≢ id → get_elem? views other ≡ some (seated w) → Keeps views (slice_set (slice_set views id (paired v w)) other spent)

-- two seats that are one become two
abbrev pub PartsKeep : Type 0
PartsKeep = (views : List View) (id : ℕ) (v w : SeatView) → get_elem? views id ≡ some (paired v w) → Keeps views (slice_set views id (seated v) ++ seated w ∷ [])

-- a token that knows nothing is cut from a seat's
abbrev pub SparesKeep : Type 0
SparesKeep = (views : List View) (id : ℕ) (v : SeatView) (x : View) → get_elem? views id ≡ some (seated v) → Keeps views (slice_set views id (seated v) ++ x ∷ [])

-- a seat is dealt
abbrev pub DealsKeep : Type 0
DealsKeep = (views : List View) (id n m : ℕ) (x : View) → get_elem? views id ≡ some (keeper n) → Keeps views (slice_set views id (keeper m) ++ x ∷ [])

-- a new token comes
abbrev pub OpensKeep : Type 0
OpensKeep = (views : List View) (x : View) → Keeps views (views ++ x ∷ [])

-- a token that gathers takes in a seat
abbrev pub GathersKeep : Type 0
GathersKeep =
    (views : List View) (id other : ℕ) (vs : List SeatView) (w : SeatView) → get_elem? views id ≡ some (gathered vs) → other ≢ id → get_elem? views other ≡ some (seated w)
    → Keeps views (slice_set (slice_set views id (gathered (vs ++ w ∷ []))) other spent)

-- one seat knows more
abbrev pub LooksKeep : Type 0
LooksKeep = (views : List View) (id : ℕ) (v v' : SeatView) → get_elem? views id ≡ some (seated v) → v'.number ≡ v.number → IsPrefix v.ran v'.ran → Keeps views (slice_set views id (seated v'))

-- two seats that are one know more
abbrev pub MeetsKeep : Type 0
MeetsKeep =
    (views : List View) (id : ℕ) (v w v' w' : SeatView) → get_elem? views id ≡ some (paired v w) → v'.number ≡ v.number → IsPrefix v.ran v'.ran → w'.number ≡ w.number → IsPrefix w.ran w'.ran
    → Keeps views (slice_set views id (paired v' w'))

-- each change of views that isn't a step is quiet
pub record OtherChangesAreQuiet : Type 0 where
  pub pairs : PairsKeep
  pub parts : PartsKeep
  pub spares : SparesKeep
  pub deals : DealsKeep
  pub opens : OpensKeep
  pub gathers : GathersKeep
  pub looks : LooksKeep
  pub meets : MeetsKeep
