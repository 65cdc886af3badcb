-- The rule of the table: words and seats are those of a traced world that moves lead to.
use Rattle.std.specs.Prelude.{refl, ◌≡◌, ◌≢◌, ◌⊎◌, ℕ, ◌<◌, ◌≤◌, true, false, List, [], ◌∷◌, ◌++◌, length, Option, Some, None}
use Rattle.std.specs.List.{All}
use mathlib.Core.Option.{some}
use lib.ListN.{get_elem?}
use Rattle.atomic_table.specs.Table.{State, Me}
use Rattle.line_table.specs.declared.lines.Line.{Line}
use Rattle.line_table.specs.declared.lines.Line.TheVariants.{N1, D5, A7, B6, S9}
use Rattle.history.specs.declared.operations.Entry.{Entry}
use Rattle.history.specs.declared.operations.Reply.{Reply}
use Rattle.history.specs.declared.operations.Reply.TheVariants.{Empty, Refused}
use Rattle.history.specs.declared.refusals.Refusal.TheVariants.{Closed}
use Rattle.history.specs.Entries.{own_entries, LeadsTo, Leads, LeadsToShut}
use Rattle.history.specs.Seats.{IsNoted}
use Rattle.counted_ref.specs.Ref.{Ref, reserved_node}
use Rattle.line_steps.specs.Actors.{Actor}
use Rattle.step_machine.specs.Words.{memory_words}
use Rattle.step_machine.specs.declared.actors.Move.TheVariants.{Step}
use Rattle.step_machine.specs.Machine.{idle, actor_of, AnyMove, made}
use Rattle.node_arena.specs.Traces.{Traced, IsTraced, step_at, actor_at, outcome_at, event_at, entries_at, number_at, sees, made_by, trace, first_trace}
use Rattle.node_arena.specs.Prologues.{Prologue, after_prologue}
use Rattle.node_arena.specs.KnownRuns.{Knowing}
use Rattle.node_arena.specs.KnownRuns as known_runs
use Rattle.node_arena.specs.Knowledge.{SeatView, View, keeper, gathered, seated, paired, members, knows}
use Rattle.node_arena.specs.Places.{shared_words}
use Rattle.node_arena.specs.Plans.{Layout, IsPlanned, RolesPermit}

-- what an actor found before a line at which its call may answer that the queue is empty, or shut. Before D5, where it read
-- null, what its seat has seen leaves the queue empty, or Head's count is above the one that it read; where it read a closed
-- end, it leaves the queue shut and empty, or the same. Before B6 what its seat has seen leaves the queue as the reply due
-- says, before A7 and S9 shut where Closed is due
abbrev pub SawAt : Traced → (seen : List Entry) → Actor → Option Line → (due : Option Reply) → Type 0
SawAt t seen a (Some D5) due =
    (a.next.node ≡ 0 → (a.head.count < t.world.shared.head.count) ⊎ LeadsTo seen []) ×
    (a.next.node ≡ reserved_node t.world.setup.bits → (a.head.count < t.world.shared.head.count) ⊎ Leads seen true [])
SawAt t seen a (Some B6) (Some Empty) = LeadsTo seen []
SawAt t seen a (Some B6) (Some (Refused Closed)) = Leads seen true []
SawAt t seen a (Some A7) (Some (Refused Closed)) = LeadsToShut seen
SawAt t seen a (Some S9) (Some (Refused Closed)) = LeadsToShut seen
SawAt t seen a line due = Unit {0}

-- a word holds what was read of it, or its count is higher now
abbrev pub IsCurrentOrPast : (word read : Ref) → Type 0
IsCurrentOrPast word read = (word ≡ read) ⊎ (read.count < word.count)

-- a seat's actor and path are the traced world's, what it has seen is a prefix of the history, and its own entries
-- are just those of it, and just those that it has seen; the queue was empty, or shut, after as many of these as each note
-- says, and what its actor found that it may note next is so
pub record Fits (t : Traced) (v : SeatView) : Type 0 where
  pub actor : actor_of t.world v.number ≡ Some v.actor
  pub path : t.paths v.number ≡ v.path
  pub rest : List Entry
  pub begins : t.history ≡ v.seen ++ rest
  pub own : own_entries v.number t.history ≡ v.mine
  pub known : own_entries v.number v.seen ≡ v.mine
  pub noted : All (IsNoted v.seen) v.notes
  pub saw : SawAt t v.seen v.actor v.actor.line v.actor.due

-- nothing was done by a number
pub record IsNew (t : Traced) (n : ℕ) : Type 0 where
  pub actor : actor_of t.world n ≡ Some idle
  pub path : t.paths n ≡ []
  pub own : own_entries n t.history ≡ []

-- how an arena's seats and views speak of the run of the machine
abbrev pub knowing : Knowing AnyMove SeatView View
knowing = record { by = made_by; number = λ v. v.number; ran = λ v. v.ran; members = members; seated = seated; alone = λ v. refl }

-- moves begin with those that a seat knows, and those that follow are of other actors
abbrev pub Ran : (moves : List AnyMove) → (me : ℕ) → (ran : List AnyMove) → Type 0
Ran moves me ran = known_runs.Ran made_by moves me ran

-- moves lead from the opening world of the plan to this one
abbrev pub IsRunTo : (z : Layout) → List AnyMove → Traced → Type 0
IsRunTo z moves t = trace moves (first_trace z.setup (length z.roles)) ≡ Some t

-- what a seat knows of the run goes on by moves of others, to this world
pub record LearnsRun (z : Layout) (v : SeatView) (ran : List AnyMove) (t : Traced) : Type 0 where
  pub others : List AnyMove
  pub by_others : All (λ m. made_by m ≢ v.number) others
  pub goes_on : ran ≡ v.ran ++ others
  pub led : IsRunTo z ran t

-- the same by moves of others and at most two of its own actor to a world, and then by its step to another one
pub record RunsOn (z : Layout) (v v' : SeatView) (was t : Traced) : Type 0 where
  pub others : List AnyMove
  pub by_others : All (λ m. made_by m ≢ v.number) others
  pub sets_out : List AnyMove
  pub by_own : All (λ m. made_by m ≡ v.number) sets_out
  pub few : length sets_out ≤ 2
  pub ran : v'.ran ≡ v.ran ++ (others ++ (sets_out ++ made (Step v.number) ∷ []))
  pub sets : IsRunTo z (v.ran ++ (others ++ sets_out)) was
  pub led : IsRunTo z v'.ran t

-- a seat is among the views, by what it knows
abbrev pub IsAmong : List View → SeatView → Type 0
IsAmong views v = known_runs.IsAmong knowing views v

-- so it is of a state
abbrev pub IsMember : State ℕ View → SeatView → Type 0
IsMember s v = IsAmong s.views v

-- a seat is among the views by its number, and knows no less of the run
abbrev pub IsFound : List View → SeatView → Type 0
IsFound views v = known_runs.IsFound knowing views v

-- each seat that is among views is found among others
abbrev pub Keeps : List View → List View → Type 0
Keeps views others = known_runs.Keeps knowing views others

-- a state comes after another by a change of views that isn't a step: each seat is still there, and knows no less of the run
pub record IsQuiet (s s' : State ℕ View) : Type 0 where
  pub words : s'.words ≡ s.words
  pub kept : Keeps s.views s'.views

-- an actor made none of these moves, or is a seat among the views
abbrev pub IsThere : List View → (moves : List AnyMove) → ℕ → Type 0
IsThere views moves n = known_runs.IsThere knowing views moves n

-- the rule: there is a traced world, which moves lead to, with exactly the shared words that lie in the table, to which
-- each seat fits; no two seats have one number, and no entry is of a seat whose role doesn't permit it
pub record Holds (z : Layout) (s : State ℕ View) : Type 0 where
  pub sized : IsPlanned z
  pub trace : Traced
  pub reached : IsTraced trace
  pub setup : trace.world.setup ≡ z.setup
  pub actors : length trace.world.actors ≡ length z.roles
  pub words : shared_words s.words ≡ memory_words z.setup.bits trace.world.shared
  pub permitted : All (RolesPermit z.roles) trace.history
  pub dealt : ℕ
  pub home : ℕ
  pub owner : ℕ → ℕ × ℕ
  pub fits : (j i : ℕ) (u : View) (v : SeatView) → get_elem? s.views j ≡ some u → get_elem? (members u) i ≡ some v → Fits trace v
  pub owned : (j i : ℕ) (u : View) (v : SeatView) → get_elem? s.views j ≡ some u → get_elem? (members u) i ≡ some v → (owner v.number ≡ (j, i)) × (v.number < dealt)
  pub kept : (j n : ℕ) → get_elem? s.views j ≡ some (keeper n) → (j ≡ home) × (n ≡ dealt)
  pub undealt : (n : ℕ) → dealt ≤ n → n ≤ length z.roles → IsNew trace n
  pub peopled : reached.actors ≡ length z.roles
  pub ran : (j i : ℕ) (u : View) (v : SeatView) → get_elem? s.views j ≡ some u → get_elem? (members u) i ≡ some v → Ran reached.moves v.number v.ran
  pub unmoved : (n : ℕ) → dealt ≤ n → Ran reached.moves n []
  pub there : (n : ℕ) → IsThere s.views reached.moves n

-- the first view deals number 1 first
abbrev pub first_view : Layout → View
first_view z = keeper 1

-- what a reply notes of what its seat has seen: that the queue is empty, or shut, notes how many entries that is
abbrev pub notes_of : Option Reply → List Entry → List ℕ
notes_of (Some Empty) es = length es ∷ []
notes_of (Some (Refused Closed)) es = length es ∷ []
notes_of reply es = []

-- what it says of the queue after what its seat has seen that Closed is answered at a line: a pop found it shut and empty, any
-- other call shut
abbrev pub FoundClosedAt : Line → List Entry → Type 0
FoundClosedAt D5 es = Leads es true []
FoundClosedAt B6 es = Leads es true []
FoundClosedAt l es = LeadsToShut es

-- what a reply at a line says of the queue after what its seat has seen
abbrev pub SaysOfSeen : Line → Option Reply → List Entry → Type 0
SaysOfSeen l (Some Empty) es = LeadsTo es []
SaysOfSeen l (Some (Refused Closed)) es = FoundClosedAt l es
SaysOfSeen l reply es = Unit {0}

-- what one step at a line tells of the seat before and after: it was made in a traced world that moves lead to, in
-- which the seat's actor stood as led there, and it found this number
pub record Steps (z : Layout) (prologue : Prologue) (l : Line) (n : ℕ) (v v' : SeatView) : Type 0 where
  pub sized : IsPlanned z
  pub was : Traced
  pub reached : IsTraced was
  pub setup : was.world.setup ≡ z.setup
  pub peopled : length was.world.actors ≡ length z.roles
  pub before : actor_of was.world v.number ≡ Some (after_prologue z.setup v.number prologue v.actor)
  pub line : (after_prologue z.setup v.number prologue v.actor).line ≡ Some l
  pub path_before : was.paths v.number ≡ v.path
  pub reaches : IsTraced (step_at was v.number (after_prologue z.setup v.number prologue v.actor) l)
  pub after : actor_of (step_at was v.number (after_prologue z.setup v.number prologue v.actor) l).world v.number ≡ Some v'.actor
  pub path_after : (step_at was v.number (after_prologue z.setup v.number prologue v.actor) l).paths v.number ≡ v'.path
  pub found : n ≡ number_at z.setup was v.number (after_prologue z.setup v.number prologue v.actor) l
  pub number : v'.number ≡ v.number
  pub actor : v'.actor ≡ actor_at z.setup was v.number (after_prologue z.setup v.number prologue v.actor) l
  pub path : v'.path ≡ v.path ++ event_at z.setup was v.number (after_prologue z.setup v.number prologue v.actor) l ∷ []
  pub rest : List Entry
  pub seen : v'.seen ≡ (v.seen ++ rest) ++ entries_at z.setup was v.number (after_prologue z.setup v.number prologue v.actor) l
  pub whole : sees l ≡ true → v'.seen ≡ (step_at was v.number (after_prologue z.setup v.number prologue v.actor) l).history
  pub stays : sees l ≡ false → v'.seen ≡ v.seen
  pub mine : v'.mine ≡ v.mine ++ entries_at z.setup was v.number (after_prologue z.setup v.number prologue v.actor) l
  pub notes : v'.notes ≡ v.notes ++ notes_of (outcome_at z.setup was v.number (after_prologue z.setup v.number prologue v.actor) l).reply v'.seen
  pub says : SaysOfSeen l (outcome_at z.setup was v.number (after_prologue z.setup v.number prologue v.actor) l).reply v'.seen
  pub fits : Fits (step_at was v.number (after_prologue z.setup v.number prologue v.actor) l) v'
  pub permitted : All (RolesPermit z.roles) (step_at was v.number (after_prologue z.setup v.number prologue v.actor) l).history
  pub runs : RunsOn z v v' was (step_at was v.number (after_prologue z.setup v.number prologue v.actor) l)

-- the line of an actor in a call
abbrev pub line_or_first : Option Line → Line
line_or_first None = N1
line_or_first (Some l) = l

-- what a step tells, where the seat's view says at which line it was made
abbrev pub Tells : Layout → Prologue → Me ℕ View → ℕ → Me ℕ View → Type 0
Tells z prologue me n me' =
    (me' ≡ (seated (knows me'.0), [])) ×
    Steps z prologue (line_or_first (after_prologue z.setup (knows me.0).number prologue (knows me.0).actor).line) n (knows me.0) (knows me'.0)

-- the same of a step that isn't told what it found
abbrev pub TellsNothing : Layout → Prologue → Me ℕ View → Me ℕ View → Type 0
TellsNothing z prologue me me' = (n : ℕ) × Tells z prologue me n me'

-- what a seat knows of the run leads to a traced world, to which it fits, with a history of entries that the roles permit
pub record Fitted (z : Layout) (v : SeatView) : Type 0 where
  pub trace : Traced
  pub run : IsRunTo z v.ran trace
  pub reached : IsTraced trace
  pub setup : trace.world.setup ≡ z.setup
  pub permitted : All (RolesPermit z.roles) trace.history
  pub fits : Fits trace v

-- two seats that are one have seen the history of one world, to which both know the run; the history begins with what each had
-- seen, and nothing else changed
pub record Met (z : Layout) (v w : SeatView) (m : Me ℕ View) : Type 0 where
  pub was : Traced
  pub ran : List AnyMove
  pub all : List Entry
  pub first_rest : List Entry
  pub second_rest : List Entry
  pub history : was.history ≡ all
  pub seats : m ≡ (paired (record v { seen = all; ran = ran }) (record w { seen = all; ran = ran }), [])
  pub first : all ≡ v.seen ++ first_rest
  pub second : all ≡ w.seen ++ second_rest
  pub first_run : LearnsRun z v ran was
  pub second_run : LearnsRun z w ran was
  pub first_fits : Fitted z (record v { seen = all; ran = ran })
  pub second_fits : Fitted z (record w { seen = all; ran = ran })

-- a new token gathers, and has taken in none
abbrev pub Opens : Me ℕ View → Type 0
Opens me = me ≡ (gathered [], [])
