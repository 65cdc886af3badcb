-- Traced worlds: a world, the path of each actor, and the entries of all calls that had their effect.
use Rattle.std.specs.Prelude.{◌≡◌, ◌⊎◌, ℕ, ◌+◌, ◌<◌, ◌≤◌, Bool, true, false, if◌then◌else◌, nat_eq, List, [], ◌∷◌, ◌++◌, length, take, Option, Some, None}
use Rattle.std.specs.List.{All, count_by}
use Rattle.line_table.specs.declared.lines.Line.{Line}
use Rattle.line_table.specs.declared.lines.Line.TheVariants.{E7, E9, D4, D13, A5, B3, B5, S3, S4, S8}
use Rattle.history.specs.declared.operations.Entry.{Entry}
use Rattle.history.specs.declared.operations.Entry.TheVariants.{Push, Pop, Shut}
use Rattle.history.specs.Queue.{empty}
use Rattle.history.specs.Entries.{is_pop, Plays, Leads, LeadsToShut}
use Rattle.counted_ref.specs.Ref.{null, same_ref, reserved_node}
use Rattle.line_steps.specs.declared.actors.Setup.{Setup}
use Rattle.line_steps.specs.Actors.{Actor}
use Rattle.line_steps.specs.Outcomes.{Outcome}
use Rattle.line_steps.specs.Memory.{word, Found, found}
use Rattle.line_steps.specs.Lines.{action, outcome}
use Rattle.step_machine.specs.declared.actors.Move.TheVariants.{Begin, Step, Give}
use Rattle.step_machine.specs.Places.{IsQueueChain}
use Rattle.step_machine.specs.Chains.{queue_in}
use Rattle.step_machine.specs.Words.{encoded}
use Rattle.step_machine.specs.Machine.{World, actor_of, stepped, entry_or, opening, AnyMove, made, Rest, mover, next_any, IsSized}

-- a line that an actor went through: the number found there, the line gone to, or none where the call ended, and how
-- many entries the history then had
pub record Event : Type 0 where
  pub line : Line
  pub found : ℕ
  pub to : Option Line
  pub entries : ℕ

-- a world with the path of each actor and the history so far
pub record Traced : Type 0 where
  pub world : World
  pub paths : ℕ → List Event
  pub history : List Entry

-- a function with another value at one number
abbrev pub changed : {X : Type 0} → (ℕ → X) → ℕ → X → ℕ → X
changed f n x m = if nat_eq m n then x else f m

-- the entries that a step at a line adds to the history: the push, the pop or the shut that takes its effect there
abbrev pub entries_of : (s : Setup) (me : ℕ) (a : Actor) (l : Line) → Found (action s me a l) → List Entry
entries_of s me a E9 was = if same_ref was a.next then Push me a.val.body ∷ [] else []
entries_of s me a D13 was = if same_ref was a.head then Pop me a.val ∷ [] else []
entries_of s me a A5 was = if same_ref was null then Push me a.val.body ∷ [] else []
entries_of s me a B5 was = Pop me a.val ∷ []
entries_of s me a S4 was = if same_ref was a.next then Shut me ∷ [] else []
entries_of s me a S8 was = if same_ref was null then Shut me ∷ [] else []
entries_of s me a l was = []

-- whether a seat sees the whole history at its step at a line: where the step may have its effect, where it reads what
-- follows Head's node, and where it may find that a closed end follows Tail's
abbrev pub sees : Line → Bool
sees E7 = true
sees E9 = true
sees D4 = true
sees D13 = true
sees A5 = true
sees B3 = true
sees B5 = true
sees S3 = true
sees S4 = true
sees S8 = true
sees l = false

module _ (s : Setup) (t : Traced) (me : ℕ) (a : Actor) (l : Line) where
  -- the number that the access of a line finds
  abbrev pub number_at : ℕ
  number_at = encoded s.bits (word (action s me a l)) (found (action s me a l) t.world.shared)

  -- what the step at a line makes of its actor and its operation
  abbrev pub outcome_at : Outcome
  outcome_at = outcome s (t.world.steps + 1) me a l (found (action s me a l) t.world.shared)

  -- the actor after its step at a line
  abbrev pub actor_at : Actor
  actor_at = record outcome_at.actor { entry = Some (entry_or a.entry (length t.world.operations)) }

  -- the entries that the step at a line adds
  abbrev pub entries_at : List Entry
  entries_at = entries_of s me a l (found (action s me a l) t.world.shared)

  -- what the step at a line adds to its actor's path
  abbrev pub event_at : Event
  event_at =
      record {
        line = l;
        found = number_at;
        to = outcome_at.actor.line;
        entries = length (t.history ++ entries_at);
      }

-- the traced world after an actor's step at a line
abbrev pub step_at : Traced → (me : ℕ) → Actor → Line → Traced
step_at t me a l =
    record {
      world = stepped t.world me a l;
      paths = changed t.paths me (t.paths me ++ event_at t.world.setup t me a l ∷ []);
      history = t.history ++ entries_at t.world.setup t me a l;
    }

-- the trace after a step that leads to a world
abbrev pub traced_at : Traced → (me : ℕ) → Actor → Option Line → World → Traced
traced_at t me a None w = record t { world = w }
traced_at t me a (Some l) w = record (step_at t me a l) { world = w }

-- the same for an actor that may be there
abbrev pub traced_step : Traced → (me : ℕ) → Option Actor → World → Traced
traced_step t me None w = record t { world = w }
traced_step t me (Some a) w = traced_at t me a a.line w

-- the trace after a move that leads to a world; steps alone change paths and history
abbrev pub traced_move : Traced → AnyMove → World → Traced
traced_move t (made (Begin me op)) w = record t { world = w }
traced_move t (made (Step me)) w = traced_step t me (actor_of t.world me) w
traced_move t (made (Give me)) w = record t { world = w }
traced_move t (Rest me) w = record t { world = w }

-- the trace after a move; none where it can't be made
abbrev pub traced_next : Traced → AnyMove → Option World → Option Traced
traced_next t m None = None
traced_next t m (Some w) = Some (traced_move t m w)

-- what follows from a trace, where there is one
abbrev pub traced_on : (Traced → Option Traced) → Option Traced → Option Traced
traced_on more None = None
traced_on more (Some t) = more t

-- the trace after a list of moves; none where one of them can't be made
abbrev pub trace : List AnyMove → Traced → Option Traced
trace [] t = Some t
trace (m ∷ ms) t = traced_on (trace ms) (traced_next t m (next_any t.world m))

-- the trace in which nothing happened yet
abbrev pub first_trace : Setup → (actors : ℕ) → Traced
first_trace s actors = record { world = opening s actors; paths = λ p. []; history = [] }

-- who makes a move
abbrev pub made_by : AnyMove → ℕ
made_by (made m) = mover m
made_by (Rest me) = me

-- a traced world leads to another by at most so many moves, each of them of this actor
pub record LeadsBy (me most : ℕ) (t u : Traced) : Type 0 where
  pub moves : List AnyMove
  pub few : length moves ≤ most
  pub alone : All (λ m. made_by m ≡ me) moves
  pub led : trace moves t ≡ Some u

-- a traced world that some list of moves leads to
pub record IsTraced (t : Traced) : Type 0 where
  pub actors : ℕ
  pub moves : List AnyMove
  pub sized : IsSized t.world.setup actors
  pub led : trace moves (first_trace t.world.setup actors) ≡ Some t

-- the history leads from the empty queue to the one that the chain from Head holds: its values, and shut where it ends at a
-- closed end
abbrev pub PlaysToItsValues : Traced → Type 0
PlaysToItsValues t =
    (queue : List ℕ) → IsQueueChain t.world.setup.bits t.world.shared.nodes t.world.shared.head.node queue → Plays empty t.history (queue_in t.world.setup.bits t.world.shared queue)

-- Head's count is the number of pops in the history
abbrev pub CountsItsPops : Traced → Type 0
CountsItsPops t = t.world.shared.head.count ≡ count_by is_pop t.history

-- an actor that looked behind Head when there were so many entries finds: Head's count is above that of its register, or
-- these entries leave no values, and the queue shut or not
abbrev pub LeftNothing : Traced → Actor → (shut : Bool) → (entries : ℕ) → Type 0
LeftNothing t a shut entries = (a.head.count < t.world.shared.head.count) ⊎ Leads (take entries t.history) shut []

-- what an actor found behind Head's node, when there were so many entries, stays so: null says that these left the queue
-- empty and not shut, or Head was moved; a closed end that they left it empty and shut, or Head was moved, and in any case
-- that they left it shut
pub record StaysFound (t : Traced) (a : Actor) (entries : ℕ) : Type 0 where
  pub some : entries ≤ length t.history
  pub empty : a.next.node ≡ 0 → LeftNothing t a false entries
  pub closed : a.next.node ≡ reserved_node t.world.setup.bits → LeftNothing t a true entries
  pub shut : a.next.node ≡ reserved_node t.world.setup.bits → LeadsToShut (take entries t.history)

-- of an actor whose last line was D4 what that found stays so
abbrev pub KeepsWhatD4Found : Traced → Type 0
KeepsWhatD4Found t =
    (me : ℕ) (a : Actor) (before : List Event) (last : Event) → actor_of t.world me ≡ Some a → t.paths me ≡ before ++ last ∷ [] →
    last.line ≡ D4 → StaysFound t a last.entries
