-- The machine: worlds, their moves, and what a list of moves leads to.
use Rattle.std.specs.Prelude.{◌≡◌, ℕ, ◌+◌, ◌-◌, ◌^◌, ◌<◌, ◌≤◌, Bool, List, [], ◌∷◌, ◌++◌, length, map, replicate, Option, Some, None, slice_get, slice_index_or}
use Rattle.std.specs.Prelude.{slice_set, nat_eq, if◌then◌else◌, true, false}
use Rattle.step_machine.specs.Below.{IsSplit, reserved_node, count_bits, actor_bits, null, Line, E2, A1, Op, Deq, Stamped, Setup, Actor, Outcome, nobody}
use Rattle.step_machine.specs.Below.{Shared, found, performed, action, outcome, gives_up, to_pocket, is_call, begun, first_words, aside_after}
pub use Rattle.line_steps.specs.Outcomes.{last_of, latest_point, with_outcome}
use Rattle.step_machine.specs.declared.actors.Move.{Move}
use Rattle.step_machine.specs.declared.actors.Move.TheVariants.{Begin, Step, Give}

-- a world: its setup, how many step numbers were given, the shared words, the actors from 1 on, for each node from 1
-- on whether it was set aside, and the operations that have a number, by their first one
pub record World : Type 0 where
  pub setup : Setup
  pub steps : ℕ
  pub shared : Shared
  pub actors : List Actor
  pub aside : List Bool
  pub operations : List Stamped

-- an actor that never had a call
abbrev pub idle : Actor
idle =
    record {
      line = None;
      op = Deq;
      f = 0;
      top = null;
      node = 0;
      mark = 0;
      tail = null;
      head = null;
      next = null;
      val = nobody;
      empty_at = 0;
      due = None;
      holds = false;
      pocket = None;
      entry = None;
    }

-- the world in which nothing happened yet
abbrev pub opening : Setup → (actors : ℕ) → World
opening s actors =
    record {
      setup = s;
      steps = 0;
      shared = first_words s.size;
      actors = replicate actors idle;
      aside = replicate s.size false;
      operations = [];
    }

-- the actor of a number; none for 0 and above the number of actors
abbrev pub actor_of : World → ℕ → Option Actor
actor_of w me = if nat_eq me 0 then None else slice_get w.actors (me - 1)

-- an actor that rests before its node was used: the node goes to the pocket, and the call stays pending
abbrev pub rested : Actor → Actor
rested a = record (to_pocket a) { line = None }

-- an operation with its first number
abbrev pub new_operation : (me : ℕ) → Op → (now : ℕ) → Stamped
new_operation me op now = record { actor = me; op = op; first = now; last = None; at = None; reply = None }

-- the operations after a step: a call's first step adds its operation, a later one changes it
abbrev pub with_operation : Option ℕ → Stamped → (Stamped → Stamped) → List Stamped → List Stamped
with_operation None new change ops = ops ++ change new ∷ []
with_operation (Some entry) new change ops = slice_set ops entry (change (slice_index_or ops entry new))

-- where a call's operation stands, which is at the end of the list where it has no number yet
abbrev pub entry_or : Option ℕ → ℕ → ℕ
entry_or None n = n
entry_or (Some entry) n = entry

-- a world with another state of one actor
abbrev pub with_actor : World → (me : ℕ) → Actor → World
with_actor w me a = record w { actors = slice_set w.actors (me - 1) a }

-- the world after an actor, which was `a`, was told an outcome at the next number, with these shared words
abbrev pub after_outcome : World → (me : ℕ) → (a : Actor) → Shared → Outcome → World
after_outcome w me a shared o =
    record {
      setup = w.setup;
      steps = w.steps + 1;
      shared = shared;
      actors = slice_set w.actors (me - 1) (record o.actor { entry = Some (entry_or a.entry (length w.operations)) });
      aside = aside_after w.aside o.aside;
      operations = with_operation a.entry (new_operation me a.op (w.steps + 1)) (with_outcome (w.steps + 1) o) w.operations;
    }

-- the world after one step of an actor at a line
abbrev pub stepped : World → (me : ℕ) → Actor → Line → World
stepped w me a l =
    after_outcome w me a (performed (action w.setup me a l) w.shared)
    (outcome w.setup (w.steps + 1) me a l (found (action w.setup me a l) w.shared))

-- the world after an actor without a call begins one
abbrev pub begins : World → (me : ℕ) → Op → Actor → Option Line → Option World
begins w me op a None = if is_call op then Some (with_actor w me (begun w.setup.kind me op a)) else None
begins w me op a (Some l) = None

-- the world after one step of an actor that has a call
abbrev pub steps : World → (me : ℕ) → Actor → Option Line → Option World
steps w me a None = None
steps w me a (Some l) = Some (stepped w me a l)

-- the world after an actor gave up with an outcome
abbrev pub given : World → (me : ℕ) → Actor → Option Outcome → Option World
given w me a None = None
given w me a (Some o) = Some (after_outcome w me a w.shared o)

-- the world after an actor that has a call gives up
abbrev pub gives : World → (me : ℕ) → Actor → Option Line → Option World
gives w me a None = None
gives w me a (Some l) = given w me a (gives_up (w.steps + 1) a l)

-- whether an actor may rest before a line: its node is in its hand, and was not used by this call
abbrev pub may_rest : Line → Bool
may_rest E2 = true
may_rest A1 = true
may_rest _ = false

-- the world after an actor that has a call rests
abbrev pub rests : World → (me : ℕ) → Actor → Option Line → Option World
rests w me a None = None
rests w me a (Some l) = if may_rest l then Some (with_actor w me (rested a)) else None

-- the world after a move of an actor that is there
abbrev pub moved : World → Move → Option Actor → Option World
moved w m None = None
moved w (Begin me op) (Some a) = begins w me op a a.line
moved w (Step me) (Some a) = steps w me a a.line
moved w (Give me) (Some a) = gives w me a a.line

-- who makes a move
abbrev pub mover : Move → ℕ
mover (Begin me op) = me
mover (Step me) = me
mover (Give me) = me

-- the world after a move; none where the move can't be made
abbrev pub next : World → Move → Option World
next w m = moved w m (actor_of w (mover m))

-- the world after an actor that is there rests
abbrev pub rest_of : World → (me : ℕ) → Option Actor → Option World
rest_of w me None = None
rest_of w me (Some a) = rests w me a a.line

-- all moves: those that a call of a world makes, and a rest of an actor, which none makes
pub data AnyMove : Type 0 where
  made : Move → AnyMove
  Rest : (actor : ℕ) → AnyMove

-- the world after any move; none where it can't be made
abbrev pub next_any : World → AnyMove → Option World
next_any w (made m) = next w m
next_any w (Rest me) = rest_of w me (actor_of w me)

-- what follows from a world, where there is one
abbrev pub run_on : (World → Option World) → Option World → Option World
run_on more None = None
run_on more (Some w) = more w

-- the world after a list of moves; none where one of them can't be made
abbrev pub run : List AnyMove → World → Option World
run [] w = Some w
run (m ∷ ms) w = run_on (run ms) (next_any w m)

-- the sizes of a machine are in their ranges
pub record IsSized (s : Setup) (actors : ℕ) : Type 0 where
  pub split : IsSplit s.bits
  pub nodes : 2 ≤ s.size
  pub numbered : s.size < reserved_node s.bits
  pub counts : 1 ≤ s.limit
  pub counted : s.limit < 2 ^ count_bits s.bits
  pub some_actors : 1 ≤ actors
  pub few_actors : actors < 2 ^ actor_bits

-- a world that any list of moves leads to
pub record IsReached (w : World) : Type 0 where
  pub actors : ℕ
  pub moves : List AnyMove
  pub sized : IsSized w.setup actors
  pub led : run moves (opening w.setup actors) ≡ Some w

-- a world that the calls of a world lead to: no actor rests
pub record IsMade (w : World) : Type 0 where
  pub actors : ℕ
  pub moves : List Move
  pub sized : IsSized w.setup actors
  pub led : run (map made moves) (opening w.setup actors) ≡ Some w
