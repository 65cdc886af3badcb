-- What is seen of a world after a list of moves.
use Rattle.std.specs.Prelude.{◌≡◌, ℕ, ◌-◌, true, false, List, [], ◌∷◌, ◌++◌, Option, Some, None, IsSomeAnd, map, replicate, slice_index_or}
use Rattle.std.specs.List.{AllByRecursion}
use Rattle.counted_ref.specs.Ref.{Ref, ref_word}
use Rattle.line_table.specs.declared.lines.Kind.{Kind}
use Rattle.line_table.specs.declared.lines.Line.{Line}
use Rattle.history.specs.declared.operations.Op.{Op}
use Rattle.history.specs.declared.operations.Stamped.{Stamped}
use Rattle.history.specs.declared.operations.Verdict.TheVariants.{Yes}
use Rattle.history.specs.History.{verdict}
use Rattle.line_steps.specs.Actors.{Actor}
use Rattle.line_steps.specs.declared.actors.Held.{Held}
use Rattle.line_steps.specs.Memory.{Word, content}
use Rattle.step_machine.specs.declared.actors.Move.{Move}
use Rattle.step_machine.specs.declared.actors.Move.TheVariants.{Begin, Step, Give}
use Rattle.step_machine.specs.Words.{encoded}
use Rattle.step_machine.specs.Machine.{World, opening, idle, actor_of, next, run, made}
use Rattle.step_machine.specs.Calls.{setup_from}

-- one begin of a call, as a list of moves
abbrev pub begin : ℕ → Op → List Move
begin me op = Begin me op ∷ []

-- one giving up, as a list of moves
abbrev pub give : ℕ → List Move
give me = Give me ∷ []

-- some steps of one actor, as a list of moves
abbrev pub many : ℕ → ℕ → List Move
many me times = replicate times (Step me)

-- one begin of a call and some of its steps, as a list of moves
abbrev pub call : ℕ → Op → ℕ → List Move
call me op times = begin me op ++ many me times

-- a fact about a world: a word holds a number, or a reference, an actor stands before a line, an actor keeps a node in its pocket,
-- a node was set aside
pub data Fact : Type 0 where
  holds : Word → ℕ → Fact
  names : Word → Ref → Fact
  stands : (actor : ℕ) → Option Line → Fact
  keeps : (actor : ℕ) → Option Held → Fact
  left : (node : ℕ) → Fact

-- an actor, or an idle one where there is none
abbrev pub actor_at : World → ℕ → Actor
actor_at w me = slice_index_or w.actors (me - 1) idle

-- a fact is so in a world
abbrev pub IsSeen : World → Fact → Type 0
IsSeen w (holds x n) = encoded w.setup.bits x (content x w.shared) ≡ n
IsSeen w (names x r) = encoded w.setup.bits x (content x w.shared) ≡ ref_word w.setup.bits r
IsSeen w (stands me line) = (actor_at w me).line ≡ line
IsSeen w (keeps me held) = (actor_at w me).pocket ≡ held
IsSeen w (left n) = slice_index_or w.aside (n - 1) false ≡ true

-- a list of moves, and what is seen after it
pub record Run : Type 0 where
  pub kind : Kind
  pub size : ℕ
  pub limit : ℕ
  pub actors : ℕ
  pub moves : List Move
  pub history : List Stamped
  pub facts : List Fact

-- how many bits hold the number of a node, in the worlds in which each run is made: the fewest, the usual and the most
abbrev pub splits : List ℕ
splits = 16 ∷ 24 ∷ 32 ∷ []

-- the world in which a run begins
abbrev pub first_of : (bits : ℕ) → Run → World
first_of bits r = opening (setup_from bits r.kind r.size r.limit) r.actors

-- the world after a run's moves
abbrev pub end_of : (bits : ℕ) → Run → Option World
end_of bits r = run (map made r.moves) (first_of bits r)

-- with so many bits for a node, all moves of the run can be made, its history is the one written here, and its facts are so
abbrev pub ShowsWith : Run → (bits : ℕ) → Type 0
ShowsWith r bits = IsSomeAnd (end_of bits r) (λ w. (w.operations ≡ r.history) × AllByRecursion (IsSeen w) r.facts)

-- it is so with each split, and the history is judged yes
abbrev pub Shows : Run → Type 0
Shows r = AllByRecursion (ShowsWith r) splits × (verdict r.history ≡ Yes)

-- the line before which the mover of a step stands, as a list of at most one
abbrev pub line_before : Option Actor → List Line
line_before None = []
line_before (Some a) = line_or_none a.line
  where
    line_or_none : Option Line → List Line
    line_or_none None = []
    line_or_none (Some l) = l ∷ []

-- the lines that the steps of a list of moves go through, from a world on
abbrev pub lines_from : List Move → Option World → List Line
lines_from ms None = []
lines_from [] (Some w) = []
lines_from (Begin me op ∷ ms) (Some w) = lines_from ms (next w (Begin me op))
lines_from (Step me ∷ ms) (Some w) = line_before (actor_of w me) ++ lines_from ms (next w (Step me))
lines_from (Give me ∷ ms) (Some w) = lines_from ms (next w (Give me))

-- a run's steps go through these lines, with each split
abbrev pub GoesThrough : Run → List Line → Type 0
GoesThrough r lines = AllByRecursion (λ bits. lines_from r.moves (Some (first_of bits r)) ≡ lines) splits

-- a run's moves, and these after them, can't all be made, with no split
abbrev pub IsStopped : Run → List Move → Type 0
IsStopped r more = AllByRecursion (λ bits. run (map made (r.moves ++ more)) (first_of bits r) ≡ None) splits
