-- What the stamps of operations name: numbers of their actors' own moves, one operation of an actor after the other.
use Rattle.std.specs.Prelude.{◌≡◌, ℕ, ◌-◌, ◌<◌, ◌≤◌, ◌⊎◌, Bool, ◌||◌, is_some, List, [], ◌∷◌, ◌++◌, map, Some, None, IfSome, IsSomeAnd, slice_get}
use Rattle.step_machine.specs.Below.{Stamped, IsPlaced, Setup}
use Rattle.step_machine.specs.declared.actors.Move.{Move}
use Rattle.step_machine.specs.declared.actors.Move.TheVariants.{Begin, Step, Give}
use Rattle.step_machine.specs.Machine.{World, opening, AnyMove, made, Rest, run}

-- who takes a step number by a move: the actor of a step or of a giving up; a begin and a rest take none
abbrev pub numbered_by : AnyMove → List ℕ
numbered_by (made (Begin me op)) = []
numbered_by (made (Step me)) = me ∷ []
numbered_by (made (Give me)) = me ∷ []
numbered_by (Rest me) = []

-- who took each step number in a list of moves, number 1 first
abbrev pub makers : List AnyMove → List ℕ
makers [] = []
makers (m ∷ ms) = numbered_by m ++ makers ms

-- a step number, which counts from 1, was taken by a move of this actor
pub record IsBy (makers : List ℕ) (number actor : ℕ) : Type 0 where
  pub from_one : 1 ≤ number
  pub own : slice_get makers (number - 1) ≡ Some actor

-- an operation's first number, its last one and its place are numbers of its actor's own moves; the last one isn't
-- before the first, and the operation is well placed
pub record IsStamped (makers : List ℕ) (o : Stamped) : Type 0 where
  pub first_own : IsBy makers o.first o.actor
  pub last_own : IfSome o.last (λ last. IsBy makers last o.actor)
  pub at_own : IfSome o.at (λ at. IsBy makers at o.actor)
  pub ends_after : IfSome o.last (λ last. o.first ≤ last)
  pub placed : IsPlaced o

-- an operation begins before another one
abbrev pub BeginsBefore : Stamped → Stamped → Type 0
BeginsBefore o p = o.first < p.first

-- an operation has ended before a number
abbrev pub EndedBefore : Stamped → (number : ℕ) → Type 0
EndedBefore o number = IsSomeAnd o.last (λ last. last < number)

-- an operation that neither ended nor took effect: it has no last number, no place and no reply
pub record HasNoEffect (o : Stamped) : Type 0 where
  pub no_last : o.last ≡ None
  pub no_place : o.at ≡ None
  pub no_reply : o.reply ≡ None

-- whether an operation ended or took effect
abbrev pub has_trace : Stamped → Bool
has_trace o = is_some o.last || is_some o.at

-- the first of two operations has ended before the other begins, if one actor made both
abbrev pub DoNotOverlap : Stamped → Stamped → Type 0
DoNotOverlap o p = o.actor ≡ p.actor → EndedBefore o p.first

-- the same where actors may rest: else the first one has no effect
abbrev pub DoNotOverlapOrRest : Stamped → Stamped → Type 0
DoNotOverlapOrRest o p = o.actor ≡ p.actor → EndedBefore o p.first ⊎ HasNoEffect o

-- a fact holds of every list of moves and the world that it leads to
abbrev pub AfterMoves : (List AnyMove → World → Type 0) → Type 0
AfterMoves P = (s : Setup) (actors : ℕ) (moves : List AnyMove) → IfSome (run moves (opening s actors)) (P moves)

-- a fact holds of every world that moves without a rest lead to
abbrev pub AfterCalls : (World → Type 0) → Type 0
AfterCalls P = (s : Setup) (actors : ℕ) (moves : List Move) → IfSome (run (map made moves) (opening s actors)) P
