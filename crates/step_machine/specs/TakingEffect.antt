-- Which step gives an operation its place: the one that changes the queue.
use Rattle.std.specs.Prelude.{◌≡◌, ℕ, ◌+◌, ◌≤◌, List, ◌∷◌, ◌++◌, map, Option, Some, None, IfSome}
use Rattle.std.specs.List.{AllByRecursion}
use Rattle.step_machine.specs.Below.{null, Line, E9, D13, A5, B5, S4, S8, Reply, Done, Value, Empty, Refused, Stamped, Setup, Actor, Shared, node_at}
use Rattle.step_machine.specs.declared.actors.Move.{Move}
use Rattle.step_machine.specs.declared.actors.Move.TheVariants.{Step}
use Rattle.step_machine.specs.Machine.{World, opening, actor_of, AnyMove, made, run, IsMade}

-- an actor's step at a line has an effect on the queue: at E9, D13 and S4 the word is still what the actor read, and at A5
-- and S8 null, so that its exchange succeeds, and at B5 it always has one
abbrev pub HasEffect : Shared → Actor → Line → Type 0
HasEffect m a E9 = (node_at m a.tail.node).next ≡ a.next
HasEffect m a D13 = m.head ≡ a.head
HasEffect m a A5 = (node_at m a.tail.node).next ≡ null
HasEffect m a B5 = Unit {0}
HasEffect m a S4 = (node_at m a.tail.node).next ≡ a.next
HasEffect m a S8 = (node_at m a.tail.node).next ≡ null
HasEffect m a _ = ⊥

-- in a list of moves, this number is that of an actor's step that had an effect
pub record TookEffect (s : Setup) (actors : ℕ) (moves : List AnyMove) (me number : ℕ) : Type 0 where
  pub before : List AnyMove
  pub after : List AnyMove
  pub world : World
  pub actor : Actor
  pub line : Line
  pub moves_are : moves ≡ before ++ made (Step me) ∷ after
  pub led : run before (opening s actors) ≡ Some world
  pub numbered : number ≡ world.steps + 1
  pub here : actor_of world me ≡ Some actor
  pub at_line : actor.line ≡ Some line
  pub effect : HasEffect world.shared actor line

-- an operation has a place only by an effect, unless it was told that the queue is empty or that it is refused
abbrev pub IsByEffect : Option Reply → Type 0
IsByEffect None = Unit {0}
IsByEffect (Some Done) = Unit {0}
IsByEffect (Some (Value v)) = Unit {0}
IsByEffect (Some Empty) = ⊥
IsByEffect (Some (Refused refusal)) = ⊥

-- each operation that is pending, or done, or got a value, has its place, if any, at a step of its actor that had an
-- effect
abbrev pub ArePlacedByEffect : Setup → (actors : ℕ) → List AnyMove → List Stamped → Type 0
ArePlacedByEffect s actors moves ops =
    AllByRecursion (λ o. IsByEffect o.reply → IfSome o.at (TookEffect s actors moves o.actor)) ops

-- each operation that is pending has its place at the step of its actor that had an effect, if there was one since
-- its first number
abbrev pub HaveTheirEffect : Setup → (actors : ℕ) → List AnyMove → List Stamped → Type 0
HaveTheirEffect s actors moves ops =
    AllByRecursion (λ o. o.reply ≡ None → (number : ℕ) → o.first ≤ number → TookEffect s actors moves o.actor number → o.at ≡ Some number) ops

-- a fact holds of the operations after any list of moves
abbrev pub OfOperations : (Setup → ℕ → List AnyMove → List Stamped → Type 0) → Type 0
OfOperations P =
    (s : Setup) (actors : ℕ) (moves : List AnyMove) → IfSome (run moves (opening s actors)) (λ w. P s actors moves w.operations)

-- a fact holds of the operations after any list of begins, steps and give moves
abbrev pub OfOperationsOfCalls : (Setup → ℕ → List AnyMove → List Stamped → Type 0) → Type 0
OfOperationsOfCalls P =
    (s : Setup) (actors : ℕ) (moves : List Move) → IfSome (run (map made moves) (opening s actors)) (λ w. P s actors (map made moves) w.operations)

-- by whichever calls a world was made, operations have the places that the effects of these calls give
abbrev pub HavePlacesByItsEffects : World → List Stamped → Type 0
HavePlacesByItsEffects w ops =
    (m : IsMade w) → ArePlacedByEffect w.setup m.actors (map made m.moves) ops × HaveTheirEffect w.setup m.actors (map made m.moves) ops
