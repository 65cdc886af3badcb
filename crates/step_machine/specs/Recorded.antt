-- What the operations of a world record of the moves that led to it: where refusals and empty replies stand, which calls
-- they are of, and how they ended.
use Rattle.std.specs.Prelude.{◌≡◌, ℕ, ◌+◌, ◌≤◌, Bool, true, false, List, [], ◌∷◌, ◌++◌, Some, IfSome, IsTrue, ◌≢◌, slice_get}
use Rattle.std.specs.List.{AllByRecursion}
use Rattle.line_table.specs.declared.lines.Line.{Line}
use Rattle.line_table.specs.declared.lines.Line.TheVariants.{D4, B3}
use Rattle.history.specs.declared.refusals.Refusal.{Refusal}
use Rattle.history.specs.declared.operations.Op.{Op}
use Rattle.history.specs.declared.operations.Reply.{Reply}
use Rattle.history.specs.declared.operations.Reply.TheVariants.{Empty, Refused}
use Rattle.history.specs.declared.operations.Stamped.{Stamped}
use Rattle.line_steps.specs.declared.actors.Setup.{Setup}
use Rattle.line_steps.specs.Actors.{Actor}
use Rattle.step_machine.specs.declared.actors.Move.{Move}
use Rattle.step_machine.specs.declared.actors.Move.TheVariants.{Begin, Step}
use Rattle.step_machine.specs.declared.actors.Stepped.TheVariants.{Ended}
use Rattle.step_machine.specs.Machine.{World, opening, actor_of, mover, AnyMove, made, Rest, run}
use Rattle.step_machine.specs.Calls.{move_answer}
use Rattle.step_machine.specs.Stamps.{numbered_by}

-- an operation that was refused has its place at its last number
abbrev pub IsRefusedAtItsEnd : Stamped → Type 0
IsRefusedAtItsEnd o = (refusal : Refusal) → o.reply ≡ Some (Refused refusal) → o.at ≡ o.last

-- whether a dequeue looks at this line for a node behind the dummy
abbrev pub looks : Line → Bool
looks D4 = true
looks B3 = true
looks _ = false

-- in a list of moves, this number is that of an actor's step at a line at which a dequeue looks for a node: D4 or B3
pub record IsLook (s : Setup) (actors : ℕ) (moves : List AnyMove) (me number : ℕ) : Type 0 where
  pub before : List AnyMove
  pub after : List AnyMove
  pub world : World
  pub actor : Actor
  pub line : Line
  pub moves_are : moves ≡ before ++ made (Step me) ∷ after
  pub led : run before (opening s actors) ≡ Some world
  pub numbered : number ≡ world.steps + 1
  pub here : actor_of world me ≡ Some actor
  pub at_line : actor.line ≡ Some line
  pub looking : IsTrue (looks line)

-- of an actor's steps at D4 and B3 up to the last number of its operation, this one is the last
pub record IsLastLook (s : Setup) (actors : ℕ) (moves : List AnyMove) (o : Stamped) (number : ℕ) : Type 0 where
  pub look : IsLook s actors moves o.actor number
  pub latest : (other : ℕ) → IsLook s actors moves o.actor other → IfSome o.last (λ last. other ≤ last → other ≤ number)

-- each operation that was told that the queue is empty has its place at its call's last step at D4 or B3
abbrev pub AreEmptyAtTheirLastLook : Setup → (actors : ℕ) → List AnyMove → List Stamped → Type 0
AreEmptyAtTheirLastLook s actors moves ops =
    AllByRecursion (λ o. o.reply ≡ Some Empty → IfSome o.at (IsLastLook s actors moves o)) ops

-- who makes any move
abbrev pub maker : AnyMove → ℕ
maker (made m) = mover m
maker (Rest me) = me

-- in a list of moves, this number is that of an actor's first step or giving up since it began this call: between the
-- begin and that move the actor made none
pub record IsFirstOfCall (s : Setup) (actors : ℕ) (moves : List AnyMove) (me number : ℕ) (op : Op) : Type 0 where
  pub before : List AnyMove
  pub between : List AnyMove
  pub move : AnyMove
  pub after : List AnyMove
  pub world : World
  pub moves_are : moves ≡ before ++ made (Begin me op) ∷ between ++ move ∷ after
  pub led : run (before ++ made (Begin me op) ∷ between) (opening s actors) ≡ Some world
  pub numbered : number ≡ world.steps + 1
  pub takes_it : numbered_by move ≡ me ∷ []
  pub alone : AllByRecursion (λ m. maker m ≢ me) between

-- each operation is of the call that its actor had begun when it took its first number
abbrev pub AreOfCallsBegun : Setup → (actors : ℕ) → List AnyMove → List Stamped → Type 0
AreOfCallsBegun s actors moves ops = AllByRecursion (λ o. IsFirstOfCall s actors moves o.actor o.first o.op) ops

-- in a list of moves, this number is that of an actor's move that ended its call and was told this reply
pub record IsEnd (s : Setup) (actors : ℕ) (moves : List AnyMove) (me number : ℕ) (reply : Reply) : Type 0 where
  pub before : List AnyMove
  pub move : Move
  pub after : List AnyMove
  pub world : World
  pub line : Line
  pub moves_are : moves ≡ before ++ made move ∷ after
  pub led : run before (opening s actors) ≡ Some world
  pub numbered : number ≡ world.steps + 1
  pub own : mover move ≡ me
  pub told : move_answer world move ≡ Some (Ended line reply)

-- each operation that ended has the number and the reply of a move of its actor that ended a call
abbrev pub EndAsTold : Setup → (actors : ℕ) → List AnyMove → List Stamped → Type 0
EndAsTold s actors moves ops =
    AllByRecursion (λ o. IfSome o.last (λ last. IfSome o.reply (IsEnd s actors moves o.actor last))) ops

-- an operation of this actor has this last number and this reply
pub record Ending (ops : List Stamped) (me number : ℕ) (answer : Reply) : Type 0 where
  pub place : ℕ
  pub operation : Stamped
  pub there : slice_get ops place ≡ Some operation
  pub own : operation.actor ≡ me
  pub last : operation.last ≡ Some number
  pub reply : operation.reply ≡ Some answer

-- each move that ended a call has left its number and the reply that it was told to an operation of its actor
abbrev pub TellTheirEnds : Setup → (actors : ℕ) → List AnyMove → List Stamped → Type 0
TellTheirEnds s actors moves ops = (me number : ℕ) (reply : Reply) → IsEnd s actors moves me number reply → Ending ops me number reply
