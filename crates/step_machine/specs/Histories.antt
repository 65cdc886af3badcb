-- What is said of every history: of either queue, and after any list of moves.
use Rattle.std.specs.Prelude.{ℕ, List, IfSome}
use Rattle.step_machine.specs.Below.{Stamped, Setup}
use Rattle.step_machine.specs.Machine.{World, opening, AnyMove, run, IsSized, IsReached}

-- a fact holds of each world that is reached
abbrev pub OfEachWorld : (World → Type 0) → Type 0
OfEachWorld P = (w : World) → IsReached w → P w

-- a fact holds of each history: of either queue, of any size, limit and number of actors in range, after any list of
-- begins, steps, give moves and rests
abbrev pub OfEachHistory : (List Stamped → Type 0) → Type 0
OfEachHistory P =
    (s : Setup) (actors : ℕ) (moves : List AnyMove) → IsSized s actors → IfSome (run moves (opening s actors)) (λ w. P w.operations)
