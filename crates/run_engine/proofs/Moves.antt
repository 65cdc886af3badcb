-- Moves one after another.
use Rattle.std.proofs.Common.{◌≡◌, ℕ, ◌+◌, List, [], ◌∷◌, ◌++◌, Option, Some, None, refl}
use Rattle.std.specs.Prelude.{replicate}
use Rattle.step_machine.specs.declared.actors.Move.{Move}
use Rattle.step_machine.specs.Machine.{World, next, run_on}
use Rattle.std.proofs.lemmas.List.{replicate-append-replicate}
use Rattle.run_engine.specs.Runs.{world_after}

-- moves, and then more of them
pub world_after-append : (xs ys : List Move) (w : World) → world_after (xs ++ ys) w ≡ run_on (world_after ys) (world_after xs w)
world_after-append [] ys w = refl
world_after-append (x ∷ xs) ys w =
    elim (next w x) as (λ (o : Option World). run_on (world_after (xs ++ ys)) o ≡ run_on (world_after ys) (run_on (world_after xs) o)) [
      | None ↦ refl
      | Some v ↦ world_after-append xs ys v
    ]

-- moves, and then more of them that can be made
pub world_after_both : (xs ys : List Move) (w v u : World) → world_after xs w ≡ Some v → world_after ys v ≡ Some u → world_after (xs ++ ys) w ≡ Some u
world_after_both xs ys w v u first second = rw (world_after-append xs ys w, first) second

-- one move
pub world_after_one : (m : Move) (w v : World) → next w m ≡ Some v → world_after (m ∷ []) w ≡ Some v
world_after_one m w v made = rw made refl

-- one copy more
pub replicate-next : {A : Type 0} (n : ℕ) (x : A) → replicate n x ++ x ∷ [] ≡ replicate (n + 1) x
replicate-next n x = replicate-append-replicate n 1 x

-- one more of the same move
pub world_after-replicate_next : (n : ℕ) (m : Move) (w v u : World) → world_after (replicate n m) w ≡ Some v → next v m ≡ Some u → world_after (replicate (n + 1) m) w ≡ Some u
world_after-replicate_next n m w v u before made =
    rw (← replicate-next n m) (world_after_both (replicate n m) (m ∷ []) w v u before (world_after_one m v u made))
