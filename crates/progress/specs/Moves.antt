-- What the moves of a list count together.
use Rattle.std.specs.Prelude.{ℕ, ◌+◌, List, [], ◌∷◌, Option, Some, None}
use Rattle.std.specs.List.{sum_by}
use Rattle.step_machine.specs.Below.{Reply}
use Rattle.step_machine.specs.declared.actors.Move.TheVariants.{Begin, Step, Give}
use Rattle.step_machine.specs.Machine.{World, actor_of, AnyMove, made, Rest, next_any}
use Rattle.progress.specs.Locked.{unheld_of}

-- what a sum adds from the next world on, where there is one
abbrev pub total_on : (World → ℕ) → Option World → ℕ
total_on more None = 0
total_on more (Some w) = more w

-- the sum over a list of moves, each in the world in which it is made, as far as they can be made
abbrev pub total : (World → AnyMove → ℕ) → List AnyMove → World → ℕ
total f [] w = 0
total f (m ∷ ms) w = f w m + total_on (total f ms) (next_any w m)

-- 1 for a move that takes a number
abbrev pub numbered : World → AnyMove → ℕ
numbered w (made (Begin me op)) = 0
numbered w (made (Step me)) = 1
numbered w (made (Give me)) = 1
numbered w (Rest me) = 0

-- 1 for a move that takes a number and finds no lock held
abbrev pub numbered_unheld : World → AnyMove → ℕ
numbered_unheld w (made (Begin me op)) = 0
numbered_unheld w (made (Step me)) = unheld_of w.shared (actor_of w me)
numbered_unheld w (made (Give me)) = 1
numbered_unheld w (Rest me) = 0

-- how many steps of a list of moves find no lock held
abbrev pub steps_unheld : List AnyMove → World → ℕ
steps_unheld = total numbered_unheld

-- 1 for a rest
abbrev pub is_rest : AnyMove → ℕ
is_rest (made m) = 0
is_rest (Rest me) = 1

-- how many rests there are in a list of moves
abbrev pub rests : List AnyMove → ℕ
rests ms = sum_by is_rest ms

-- 1 for a reply
abbrev pub replied : Option Reply → ℕ
replied None = 0
replied (Some reply) = 1

-- how many operations are complete
abbrev pub completed : World → ℕ
completed w = sum_by (λ o. replied o.reply) w.operations
