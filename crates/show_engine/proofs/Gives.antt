-- The number that a giving up takes.
use Rattle.std.proofs.Common.{◌≡◌, ℕ, ◌+◌, Option, Some, None, sym, ap}
use Rattle.line_steps.specs.Actors.{Actor}
use Rattle.line_steps.specs.Outcomes.{Outcome}
use Rattle.line_table.specs.declared.lines.Line.{Line}
use Rattle.step_machine.specs.declared.actors.Move.TheVariants.{Give}
use Rattle.step_machine.specs.Below.{gives_up}
use Rattle.step_machine.specs.Machine.{World, actor_of, after_outcome, given, gives, moved, next}

-- a giving up takes one number
pub gave_steps : (w v : World) (me : ℕ) → next w (Give me) ≡ Some v → v.steps ≡ w.steps + 1
gave_steps w v me made = by_actor (actor_of w me) made
  where
    by_outcome : (a : Actor) (o : Option Outcome) → given w me a o ≡ Some v → v.steps ≡ w.steps + 1
    by_outcome a None e = absurd cc
    by_outcome a (Some o) e = let same : after_outcome w me a w.shared o ≡ v = cc in ap (λ (u : World). u.steps) (sym same)

    by_line : (a : Actor) (l : Option Line) → gives w me a l ≡ Some v → v.steps ≡ w.steps + 1
    by_line a None e = absurd cc
    by_line a (Some l) e = by_outcome a (gives_up (w.steps + 1) a l) e

    by_actor : (a : Option Actor) → moved w (Give me) a ≡ Some v → v.steps ≡ w.steps + 1
    by_actor None e = absurd cc
    by_actor (Some a) e = by_line a a.line e
