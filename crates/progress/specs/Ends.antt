-- How calls end: alone at any moment, all together once no operation begins, and some one of them.
use Rattle.std.specs.Prelude.{◌≡◌, ℕ, ◌+◌, ◌*◌, ◌≤◌, List, length, Some}
use Rattle.step_machine.specs.Below.{Line, Actor}
use Rattle.step_machine.specs.Machine.{World, actor_of, AnyMove, run}
use Rattle.step_machine.specs.Solo.{EndsWithin}
use Rattle.progress.specs.Steps.{linear}

-- an actor that has a call, wherever the others stopped, ends it within so many steps alone
abbrev pub EachEndsFromHere : (most : ℕ) → World → Type 0
EachEndsFromHere most w =
    (me : ℕ) (a : Actor) (l : Line) → actor_of w me ≡ Some a → a.line ≡ Some l → EndsWithin most w me

-- moves with which no operation begins take at most so many steps for each actor, in whatever order they come
abbrev pub AllEndTogether : (each more : ℕ) → World → Type 0
AllEndTogether each more w =
    (ms : List AnyMove) (v : World) → run ms w ≡ Some v → length v.operations ≡ length w.operations →
    v.steps ≤ w.steps + length w.actors * linear each more (length w.actors)

-- an actor has a call, and ends it within so many steps alone
pub record EndsItsCall (most : ℕ) (w : World) (me : ℕ) : Type 0 where
  pub actor : Actor
  pub line : Line
  pub here : actor_of w me ≡ Some actor
  pub at : actor.line ≡ Some line
  pub ends : EndsWithin most w me

-- where an actor has a call, some actor ends its own within so many steps, if no other one moves
abbrev pub SomeEndsItsCall : (most : ℕ) → World → Type 0
SomeEndsItsCall most w =
    (me : ℕ) (a : Actor) (l : Line) → actor_of w me ≡ Some a → a.line ≡ Some l → (you : ℕ) × EndsItsCall most w you
