-- How soon an actor ends its call, where no other one makes a move.
use Rattle.std.specs.Prelude.{◌≡◌, ℕ, ◌≤◌, replicate, Some, IsSomeAnd}
use Rattle.step_machine.specs.Below.{NonBlocking, Op, Enq, Deq, Shut}
use Rattle.step_machine.specs.declared.actors.Move.TheVariants.{Begin, Step}
use Rattle.step_machine.specs.Machine.{World, made, next, run}
use Rattle.step_machine.specs.Calls.{IsIdle}

-- some number of steps of this actor alone, at most so many, leads to a world in which it has no call
abbrev pub EndsWithin : (most : ℕ) → World → (me : ℕ) → Type 0
EndsWithin most w me = (n : ℕ) × (n ≤ most) × IsSomeAnd (run (replicate n (made (Step me))) w) (λ v. IsIdle v me)

-- how many steps a call of the non-blocking queue takes at most, where its actor alone takes steps
abbrev pub most_steps : Op → ℕ
most_steps (Enq body) = 15
most_steps Deq = 17
most_steps Shut = 8

-- an actor of the non-blocking queue that just began this call ends it within the most steps, where no other one moves
abbrev pub EndsAlone : World → (me : ℕ) → Op → Type 0
EndsAlone w me op = w.setup.kind ≡ NonBlocking → EndsWithin (most_steps op) w me

-- each actor that begins a call ends it within the most steps of the call, where no other one moves then
abbrev pub EachEndsAlone : World → Type 0
EachEndsAlone w = (me : ℕ) (op : Op) (v : World) → next w (Begin me op) ≡ Some v → EndsWithin (most_steps op) v me
