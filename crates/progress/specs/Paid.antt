-- How many steps an actor of the non-blocking queue takes, and how many of its turns fail, by what the others do: so many for
-- each call that it begins, and so many for each exchange that another one wins.
use Rattle.std.specs.Prelude.{◌≡◌, ℕ, ◌+◌, ◌*◌, ◌≤◌, nat_eq, List, Option, Some, None, if◌then◌else◌}
use Rattle.std.specs.List.{sum_by}
use Rattle.step_machine.specs.Below.{NonBlocking, Line, Op, Actor, Shared}
use Rattle.step_machine.specs.declared.actors.Move.TheVariants.{Begin, Step, Give}
use Rattle.step_machine.specs.Machine.{World, actor_of, AnyMove, made, next, run}
use Rattle.step_machine.specs.Solo.{most_steps}
use Rattle.step_machine.specs.Prices.{Prices, call_steps, failed_turns}
use Rattle.step_machine.specs.Amounts.{failed, toll}
use Rattle.progress.specs.Moves.{total}
use Rattle.progress.specs.Steps.{OfRuns}

-- 1 for a call that an actor begins
abbrev pub begun_by : (me : ℕ) → AnyMove → ℕ
begun_by me (made (Begin you op)) = if nat_eq you me then 1 else 0
begun_by me _ = 0

-- how many calls an actor begins in a list of moves
abbrev pub calls_of : (me : ℕ) → List AnyMove → ℕ
calls_of me ms = sum_by (begun_by me) ms

-- 1 for a number that an actor takes
abbrev pub taken_by : (me : ℕ) → World → AnyMove → ℕ
taken_by me w (made (Step you)) = if nat_eq you me then 1 else 0
taken_by me w (made (Give you)) = if nat_eq you me then 1 else 0
taken_by me w _ = 0

-- what the next step of an actor counts or costs, by its line
abbrev pub at_line_of : (Shared → Actor → Line → ℕ) → Shared → Actor → Option Line → ℕ
at_line_of f m a None = 0
at_line_of f m a (Some l) = f m a l

-- the same of the actor that is there
abbrev pub step_of : (Shared → Actor → Line → ℕ) → Shared → Option Actor → ℕ
step_of f m None = 0
step_of f m (Some a) = at_line_of f m a a.line

-- 1 for a step in which a turn of an actor fails
abbrev pub fails_by : (me : ℕ) → World → AnyMove → ℕ
fails_by me w (made (Step you)) = if nat_eq you me then step_of (failed failed_turns) w.shared (actor_of w you) else 0
fails_by me w _ = 0

-- what a step of another actor costs an actor, by these prices
abbrev pub costs : Prices → (me : ℕ) → World → AnyMove → ℕ
costs p me w (made (Step you)) = if nat_eq you me then 0 else step_of (toll p) w.shared (actor_of w you)
costs p me w _ = 0

-- the steps of each actor are at most so many for each call that it begins, and what the others' won exchanges cost
abbrev pub StepsArePaid : (each : ℕ) → Type 0
StepsArePaid each =
    OfRuns NonBlocking (λ actors moves u v. (me : ℕ) → total (taken_by me) moves u ≤ each * calls_of me moves + total (costs call_steps me) moves u)

-- the same of the turns of each actor that fail
abbrev pub FailedTurnsArePaid : (each : ℕ) → Type 0
FailedTurnsArePaid each =
    OfRuns NonBlocking (λ actors moves u v. (me : ℕ) → total (fails_by me) moves u ≤ each * calls_of me moves + total (costs failed_turns me) moves u)

-- what an actor that just began a call counts while it begins no other is at most so much, and what the others' won
-- exchanges cost
abbrev pub OfACallIsPaid : Prices → ((me : ℕ) → World → AnyMove → ℕ) → (Op → ℕ) → World → Type 0
OfACallIsPaid p counts most w =
    (me : ℕ) (op : Op) (v : World) → next w (Begin me op) ≡ Some v →
    (ms : List AnyMove) (u : World) → run ms v ≡ Some u → calls_of me ms ≡ 0 → total (counts me) ms v ≤ most op + total (costs p me) ms v

-- of a call its steps: those of an actor alone
abbrev pub StepsOfACallArePaid : World → Type 0
StepsOfACallArePaid = OfACallIsPaid call_steps taken_by most_steps

-- of a call its turns that fail
abbrev pub FailedTurnsOfACallArePaid : (most : ℕ) → World → Type 0
FailedTurnsOfACallArePaid most = OfACallIsPaid failed_turns fails_by (λ op. most)
