-- What is counted of a run, and what each exchange that is won costs each other actor.
use Rattle.std.specs.Prelude.{ℕ, ◌+◌, ◌*◌, Bool, true, false, Option, Some, None}
use Rattle.step_machine.specs.Below.{Reply, Held}

-- the prices of a count: what a step counts, and a turn that fails; what it costs each other actor at most where a node is
-- taken or given back, where a node or the closed end is linked, and where a value is popped; what an actor without a call
-- keeps for a lagging Tail, and for a node in its pocket
pub record Prices : Type 0 where
  pub step : ℕ
  pub turn : ℕ
  pub node : ℕ
  pub link : ℕ
  pub pop : ℕ
  pub idle : ℕ
  pub kept : ℕ

-- the steps of all actors are counted
abbrev pub all_steps : Prices
all_steps = record { step = 1; turn = 0; node = 4; link = 8; pop = 6; idle = 4; kept = 2 }

-- the steps of one call are counted
abbrev pub call_steps : Prices
call_steps = record { step = 1; turn = 0; node = 4; link = 8; pop = 6; idle = 0; kept = 0 }

-- the turns of one call that fail are counted
abbrev pub failed_turns : Prices
failed_turns = record { step = 0; turn = 1; node = 1; link = 2; pop = 1; idle = 0; kept = 0 }

-- what a turn of so many steps counts that fails
abbrev pub turn_of : Prices → (steps : ℕ) → ℕ
turn_of p k = k * p.step + p.turn

-- so much where a test failed
abbrev pub unless : Bool → ℕ → ℕ
unless true n = 0
unless false n = n

-- so much where a test succeeded
abbrev pub if_so : Bool → ℕ → ℕ
if_so true n = n
if_so false n = 0

-- so much before a dequeue that frees its pocket first, and so much where a value was taken
abbrev pub by_due : Option Reply → (first after : ℕ) → ℕ
by_due None n m = n
by_due (Some reply) n m = m

-- what is kept for a pocket
abbrev pub of_pocket : Prices → Option Held → ℕ
of_pocket p None = 0
of_pocket p (Some held) = p.kept
