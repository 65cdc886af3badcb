-- Which steps of the two-lock queue find no lock held.
use Rattle.std.specs.Prelude.{ℕ, nat_eq, Option, Some, None}
use Rattle.step_machine.specs.Below.{Line, A3, B1, S6, Actor, Shared}
use Rattle.step_machine.specs.Prices.{if_so}

-- 1 for a step at a line, unless it finds a lock held
abbrev pub unheld : Shared → Line → ℕ
unheld m A3 = if_so (nat_eq m.tail_lock 0) 1
unheld m S6 = if_so (nat_eq m.tail_lock 0) 1
unheld m B1 = if_so (nat_eq m.head_lock 0) 1
unheld m _ = 1

-- the same by an actor's line
abbrev pub unheld_at : Shared → Option Line → ℕ
unheld_at m None = 0
unheld_at m (Some l) = unheld m l

-- the same by the actor that is there
abbrev pub unheld_of : Shared → Option Actor → ℕ
unheld_of m None = 0
unheld_of m (Some a) = unheld_at m a.line
