-- The seats of a new queue.
use Rattle.std.specs.Prelude.{◌≡◌, ℕ, ◌+◌, List, [], length, Some, slice_get}
use Rattle.history.specs.Seats.{Permit, Known}

-- what a seat of this number knows that has made no call: it has seen nothing, and nothing is its own
abbrev pub newcomer : ℕ → Known
newcomer n = record { number = n; seen = []; mine = []; notes = [] }

-- these are all the seats of a new queue: one for each permit, numbered from 1 on, and none has made a call
pub record AreNew (permits : List Permit) (seats : List Known) : Type 0 where
  pub count : length seats ≡ length permits
  pub each : (k : ℕ) (s : Known) → slice_get seats k ≡ Some s → s ≡ newcomer (k + 1)
