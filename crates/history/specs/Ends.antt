-- What is known of a queue that was closed.
use Rattle.std.specs.Prelude.{◌≡◌, ◌↔◌, ℕ, ◌+◌, ◌≤◌, IsTrue, List, length, map, IsSomeAnd, slice_get}
use Rattle.std.specs.List.{All, count_by, sum_by}
use mathlib.Core.List.{IsPrefix}
use Rattle.history.specs.declared.operations.Entry.{Entry}
use Rattle.history.specs.declared.rests.Rest.{Rest}
use Rattle.history.specs.Entries.{is_push, is_pop, is_shut, seat_of, own_entries, Leads}
use Rattle.history.specs.Seats.{Permit, Known, IsPermitted}
use Rattle.history.specs.Rests.{left_of, taken_of, whole_of, was_shut_of}

-- how many pushes these seats made
abbrev pub pushes_of : List Known → ℕ
pushes_of seats = sum_by (λ k. count_by is_push k.mine) seats

-- how many pops these seats made
abbrev pub pops_of : List Known → ℕ
pops_of seats = sum_by (λ k. count_by is_pop k.mine) seats

-- how many shuts these seats made
abbrev pub shuts_of : List Known → ℕ
shuts_of seats = sum_by (λ k. count_by is_shut k.mine) seats

-- an entry is of one of these seats
abbrev pub IsOfOne : List Known → Entry → Type 0
IsOfOne seats e = (n : ℕ) × IsSomeAnd (slice_get seats n) (λ k. seat_of e ≡ k.number)

-- each seat that the queue gave is among these
abbrev pub AreAll : List Permit → List Known → Type 0
AreAll permits seats = (n : ℕ) → 1 ≤ n → n ≤ length permits → (i : ℕ) × IsSomeAnd (slice_get seats i) (λ k. k.number ≡ n)

-- a queue was closed by these seats: a legal history that begins with what each of them had seen, and has just their own
-- entries as theirs, leads to the values left, and its pops were counted; it is whole exactly where these seats made that
-- many pops, and pushes for those and the values left, and then it has their entries and no others; where each seat is
-- handed in, it is whole
pub record Closes (permits : List Permit) (seats : List Known) (rest : Rest) : Type 0 where
  pub history : List Entry
  pub leads : Leads history (was_shut_of rest) (left_of rest)
  pub permitted : All (IsPermitted permits) history
  pub begins : All (λ k. IsPrefix k.seen history) seats
  pub own : All (λ k. own_entries k.number history ≡ k.mine) seats
  pub counted : taken_of rest ≡ count_by is_pop history
  pub whole : IsTrue (whole_of rest) ↔ ((pops_of seats ≡ taken_of rest) × (pushes_of seats ≡ taken_of rest + length (left_of rest)) × (IsTrue (was_shut_of rest) → 1 ≤ shuts_of seats))
  pub theirs : IsTrue (whole_of rest) → All (IsOfOne seats) history
  pub all : AreAll permits seats → IsTrue (whole_of rest)

-- any seats with just these numbers are enough for an end of a queue
abbrev pub IsAskedOf : {Q : Type 0} → (asks : Q → List Known → Type 0) → Q → (numbers : List ℕ) → Type 0
IsAskedOf asks queue numbers = (seats : List Known) → map (λ k. k.number) seats ≡ numbers → asks queue seats

-- any seats are enough for it, and none too
abbrev pub AsksAny : {Q : Type 0} → (asks : Q → List Known → Type 0) → Q → Type 0
AsksAny asks queue = (seats : List Known) → asks queue seats
