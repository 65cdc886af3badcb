-- What is known of a queue of values that was closed.
use Rattle.std.specs.Prelude.{◌≡◌, ◌↔◌, ℕ, ◌+◌, ◌≤◌, Bool, IsTrue, List, length, IsSomeAnd, slice_get}
use Rattle.std.specs.List.{All, count_by, sum_by}
use mathlib.Core.List.{IsPrefix}
use Rattle.history.specs.Seats.{Permit}
use Rattle.carriers.specs.declared.items.ItemOf.{ItemOf}
use Rattle.carriers.specs.declared.rests.RestOf.{RestOf}
use Rattle.carriers.specs.Deeds.{Deed, doer_of, own_deeds, is_pushing, is_popping, is_shutting, RunsTo}
use Rattle.carriers.specs.Knowledge.{KnownOf, IsPermittedDeed}
use Rattle.carriers.specs.Rests.{left_in, taken_in, whole_in, was_shut_in}

module _ {A : Type 0} where
  -- how many pushes these seats made
  abbrev pub pushes_by : List (KnownOf A) → ℕ
  pushes_by seats = sum_by (λ k. count_by is_pushing k.mine) seats

  -- how many pops these seats made
  abbrev pub pops_by : List (KnownOf A) → ℕ
  pops_by seats = sum_by (λ k. count_by is_popping k.mine) seats

  -- how many shuts these seats made
  abbrev pub shuts_by : List (KnownOf A) → ℕ
  shuts_by seats = sum_by (λ k. count_by is_shutting k.mine) seats

  -- a deed is of one of these seats
  abbrev pub IsOfOneOf : List (KnownOf A) → Deed A → Type 0
  IsOfOneOf seats d = (n : ℕ) × IsSomeAnd (slice_get seats n) (λ k. doer_of d ≡ k.number)

  -- each seat that the queue gave is among these
  abbrev pub AreAllOf : List Permit → List (KnownOf A) → Type 0
  AreAllOf permits seats = (n : ℕ) → 1 ≤ n → n ≤ length permits → (i : ℕ) × IsSomeAnd (slice_get seats i) (λ k. k.number ≡ n)

-- a queue was closed by these seats, with these values left, so many taken, whole or not, and shut or not: a run of permitted
-- deeds that begins with what each of them had seen, and has just their own deeds as theirs, leads to the values left, and its
-- pops were counted; it is whole exactly where these seats made that many pops, and pushes for those and the values left, and
-- then it has their deeds and no others; where each seat is handed in, it is whole
pub record ClosesWith {A : Type 0} (permits : List Permit) (seats : List (KnownOf A)) (left : List (ItemOf A)) (taken : ℕ) (whole was_shut : Bool) : Type 0 where
  pub history : List (Deed A)
  pub runs : RunsTo history was_shut left
  pub permitted : All (IsPermittedDeed permits) history
  pub begins : All (λ k. IsPrefix k.seen history) seats
  pub own : All (λ k. own_deeds k.number history ≡ k.mine) seats
  pub counted : taken ≡ count_by is_popping history
  pub made_all : IsTrue whole ↔ ((pops_by seats ≡ taken) × (pushes_by seats ≡ taken + length left) × (IsTrue was_shut → 1 ≤ shuts_by seats))
  pub theirs : IsTrue whole → All (IsOfOneOf seats) history
  pub all : AreAllOf permits seats → IsTrue whole

-- a queue was closed by these seats, with this rest
abbrev pub ClosesOf : {A : Type 0} → List Permit → List (KnownOf A) → RestOf A → Type 0
ClosesOf permits seats rest = ClosesWith permits seats (left_in rest) (taken_in rest) (whole_in rest) (was_shut_in rest)

module _ {Q A : Type 0} (asks : Q → List (KnownOf A) → Type 0) where
  -- any seats are enough for an end of a queue of values, and none too
  abbrev pub AsksAny : Q → Type 0
  AsksAny queue = (seats : List (KnownOf A)) → asks queue seats

  -- so many seats are enough for it, whichever they are
  abbrev pub AsksSoMany : Q → ℕ → Type 0
  AsksSoMany queue count = (seats : List (KnownOf A)) → length seats ≡ count → asks queue seats
