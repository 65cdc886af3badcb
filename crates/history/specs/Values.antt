-- The values that a history pushes and pops, and who alone may do so.
use Rattle.std.specs.Prelude.{◌≡◌, ℕ, List, [], ◌∷◌}
use Rattle.std.specs.List.{flat_map}
use Rattle.history.specs.declared.operations.Entry.{Entry}
use Rattle.history.specs.declared.operations.Entry.TheVariants.{Push, Pop, Shut}
use Rattle.history.specs.declared.operations.Taken.{Taken}
use Rattle.history.specs.Seats.{Permit, MayPush, MayPop}

-- the value that an entry pushes, if it pushes one
abbrev pub pushed_by : Entry → List Taken
pushed_by (Push seat body) = record { from = seat; body = body } ∷ []
pushed_by (Pop seat value) = []
pushed_by (Shut seat) = []

-- the value that an entry pops, if it pops one
abbrev pub popped_by : Entry → List Taken
popped_by (Push seat body) = []
popped_by (Pop seat value) = value ∷ []
popped_by (Shut seat) = []

-- the values pushed, in order
abbrev pub pushed : List Entry → List Taken
pushed es = flat_map pushed_by es

-- the values popped, in order
abbrev pub popped : List Entry → List Taken
popped es = flat_map popped_by es

-- no seat but this one may push
abbrev pub OnlyPushes : List Permit → (number : ℕ) → Type 0
OnlyPushes permits number = (n : ℕ) → MayPush permits n → n ≡ number

-- no seat but this one may pop
abbrev pub OnlyPops : List Permit → (number : ℕ) → Type 0
OnlyPops permits number = (n : ℕ) → MayPop permits n → n ≡ number
