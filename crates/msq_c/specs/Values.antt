-- Values as C gets them.
use Rattle.std.specs.Prelude.{◌≡◌, ◌++◌, ◌-◌, ◌^◌, ℕ, min, List, map, take, drop, length, Option, Some, Result, Ok}
use Rattle.history.specs.declared.operations.Taken.{Taken}
use Rattle.msq_c.specs.declared.values.MsqValue.{MsqValue}
use Rattle.msq_c.specs.declared.troubles.Trouble.{Trouble}

-- what C gets of a value
abbrev pub value_of : Taken → MsqValue
value_of taken = record { body = taken.body; from = taken.from }

-- the value that a pop took was written, and else nothing
abbrev pub IsWritten : Result (Option Taken) Trouble → MsqValue → MsqValue → Type 0
IsWritten (Ok (Some taken)) v v' = v' ≡ value_of taken
IsWritten out v v' = v' ≡ v

-- what C gets of each of these was written from the front, as many as there is room for
abbrev pub AreLaid : {A B : Type 0} → (A → B) → List A → List B → List B → Type 0
AreLaid told left vs vs' = vs' ≡ take (length vs) (map told left) ++ drop (length left) vs

-- these values were written from the front, as many as there is room for
abbrev pub AreWritten : (left : List Taken) → List MsqValue → List MsqValue → Type 0
AreWritten left vs vs' = AreLaid value_of left vs vs'

-- the number of values as C gets it, up to 2^64 - 1
abbrev pub count_told : {A : Type 0} → List A → ℕ
count_told left = min (length left) (2 ^ 64 - 1)
