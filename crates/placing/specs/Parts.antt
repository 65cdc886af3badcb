-- Parts of a recorded history: what began by a number, and what is left of it without some values.
use Rattle.std.specs.Prelude.{◌≡◌, ◌≤◌, ◌<◌, ℕ, Bool, true, false, nat_le, cond, List, [], ◌∷◌, ◌++◌, Option, None, Some, IsSome, map}
use Rattle.std.specs.List.{filter}
use Rattle.history.specs.declared.operations.Op.{Op}
use Rattle.history.specs.declared.operations.Op.TheVariants.{Enq, Deq, Shut}
use Rattle.history.specs.declared.operations.Reply.{Reply}
use Rattle.history.specs.declared.operations.Reply.TheVariants.{Done, Value, Empty, Refused}
use Rattle.history.specs.declared.operations.Stamped.{Stamped}
use Rattle.placing.specs.declared.marks.Marked.{Marked}
use Rattle.placing.specs.Kinds.{same_value, ended_by, pushes_of, takes_of}

-- an operation as it was at a number: told nothing, if it ended later
abbrev pub cut : (time : ℕ) → Stamped → Stamped
cut time o = record o { last = cond (ended_by time o.last) o.last None; reply = cond (ended_by time o.last) o.reply None }

-- the operations that began by a number, as they were then
abbrev pub begun : (time : ℕ) → List Stamped → List Stamped
begun time ops = map (cut time) (filter (λ o. nat_le o.first time) ops)

-- an operation began by a number, and ended by it if it ended
pub record IsBy (time : ℕ) (o : Stamped) : Type 0 where
  pub first : o.first ≤ time
  pub last : IsSome o.last → ended_by time o.last ≡ true

-- the operations of some that are marked
abbrev pub all_of : List Marked → List Stamped
all_of ms = map (λ m. m.operation) ms

-- those that are in the part
abbrev pub part_of : List Marked → List Stamped
part_of ms = all_of (filter (λ m. m.is_in) ms)

-- the operation at a place, marked, as it was at a number
abbrev pub marked : (time place : ℕ) → (is_in : Bool) → Stamped → Marked
marked time place is_in o = record { operation = cut time o; place = place; is_in = is_in }

-- the operation at a place is marked, if it began by a number
pub record AddsCall (time place : ℕ) (is_in : Bool) (o : Stamped) (old new : List Marked) : Type 0 where
  pub late : time < o.first → new ≡ old
  pub early : o.first ≤ time → new ≡ old ++ marked time place is_in o ∷ []

-- a place is put in behind others, unless it is this one
pub record AddsOther (place one : ℕ) (old new : List ℕ) : Type 0 where
  pub same : one ≡ place → new ≡ old
  pub other : (one ≡ place → ⊥) → new ≡ old ++ one ∷ []

-- a call that may have had its effect, and isn't told what it took, may be left out of a part: a push of a value of which no pop of
-- the part was told
abbrev pub MayGoUnknown : (part : List Stamped) → (actor : ℕ) → Op → Type 0
MayGoUnknown part actor (Enq body) = takes_of (same_value (record { from = actor; body = body })) part ≡ 0
MayGoUnknown part actor Deq = ⊥
MayGoUnknown part actor Shut = ⊥

-- a call, by what it was told, may be left out of a part: such a push, a pop that was told a value of which the part has no push, and
-- what was refused or found the queue empty
abbrev pub MayGo : (part : List Stamped) → (actor : ℕ) → Op → Option Reply → Type 0
MayGo part actor op None = MayGoUnknown part actor op
MayGo part actor op (Some Done) = MayGoUnknown part actor op
MayGo part actor op (Some (Value v)) = pushes_of (same_value v) part ≡ 0
MayGo part actor op (Some Empty) = Unit {0}
MayGo part actor op (Some (Refused refusal)) = Unit {0}

-- what isn't in a part may be left out of it
abbrev pub MayBeOut : (part : List Stamped) → Marked → Type 0
MayBeOut part m = m.is_in ≡ false → MayGo part m.operation.actor m.operation.op m.operation.reply
