-- What a search looks at, before a pop goes without alternatives.
use Rattle.std.specs.Prelude.{◌≡◌, ℕ, max, Bool, true, false, not, ◌&&◌, ◌||◌, List, [], Option, None, Some}
use Rattle.std.specs.List.{AllByRecursion}
use Rattle.history.specs.declared.operations.Taken.{Taken}
use Rattle.history.specs.declared.operations.Reply.{Reply}
use Rattle.history.specs.declared.operations.Reply.TheVariants.{Done, Value, Empty, Refused}
use Rattle.history.specs.declared.operations.Stamped.{Stamped}
use Rattle.waiting_orders.specs.declared.lines.Pick.{Pick}
use Rattle.waiting_orders.specs.declared.steps.Front.{Front}
use Rattle.waiting_orders.specs.Waiting.{IsCall, is_open_at, sooner, pushes_value, fits}
use Rattle.waiting_orders.specs.Lines.{left_of, view_left, ends_by}
use Rattle.waiting_orders.specs.Nodes.{Spot, one, time_of, told, is_told, is_calm}

-- whether an operation pushes a value, or was told it
abbrev pub is_of : Taken → Stamped → Bool
is_of v o = is_told v o.reply || pushes_value v o.actor o.op

-- whether an operation pushes a value, or was told it, and ends before a number
abbrev pub ends_sooner : Taken → Option ℕ → Stamped → Bool
ends_sooner v last o = is_of v o && not (ends_by last o.last)

-- the same of what stands at a place, if something does
abbrev pub sooner_at : Taken → Option ℕ → Option Stamped → Bool
sooner_at v last None = false
sooner_at v last (Some o) = ends_sooner v last o

-- an operation that is a call doesn't push a value, or wasn't told it, or ends no sooner than a number
abbrev pub EndsLater : Taken → Option ℕ → Stamped → Type 0
EndsLater v last o = IsCall o → ends_sooner v last o ≡ false

-- whether a reply is that the queue is empty
abbrev pub is_empty : Option Reply → Bool
is_empty None = false
is_empty (Some Done) = false
is_empty (Some (Value v)) = false
is_empty (Some Empty) = true
is_empty (Some (Refused refusal)) = false

-- the sooner one of a number that may be missing and that of an operation, if it was told that the queue is empty
abbrev pub lowered_by : Bool → ℕ → Option ℕ → Option ℕ
lowered_by true n first = sooner first (Some n)
lowered_by false n first = first

-- the same of what stands at a place, if something does
abbrev pub first_of : Option ℕ → Option Pick → Option ℕ
first_of first None = first
first_of first (Some way) = lowered_by (is_empty way.operation.reply) way.operation.first first

-- an operation that was told that the queue is empty begins at a number or later
abbrev pub BeginsLater : Option ℕ → Pick → Type 0
BeginsLater first way = way.operation.reply ≡ Some Empty → ends_by first (Some way.operation.first) ≡ true

-- the number at which a pop takes a push, at the least
abbrev pub take_time : Spot → Pick → Pick → ℕ
take_time s way take = max (time_of s way) take.operation.first

-- A pop that was told a value takes a push of it, and nothing that is left and pushes the value, or was told it, ends sooner
-- than the one or the other. Where the take's number is later than that of the state, no pop that was told that the queue is
-- empty began before it.
pub record MayGoAlone (v : Taken) (others pushes : List Stamped) (s : Spot) (f : Front) (way take : Pick) : Type 0 where
  pub fits : fits v take.operation ≡ true
  pub began : is_open_at take.operation.first f.push_limit ≡ true
  pub ongoing : is_open_at (take_time s way take) f.limit ≡ true
  pub calm : is_calm s f (take_time s way take) ≡ true
  pub pops : AllByRecursion (EndsLater v way.operation.last) (left_of others s.others)
  pub pushes_end : AllByRecursion (EndsLater v take.operation.last) (left_of pushes s.pushes)

-- the same of a pop that was told a value, if it was told one
abbrev pub IsAloneOf : Option Taken → (others pushes : List Stamped) → Spot → Front → (way take : Pick) → Type 0
IsAloneOf None others pushes s f way take = ⊥
IsAloneOf (Some v) others pushes s f way take = MayGoAlone v others pushes s f way take

-- a pop may take a push, and go alone
abbrev pub IsAlone : (others pushes : List Stamped) → Spot → Front → (way take : Pick) → Type 0
IsAlone others pushes s f way take = IsAloneOf (told way.operation.op way.operation.reply) others pushes s f way take

-- the same of what stands at two places
abbrev pub IsAloneAt : (others pushes : List Stamped) → Spot → Front → (way take : Option Pick) → Type 0
IsAloneAt others pushes s f None take = ⊥
IsAloneAt others pushes s f (Some way) None = ⊥
IsAloneAt others pushes s f (Some way) (Some take) = IsAlone others pushes s f way take

-- the state behind it
abbrev pub alone_at : Spot → (way take : Option Pick) → List Spot
alone_at s None take = []
alone_at s (Some way) None = []
alone_at s (Some way) (Some take) = one (view_left way.rest) (view_left take.rest) s.shut (take_time s way take)
