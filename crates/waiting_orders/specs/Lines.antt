-- Operations by their first numbers, and what is left of them: those from a place on, and those at some places before it.
use Rattle.std.specs.Prelude.{◌≡◌, ℕ, zero, suc, ◌+◌, nat_le, Bool, true, false, not, ◌⊎◌, List, [], ◌∷◌, ◌++◌, Option, None, Some, length, drop, map, slice_get, cond}
use Rattle.std.specs.List.{AllByRecursion}
use Rattle.std.specs.List.Sorted.{IsPermutation, IsNonDecreasingBy}
use Rattle.history.specs.declared.operations.Stamped.{Stamped}
use Rattle.waiting_orders.specs.declared.lines.Rest.{Rest}
use Rattle.waiting_orders.specs.declared.lines.Pick.{Pick}
use Rattle.waiting_orders.specs.Waiting.{IsCall, IsOpenAt, is_open_at, sooner}

-- what is left of operations: those at some places, and all from a place on
pub record Left : Type 0 where
  pub kept : List ℕ
  pub from : ℕ

-- an operation that is left, and what is left without it
pub record Out : Type 0 where
  pub operation : Stamped
  pub left : Left

-- what is left, by lists
abbrev pub view_left : Rest → Left
view_left r = record { kept = r.kept.items; from = r.from }

-- an operation that may be taken out, by lists
abbrev pub view_pick : Pick → Out
view_pick p = record { operation = p.operation; left = view_left p.rest }

-- several of these
abbrev pub view_picks : List Pick → List Out
view_picks ps = map view_pick ps

-- what stands at a place, if there is that place
abbrev pub listed : {X : Type 0} → Option X → List X
listed None = []
listed (Some x) = x ∷ []

-- those of a list that are there
abbrev pub cat : {X : Type 0} → List (Option X) → List X
cat [] = []
cat (None ∷ xs) = cat xs
cat (Some x ∷ xs) = x ∷ cat xs

-- the operations at some places
abbrev pub picked : List Stamped → List ℕ → List Stamped
picked ops places = cat (map (slice_get ops) places)

-- the operations that are left
abbrev pub left_of : List Stamped → Left → List Stamped
left_of ops left = picked ops left.kept ++ drop left.from ops

-- the operation at a place, if there is one
abbrev pub stands : List Stamped → Option ℕ → Option Stamped
stands ops None = None
stands ops (Some place) = slice_get ops place

-- a limit, or the last number of an operation where that is sooner
abbrev pub lowered : Option ℕ → Option Stamped → Option ℕ
lowered limit None = limit
lowered limit (Some o) = sooner limit o.last

-- whether a last number is no later than another one
abbrev pub ends_by : (last later : Option ℕ) → Bool
ends_by None None = true
ends_by None (Some later) = false
ends_by (Some last) None = true
ends_by (Some last) (Some later) = nat_le last later

-- whether an operation began behind a limit
abbrev pub begins_past : Option ℕ → Option Stamped → Bool
begins_past limit None = false
begins_past limit (Some o) = not (is_open_at o.first limit)

-- a list without what stands at a place, from 0
abbrev pub without : {X : Type 0} → ℕ → List X → List X
without k [] = []
without zero (x ∷ xs) = xs
without (suc k) (x ∷ xs) = x ∷ without k xs

-- what is gathered at the numbers from one on, up to another
abbrev pub gathered : {X : Type 0} → (ℕ → List X) → (from to : ℕ) → List X
gathered f from zero = []
gathered f from (suc to) = cond (nat_le from to) (gathered f from to ++ f to) []

-- the places of those kept, and those behind them up to a place
abbrev pub spelled : (to : ℕ) → Left → List ℕ
spelled to left = left.kept ++ gathered (λ place. place ∷ []) left.from to

-- what is left without the one at a place of those kept
abbrev pub without_kept : ℕ → Left → Left
without_kept at left = record { kept = without at left.kept; from = left.from }

-- what is left without the one at a place that isn't one of those kept
abbrev pub without_later : ℕ → Left → Left
without_later place left = record { kept = spelled place left; from = place + 1 }

-- an operation and what is left without it, if there is one
abbrev pub out_of : Option Stamped → Left → List Out
out_of None left = []
out_of (Some o) left = record { operation = o; left = left } ∷ []

-- the operation kept at a place, if there is one
abbrev pub out_kept : List Stamped → Left → (at : ℕ) → Option ℕ → List Out
out_kept ops left at None = []
out_kept ops left at (Some place) = out_of (slice_get ops place) (without_kept at left)

-- the operation kept at a place of those kept, with what is left without it
abbrev pub kept_at : List Stamped → Left → ℕ → List Out
kept_at ops left at = out_kept ops left at (slice_get left.kept at)

-- the operation at a place behind those kept, with what is left without it
abbrev pub later_at : List Stamped → Left → ℕ → List Out
later_at ops left place = out_of (slice_get ops place) (without_later place left)

-- the operations kept
abbrev pub all_kept : List Stamped → Left → List Out
all_kept ops left = gathered (kept_at ops left) 0 (length left.kept)

-- the operations behind those kept, up to a place
abbrev pub later_to : List Stamped → Left → ℕ → List Out
later_to ops left to = gathered (later_at ops left) left.from to

-- first numbers never fall along a list
abbrev pub IsRising : List Stamped → Type 0
IsRising ops = IsNonDecreasingBy (λ o. o.first) ops

-- A limit of some operations: none of them had ended before a number exactly if the number is at most the limit. That it is
-- enough is asked of calls alone.
pub record IsLimit (ops : List Stamped) (limit : Option ℕ) : Type 0 where
  pub needed : (time : ℕ) → AllByRecursion (IsOpenAt time) ops → is_open_at time limit ≡ true
  pub enough : AllByRecursion IsCall ops → (time : ℕ) → is_open_at time limit ≡ true → AllByRecursion (IsOpenAt time) ops

-- one of several is an operation with just these left without it
abbrev pub HasOut : List Stamped → List Out → Stamped → List Stamped → Type 0
HasOut ops [] o rest = ⊥
HasOut ops (out ∷ outs) o rest = ((out.operation ≡ o) × IsPermutation rest (left_of ops out.left)) ⊎ HasOut ops outs o rest

-- each of several is an operation that is left, with what is left without it
abbrev pub AreOut : List Stamped → Left → List Out → Type 0
AreOut ops left outs = AllByRecursion (λ out. IsPermutation (left_of ops left) (out.operation ∷ left_of ops out.left)) outs

-- each operation that is left and began by a limit is there, with what is left without it
abbrev pub ArePicks : List Stamped → Left → Option ℕ → List Out → Type 0
ArePicks ops left limit outs =
    (o : Stamped) (rest : List Stamped) → IsPermutation (left_of ops left) (o ∷ rest) → is_open_at o.first limit ≡ true → HasOut ops outs o rest
