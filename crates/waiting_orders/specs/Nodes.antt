-- States of the search: what is left of the pushes that wait, and of all other operations, each by first numbers.
use Rattle.std.specs.Prelude.{◌≡◌, ℕ, zero, suc, max, nat_le, nat_lt, nat_eq, Bool, true, false, not, ◌&&◌, ◌||◌, ◌⊎◌, List, [], ◌∷◌, ◌++◌, Option, None, Some, is_some, length, slice_get, map, take}
use Rattle.std.specs.List.{AllByRecursion, filter, list_all}
use Rattle.std.specs.List.Sorted.{IsPermutation}
use Rattle.std.specs.Ordering.{on, eq_of_both}
use Rattle.std.specs.Cmp.Lexicographic.{pointwise}
use Rattle.std.specs.Bool.{beq}
use Rattle.history.specs.declared.refusals.Refusal.{Refusal}
use Rattle.history.specs.declared.operations.Op.{Op}
use Rattle.history.specs.declared.operations.Op.TheVariants.{Enq, Deq, Shut}
use Rattle.history.specs.declared.operations.Taken.{Taken}
use Rattle.history.specs.declared.operations.Reply.{Reply}
use Rattle.history.specs.declared.operations.Reply.TheVariants.{Done, Value, Empty, Refused}
use Rattle.history.specs.declared.operations.Stamped.{Stamped}
use Rattle.history.specs.History.{leaves, is_closed}
use Rattle.waiting_orders.specs.declared.lines.Pick.{Pick}
use Rattle.waiting_orders.specs.declared.nodes.Node.{Node}
use Rattle.waiting_orders.specs.declared.steps.Front.{Front}
use Rattle.waiting_orders.specs.declared.boards.Board.{Board}
use Rattle.waiting_orders.specs.Waiting.{IsCall, State, Same, IsEnd, CanEnd, waits, is_open_at, fits}
use Rattle.waiting_orders.specs.Pending.{is_pending_pop}
use Rattle.waiting_orders.specs.Lines.{Left, view_left, left_of, spelled, ends_by, IsRising}

-- what is left, whether the queue is shut, and the number of the last operation placed
pub record Spot : Type 0 where
  pub others : Left
  pub pushes : Left
  pub shut : Bool
  pub time : ℕ

-- the state that a node is
abbrev pub view : Node → Spot
view n = record { others = view_left n.others; pushes = view_left n.pushes; shut = n.is_shut; time = n.time }

-- the states that nodes are
abbrev pub views : List Node → List Spot
views ns = map view ns

-- whether two nodes are the same state, whatever led to them
abbrev pub is_same : Node → Node → Bool
is_same = eq_of_both (on (λ n. n.is_shut) beq) (eq_of_both (on (λ n. n.time) nat_eq) (eq_of_both (on (λ n. n.others.from) nat_eq) (eq_of_both (on (λ n. n.pushes.from) nat_eq)
    (eq_of_both (on (λ n. n.others.kept.items) (pointwise nat_eq)) (on (λ n. n.pushes.kept.items) (pointwise nat_eq))))))

-- nothing is placed
abbrev pub start : Spot
start = record { others = record { kept = []; from = 0 }; pushes = record { kept = []; from = 0 }; shut = false; time = 0 }

-- the state that this is of a history with these operations
abbrev pub state_of : Board → Spot → State
state_of board s = record { left = left_of board.others.items s.others ++ left_of board.pushes.items s.pushes; shut = s.shut; time = s.time }

-- both lists of operations are by first numbers
pub record AreRising (board : Board) : Type 0 where
  pub others : IsRising board.others.items
  pub pushes : IsRising board.pushes.items

-- the operations of a history: those that wait as pushes, and the others, each by first numbers
pub record IsBoard (ops : List Stamped) (board : Board) : Type 0 where
  pub rising : AreRising board
  pub all : IsPermutation ops (board.others.items ++ board.pushes.items)
  pub others : AllByRecursion (λ o. waits o ≡ false) board.others.items
  pub pushes : AllByRecursion (λ o. waits o ≡ true) board.pushes.items

-- ---- steps

-- whether all numbers of a list pass a test
abbrev pub each : (ℕ → Bool) → List ℕ → Bool
each test ns = list_all test ns

-- one state
abbrev pub one : (others pushes : Left) → (shut : Bool) → (time : ℕ) → List Spot
one others pushes shut time = record { others = others; pushes = pushes; shut = shut; time = time } ∷ []

-- a state, where something holds
abbrev pub where_so : Bool → (others pushes : Left) → (shut : Bool) → (time : ℕ) → List Spot
where_so true others pushes shut time = one others pushes shut time
where_so false others pushes shut time = []

-- the least number at which an operation has its effect
abbrev pub time_of : Spot → Pick → ℕ
time_of s way = max s.time way.operation.first

-- the state behind an operation that changes nothing, where something holds
abbrev pub stay : Bool → Spot → Front → Pick → List Spot
stay holds s f way = where_so (holds && is_open_at (time_of s way) f.limit) (view_left way.rest) s.pushes s.shut (time_of s way)

-- the state behind a pop told that the queue is shut and empty, where something holds: pushes that wait are left out
abbrev pub drained : Bool → (pushes : List Stamped) → Spot → Front → Pick → List Spot
drained holds pushes s f way =
    where_so (holds && s.shut && is_open_at (time_of s way) f.limit && not (is_some f.push_limit)) (view_left way.rest)
    (record { kept = []; from = length pushes }) s.shut (time_of s way)

-- whether the push at a place began by a number
abbrev pub began : Option ℕ → Option Stamped → Bool
began limit None = false
began limit (Some p) = is_open_at p.first limit

-- whether there is a push at a place that began by a number
abbrev pub began_by : (pushes : List Stamped) → Option ℕ → ℕ → Bool
began_by pushes limit place = began limit (slice_get pushes place)

-- whether the push at a place began by a number, or never ended
abbrev pub goes : Option ℕ → Option Stamped → Bool
goes limit None = true
goes limit (Some p) = is_open_at p.first limit || not (is_some p.last)

-- whether the push at a place, if there is one, began by a number or never ended
abbrev pub may_go : (pushes : List Stamped) → Option ℕ → ℕ → Bool
may_go pushes limit place = goes limit (slice_get pushes place)

-- the state behind a shut: pushes that began too late are left out
abbrev pub shut_of : (pushes : List Stamped) → Spot → Front → Pick → List Spot
shut_of pushes s f way =
    where_so (not s.shut && is_open_at (time_of s way) f.limit && each (may_go pushes f.limit) (spelled (length pushes) s.pushes)) (view_left way.rest)
    (record { kept = filter (began_by pushes f.limit) (spelled (length pushes) s.pushes); from = length pushes }) true (time_of s way)

-- whether one number is there and no later than another one that is there
abbrev pub is_by : Option ℕ → Option ℕ → Bool
is_by None limit = false
is_by (Some last) None = false
is_by (Some last) (Some limit) = nat_le last limit

-- whether an operation ends before another one, or with it and began before it
abbrev pub is_before : (q p : Stamped) → Bool
is_before q p = not (ends_by p.last q.last) || (ends_by q.last p.last && nat_lt q.first p.first)

-- whether a push is of a value, and may be taken
abbrev pub may_be_taken : Front → Taken → Stamped → Bool
may_be_taken f v q = fits v q && is_open_at q.first f.push_limit && is_open_at q.first f.limit

-- whether no push of a value that may be taken is before one
abbrev pub none_before : Front → Taken → Stamped → Bool
none_before f v p = list_all (λ take. not (may_be_taken f v take.operation && is_before take.operation p)) f.takes.items

-- whether a push is of a value that was told, and none of it is before it; or ended first where none was told
abbrev pub suits : Front → Option Taken → Stamped → Bool
suits f None p = is_by p.last f.push_limit
suits f (Some v) p = fits v p && none_before f v p

-- the value that a pop was told, if it was told one
abbrev pub told : Op → Option Reply → Option Taken
told (Enq body) reply = None
told Deq None = None
told Deq (Some Done) = None
told Deq (Some (Value v)) = Some v
told Deq (Some Empty) = None
told Deq (Some (Refused refusal)) = None
told Shut reply = None

-- whether a reply is a value
abbrev pub is_told : Taken → Option Reply → Bool
is_told v None = false
is_told v (Some Done) = false
is_told v (Some (Value w)) = nat_eq w.from v.from && nat_eq w.body v.body
is_told v (Some Empty) = false
is_told v (Some (Refused refusal)) = false

-- whether an operation is a pop that was told a value
abbrev pub gets : Taken → Op → Option Reply → Bool
gets v (Enq body) reply = false
gets v Deq reply = is_told v reply
gets v Shut reply = false

-- whether a number is no later than that of the state, or no pop told that the queue is empty began before it
abbrev pub is_calm : Spot → Front → (time : ℕ) → Bool
is_calm s f time = nat_le time s.time || is_open_at time f.empty

-- whether a pop was told a value, and may take it as soon as it began, before no pop that found the queue empty
abbrev pub may_get : Spot → Front → Taken → Stamped → Bool
may_get s f v o = gets v o.op o.reply && is_open_at o.first f.limit && is_calm s f o.first

-- whether no pop that was told a value and may take it is before one
abbrev pub none_in_front : Spot → Front → (ways : List Pick) → Taken → Stamped → Bool
none_in_front s f ways v o = list_all (λ way. not (may_get s f v way.operation && is_before way.operation o)) ways

-- the same of a pop that was told a value, if it was told one
abbrev pub goes_by : Option Taken → Spot → Front → (ways : List Pick) → Stamped → Bool
goes_by None s f ways o = true
goes_by (Some v) s f ways o = none_in_front s f ways v o

-- whether an operation was told no value, or no pop that was told it and may take it is before it
abbrev pub is_in_turn : Spot → Front → (ways : List Pick) → Stamped → Bool
is_in_turn s f ways o = goes_by (told o.op o.reply) s f ways o

-- the state behind a take of a push that waits
abbrev pub take_of : (Stamped → Bool) → Spot → Front → Pick → Pick → List Spot
take_of suits s f way take =
    where_so (suits take.operation && is_open_at take.operation.first f.push_limit && is_open_at (max (time_of s way) take.operation.first) f.limit) (view_left way.rest) (view_left take.rest) s.shut
    (max (time_of s way) take.operation.first)

-- the state behind a take of the push at a place, if there is one
abbrev pub take_at : (Stamped → Bool) → Spot → Front → Pick → Option Pick → List Spot
take_at suits s f way None = []
take_at suits s f way (Some take) = take_of suits s f way take

-- the states behind takes of the first pushes of those that may be taken
abbrev pub takes_to : ℕ → (Stamped → Bool) → Spot → Front → Pick → List Spot
takes_to zero suits s f way = []
takes_to (suc k) suits s f way = takes_to k suits s f way ++ take_at suits s f way (slice_get f.takes.items k)

-- the states behind a refused operation
abbrev pub refused_of : Refusal → Op → (pushes : List Stamped) → Spot → Front → Pick → List Spot
refused_of refusal (Enq body) pushes s f way = stay (leaves refusal || (is_closed refusal && s.shut)) s f way
refused_of refusal Shut pushes s f way = stay (leaves refusal || (is_closed refusal && s.shut)) s f way
refused_of refusal Deq pushes s f way = stay (leaves refusal) s f way ++ drained (is_closed refusal) pushes s f way

-- the states behind an operation that is no pending pop, by its call and its reply
abbrev pub steps_of : Op → Option Reply → (pushes : List Stamped) → Spot → Front → Pick → List Spot
steps_of (Enq body) None pushes s f way = []
steps_of Deq None pushes s f way = []
steps_of Shut None pushes s f way = shut_of pushes s f way
steps_of (Enq body) (Some Done) pushes s f way = []
steps_of Deq (Some Done) pushes s f way = []
steps_of Shut (Some Done) pushes s f way = shut_of pushes s f way
steps_of (Enq body) (Some (Value v)) pushes s f way = []
steps_of Deq (Some (Value v)) pushes s f way = takes_to (length f.takes.items) (suits f (Some v)) s f way
steps_of Shut (Some (Value v)) pushes s f way = []
steps_of (Enq body) (Some Empty) pushes s f way = []
steps_of Deq (Some Empty) pushes s f way = stay (not s.shut && is_open_at (time_of s way) f.push_limit) s f way
steps_of Shut (Some Empty) pushes s f way = []
steps_of op (Some (Refused refusal)) pushes s f way = refused_of refusal op pushes s f way

-- the states behind an operation, where something holds
abbrev pub steps_where : Bool → (pushes : List Stamped) → Spot → Front → Pick → List Spot
steps_where true pushes s f way = steps_of way.operation.op way.operation.reply pushes s f way
steps_where false pushes s f way = []

-- the states behind the operation at a place, if there is one and it is in turn
abbrev pub steps_at : (pushes : List Stamped) → Spot → Front → (ways : List Pick) → Option Pick → List Spot
steps_at pushes s f ways None = []
steps_at pushes s f ways (Some way) = steps_where (is_in_turn s f ways way.operation) pushes s f way

-- the states behind the first of the operations that may be placed
abbrev pub steps_to : ℕ → (pushes : List Stamped) → Spot → Front → (ways : List Pick) → List Spot
steps_to zero pushes s f ways = []
steps_to (suc k) pushes s f ways = steps_to k pushes s f ways ++ steps_at pushes s f ways (slice_get ways k)

-- ---- pending pops wait

-- whether an operation that may be placed is a pending pop
abbrev pub is_pending : Pick → Bool
is_pending way = is_pending_pop way.operation.op way.operation.reply

-- whether none of several is one
abbrev pub none_pending : List Pick → Bool
none_pending ways = list_all (λ way. not (is_pending way)) ways

-- whether a push is of a value, and began after the first end of those that wait
abbrev pub is_behind : Option ℕ → Taken → Pick → Bool
is_behind push_limit v push = fits v push.operation && not (is_open_at push.operation.first push_limit)

-- whether none of several is one
abbrev pub none_behind : Option ℕ → Taken → (behind : List Pick) → Bool
none_behind push_limit v behind = list_all (λ push. not (is_behind push_limit v push)) behind

-- whether an operation needs no pending pop to go: none of these pushes is of the value that it was told and behind the one
-- that ended first, and it wasn't told that the queue is empty
abbrev pub is_free : Bool → Option ℕ → (behind : List Pick) → Op → Option Reply → Bool
is_free shut push_limit behind (Enq body) reply = true
is_free shut push_limit behind Shut reply = true
is_free shut push_limit behind Deq None = true
is_free shut push_limit behind Deq (Some Done) = true
is_free shut push_limit behind Deq (Some (Value v)) = none_behind push_limit v behind
is_free shut push_limit behind Deq (Some Empty) = shut
is_free shut push_limit behind Deq (Some (Refused refusal)) = not (is_closed refusal && shut)

-- whether none of several needs it
abbrev pub all_free : Bool → Option ℕ → (behind ways : List Pick) → Bool
all_free shut push_limit behind ways = list_all (λ way. is_free shut push_limit behind way.operation.op way.operation.reply) ways

-- whether no pending pop of several began before a number
abbrev pub goes_first : ℕ → List Pick → Bool
goes_first first ways = list_all (λ way. not (is_pending way) || nat_le first way.operation.first) ways

-- the states behind a take of the push that ended first, where something holds
abbrev pub takes_where : Bool → Spot → Front → Pick → List Spot
takes_where true s f way = takes_to (length f.takes.items) (suits f None) s f way
takes_where false s f way = []

-- the states behind the operation at a place, where that is a pending pop and none began before it
abbrev pub pending_at : Spot → Front → (ways : List Pick) → Option Pick → List Spot
pending_at s f ways None = []
pending_at s f ways (Some way) = takes_where (is_pending way && goes_first way.operation.first ways) s f way

-- the states behind the first of several
abbrev pub pending_to : ℕ → Spot → Front → (ways : List Pick) → List Spot
pending_to zero s f ways = []
pending_to (suc k) s f ways = pending_to k s f ways ++ pending_at s f ways (slice_get ways k)

-- all these states, where something holds
abbrev pub pending_where : Bool → Spot → Front → (ways : List Pick) → List Spot
pending_where true s f ways = pending_to (length ways) s f ways
pending_where false s f ways = []

-- the states behind pending pops, where a push that ended is in the way of another pop
abbrev pub pending_of : Spot → Front → (behind ways : List Pick) → List Spot
pending_of s f behind ways = pending_where (is_some f.push_limit && not (all_free s.shut f.push_limit behind ways)) s f ways

-- ---- what changes nothing goes first

-- whether an operation that changes nothing may go first: it was refused for something else than a shut, or told that the
-- queue is empty, and no operation that is left ended before its number
abbrev pub is_first : Option Reply → Op → Spot → Front → Pick → Bool
is_first None op s f way = false
is_first (Some Done) op s f way = false
is_first (Some (Value v)) op s f way = false
is_first (Some Empty) (Enq body) s f way = false
is_first (Some Empty) Deq s f way = not s.shut && is_open_at (time_of s way) f.limit && is_open_at (time_of s way) f.push_limit
is_first (Some Empty) Shut s f way = false
is_first (Some (Refused refusal)) op s f way = leaves refusal

-- whether the operation at a place, if there is one, may go first
abbrev pub is_first_at : Spot → Front → Option Pick → Bool
is_first_at s f None = false
is_first_at s f (Some way) = is_first way.operation.reply way.operation.op s f way

-- the number of the state behind it: what was refused may have its effect at any, and leaves it as it is
abbrev pub quiet_time : Option Reply → Spot → Pick → ℕ
quiet_time None s way = s.time
quiet_time (Some Done) s way = s.time
quiet_time (Some (Value v)) s way = s.time
quiet_time (Some Empty) s way = time_of s way
quiet_time (Some (Refused refusal)) s way = s.time

-- the state behind the operation at a place, if there is one
abbrev pub quiet_at : Spot → Option Pick → List Spot
quiet_at s None = []
quiet_at s (Some way) = one (view_left way.rest) s.pushes s.shut (quiet_time way.operation.reply s way)

-- ---- what was tried

-- one of these has the same left as a state
abbrev pub Among : Board → List Spot → State → Type 0
Among board [] t = ⊥
Among board (u ∷ us) t = Same t (state_of board u) ⊎ Among board us t

-- operations of calls, of which those that wait as pushes stand apart
pub record AreCalls (board : Board) : Type 0 where
  pub others : AllByRecursion (λ o. waits o ≡ false) board.others.items
  pub pushes : AllByRecursion (λ o. waits o ≡ true) board.pushes.items
  pub other_calls : AllByRecursion IsCall board.others.items
  pub push_calls : AllByRecursion IsCall board.pushes.items

-- one of these can be placed to the end within so many steps
abbrev pub OneEnds : Board → ℕ → List Spot → Type 0
OneEnds board n us = (t : State) × Among board us t × CanEnd n t

-- where a state can be placed to the end, nothing is left, or one of these can be in a step less
abbrev pub HasSteps : Board → Spot → List Spot → Type 0
HasSteps board s new = AreCalls board → (n : ℕ) → CanEnd (suc n) (state_of board s) → IsEnd (state_of board s) ⊎ OneEnds board n new

-- the same of a history with these operations
abbrev pub HasStepsOver : (others pushes : List Stamped) → Spot → List Spot → Type 0
HasStepsOver others pushes s new = (board : Board) → others ≡ board.others.items → pushes ≡ board.pushes.items → HasSteps board s new

-- a state is one of several
abbrev pub IsIn : Spot → List Spot → Type 0
IsIn s [] = ⊥
IsIn s (u ∷ us) = (s ≡ u) ⊎ IsIn s us

-- a list from its end to its beginning
abbrev pub turned : List Spot → List Spot
turned [] = []
turned (u ∷ us) = turned us ++ u ∷ []

-- a state is no end, and where it can be placed to the end, one of these can be in a step less
pub record WasTried (board : Board) (all : List Spot) (s : Spot) : Type 0 where
  pub no_end : AreCalls board → IsEnd (state_of board s) → ⊥
  pub steps : HasSteps board s all

-- the start is among the states, and each that isn't one of those to be tried yet was tried
pub record Searched (board : Board) (done ahead : List Spot) : Type 0 where
  pub start : Among board (done ++ ahead) (state_of board start)
  pub tried : AllByRecursion (WasTried board (done ++ ahead)) done
