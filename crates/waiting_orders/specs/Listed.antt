-- The order that a walk gives: each push as late as it may be, but before its value is taken.
use Rattle.std.specs.Prelude.{◌≡◌, ℕ, zero, suc, ◌+◌, ◌≤◌, Bool, true, false, cond, List, [], ◌∷◌, ◌++◌, Option, None, Some, is_some, length, slice_get}
use Rattle.std.specs.List.{AllByRecursion, list_all}
use Rattle.history.specs.declared.operations.Op.{Op}
use Rattle.history.specs.declared.operations.Op.TheVariants.{Enq, Deq, Shut}
use Rattle.history.specs.declared.operations.Reply.{Reply}
use Rattle.history.specs.declared.operations.Reply.TheVariants.{Done, Value, Empty, Refused}
use Rattle.history.specs.declared.operations.Stamped.{Stamped}
use Rattle.history.specs.History.{leaves, IsSequentialRun}
use Rattle.history.specs.Queue.{empty}
use Rattle.history.specs.Linearizability.{IsLinearizable, operations_of}
use Rattle.waiting_orders.specs.declared.walks.Went.{Went}
use Rattle.waiting_orders.specs.Waiting.{is_open_at}

-- whether a reply is a refusal for something else than a shut
abbrev pub is_aside : Option Reply → Bool
is_aside None = false
is_aside (Some Done) = false
is_aside (Some (Value v)) = false
is_aside (Some Empty) = false
is_aside (Some (Refused refusal)) = leaves refusal

-- whether an operation takes a value, or may have taken one
abbrev pub takes_value : Op → Option Reply → Bool
takes_value (Enq body) reply = false
takes_value Deq None = true
takes_value Deq (Some Done) = false
takes_value Deq (Some (Value v)) = true
takes_value Deq (Some Empty) = false
takes_value Deq (Some (Refused refusal)) = false
takes_value Shut reply = false

-- whether an operation shuts the queue
abbrev pub shuts : Op → Option Reply → Bool
shuts (Enq body) reply = false
shuts Deq reply = false
shuts Shut None = true
shuts Shut (Some Done) = true
shuts Shut (Some (Value v)) = false
shuts Shut (Some Empty) = false
shuts Shut (Some (Refused refusal)) = false

-- whether none of some operations had ended before a number
abbrev pub all_open : ℕ → List Stamped → Bool
all_open time ps = list_all (λ p. is_open_at time p.last) ps

-- The first of some pushes, which have to be before a number: of each and those behind it one ended before the number.
abbrev pub due_front : ℕ → List Stamped → List Stamped
due_front time [] = []
due_front time (p ∷ ps) = cond (all_open time (p ∷ ps)) [] (p ∷ due_front time ps)

-- the others
abbrev pub due_later : ℕ → List Stamped → List Stamped
due_later time [] = []
due_later time (p ∷ ps) = cond (all_open time (p ∷ ps)) (p ∷ ps) (due_later time ps)

-- A pop that takes a value is put in behind the pushes that have to be before it, with so many values in the queue, and behind
-- its push. What comes behind it hangs on how many values are in the queue then, and on which pushes are to come.
abbrev pub put_take : Stamped → (time : ℕ) → (held : ℕ) → (coming : List Stamped) → (ℕ → List Stamped → List Stamped) → List Stamped
put_take o time zero [] more = o ∷ more zero []
put_take o time zero (p ∷ ps) more = p ∷ due_front time ps ++ o ∷ more (length (due_front time ps)) (due_later time ps)
put_take o time (suc held) coming more = due_front time coming ++ o ∷ more (held + length (due_front time coming)) (due_later time coming)

-- What goes is put in: what is set aside isn't, a shut comes behind all pushes.
abbrev pub put_by : (aside : Bool) → (taken : Option Stamped) → (shuts : Bool) → Stamped → (time held : ℕ) → (coming : List Stamped) → (ℕ → List Stamped → List Stamped) → List Stamped
put_by true taken shuts o time held coming more = more held coming
put_by false (Some p) shuts o time held coming more = put_take o time held coming more
put_by false None true o time held coming more = coming ++ o ∷ more (held + length coming) []
put_by false None false o time held coming more = o ∷ more held coming

-- the order of what goes, but for what is set aside, and of the pushes that are to come, with so many values in the queue
abbrev pub order_of : List Went → (held : ℕ) → (coming : List Stamped) → List Stamped
order_of [] held coming = coming
order_of (w ∷ ws) held coming = put_by (is_aside w.other.reply) w.push (shuts w.other.op w.other.reply) w.other w.time held coming (λ held coming. order_of ws held coming)

-- an operation before others, where there is one
abbrev pub with_one : Option Stamped → List Stamped → List Stamped
with_one None os = os
with_one (Some o) os = o ∷ os

-- the first of some operations, and the others
abbrev pub front_of : List Stamped → List Stamped
front_of [] = []
front_of (o ∷ os) = o ∷ []

abbrev pub back_of : List Stamped → List Stamped
back_of [] = []
back_of (o ∷ os) = os

-- an operation, if it ended
abbrev pub ended : Option Stamped → List Stamped
ended None = []
ended (Some o) = cond (is_some o.last) (o ∷ []) []

-- the operation at a place, if there is one that ended
abbrev pub ended_at : (ops : List Stamped) → Option ℕ → List Stamped
ended_at ops None = []
ended_at ops (Some place) = ended (slice_get ops place)

-- the pushes whose values are taken, one after another
abbrev pub taken_of : List Went → List Stamped
taken_of [] = []
taken_of (w ∷ ws) = with_one w.push (taken_of ws)

-- what is set aside
abbrev pub asides_of : List Went → List Stamped
asides_of [] = []
asides_of (w ∷ ws) = cond (is_aside w.other.reply) (w.other ∷ asides_of ws) (asides_of ws)

-- ---- what was set aside is put in

-- operations are put into an order, each as late as it may be
abbrev pub merged : (asides order : List Stamped) → List Stamped
merged asides [] = asides
merged asides (o ∷ os) = due_front o.first asides ++ o ∷ merged (due_later o.first asides) os

-- a number of each operation never falls along a list
abbrev pub Rises : (Stamped → ℕ) → List Stamped → Type 0
Rises number [] = Unit {0}
Rises number (o ∷ os) = AllByRecursion (λ p. number o ≤ number p) os × Rises number os

-- by this order of its operations, with the replies that they were told, a history is linearizable
pub record IsOrderOf (ops order : List Stamped) : Type 0 where
  pub linearizable : IsLinearizable ops
  pub is : operations_of linearizable.order ≡ order
  pub runs : IsSequentialRun empty order
