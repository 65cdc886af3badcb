-- Pushes of a value, and pops that were told it: of those that may go now, the one that ends first.
use Rattle.std.specs.Prelude.{◌≡◌, ◌≤◌, ◌⊎◌, ℕ, max, List, ◌∷◌, Option, None, Some}
use Rattle.std.specs.List.{AllByRecursion}
use Rattle.std.specs.List.Sorted.{IsPermutation}
use Rattle.history.specs.declared.operations.Op.TheVariants.{Deq}
use Rattle.history.specs.declared.operations.Taken.{Taken}
use Rattle.history.specs.declared.operations.Reply.TheVariants.{Value, Empty}
use Rattle.history.specs.declared.operations.Stamped.{Stamped}
use Rattle.waiting_orders.specs.Waiting.{IsCall, State, OtherIsOpen, PushIsOpen, Pushes}

-- a last number is no later than another one; none, of what never ended, is later than any
abbrev pub EndsBy : (last later : Option ℕ) → Type 0
EndsBy None None = Unit {0}
EndsBy None (Some later) = ⊥
EndsBy (Some last) None = Unit {0}
EndsBy (Some last) (Some later) = last ≤ later

-- an operation is a pop that was told a value
pub record Got (v : Taken) (o : Stamped) : Type 0 where
  pub op : o.op ≡ Deq
  pub reply : o.reply ≡ Some (Value v)

-- an operation is a pop that was told a value, or nothing
pub record MayGet (v : Taken) (o : Stamped) : Type 0 where
  pub op : o.op ≡ Deq
  pub reply : (o.reply ≡ Some (Value v)) ⊎ (o.reply ≡ None)

-- whatever of some operations was told that the queue is empty began at a number or later, or no push that waits among them
-- had ended before it
abbrev pub IsCalm : ℕ → List Stamped → Type 0
IsCalm number os = AllByRecursion (λ o. o.reply ≡ Some Empty → number ≤ o.first) os ⊎ AllByRecursion (PushIsOpen number) os

-- Two states differ in which push of a value was taken: the one has left the push that ends sooner, the other one that which
-- ends later, and is at no later number than a given one, or than that of the one. Other operations that are left had not
-- ended before that number, nor before either push began.
pub record HasSoonerPush (number : ℕ) (s t : State) : Type 0 where
  pub value : Taken
  pub sooner : Stamped
  pub later : Stamped
  pub rest : List Stamped
  pub here : IsPermutation s.left (sooner ∷ rest)
  pub there : IsPermutation t.left (later ∷ rest)
  pub sooner_pushes : Pushes value sooner
  pub later_pushes : Pushes value later
  pub ends : EndsBy sooner.last later.last
  pub sooner_call : IsCall sooner
  pub calls : AllByRecursion IsCall (later ∷ rest)
  pub first : AllByRecursion (PushIsOpen later.first) rest
  pub later_open : AllByRecursion (OtherIsOpen later.first) rest
  pub sooner_open : AllByRecursion (OtherIsOpen sooner.first) rest
  pub ongoing : AllByRecursion (OtherIsOpen number) rest
  pub calm : IsCalm number (later ∷ rest)
  pub began : later.first ≤ s.time
  pub same : t.shut ≡ s.shut
  pub time : t.time ≤ max s.time number

-- Two states differ in which pop took a value: the one has left the pop that ends sooner, which was told the value, the other
-- one that which ends later, which was told it or nothing, and is at no later number than a given one, or than that of the one.
pub record HasSoonerPop (number : ℕ) (s t : State) : Type 0 where
  pub value : Taken
  pub sooner : Stamped
  pub later : Stamped
  pub rest : List Stamped
  pub here : IsPermutation s.left (sooner ∷ rest)
  pub there : IsPermutation t.left (later ∷ rest)
  pub sooner_got : Got value sooner
  pub later_may_get : MayGet value later
  pub ends : EndsBy sooner.last later.last
  pub calls : AllByRecursion IsCall (later ∷ rest)
  pub ongoing : AllByRecursion (OtherIsOpen number) (later ∷ rest)
  pub calm : IsCalm number (later ∷ rest)
  pub began : later.first ≤ s.time
  pub same : t.shut ≡ s.shut
  pub time : t.time ≤ max s.time number

-- One state has what another one has left, but for a pop that was told a value and a push of it, which are left in the other
-- one alone; of the pops left that were told the value, and of the pushes of it, none ends sooner.
pub record GoesAlone (number : ℕ) (s t : State) : Type 0 where
  pub value : Taken
  pub pop : Stamped
  pub push : Stamped
  pub is : IsPermutation s.left (pop ∷ push ∷ t.left)
  pub got : Got value pop
  pub pushes : Pushes value push
  pub pops_end : AllByRecursion (λ o. o.reply ≡ Some (Value value) → EndsBy pop.last o.last) t.left
  pub pushes_end : AllByRecursion (λ o. Pushes value o → EndsBy push.last o.last) t.left
  pub call : IsCall push
  pub calls : AllByRecursion IsCall t.left
  pub push_open : AllByRecursion (OtherIsOpen push.first) (pop ∷ t.left)
  pub ongoing : AllByRecursion (OtherIsOpen number) t.left
  pub calm : IsCalm number t.left
  pub same : t.shut ≡ s.shut
  pub time : t.time ≤ max s.time number
