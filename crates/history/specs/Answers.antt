-- What a call of a queue tells its seat.
use Rattle.std.specs.Prelude.{◌≡◌, ℕ, true, List, [], ◌∷◌, ◌++◌, length, Option, Some, None}
use Rattle.history.specs.declared.operations.Entry.{Entry}
use Rattle.history.specs.declared.operations.Entry.TheVariants.{Push, Pop, Shut}
use Rattle.history.specs.declared.operations.Taken.{Taken}
use Rattle.history.specs.declared.refusals.Refusal.{Refusal}
use Rattle.history.specs.declared.refusals.Refusal.TheVariants.{NoNode, WornOut, Busy, Closed}
use Rattle.history.specs.declared.refusals.WornWord.TheVariants.{Tail as OfTail}
use Rattle.history.specs.Entries.{LeadsTo, LeadsToShut, Leads}
use Rattle.history.specs.Seats.{Known}

-- a call had its effect: what the seat has seen goes on from what it had seen and ends with the entry, which is one more of
-- its own
pub record Adds (k : Known) (e : Entry) (k' : Known) : Type 0 where
  pub number : k'.number ≡ k.number
  pub between : List Entry
  pub seen : k'.seen ≡ (k.seen ++ between) ++ e ∷ []
  pub mine : k'.mine ≡ k.mine ++ e ∷ []
  pub notes : k'.notes ≡ k.notes

-- a body was pushed
abbrev pub Pushed : Known → (body : ℕ) → Known → Type 0
Pushed k body k' = Adds k (Push k.number body) k'

-- a value was popped
abbrev pub Popped : Known → Taken → Known → Type 0
Popped k value k' = Adds k (Pop k.number value) k'

-- the queue was shut
abbrev pub DidShut : Known → Known → Type 0
DidShut k k' = Adds k (Shut k.number) k'

-- the queue was found empty: what the seat has seen goes on from what it had seen and leaves the empty queue, which is noted
pub record FoundEmpty (k k' : Known) : Type 0 where
  pub number : k'.number ≡ k.number
  pub between : List Entry
  pub seen : k'.seen ≡ k.seen ++ between
  pub empty : LeadsTo k'.seen []
  pub mine : k'.mine ≡ k.mine
  pub notes : k'.notes ≡ k.notes ++ length k'.seen ∷ []

-- the queue was found shut: what the seat has seen goes on from what it had seen and leaves the queue shut, which is noted
pub record FoundShut (k k' : Known) : Type 0 where
  pub number : k'.number ≡ k.number
  pub between : List Entry
  pub seen : k'.seen ≡ k.seen ++ between
  pub shut : LeadsToShut k'.seen
  pub mine : k'.mine ≡ k.mine
  pub notes : k'.notes ≡ k.notes ++ length k'.seen ∷ []

-- the queue was found shut and empty: what the seat has seen goes on from what it had seen and leaves it so, which is noted
pub record FoundShutEmpty (k k' : Known) : Type 0 where
  pub number : k'.number ≡ k.number
  pub between : List Entry
  pub seen : k'.seen ≡ k.seen ++ between
  pub empty : Leads k'.seen true []
  pub mine : k'.mine ≡ k.mine
  pub notes : k'.notes ≡ k.notes ++ length k'.seen ∷ []

-- nothing was done: what the seat has seen goes on from what it had seen, and all else is as before
pub record SeesMore (k k' : Known) : Type 0 where
  pub number : k'.number ≡ k.number
  pub between : List Entry
  pub seen : k'.seen ≡ k.seen ++ between
  pub mine : k'.mine ≡ k.mine
  pub notes : k'.notes ≡ k.notes

-- what a pop answers: the front value, or that there is none
abbrev pub PopAnswers : Known → Option Taken → Known → Type 0
PopAnswers k None k' = FoundEmpty k k'
PopAnswers k (Some value) k' = Popped k value k'

-- a push may be refused so: there was no node, a word was worn out, others were in the way, or the queue was shut
abbrev pub StopsPush : Refusal → Type 0
StopsPush NoNode = Unit {0}
StopsPush (WornOut word) = Unit {0}
StopsPush Busy = Unit {0}
StopsPush Closed = Unit {0}
StopsPush _ = ⊥

-- a pop may be refused so: a word was worn out, others were in the way, or the queue was shut and empty
abbrev pub StopsPop : Refusal → Type 0
StopsPop (WornOut word) = Unit {0}
StopsPop Busy = Unit {0}
StopsPop Closed = Unit {0}
StopsPop _ = ⊥

-- a shut may be refused so: Tail was worn out, others were in the way, or the queue was shut before
abbrev pub StopsShut : Refusal → Type 0
StopsShut (WornOut OfTail) = Unit {0}
StopsShut Busy = Unit {0}
StopsShut Closed = Unit {0}
StopsShut _ = ⊥

-- a push was refused so, or a shut: the queue was found shut, or nothing was done
abbrev pub PushRefused : Known → Refusal → Known → Type 0
PushRefused k Closed k' = FoundShut k k'
PushRefused k refusal k' = SeesMore k k'

-- a pop was refused so: the queue was found shut and empty, or nothing was done
abbrev pub PopRefused : Known → Refusal → Known → Type 0
PopRefused k Closed k' = FoundShutEmpty k k'
PopRefused k refusal k' = SeesMore k k'

-- a push that waits may be refused so: there was no node, a word was worn out, or the queue was shut
abbrev pub EndsPush : Refusal → Type 0
EndsPush NoNode = Unit {0}
EndsPush (WornOut word) = Unit {0}
EndsPush Closed = Unit {0}
EndsPush _ = ⊥

-- a pop that waits may be refused so: a word was worn out, or the queue was shut and empty
abbrev pub EndsPop : Refusal → Type 0
EndsPop (WornOut word) = Unit {0}
EndsPop Closed = Unit {0}
EndsPop _ = ⊥

-- a shut that waits may be refused so: Tail was worn out, or the queue was shut before
abbrev pub EndsShut : Refusal → Type 0
EndsShut (WornOut OfTail) = Unit {0}
EndsShut Closed = Unit {0}
EndsShut _ = ⊥

-- a call that waits ended by a try of its own, from what the seat then was to what it is now: it had seen no less than before
-- the call, and the try, of so many turns, had this cause to be refused
pub record EndsByTry {Q S : Type 0} (is_seat : Q → S → Type 0) (known : S → Known) (cause : Q → S → S → ℕ → Refusal → Type 0)
    (queue : Q) (before after : S) (turns : ℕ) (refusal : Refusal) : Type 0 where
  pub last : S
  pub seat : is_seat queue last
  pub more : SeesMore (known before) (known last)
  pub caused : cause queue last after turns refusal

-- two seats met: both have seen one history, which begins with what each had seen
pub record Meets (one other one' other' : Known) : Type 0 where
  pub same : other'.seen ≡ one'.seen
  pub first : SeesMore one one'
  pub second : SeesMore other other'
