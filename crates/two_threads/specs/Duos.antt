-- One seat that pushes the numbers from 1 on, and one that pops.
use Rattle.std.specs.Prelude.{◌≡◌, ◌≤◌, ◌^◌, ℕ, zero, suc, true, false, List, [], ◌∷◌, ◌++◌, map}
use Rattle.std.specs.List.{All}
use Rattle.history.specs.declared.operations.Entry.{Entry}
use Rattle.history.specs.declared.operations.Entry.TheVariants.{Push, Pop, Shut}
use Rattle.history.specs.declared.operations.Taken.{Taken}
use Rattle.history.specs.declared.refusals.Refusal.{Refusal}
use Rattle.history.specs.declared.refusals.Refusal.TheVariants.{Memory, WornOut, BadSize}
use Rattle.history.specs.Entries.{Leads}
use Rattle.history.specs.Limits.{body_bits}
use Rattle.history.specs.Openings.{AreNew}
use Rattle.history.specs.Seats.{Permit, Known, MayPush, MayPop}
use Rattle.history.specs.Values.{OnlyPushes, OnlyPops}

-- the pushes of 1 and so on by a seat
abbrev pub pushes_to : (seat : ℕ) → ℕ → List Entry
pushes_to seat zero = []
pushes_to seat (suc n) = pushes_to seat n ++ Push seat (suc n) ∷ []

-- the values 1 and so on of a seat
abbrev pub values_to : (seat : ℕ) → ℕ → List Taken
values_to seat zero = []
values_to seat (suc n) = values_to seat n ++ record { from = seat; body = suc n } ∷ []

-- the pops of these values by a seat
abbrev pub pops_of : (seat : ℕ) → List Taken → List Entry
pops_of seat [] = []
pops_of seat (v ∷ vs) = Pop seat v ∷ pops_of seat vs

-- one seat may push, the next one may pop
abbrev pub giver_and_taker : List Permit
giver_and_taker = record { pushes = true; pops = false } ∷ record { pushes = false; pops = true } ∷ []

-- a run may be refused so: memory was refused, a word was worn out, or the last number is no body's
abbrev pub EndsRun : (most : ℕ) → Refusal → Type 0
EndsRun most Memory = Unit {0}
EndsRun most (WornOut word) = Unit {0}
EndsRun most BadSize = 2 ^ body_bits ≤ most
EndsRun most _ = ⊥

-- taking the values may be refused so: memory was refused, or a word was worn out
abbrev pub EndsTaking : Refusal → Type 0
EndsTaking Memory = Unit {0}
EndsTaking (WornOut word) = Unit {0}
EndsTaking _ = ⊥

-- a seat pushed the numbers from 1 to this one, and did nothing else
abbrev pub HasPushed : Known → (most : ℕ) → Known → Type 0
HasPushed k most k' = k'.mine ≡ pushes_to k.number most

-- what a seat has seen has a push of another seat, behind what that one had seen before it
pub record HasSeenPush (giver : Known) (body : ℕ) (k : Known) : Type 0 where
  pub before : List Entry
  pub after : List Entry
  pub seen : k.seen ≡ (giver.seen ++ before) ++ Push giver.number body ∷ after

module _ {Q S : Type 0} (is_seat : Q → S → Type 0) (permits : Q → List Permit) (known : S → Known) where
  -- a seat that alone may push, and has done nothing
  pub record IsOnePusher (q : Q) (s : S) : Type 0 where
    pub seat : is_seat q s
    pub may : MayPush (permits q) (known s).number
    pub alone : OnlyPushes (permits q) (known s).number
    pub unused : (known s).mine ≡ []

  -- a seat that may pop and has done nothing
  pub record IsOnePopper (q : Q) (s : S) : Type 0 where
    pub seat : is_seat q s
    pub may : MayPop (permits q) (known s).number
    pub unused : (known s).mine ≡ []

  -- the one seat alone may push, the other alone may pop, and neither has done anything
  pub record IsDuo (q : Q) (giver taker : S) : Type 0 where
    pub gives : IsOnePusher q giver
    pub takes : IsOnePopper q taker
    pub pops : OnlyPops (permits q) (known taker).number

  -- these are the two seats of a new queue: the first may push, the second may pop
  pub record AreDuo (q : Q) (seats : List S) : Type 0 where
    pub permitted : permits q ≡ giver_and_taker
    pub each : All (is_seat q) seats
    pub new : AreNew (permits q) (map known seats)

module _ {Q S : Type 0} (is_seat : Q → S → Type 0) (known : S → Known) where
  -- the seat pushed the numbers from 1 to this one and then shut the queue, and did nothing else
  pub record HasGiven (q : Q) (s : S) (most : ℕ) (t : S) : Type 0 where
    pub seat : is_seat q t
    pub number : (known t).number ≡ (known s).number
    pub mine : (known t).mine ≡ pushes_to (known s).number most ++ Shut (known s).number ∷ []

  -- the seat popped these values, and did nothing else
  pub record HasPopped (q : Q) (s : S) (t : S) (values : List Taken) : Type 0 where
    pub seat : is_seat q t
    pub number : (known t).number ≡ (known s).number
    pub mine : (known t).mine ≡ pops_of (known s).number values

  -- the seat popped these values, did nothing else, and found the queue shut and empty
  pub record HasTaken (q : Q) (s : S) (t : S) (values : List Taken) : Type 0 where
    pub popped : HasPopped q s t values
    pub done : Leads (known t).seen true []
