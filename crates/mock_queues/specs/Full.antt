-- A queue with no room.
use Rattle.std.specs.Prelude.{◌≡◌, false, true, List, [], ◌∷◌, replicate, refl}
use Rattle.std.proofs.Common.{le_refl, inl}
use Rattle.std.proofs.lemmas.List.Elements.{All-nil, All-replicate}
use Rattle.history.specs.declared.refusals.Refusal.{Refusal}
use Rattle.history.specs.declared.refusals.Refusal.TheVariants.{NoNode, WornOut, Busy, Closed}
use Rattle.history.specs.declared.refusals.WornWord.TheVariants.{Tail}
use Rattle.history.specs.Seats.{Permit}
use Rattle.carriers.specs.Knowledge.{KnownOf, IsSoundOf, IsPermittedDeed, IsNotedOf}
use Rattle.mock_queues.specs.declared.full.FullQueue.{FullQueue}
use Rattle.mock_queues.specs.declared.full.FullSeat.{FullSeat}

-- its one seat may push and pop
abbrev pub one_permit : List Permit
one_permit = record { pushes = true; pops = true } ∷ []

-- each seat is its own
abbrev pub IsFullSeat : {A P : Type 0} → FullQueue A P → FullSeat → Type 0
IsFullSeat q s = Unit {0}

-- a push is refused so: there is no room, or others are in its way
abbrev pub IsFullOrBusy : Refusal → Type 0
IsFullOrBusy NoNode = Unit {0}
IsFullOrBusy Busy = Unit {0}
IsFullOrBusy _ = ⊥

-- no shut of it is refused Closed
pub closed_never : (let it : Refusal = Closed in it ≡ WornOut Tail) → (let it : Refusal = Closed in IsFullOrBusy it)
closed_never e = absurd (let f : Closed ≡ WornOut Tail = e in cc)

module _ {A : Type 0} where
  -- its seat is number 1, and sees nothing: each pop notes that the queue was empty from the start
  abbrev pub knows_empties : FullSeat → KnownOf A
  knows_empties s = record { number = 1; seen = []; mine = []; notes = replicate s.empties 0 }

  -- what the seat knows is sound
  pub empties_are_sound : (s : FullSeat) → IsSoundOf {A = A} one_permit (knows_empties s)
  empties_are_sound s = record {
    run = ([], false, (refl, refl));
    permitted = All-nil (IsPermittedDeed one_permit);
    own = refl;
    noted =
        All-replicate (IsNotedOf []) s.empties 0 (inl (le_refl 0, (refl, refl)));
  }
