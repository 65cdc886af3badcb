-- How a history of entries, whose values are numbers, and one of deeds go together.
use Rattle.std.specs.Prelude.{◌≡◌, ℕ, List, [], ◌∷◌, map}
use Rattle.history.specs.declared.operations.Entry.{Entry}
use Rattle.history.specs.declared.operations.Entry.TheVariants.{Push, Pop, Shut}
use Rattle.history.specs.declared.operations.Taken.{Taken}
use Rattle.history.specs.Seats.{Known}
use Rattle.carriers.specs.declared.items.ItemOf.{ItemOf}
use Rattle.carriers.specs.Deeds.{Deed, did_push, did_pop, did_shut, item}
use Rattle.carriers.specs.Knowledge.{KnownOf}

-- entries and deeds go together, one by one: each is of the same kind and the same seat, and what is popped was pushed by the
-- same one; of the values nothing is said
abbrev pub Matches : {A : Type 0} → List Entry → List (Deed A) → Type 0
Matches [] [] = Unit {0}
Matches (Push seat body ∷ es) (did_push seat' value ∷ ds) = (seat' ≡ seat) × Matches es ds
Matches (Pop seat taken ∷ es) (did_pop seat' front ∷ ds) = (seat' ≡ seat) × (front.from ≡ taken.from) × Matches es ds
Matches (Shut seat ∷ es) (did_shut seat' ∷ ds) = (seat' ≡ seat) × Matches es ds
Matches es ds = ⊥

-- a value that was taken, as one of a queue of values whose values are numbers
abbrev pub item_taken : Taken → ItemOf ℕ
item_taken taken = item taken.from taken.body

-- an entry as a deed whose value is the body
abbrev pub deed_of : Entry → Deed ℕ
deed_of (Push seat body) = did_push seat body
deed_of (Pop seat taken) = did_pop seat (item_taken taken)
deed_of (Shut seat) = did_shut seat

-- a history of entries as one of deeds
abbrev pub deeds_of : List Entry → List (Deed ℕ)
deeds_of es = map deed_of es

-- what a seat of a queue of numbers knows, by deeds
abbrev pub known_by_deeds : Known → KnownOf ℕ
known_by_deeds k = record { number = k.number; seen = deeds_of k.seen; mine = deeds_of k.mine; notes = k.notes }
