-- Histories of deeds: pushes, pops and shuts of values of any type, in the order in which they had their effect.
use Rattle.std.specs.Prelude.{◌≡◌, ℕ, Bool, true, false, nat_eq, List, [], ◌∷◌, ◌++◌}
use Rattle.std.specs.List.{filter}
use Rattle.carriers.specs.declared.items.ItemOf.{ItemOf}

-- a push of a value by a seat, a pop by a seat of the value at the front, or a shut by a seat
pub data Deed (A : Type 0) : Type 0 where
  did_push : ℕ → A → Deed A
  did_pop : ℕ → ItemOf A → Deed A
  did_shut : ℕ → Deed A

module _ {A : Type 0} where
  -- a value that a seat pushed
  abbrev pub item : (seat : ℕ) → A → ItemOf A
  item seat value = record { from = seat; value = value }

  -- whose deed it is
  abbrev pub doer_of : Deed A → ℕ
  doer_of (did_push seat value) = seat
  doer_of (did_pop seat front) = seat
  doer_of (did_shut seat) = seat

  -- the deeds of one seat
  abbrev pub own_deeds : ℕ → List (Deed A) → List (Deed A)
  own_deeds me ds = filter (λ d. nat_eq (doer_of d) me) ds

  -- whether a deed is a push
  abbrev pub is_pushing : Deed A → Bool
  is_pushing (did_push seat value) = true
  is_pushing (did_pop seat front) = false
  is_pushing (did_shut seat) = false

  -- whether a deed is a pop
  abbrev pub is_popping : Deed A → Bool
  is_popping (did_push seat value) = false
  is_popping (did_pop seat front) = true
  is_popping (did_shut seat) = false

  -- whether a deed is a shut
  abbrev pub is_shutting : Deed A → Bool
  is_shutting (did_push seat value) = false
  is_shutting (did_pop seat front) = false
  is_shutting (did_shut seat) = true

  -- deeds, one after another, lead from these values, the front first, of a queue that is shut or not, to those: a push puts
  -- its value at the back, a pop takes the front one, which is its value, and a shut ends all pushes
  abbrev pub Runs : List (ItemOf A) → (shut : Bool) → List (Deed A) → List (ItemOf A) → (shut' : Bool) → Type 0
  Runs values shut [] values' shut' = (values ≡ values') × (shut ≡ shut')
  Runs values shut (did_push seat value ∷ ds) values' shut' = (shut ≡ false) × Runs (values ++ item seat value ∷ []) shut ds values' shut'
  Runs values shut (did_pop seat front ∷ ds) values' shut' = (rest : List (ItemOf A)) × (values ≡ front ∷ rest) × Runs rest shut ds values' shut'
  Runs values shut (did_shut seat ∷ ds) values' shut' = (shut ≡ false) × Runs values true ds values' shut'

  -- deeds lead from the empty queue to one with these values, shut or not
  abbrev pub RunsTo : List (Deed A) → (shut : Bool) → List (ItemOf A) → Type 0
  RunsTo ds shut values = Runs [] false ds values shut

  -- deeds lead from the empty queue to one that is shut
  abbrev pub RunsToShut : List (Deed A) → Type 0
  RunsToShut ds = (values : List (ItemOf A)) × RunsTo ds true values

  -- deeds are those of one first-in-first-out list of values, on which nothing is pushed after a shut
  abbrev pub IsRun : List (Deed A) → Type 0
  IsRun ds = (values : List (ItemOf A)) × (shut : Bool) × RunsTo ds shut values
