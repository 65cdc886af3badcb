-- Histories of a queue of values of any type, and how one goes with a history of numbers.
use Rattle.std.specs.Prelude.{◌≡◌, ℕ, Bool, true, false, List, [], ◌∷◌, ◌++◌}
use Rattle.history.specs.declared.operations.Entry.{Entry}
use Rattle.history.specs.declared.operations.Entry.TheVariants.{Push, Pop, Shut}

-- a value of a queue: the number of the seat that pushed it, and the value
pub record Item (T : Type 0) : Type 0 where
  pub from : ℕ
  pub value : T

-- a push of a value by a seat, a pop by a seat of the value at the front, or a shut
pub data Deed (T : Type 0) : Type 0 where
  pushed : ℕ → T → Deed T
  popped : ℕ → Item T → Deed T
  closed : ℕ → Deed T

module _ {T : Type 0} where
  -- this value, which this seat pushed
  abbrev pub item : ℕ → T → Item T
  item n x = record { from = n; value = x }

  -- deeds lead from a queue to another: a push puts its value at the back, a pop takes the front one, a shut ends all pushes
  abbrev pub Runs : List (Item T) → Bool → List (Deed T) → List (Item T) → Bool → Type 0
  Runs q s [] q' s' = (q ≡ q') × (s ≡ s')
  Runs q s (pushed n x ∷ ds) q' s' = (s ≡ false) × Runs (q ++ item n x ∷ []) s ds q' s'
  Runs q s (popped n t ∷ ds) q' s' = (rest : List (Item T)) × (q ≡ t ∷ rest) × Runs rest s ds q' s'
  Runs q s (closed n ∷ ds) q' s' = (s ≡ false) × Runs q true ds q' s'

  -- the deeds are those of the entries: each of the same seat, and each value popped of the same one
  abbrev pub Matches : List Entry → List (Deed T) → Type 0
  Matches [] [] = Unit {0}
  Matches (Push n b ∷ es) (pushed m x ∷ ds) = (m ≡ n) × Matches es ds
  Matches (Pop n t ∷ es) (popped m u ∷ ds) = (m ≡ n) × (u.from ≡ t.from) × Matches es ds
  Matches (Shut n ∷ es) (closed m ∷ ds) = (m ≡ n) × Matches es ds
  Matches _ _ = ⊥

  -- the values that were pushed, in order
  abbrev pub values_pushed : List (Deed T) → List (Item T)
  values_pushed [] = []
  values_pushed (pushed n x ∷ ds) = item n x ∷ values_pushed ds
  values_pushed (popped n t ∷ ds) = values_pushed ds
  values_pushed (closed n ∷ ds) = values_pushed ds

  -- the values that were popped, in order
  abbrev pub values_popped : List (Deed T) → List (Item T)
  values_popped [] = []
  values_popped (pushed n x ∷ ds) = values_popped ds
  values_popped (popped n t ∷ ds) = t ∷ values_popped ds
  values_popped (closed n ∷ ds) = values_popped ds
