-- An order that is put together, of what goes and of pushes.
use Rattle.std.specs.Prelude.{◌≡◌, ◌<◌, ◌≤◌, ℕ, ◌+◌, List, [], ◌∷◌, ◌++◌, Option, None, length, drop}
use Rattle.history.specs.declared.operations.Stamped.{Stamped}
use Rattle.waiting_orders.specs.declared.orders.Listing.{Listing}
use Rattle.waiting_orders.specs.Waiting.{sooner}

-- the least last number of some operations
abbrev pub least : List Stamped → Option ℕ
least [] = None
least (p ∷ ps) = sooner (least ps) p.last

-- the same of each and those behind it
abbrev pub leasts : List Stamped → List (Option ℕ)
leasts [] = []
leasts (p ∷ ps) = least (p ∷ ps) ∷ leasts ps

-- pushes are put in, and others are to come
pub record Puts (pushes front later : List Stamped) (old new : Listing) : Type 0 where
  pub operations : new.operations.items ≡ old.operations.items ++ front
  pub coming : drop new.next pushes ≡ later
  pub next : new.next ≡ old.next + length front
  pub taken : new.taken ≡ old.taken

-- how many pushes have their values taken, one more where one of those put in hasn't
pub record TakesOne (next old new : ℕ) : Type 0 where
  pub more : old < next → new ≡ old + 1
  pub same : next ≤ old → new ≡ old
