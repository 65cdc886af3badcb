-- Values in sets, by their keys, and what is known by such sets of the values of a history.
use Rattle.std.specs.Prelude.{◌≡◌, ℕ, ◌+◌, ◌≤◌, Bool, false, if◌then◌else◌, List}
use Rattle.std.specs.declared.cmp.Ordering.{Ordering}
use Rattle.std.specs.Ordering.{nat_cmp, ordering_then}
use Rattle.std.specs.BTreeSet.{BTreeSet, contains}
use Rattle.history.specs.declared.operations.Taken.{Taken}
use Rattle.history.specs.declared.operations.Stamped.{Stamped}
use Rattle.placing.specs.declared.known.Known.{Known}
use Rattle.placing.specs.Kinds.{same_value, is_told_in, pushes_in, pushes_of, takes_of}

-- keys in the order of their parts
abbrev pub by_parts : ℕ × ℕ → ℕ × ℕ → Ordering
by_parts x y = ordering_then (nat_cmp x.0 y.0) (nat_cmp x.1 y.1)

-- whether a set has a value
abbrev pub has : BTreeSet (ℕ × ℕ) → Taken → Bool
has seen v = contains by_parts seen (v.from, v.body)

-- Of a value that isn't pushed again by an operation: it wasn't before, and it is seen then where it was seen before or
-- the operation pushes it, and not both.
abbrev pub NotesPush : (seen new again more : BTreeSet (ℕ × ℕ)) → Stamped → Type 0
NotesPush seen new again more o = (v : Taken) → has more v ≡ false →
    (has again v ≡ false)
    × ((if has seen v then 1 else 0) + (if pushes_in (same_value v) o then 1 else 0) ≤ (if has new v then 1 else 0))

-- a value that a set lacks after an operation it lacked before, and the operation wasn't told it
abbrev pub NotesTake : (old new : BTreeSet (ℕ × ℕ)) → Stamped → Type 0
NotesTake old new o = (v : Taken) → has new v ≡ false → (has old v ≡ false) × (is_told_in (same_value v) o.reply ≡ false)

-- a set has each value that has more than one push
abbrev pub HasAllPushedAgain : List Stamped → BTreeSet (ℕ × ℕ) → Type 0
HasAllPushedAgain ops again = (v : Taken) → has again v ≡ false → pushes_of (same_value v) ops ≤ 1

-- a set has each value that a pop was told
abbrev pub HasAllTold : List Stamped → BTreeSet (ℕ × ℕ) → Type 0
HasAllTold ops told = (v : Taken) → has told v ≡ false → takes_of (same_value v) ops ≡ 0

-- what is known of the values of a history is so
pub record IsKnown (ops : List Stamped) (known : Known) : Type 0 where
  pub again : HasAllPushedAgain ops known.again
  pub told : HasAllTold ops known.told
