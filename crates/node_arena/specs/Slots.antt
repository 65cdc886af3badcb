-- Slots beside a queue of numbers: the number that is pushed is that of a slot, in which the value lies.
use Rattle.std.specs.Prelude.{◌≡◌, ◌⊎◌, ℕ, ◌+◌, ◌<◌, List, Option, Some, None}
use mathlib.Core.Option.{some, none}
use mathlib.Core.Option as maybe
use lib.ListN.{get_elem?}
use Rattle.node_arena.specs.Deeds.{Item, item}

-- a value in the queue: whose it is, its slot, and the value
pub record Lying (T : Type 0) : Type 0 where
  pub from : ℕ
  pub slot : ℕ
  pub value : T

-- a try at the flag of a slot, and what that held
pub record Try : Type 0 where
  pub slot : ℕ
  pub found : ℕ

-- where a slot is: free, in the queue by the pop that will take it, or out with a seat
pub data Place : Type 0 where
  free : Place
  queued : ℕ → Place
  held : ℕ → Place

-- what lies at home in a slot: none where there is no such slot or it is out, else a value or nothing
abbrev pub Home : Type 0 → Type 0
Home T = maybe.Option (maybe.Option (Option T))

module _ {T : Type 0} where
  -- a value in the queue, whichever slot it lies in
  abbrev pub item_of : Lying T → Item T
  item_of l = item l.from l.value

  -- a free slot is empty and at home, and its flag is down; that of another is up
  abbrev pub Stands : (flag : ℕ) → Home T → Place → Type 0
  Stands flag home free = (flag ≡ 0) × (home ≡ some (some None))
  Stands flag home (queued p) = flag ≡ 1
  Stands flag home (held j) = flag ≡ 1

-- a slot is named: it is out with somebody, or in it lies a value of the queue
abbrev pub IsNamed : {T : Type 0} (hand : ℕ → maybe.Option ℕ) (q : List (Lying T)) (slot : ℕ) → Type 0
IsNamed {T} hand q slot = ((j : ℕ) × (hand j ≡ some slot)) ⊎ ((m : ℕ) × (l : Lying T) × (get_elem? q m ≡ some l) × (l.slot ≡ slot))

-- n slots, of which `flag` says who is busy, `home` what lies at home, and `hand` which one is out with a seat. So many
-- values were popped, and q is in the queue: each lies in its slot, and no two in one. A flag is up only where its slot is named
pub record Slotted {T : Type 0} (n : ℕ) (flag : ℕ → ℕ) (home : ℕ → Home T) (hand : ℕ → maybe.Option ℕ) (pops : ℕ) (q : List (Lying T)) : Type 0 where
  pub place : ℕ → Place
  pub stands : (i : ℕ) → i < n → Stands (flag i) (home i) (place i)
  pub lies : (m : ℕ) (l : Lying T) → get_elem? q m ≡ some l → (l.slot < n) × (place l.slot ≡ queued (pops + m)) × (home l.slot ≡ some (some (Some l.value)))
  pub out : (j i : ℕ) → hand j ≡ some i → (i < n) × (place i ≡ held j)
  pub why : (i : ℕ) → i < n → ¬ (flag i ≡ 0) → IsNamed hand q i

-- one slot alone has another flag, or lies elsewhere; one seat alone has another slot
abbrev pub Changes : {X : Type 0} (f g : ℕ → X) → ℕ → X → Type 0
Changes f g k x = (g k ≡ x) × ((i : ℕ) → ¬ (i ≡ k) → g i ≡ f i)
