-- What a ring is made for.
use Rattle.std.specs.Prelude.{◌≡◌, ℕ, zero, suc, ◌+◌, ◌*◌, ◌^◌, ◌<◌, ◌≤◌, if◌then◌else◌, Bool, true, false, List, length, map}
use Rattle.atomic_table.specs.Seated.{TableId}
use Rattle.history.specs.Seats.{Permit}
use Rattle.ring_queue.specs.declared.roles.Role.{Role}
use Rattle.ring_queue.specs.declared.roles.Role.TheVariants.{Giver, Taker, Both}

-- whether a role may push
abbrev pub may_push : Role → Bool
may_push Giver = true
may_push Taker = false
may_push Both = true

-- whether a role may pop
abbrev pub may_pop : Role → Bool
may_pop Giver = false
may_pop Taker = true
may_pop Both = true

-- what a role permits
abbrev pub permit_of : Role → Permit
permit_of r = record { pushes = may_push r; pops = may_pop r }

-- what each seat of these roles may do
abbrev pub permits_by : List Role → List Permit
permits_by roles = map permit_of roles

-- the plan of a ring: how many slots it has, how many values it has room for, up to which place it goes, the role of each seat,
-- from number 1 on, and whether it carries values: each number pushed is then that of the slot in which its value lies; or whether
-- the words of each value lie in its place, and of how many it is then
pub record Layout : Type 0 where
  pub slots : ℕ
  pub most : ℕ
  pub limit : ℕ
  pub roles : List Role
  pub carries : Bool
  pub placed : Bool
  pub width : ℕ

-- what each seat may do
abbrev pub permits_of : Layout → List Permit
permits_of z = permits_by z.roles

-- a plan's sizes are in their ranges
pub record IsPlanned (z : Layout) : Type 0 where
  pub power : ∥ ((bits : ℕ) × (z.slots ≡ 2 ^ bits)) ∥₁
  pub some : 1 ≤ z.most
  pub room : z.most ≤ z.slots
  pub from : z.slots ≤ z.limit
  pub limited : z.limit < 2 ^ 62
  pub seated : 1 ≤ length z.roles
  pub few : length z.roles < 2 ^ 15
  pub apart : z.placed ≡ true → z.carries ≡ false
  pub small : z.slots ≤ 2 ^ 49
  pub thin : z.width ≤ 3
  pub in_places : z.placed ≡ true → 1 ≤ z.width
  pub elsewhere : z.placed ≡ false → z.width ≡ 0

-- the words of the queue, each with one beside it, which lie first in the table, before further words of values and a flag for each slot
abbrev pub words_of : Layout → ℕ
words_of z = 32 + 2 * z.slots

-- how many words lie behind those for values of so many words each: a pair for each slot, where they are of more than one
abbrev pub further_for : (width slots : ℕ) → ℕ
further_for zero slots = 0
further_for (suc zero) slots = 0
further_for (suc (suc k)) slots = 2 * slots

-- how many further words its table has
abbrev pub further_of : Layout → ℕ
further_of z = further_for z.width z.slots

-- how many slots its table has: one for each of a ring's, where values are carried
abbrev pub slots_of : Layout → ℕ
slots_of z = if z.carries then z.slots else 0

-- a table, made about a plan, is laid out for it
pub record IsTable (z about : Layout) (t : TableId) : Type 0 where
  pub planned : IsPlanned z
  pub key : about ≡ z
  pub words : t.words ≡ words_of z + (further_of z + slots_of z)
  pub slots : t.slots ≡ slots_of z
