-- The places of a pool.
use Rattle.std.specs.Prelude.{◌≡◌, ℕ, List, [], ◌∷◌, map, length, slice_index, Option, Some}
use mathlib.Core.Option.{some}
use lib.ListN.{get_elem?}
use Rattle.atomic_table.specs.Table.{State, Me, Step}
use Rattle.history.specs.Seats.{Permit}
use Rattle.carriers.specs.Knowledge.{KnownOf}
use Rattle.seat_pool.specs.declared.parts.Part.{Part}
use Rattle.seat_pool.specs.declared.places.Home.{Home}
use Rattle.seat_pool.specs.Parts.{number_of, HasPart}

-- the numbers of the seats that a pool was made with, in their order
abbrev pub numbers_in : {C A S : Type 0} (known : S → KnownOf A) → Home C A S → List ℕ
numbers_in known home = map (λ s. (known s).number) home.first.value.items

module _ {C A S : Type 0} (is_seat : C → S → Type 0) (permits : C → List Permit) (known : S → KnownOf A) where
  -- a seat belongs to a place of a pool: it is the queue's, in no call, has this part, and is by its number the one that the
  -- pool was made with there
  pub record Belongs (home : Home C A S) (place : ℕ) (part : Part) (s : S) : Type 0 where
    pub seat : is_seat home.queue s
    pub able : HasPart (permits home.queue) (known s).number part
    pub number : (known s).number ≡ slice_index (numbers_in known home) place

  -- a place whose word is that of a part has a seat that belongs there, with this part
  pub record AreKept (home : Home C A S) (t : State (Option S) (Home C A S)) : Type 0 where
    pub sized : length t.words ≡ length t.homes
    pub kept : (i : ℕ) (part : Part) → get_elem? t.words i ≡ some (number_of part) → (s : S) × (get_elem? t.homes i ≡ some (some (Some s))) × ∥ Belongs home i part s ∥₁

  -- who exchanged the word of a part took a seat that belongs there, and nothing else
  abbrev pub Takes : Step (Option S) → Me (Option S) (Home C A S) → ℕ → Me (Option S) (Home C A S) → Type 0
  Takes step me found me' =
      (part : Part) → step.first ≡ number_of part → found ≡ step.first → me.1 ≡ [] → (s : S) × (me' ≡ (me.0, (step.word, Some s) ∷ [])) × ∥ Belongs me.0 step.word part s ∥₁

-- a new token knows what the table was told, and holds nothing
abbrev pub Enters : {S H : Type 0} → Step S → Me S H → ℕ → Me S H → Type 0
Enters step me found me' = me' ≡ me
