-- What the seats of a table know of a run that they all make, whatever its moves and its views are.
use Rattle.std.specs.Prelude.{◌≡◌, ◌≢◌, ◌⊎◌, ℕ, List, [], ◌∷◌, ◌++◌, slice_set}
use Rattle.std.specs.List.{All}
use mathlib.Core.List.{IsPrefix}
use mathlib.Core.Option.{some}
use lib.ListN.{get_elem?}

-- how seats and views speak of a run: who made a move, which number a seat has, and what it knows of the run, which seats a view
-- speaks of, and the view of one seat alone
pub record Knowing (M V W : Type 0) : Type 0 where
  pub by : M → ℕ
  pub number : V → ℕ
  pub ran : V → List M
  pub members : W → List V
  pub seated : V → W
  pub alone : (v : V) → members (seated v) ≡ v ∷ []

-- a run begins with the moves that a seat knows of, and those that follow are of others
pub record Ran {M : Type 0} (by : M → ℕ) (run : List M) (me : ℕ) (ran : List M) : Type 0 where
  pub rest : List M
  pub begins : run ≡ ran ++ rest
  pub others : All (λ m. by m ≢ me) rest

module _ {M V W : Type 0} (k : Knowing M V W) where
  -- a seat is among the views, by what it knows
  abbrev pub IsAmong : List W → V → Type 0
  IsAmong views v = (j : ℕ) × (i : ℕ) × (u : W) × (get_elem? views j ≡ some u) × (get_elem? (k.members u) i ≡ some v)

  -- a seat is among the views by its number, and knows no less of the run
  abbrev pub IsFound : List W → V → Type 0
  IsFound views v = (w : V) × IsAmong views w × (k.number w ≡ k.number v) × IsPrefix (k.ran v) (k.ran w)

  -- each seat that is among views is found among others
  abbrev pub Keeps : List W → List W → Type 0
  Keeps views others = (v : V) → IsAmong views v → IsFound others v

  -- a seat made none of these moves, or is among the views
  abbrev pub IsThere : List W → (run : List M) → ℕ → Type 0
  IsThere views run n = Ran k.by run n [] ⊎ ((v : V) × IsAmong views v × (k.number v ≡ n))

-- of a run views say what each of their seats knows: no two seats of different views have one number, and whoever made a move is
-- among them
pub record AreTold {M V W : Type 0} (k : Knowing M V W) (views : List W) (run : List M) : Type 0 where
  pub ran : (v : V) → IsAmong k views v → Ran k.by run (k.number v) (k.ran v)
  pub apart : (v w : V) (a : IsAmong k views v) (b : IsAmong k views w) → k.number v ≡ k.number w → a.0 ≡ b.0
  pub there : (n : ℕ) → IsThere k views run n

-- views go on by a step of a seat: no view but its own changes, and it then knows of all moves that others had made, and of its own
-- that it made then, of which there is a last one
pub record GoesOn {M V W : Type 0} (k : Knowing M V W) (views views' : List W) : Type 0 where
  pub id : ℕ
  pub before : V
  pub after : V
  pub seat : get_elem? views id ≡ some (k.seated before)
  pub changed : views' ≡ slice_set views id (k.seated after)
  pub number : k.number after ≡ k.number before
  pub others : List M
  pub by_others : All (λ m. k.by m ≢ k.number before) others
  pub sets_out : List M
  pub by_own : All (λ m. k.by m ≡ k.number before) sets_out
  pub last : M
  pub by_last : k.by last ≡ k.number before
  pub ran : k.ran after ≡ k.ran before ++ (others ++ (sets_out ++ last ∷ []))
