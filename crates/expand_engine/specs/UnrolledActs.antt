-- The acts of a recipe, each as often as it is done.
use Rattle.std.specs.Prelude.{ℕ, ◌+◌, Bool, true, false, if◌then◌else◌, List, [], ◌∷◌, ◌++◌, Option, Some, None, replicate}
use Rattle.std.specs.List.{flat_map}
use Rattle.expand_engine.specs.declared.recipes.Act.{Act}
use Rattle.expand_engine.specs.declared.recipes.Said.{Said}
use Rattle.expand_engine.specs.declared.recipes.Said.TheVariants.{Repeat, End}
use Rattle.expand_engine.specs.Recipes.{is_act}

-- a list so often, one after another
abbrev pub repeated : {A : Type 0} → (times : ℕ) → List A → List A
repeated times xs = flat_map (λ copy. copy) (replicate times xs)

-- a repeat that is open: how often, and the acts in it so far
pub record Open : Type 0 where
  pub times : ℕ
  pub body : List Act

-- the act of a line with this number, if it is one
abbrev pub act_at : (number : ℕ) → Said → List Act
act_at number said = if is_act said then record { line = number; said = said } ∷ [] else []

-- whether a line ends what is open
abbrev pub is_end : Said → Bool
is_end End = true
is_end _ = false

-- the repeat that a line opens, where none is open
abbrev pub opened_by : Said → Option Open
opened_by (Repeat times) = Some (record { times = times; body = [] })
opened_by _ = None

-- the acts that are done at a line: its own, or where it ends a repeat the repeat's, so often
abbrev pub acts_done : (number : ℕ) → Option Open → Said → List Act
acts_done number None said = act_at number said
acts_done number (Some held) said = if is_end said then repeated held.times held.body else []

-- the repeat that is open after a line
abbrev pub open_after : (number : ℕ) → Option Open → Said → Option Open
open_after number None said = opened_by said
open_after number (Some held) said =
    if is_end said then None else Some (record { times = held.times; body = held.body ++ act_at number said })

-- the acts of lines, of which the first has this number
abbrev pub unrolled : (number : ℕ) → Option Open → List Said → List Act
unrolled number held [] = []
unrolled number held (said ∷ saids) = acts_done number held said ++ unrolled (number + 1) (open_after number held said) saids

-- the repeat that is open, by how often it is done, and its acts
abbrev pub open_of : Option ℕ → List Act → Option Open
open_of None body = None
open_of (Some times) body = Some (record { times = times; body = body })
