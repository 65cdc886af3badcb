-- What a seat of a queue of values finds that looks at it.
use Rattle.std.specs.Prelude.{◌+◌, ◌<◌, ◌≤◌, Bool, true, false, List, [], ◌∷◌, length}
use Rattle.std.specs.List.{count_by}
use mathlib.Core.List.{IsPrefix}
use Rattle.carriers.specs.declared.items.ItemOf.{ItemOf}
use Rattle.carriers.specs.Deeds.{Deed, is_popping, RunsTo}
use Rattle.carriers.specs.Knowledge.{KnownOf}
use Rattle.carriers.specs.Answers.{SeesMoreOf}
use Rattle.node_arena.specs.declared.emptiness.Emptiness.{Emptiness}
use Rattle.node_arena.specs.declared.emptiness.Emptiness.TheVariants.{Empty, ShutEmpty, Holds, Moved}
use Rattle.node_arena.specs.declared.lengths.Len.{Len}

-- deeds no older than what a seat had seen before a call: they begin with that, and what the seat has seen after the call begins
-- with them
pub record WasMeanwhileOf {A : Type 0} (k : KnownOf A) (now : List (Deed A)) (k' : KnownOf A) : Type 0 where
  pub more : SeesMoreOf k k'
  pub begins : IsPrefix k.seen now
  pub ends : IsPrefix now k'.seen

-- deeds lead from the empty queue to one with a value at least
pub record RunsToSome {A : Type 0} (ds : List (Deed A)) : Type 0 where
  pub shut : Bool
  pub front : ItemOf A
  pub others : List (ItemOf A)
  pub runs : RunsTo ds shut (front ∷ others)

-- pops took effect since before a call
pub record SawPopsOf {A : Type 0} (k k' : KnownOf A) : Type 0 where
  pub more : SeesMoreOf k k'
  pub pops : count_by is_popping k.seen < count_by is_popping k'.seen

-- the queue was found so: after deeds no older than what the seat had seen it was empty and not shut, empty and shut, or held a
-- value; or, where Head moved, pops took effect
abbrev pub FoundSoOf : {A : Type 0} → KnownOf A → Emptiness → KnownOf A → Type 0
FoundSoOf {A} k Empty k' = (now : List (Deed A)) × WasMeanwhileOf k now k' × RunsTo now false []
FoundSoOf {A} k ShutEmpty k' = (now : List (Deed A)) × WasMeanwhileOf k now k' × RunsTo now true []
FoundSoOf {A} k Holds k' = (now : List (Deed A)) × WasMeanwhileOf k now k' × RunsToSome now
FoundSoOf k Moved k' = SawPopsOf k k'

-- the queue's length was between these bounds after deeds no older than what the seat had seen; they are no further apart than
-- the pops that took effect meanwhile, and one
pub record WasSoLongOf {A : Type 0} (k : KnownOf A) (len : Len) (k' : KnownOf A) : Type 0 where
  pub now : List (Deed A)
  pub meanwhile : WasMeanwhileOf k now k'
  pub shut : Bool
  pub values : List (ItemOf A)
  pub runs : RunsTo now shut values
  pub least : len.least ≤ length values
  pub most : length values ≤ len.most
  pub near : len.most + count_by is_popping k.seen ≤ len.least + 1 + count_by is_popping k'.seen
