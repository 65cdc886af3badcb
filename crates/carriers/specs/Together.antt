-- What seats did, all together.
use Rattle.std.specs.Prelude.{List}
use Rattle.std.specs.List.{flat_map}
use Rattle.carriers.specs.declared.items.ItemOf.{ItemOf}
use Rattle.carriers.specs.Values.{values_pushed, values_popped}
use Rattle.carriers.specs.Knowledge.{KnownOf}

module _ {A : Type 0} where
  -- the values that these seats pushed, those of the first seat first
  abbrev pub pushed_by : List (KnownOf A) → List (ItemOf A)
  pushed_by seats = flat_map (λ k. values_pushed k.mine) seats

  -- the values that these seats popped, those of the first seat first
  abbrev pub popped_by : List (KnownOf A) → List (ItemOf A)
  popped_by seats = flat_map (λ k. values_popped k.mine) seats
