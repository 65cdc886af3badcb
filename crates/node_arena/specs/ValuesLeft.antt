-- The values left in an arena: each lies in the slot that a number left names.
use Rattle.std.specs.Prelude.{Bool, true, ◌&&◌, List, [], ◌∷◌, slice_index_or, slice_set, Option, Some, None}
use Rattle.std.specs.Option.{is_some}
use Rattle.history.specs.declared.operations.Taken.{Taken}
use Rattle.node_arena.specs.Deeds.{Item, item}

module _ {T : Type 0} where
  -- what lay in the slot of a number that was taken, as the value of the seat that pushed it, before others
  abbrev pub with_value : Taken → Option T → List (Item T) → List (Item T)
  with_value t None others = others
  with_value t (Some x) others = item t.from x ∷ others

  -- the values of some numbers, the front one first: each lies in the slot that the number names, and comes out of it
  abbrev pub values_of : (inside : List (Option T)) → List Taken → List (Item T)
  values_of inside [] = []
  values_of inside (t ∷ ts) = with_value t (slice_index_or inside t.body None) (values_of (slice_set inside t.body None) ts)

  -- whether a value lies in the slot of each of some numbers, and no two lie in one
  abbrev pub all_lie : (inside : List (Option T)) → List Taken → Bool
  all_lie inside [] = true
  all_lie inside (t ∷ ts) = is_some (slice_index_or inside t.body None) && all_lie (slice_set inside t.body None) ts
