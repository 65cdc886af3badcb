use Rattle.std.proofs.Common.{◌≡◌, ◌++◌, [], take}
use Rattle.std.specs.List.{flat_map}
use Rattle.show_engine.specs.Reasons.{operation_at}
use Rattle.show_engine.proofs.beside.operations_at.Given as goal

-- the operations at the places so far
abbrev pub invariant-loop-place : goal.invariant-loop-place
invariant-loop-place l = l.operations.items ≡ [] ++ flat_map (operation_at l.history) (take l.place-index l.places)
