use Rattle.std.proofs.Common.{◌≡◌, map, take}
use Rattle.place_engine.specs.GivenParts.{earlier_by}
use Rattle.place_engine.proofs.given.all_earlier_by.Given as goal

abbrev pub invariant-loop-operation : goal.invariant-loop-operation
invariant-loop-operation l = l.all.items ≡ map (earlier_by l.count) (take l.operation-index l.operations)
