use Rattle.std.proofs.Common.{◌≡◌, map, take}
use Rattle.std.specs.List.{AllZip}
use Rattle.placing.specs.SpreadStamps.{IsSpreadFrom}
use Rattle.placing.proofs.spread_stamps.Spread.history.Given as goal

abbrev pub invariant-loop-index : goal.invariant-loop-index
invariant-loop-index l =
    AllZip (IsSpreadFrom l.self.numbers.items l.self.width) (take l.index l.history) l.spread.items
    × (map (λ o. o.at) l.spread.items ≡ take l.index l.points)
