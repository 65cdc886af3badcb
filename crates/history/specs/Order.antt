-- Operations in the order of their places.
use Rattle.std.specs.Prelude.{◌≤◌, List, [], ◌∷◌}
use Rattle.std.specs.List.{AllByRecursion}
use Rattle.history.specs.declared.operations.Stamped.{Stamped}
use Rattle.history.specs.History.{point_or_zero}

-- no operation's place is after that of a later one
abbrev pub Rises : List Stamped → Type 0
Rises [] = Unit {0}
Rises (o ∷ os) = AllByRecursion (λ p. point_or_zero o.at ≤ point_or_zero p.at) os × Rises os
