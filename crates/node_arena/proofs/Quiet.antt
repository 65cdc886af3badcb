-- Changes of views that aren't steps keep each seat.
use Rattle.std.proofs.Common.{List, [], ◌∷◌, ◌++◌, refl, sym, subst}
use Rattle.atomic_table.proofs.Lists.{set_again}
use Rattle.node_arena.specs.Knowledge.{View, keeper, gathered, seated, paired, spent}
use Rattle.node_arena.specs.Rule.{knowing}
use Rattle.node_arena.specs.Courses.{PairsKeep, PartsKeep, SparesKeep, DealsKeep, OpensKeep, GathersKeep, LooksKeep, MeetsKeep, OtherChangesAreQuiet}
use Rattle.node_arena.specs.KnownRuns.{Keeps}
use Rattle.node_arena.proofs.KnownRuns as known_runs

pub pairs : PairsKeep
pairs views id other v w at ne there = known_runs.pairs knowing views id other v w (paired v w) spent at ne there refl

pub parts : PartsKeep
parts views id v w at = known_runs.parts knowing views id v w (paired v w) at refl

pub spares : SparesKeep
spares views id v x at = subst (λ (vs : List View). Keeps knowing views (vs ++ x ∷ [])) (sym (set_again views id (seated v) at)) (known_runs.comes knowing views x)

pub deals : DealsKeep
deals views id n m x at = known_runs.deals knowing views id (keeper n) (keeper m) x at refl

pub opens : OpensKeep
opens views x = known_runs.comes knowing views x

pub gathers : GathersKeep
gathers views id other vs w at ne there = known_runs.gathers knowing views id other (gathered vs) (gathered (vs ++ w ∷ [])) spent w at ne there refl

pub looks : LooksKeep
looks views id v v' at number ran = known_runs.looks knowing views id v v' at number ran

pub meets : MeetsKeep
meets views id v w v' w' at n1 r1 n2 r2 = known_runs.meets knowing views id v w v' w' (paired v w) (paired v' w') at refl refl n1 r1 n2 r2

pub all_quiet : OtherChangesAreQuiet
all_quiet = record { pairs = pairs; parts = parts; spares = spares; deals = deals; opens = opens; gathers = gathers; looks = looks; meets = meets }
