-- The answered list is the history of a made world, which is placed, legal and linearizable.
use Rattle.std.proofs.Common.{rules, ◌≡◌, sym, subst}
use Rattle.history.specs.History.{Placement, IsLegal}
use Rattle.history.specs.Linearizability.{IsLinearizable}
use Rattle.step_machine.specs.TakingEffect.{HavePlacesByItsEffects}
use Rattle.step_machine.specs.Stored.{world}
use Rattle.step_machine.proofs.EachHistory.{made_placed, made_legal, made_linearizable}
use Rattle.step_machine.proofs.EffectsKept.{made_effects}
use Rattle.step_machine.proofs.world.WorldOf.history.Goals as goal

pub returns-in-Ok-clause-placed : goal.returns-in-Ok-clause-placed
returns-in-Ok-clause-placed g c =
    let same : c.in-Ok.operations.items ≡ c.self.inside.operations.items = search rules in
    subst Placement (sym same) (made_placed (world g.row.B c.self.inside) c.self.invariant.made)

pub returns-in-Ok-clause-legal : goal.returns-in-Ok-clause-legal
returns-in-Ok-clause-legal g c =
    let same : c.in-Ok.operations.items ≡ c.self.inside.operations.items = search rules in
    subst IsLegal (sym same) (made_legal (world g.row.B c.self.inside) c.self.invariant.made)

pub returns-in-Ok-clause-linearizable : goal.returns-in-Ok-clause-linearizable
returns-in-Ok-clause-linearizable g c =
    let same : c.in-Ok.operations.items ≡ c.self.inside.operations.items = search rules in
    subst IsLinearizable (sym same) (made_linearizable (world g.row.B c.self.inside) c.self.invariant.made)

pub returns-in-Ok-clause-effects : goal.returns-in-Ok-clause-effects
returns-in-Ok-clause-effects g c =
    let same : c.in-Ok.operations.items ≡ c.self.inside.operations.items = search rules in
    subst (λ w. HavePlacesByItsEffects w c.in-Ok.operations.items) c.self.view_is
    (subst (HavePlacesByItsEffects (world g.row.B c.self.inside)) (sym same) (made_effects (world g.row.B c.self.inside)))
