-- A new world is made by no moves.
use Rattle.std.proofs.Common.{◌≡◌, inr, length, arith, refl, ap, subst, ◌∙◌}
use Rattle.step_machine.specs.Machine.{IsSized, IsMade}
use Rattle.step_machine.specs.Calls.{setup_from}
use Rattle.step_machine.specs.Views.{wanting_node, unrecorded}
use Rattle.step_machine.proofs.Giving.{opened, wanting_node-idle, unrecorded-idle}
use Rattle.step_machine.proofs.Reached.{opening_made}
use Rattle.step_machine.proofs.world.WorldOf.new.Goals as goal

pub invariant_of-result : goal.invariant_of-result
invariant_of-result g c =
    let s = setup_from g.row.B c.args.kind c.args.nodes c.args.limit in
    let sized : IsSized s c.args.actors =
    record {
      split = c.requires.split;
      nodes = omega arith;
      numbered = omega arith;
      counts = omega arith;
      counted = omega arith;
      some_actors = omega arith;
      few_actors = omega arith;
    } in
    let room : c.in-Ok.memory.room ≡ 1 = ap (λ m. m.room) c.in-Ok.ensures in
    let fresh : c.in-Ok.memory.words.fresh ≡ 1 = ap (λ m. m.words.fresh) c.in-Ok.ensures in
    let looks : wanting_node c.in-Ok-idle_actors.actors.items ≡ 0 = ap wanting_node c.in-Ok-idle_actors.ensures ∙ wanting_node-idle c.args.actors in
    let none : unrecorded c.in-Ok-idle_actors.actors.items ≡ 0 = ap unrecorded c.in-Ok-idle_actors.ensures ∙ unrecorded-idle c.args.actors in
    let no_operations : length c.new-2.result.items ≡ 0 = ap length c.new-2.ensures.items in
    record {
      split = refl;
      made = subst IsMade (opened s c.args.actors c.in-Ok.memory c.in-Ok-idle_actors.actors.items c.new-2.result.items c.in-Ok.ensures
          c.in-Ok-idle_actors.ensures c.new-2.ensures.items) (opening_made s c.args.actors sized);
      numbers = omega arith;
      within = omega arith;
      nodes = inr (omega arith);
      entries = omega arith;
    }
