use Rattle.std.proofs.Common.{arith}
use Rattle.std.specs.Prelude.{IsSome}
use Rattle.step_machine.specs.Machine.{actor_of}
use Rattle.expand_engine.proofs.Walked.{line_told, there}
use Rattle.expand_engine.proofs.walks.standing.Goals as goal

pub returns-clause-ok : goal.returns-clause-ok
returns-clause-ok g c =
    let here : IsSome (actor_of c.args.world.now c.args.actor) =
    there c.args.world.now c.args.actor c.if-actor-eq0.false (let most = c.if-from-actors.false in let is = c.actors.ensures in let same = c.from.ensures in omega (arith, most, is, same)) in
    (here, line_told _ _ c.line.ensures here)
