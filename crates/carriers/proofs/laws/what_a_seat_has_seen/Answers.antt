-- A seat's soundness has what it has seen as a run.
use Rattle.std.proofs.Common.{subst}
use Rattle.std.proofs.Math.Logic.{∥∥₁_elim}
use Rattle.carriers.specs.Deeds.{IsRun}
use Rattle.carriers.proofs.Running.{pushed-RunsTo, run-front}
use Rattle.carriers.proofs.laws.what_a_seat_has_seen.Goals as goal

pub returns-clause-kept : goal.returns-clause-kept
returns-clause-kept g c =
    λ queue seat kept. g.met.C.Carrier.sound queue seat (∥∥₁_elim kept (g.met.C.Carrier.seat_prop queue seat) (λ here. here))

pub returns-clause-popped : goal.returns-clause-popped
returns-clause-popped g c =
    λ queue seat here. let run = (g.met.C.Carrier.sound queue seat here).run in (run.0, pushed-RunsTo _ run.1 run.0 run.2)

pub returns-clause-front : goal.returns-clause-front
returns-clause-front g c =
    λ queue seat here before after number front same. run-front before after number front (subst IsRun same (g.met.C.Carrier.sound queue seat here).run)
