-- What is found of a list of calls is so of the slice of it.
use Rattle.std.proofs.Common.{All, sym, subst}
use Rattle.placing.specs.Reasons.{IsCutOf}
use Rattle.placing.proofs.stuck.stuck.Goals as goal

pub told-requires-clause-each : goal.told-requires-clause-each
told-requires-clause-each c = subst (All (IsCutOf c.args.history.now c.in_ok-until.until)) (sym c.as_slice-calls.ensures.value) c.in_ok-marks.ensures.each
