-- Each run computes to what is written down for it.
use Rattle.std.proofs.Common.{refl}
use Rattle.worked_runs.proofs.two_lock.two_lock_runs.Goals as goal

pub returns-clause-first_run : goal.returns-clause-first_run
returns-clause-first_run c = (((refl, (refl, (refl, (refl, (refl, tt))))), ((refl, (refl, (refl, (refl, (refl, tt))))), ((refl, (refl, (refl, (refl, (refl, tt))))), tt))), refl)

pub returns-clause-lock_held : goal.returns-clause-lock_held
returns-clause-lock_held c = (((refl, tt), ((refl, tt), ((refl, tt), tt))), refl)

pub returns-clause-tail_behind : goal.returns-clause-tail_behind
returns-clause-tail_behind c = (((refl, (refl, (refl, tt))), ((refl, (refl, (refl, tt))), ((refl, (refl, (refl, tt))), tt))), refl)

pub returns-clause-stopped_holder : goal.returns-clause-stopped_holder
returns-clause-stopped_holder c = (((refl, tt), ((refl, tt), ((refl, tt), tt))), refl)

pub returns-clause-worn_head : goal.returns-clause-worn_head
returns-clause-worn_head c = (((refl, tt), ((refl, tt), ((refl, tt), tt))), refl)
