-- The two lemmas are the law.
use Rattle.step_machine.proofs.NonBlockingLaws.{tail_lags, tail_is_not_behind}
use Rattle.step_machine.proofs.non_blocking_laws.tail_lags_by_at_most_one.Goals as goal

pub returns : goal.returns
returns c = record { lags = tail_lags; not_behind = tail_is_not_behind }
