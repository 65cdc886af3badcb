-- Each run computes to what is written down for it.
use Rattle.std.proofs.Common.{refl}
use Rattle.worked_runs.proofs.non_blocking.non_blocking_runs.Goals as goal

pub returns-clause-push_and_pop : goal.returns-clause-push_and_pop
returns-clause-push_and_pop c = (((refl, (refl, (refl, (refl, tt)))), ((refl, (refl, (refl, (refl, tt)))), ((refl, (refl, (refl, (refl, tt)))), tt))), refl)

pub returns-clause-reuse_cleared : goal.returns-clause-reuse_cleared
returns-clause-reuse_cleared c = (((refl, (refl, (refl, tt))), ((refl, (refl, (refl, tt))), ((refl, (refl, (refl, tt))), tt))), refl)

pub returns-clause-reuse : goal.returns-clause-reuse
returns-clause-reuse c = (((refl, (refl, (refl, (refl, tt)))), ((refl, (refl, (refl, (refl, tt)))), ((refl, (refl, (refl, (refl, tt)))), tt))), refl)

pub returns-clause-reused_node_before : goal.returns-clause-reused_node_before
returns-clause-reused_node_before c = (((refl, (refl, (refl, tt))), ((refl, (refl, (refl, tt))), ((refl, (refl, (refl, tt))), tt))), refl)

pub returns-clause-reused_node_lost : goal.returns-clause-reused_node_lost
returns-clause-reused_node_lost c = (((refl, (refl, tt)), ((refl, (refl, tt)), ((refl, (refl, tt)), tt))), refl)

pub returns-clause-reused_node : goal.returns-clause-reused_node
returns-clause-reused_node c = (((refl, (refl, (refl, tt))), ((refl, (refl, (refl, tt))), ((refl, (refl, (refl, tt))), tt))), refl)

pub returns-clause-stale_head : goal.returns-clause-stale_head
returns-clause-stale_head c = (((refl, tt), ((refl, tt), ((refl, tt), tt))), refl)

pub returns-clause-swung_by_a_pop : goal.returns-clause-swung_by_a_pop
returns-clause-swung_by_a_pop c = (((refl, tt), ((refl, tt), ((refl, tt), tt))), refl)

pub returns-clause-lagging_tail : goal.returns-clause-lagging_tail
returns-clause-lagging_tail c = (((refl, tt), ((refl, tt), ((refl, tt), tt))), refl)

pub returns-clause-no_node : goal.returns-clause-no_node
returns-clause-no_node c = (((refl, tt), ((refl, tt), ((refl, tt), tt))), refl)

pub returns-clause-worn_free : goal.returns-clause-worn_free
returns-clause-worn_free c = (((refl, tt), ((refl, tt), ((refl, tt), tt))), refl)

pub returns-clause-worn_tail : goal.returns-clause-worn_tail
returns-clause-worn_tail c = (((refl, (refl, tt)), ((refl, (refl, tt)), ((refl, (refl, tt)), tt))), refl)

pub returns-clause-value_kept : goal.returns-clause-value_kept
returns-clause-value_kept c = (((refl, (refl, tt)), ((refl, (refl, tt)), ((refl, (refl, tt)), tt))), refl)

pub returns-clause-worn_next : goal.returns-clause-worn_next
returns-clause-worn_next c = (((refl, (refl, (refl, tt))), ((refl, (refl, (refl, tt))), ((refl, (refl, (refl, tt))), tt))), refl)

pub returns-clause-push_given_up : goal.returns-clause-push_given_up
returns-clause-push_given_up c = (((refl, (refl, (refl, (refl, tt)))), ((refl, (refl, (refl, (refl, tt)))), ((refl, (refl, (refl, (refl, tt)))), tt))), refl)

pub returns-clause-longest_push : goal.returns-clause-longest_push
returns-clause-longest_push c = (((refl, (refl, (refl, tt))), ((refl, (refl, (refl, tt))), ((refl, (refl, (refl, tt))), tt))), refl)

pub returns-clause-longest_pop : goal.returns-clause-longest_pop
returns-clause-longest_pop c = (((refl, (refl, (refl, tt))), ((refl, (refl, (refl, tt))), ((refl, (refl, (refl, tt))), tt))), refl)

pub returns-clause-worn_counts : goal.returns-clause-worn_counts
returns-clause-worn_counts c = (((refl, tt), ((refl, tt), ((refl, tt), tt))), refl)
