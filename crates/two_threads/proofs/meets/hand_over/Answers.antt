-- By the three calls, one after another.
use Rattle.two_threads.proofs.Handing.{if_seen}
use Rattle.two_threads.proofs.meets.hand_over.Goals as goal

pub returns-clause-seen : goal.returns-clause-seen
returns-clause-seen g c = if_seen _ _ _ _ _ _ c.args.body c.try_pop.result c.in_ok-try_push.ensures.pushed c.meet.ensures.meets c.try_pop.ensures.answer
