use Rattle.std.proofs.Common.{◌∙◌, ap, sym, refl, length, arith}
use Rattle.tasks.proofs.Working.{get_first, drop_first, offered_none, offered_next, next_long}
use Rattle.tasks.proofs.offers.offer_all.Goals as goal

pub loop-task-init : goal.loop-task-init
loop-task-init g c =
    let gives = c.into_iter-task-iterator.ensures.into_iter_gives.0 in
    let len = ap length gives in
    record {
      seat = c.requires.seat;
      number = refl;
      at = sym gives;
      few = omega (arith, len);
      slots = c.requires.slots;
      offered = offered_none g.T.Task.answers _ _ _ _;
    }

pub loop-task-preserved : goal.loop-task-preserved
loop-task-preserved g c =
    let was = c.loop-task.invariant in
    let split = c.in-Some.ensures.steps.0 in
    let first = was.at ∙ split in
    let len = ap length split in
    let few = was.few in
    record {
      seat = c.offer_next.ensures.seat;
      number = c.offer_next.ensures.number ∙ was.number;
      at = drop_first c.args.tasks.items c.loop-task.number _ _ first;
      few = omega (arith, len, few);
      slots = next_long g.T.Task.answers _ _ _ _ _ _ _ c.offer_next.ensures.next ∙ was.slots;
      offered = offered_next g.T.Task.answers _ _ _ (get_first c.args.tasks.items c.loop-task.number _ _ first) _ _ _ _ _ _ was.number _ _ was.offered c.offer_next.ensures.next;
    }
