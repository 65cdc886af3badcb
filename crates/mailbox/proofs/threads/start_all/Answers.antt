-- The thread of each task is that of its number, and its texts are due there.
use Rattle.std.proofs.Common.{arith, vec_len, vec_capacity}
use Rattle.mailbox.proofs.Starting.{started-none, started-next, started-then}
use Rattle.mailbox.proofs.threads.start_all.Goals as goal

pub loop-task-init : goal.loop-task-init
loop-task-init g c =
    started-none _ _ _ _ _ c.args.tasks.items c.into_iter-task-iterator.result.rest.items c.args.threads.items (vec_len c.args.threads) (vec_capacity c.args.threads)
    c.into_iter-task-iterator.ensures.into_iter_gives.0 c.requires.none (omega (arith, c.args.threads.ok)) c.requires.room c.requires.tasks c.requires.plan

pub start-requires-after_bounds : goal.start-requires-after_bounds
start-requires-after_bounds g c κs within =
    started-next _ _ _ _ _ _ _ _ (vec_len c.loop-task.threads) _ c.loop-task.invariant _ _ c.in-Some.ensures.steps.0 c.len-number.result
    (omega (arith, c.len-number.ensures, c.loop-task.threads.ok))

pub loop-task-preserved : goal.loop-task-preserved
loop-task-preserved g c =
    started-then _ _ _ _ _ _ _ _ (vec_len c.loop-task.threads) (vec_capacity c.loop-task.threads) c.loop-task.invariant _ _ c.in-Some.ensures.steps.0
    c.start.result c.push_reserved.new.self.items (vec_len c.push_reserved.new.self) (vec_capacity c.push_reserved.new.self) c.start.ensures
    c.push_reserved.ensures.items (omega (arith, c.push_reserved.ensures.len)) (omega (arith, c.push_reserved.ensures.capacity))
