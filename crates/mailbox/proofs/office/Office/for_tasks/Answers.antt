use Rattle.std.proofs.Common.{refl}
use Rattle.mailbox.proofs.Plans.{tasks_of-same}
use Rattle.mailbox.proofs.office.Office.for_tasks.Goals as goal

pub returns-in-Ok-clause-tasks : goal.returns-in-Ok-clause-tasks
returns-in-Ok-clause-tasks g c =
    tasks_of-same g.Q.Fifo.is_seat g.Q.Fifo.permits g.Q.Fifo.known c.args.self _ refl c.args.tasks.now.items c.requires
