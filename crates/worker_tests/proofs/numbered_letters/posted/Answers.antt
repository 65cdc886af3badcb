use Rattle.mailbox.proofs.Plans.{receiver_of-same}
use Rattle.mail_engine.proofs.SenderTasks.{tasks_of-senders}
use Rattle.worker_tests.proofs.numbered_letters.posted.Goals as goal

pub for_tasks-requires-after_bounds : goal.for_tasks-requires-after_bounds
for_tasks-requires-after_bounds g c κs within =
    tasks_of-senders g.Q.Fifo.is_seat g.Q.Fifo.permits g.Q.Fifo.known c.in_ok-office.office c.in_ok-office.senders.items c.in_ok-tasks.tasks.items
    c.in_ok-tasks.ensures c.in_ok-office.ensures.each

pub post-receiver-requires-clause-receiver : goal.post-receiver-requires-clause-receiver
post-receiver-requires-clause-receiver g c κs within =
    receiver_of-same g.Q.Fifo.is_seat g.Q.Fifo.permits g.Q.Fifo.known c.in_ok-office.office c.in_ok-planned.planned c.in_ok-planned.ensures.queue
    c.in_ok-office.receiver c.in_ok-office.ensures.receiver
