use Rattle.std.proofs.Common.{◌∙◌, ap}
use Rattle.std.proofs.lemmas.Result.{err_from_is_err_and}
use Rattle.mail_engine.specs.MailTexts.{said_letters}
use Rattle.mailbox.specs.Offices.{queue_in}
use Rattle.mailbox.proofs.Plans.{queue_in-same, receiver_of-same}
use Rattle.mail_engine.proofs.Carried.{carried}
use Rattle.mail_engine.proofs.Rows.{unused_last}
use Rattle.mail_engine.proofs.SenderTasks.{letters_within, tasks_of-senders}
use Rattle.mail_engine.proofs.Told.{AreBrought, are_brought, writes_taken, begins_taken}
use Rattle.mail_engine.proofs.engine.post_over.Given.{Over}
use Rattle.mail_engine.proofs.engine.post_over.Goals.{In_ok-letters}
use Rattle.mail_engine.proofs.engine.post_over.Goals as goal

pub tasks_of-requires-after_bounds : goal.tasks_of-requires-after_bounds
tasks_of-requires-after_bounds g c κs within =
    letters_within c.args.mail.senders c.args.mail.letters.items c.in_ok-office.senders.items c.args.seats.items c.requires.mail.each
    c.in_ok-office.ensures.opens.senders c.requires.opened.count

pub for_tasks-requires-after_bounds : goal.for_tasks-requires-after_bounds
for_tasks-requires-after_bounds g c κs within =
    tasks_of-senders g.Q.Fifo.is_seat g.Q.Fifo.permits g.Q.Fifo.known c.in_ok-office.office c.in_ok-office.senders.items c.in_ok-tasks.tasks.items
    c.in_ok-tasks.ensures.senders c.in_ok-office.ensures.each

pub post-receiver-requires-clause-receiver : goal.post-receiver-requires-clause-receiver
post-receiver-requires-clause-receiver g c κs within =
    receiver_of-same g.Q.Fifo.is_seat g.Q.Fifo.permits g.Q.Fifo.known c.in_ok-office.office c.in_ok-planned.planned c.in_ok-planned.ensures.queue
    c.in_ok-office.receiver c.in_ok-office.ensures.receiver

-- the letters that came are those that were said
are : (g : Over) (c : In_ok-letters g) → AreBrought c.args.mail.senders (said_letters c.args.mail.letters.items) c.in_ok-letters.field-0.items
are g c =
    let same = queue_in-same c.in_ok-office.office c.in_ok-planned.planned c.in_ok-planned.ensures.queue ∙ c.in_ok-office.ensures.opens.queue_is in
    let here = g.met.Q.Fifo g.world.𝓛 g.world.𝓜 g.world.𝓡 ((λ s x. x), (λ x. x), (λ x. x), λ x. x) in
    let posted = c.post-receiver.ensures in
    are_brought (g.Q.Fifo.permits (queue_in c.in_ok-planned.planned)) g.Q.Fifo.known c.args.mail.senders c.in_ok-tasks.tasks.items c.args.mail.letters.items
    c.in_ok-office.ensures.opens.senders c.requires.opened.count c.in_ok-tasks.ensures.senders c.in_ok-tasks.ensures.texts c.in_ok-tasks.ensures.all
    (rw c.in_ok-letters.was at posted.all) (rw c.in_ok-letters.was at posted.texts) (ap g.Q.Fifo.permits same ∙ c.requires.opened.permitted)
    (here.sound _ _ posted.receiver.seat) (rw c.in_ok-letters.was at posted.delivered)

pub returns-clause-ok : goal.returns-clause-ok
returns-clause-ok g c =
    writes_taken (are g (goal.at.returns-clause-ok g c).In_ok-letters) (g.W.Sink.state c.args.writer.now) (g.W.Sink.state c.tell.new.writer) c.in_ok-tell.ensures.ok

pub returns-in_err-tell-clause-prefix : goal.returns-in_err-tell-clause-prefix
returns-in_err-tell-clause-prefix g c =
    let p = err_from_is_err_and c.from_residual-in_err-tell.result c.from_residual-in_err-tell.ensures.1 in
    let came = are g (goal.at.returns-in_err-tell-clause-prefix g c).In_ok-letters in
    rw (p.1, p.2) (λ e. begins_taken came (g.W.Sink.state c.args.writer.now) (g.W.Sink.state c.tell.new.writer) (c.in_err-tell.ensures.prefix e))

pub returns-clause-carried : goal.returns-clause-carried
returns-clause-carried g c =
    let none = unused_last (g.Q.Fifo.permits c.args.queue) g.Q.Fifo.known c.args.seats.items c.args.receiver c.requires.opened.new in
    let unused = ap (λ s. (g.Q.Fifo.known s).mine) c.in_ok-office.ensures.opens.receiver ∙ none in
    carried g.Q.Fifo.is_seat g.Q.Fifo.permits g.Q.Fifo.known (are g (goal.at.returns-clause-carried g c).In_ok-letters) (queue_in c.in_ok-planned.planned)
    (rw c.in_ok-letters.was at c.post-receiver.ensures.delivered) unused c.post-receiver.ensures.receiver.seat c.post-receiver.ensures.receiver.only

pub returns-clause-over : goal.returns-clause-over
returns-clause-over g c = queue_in-same c.in_ok-office.office c.in_ok-planned.planned c.in_ok-planned.ensures.queue ∙ c.in_ok-office.ensures.opens.queue_is
