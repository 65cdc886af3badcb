use Rattle.std.proofs.Common.{arith, ◌<◌, sym, ap, subst, inr, length}
use Rattle.mailbox.specs.Posts.{letters_of}
use Rattle.mailbox.specs.Refusals.{EndsPost}
use Rattle.mailbox.proofs.Order.{in_order}
use Rattle.mailbox.proofs.Plans.{due_of-tasks}
use Rattle.mailbox.proofs.Telling.{told_or_lost, missing, of_office, came_back, have_ended}
use Rattle.mailbox.proofs.threads.run.Goals as goal

pub returns-in_default-clause-order : goal.returns-in_default-clause-order
returns-in_default-clause-order g c =
    in_order _ _ ((g.met.Q.Fifo g.world.𝓛 g.world.𝓜 g.world.𝓡 ((λ s x. x), (λ x. x), (λ x. x), λ x. x)).sound _ _ c.requires.receiver.seat) c.requires.receiver.only

pub returns-in_default-reserve-clause-order : goal.returns-in_default-reserve-clause-order
returns-in_default-reserve-clause-order g c =
    in_order _ _ ((g.met.Q.Fifo g.world.𝓛 g.world.𝓜 g.world.𝓡 ((λ s x. x), (λ x. x), (λ x. x), λ x. x)).sound _ _ c.requires.receiver.seat) c.requires.receiver.only

pub returns-in_default-vec-clause-order : goal.returns-in_default-vec-clause-order
returns-in_default-vec-clause-order g c =
    in_order _ _ ((g.met.Q.Fifo g.world.𝓛 g.world.𝓜 g.world.𝓡 ((λ s x. x), (λ x. x), (λ x. x), λ x. x)).sound _ _ c.requires.receiver.seat) c.requires.receiver.only

pub returns-in_default-reserve-2-clause-order : goal.returns-in_default-reserve-2-clause-order
returns-in_default-reserve-2-clause-order g c =
    in_order _ _ ((g.met.Q.Fifo g.world.𝓛 g.world.𝓜 g.world.𝓡 ((λ s x. x), (λ x. x), (λ x. x), λ x. x)).sound _ _ c.requires.receiver.seat) c.requires.receiver.only

pub join_all-refused-requires-after_bounds : goal.join_all-refused-requires-after_bounds
join_all-refused-requires-after_bounds g c κs within =
    of_office g.Q.Fifo.is_seat g.Q.Fifo.known g.Q.Fifo.push_cause g.Q.Fifo.permits c.args.office.now c.args.tasks.items c.start_all-threads.result.items c.start_all-threads.ensures

pub leave_shut-requires-after_bounds : goal.leave_shut-requires-after_bounds
leave_shut-requires-after_bounds g c κs within =
    came_back g.Q.Fifo.is_seat g.Q.Fifo.known g.Q.Fifo.push_cause g.Q.Fifo.permits c.args.office.now c.start_all-threads.result.items c.join_all-refused.result.1 c.join_all-refused.ensures.back

pub returns-clause-leaves : goal.returns-clause-leaves
returns-clause-leaves g c =
    inr (have_ended _ _ _ _ _ _ _ _ _ c.join_all-refused.result.1 c.start_all-threads.ensures c.join_all-refused.ensures.first c.join_all-refused.ensures.back c.leave_shut.ensures)

pub returns-in_err-letters-clause-leaves : goal.returns-in_err-letters-clause-leaves
returns-in_err-letters-clause-leaves g c =
    inr (have_ended _ _ _ _ _ _ _ _ _ c.join_all-refused.result.1 c.start_all-threads.ensures c.join_all-refused.ensures.first c.join_all-refused.ensures.back c.leave_shut.ensures)

pub returns-then-len-due-clause-leaves : goal.returns-then-len-due-clause-leaves
returns-then-len-due-clause-leaves g c =
    inr (have_ended _ _ _ _ _ _ _ _ _ c.join_all-refused.result.1 c.start_all-threads.ensures c.join_all-refused.ensures.first c.join_all-refused.ensures.back c.leave_shut.ensures)

pub returns-then-len-due-clause-refusal : goal.returns-then-len-due-clause-refusal
returns-then-len-due-clause-refusal g c = subst EndsPost (sym c.unwrap_or.ensures) (told_or_lost c.join_all-refused.result.0 c.join_all-refused.ensures.refusal)

pub returns-then-len-due-clause-caused : goal.returns-then-len-due-clause-caused
returns-then-len-due-clause-caused g c =
    let short : length c.in_ok-letters.letters.items < c.in-Some.due = omega (arith, c.in_ok-letters.letters.ok, c.len.ensures, c.if-len-due.true) in
    rw c.unwrap_or.ensures
    (inr (inr (missing _ _ _ g.Q.Fifo.permits _ c.args.tasks.items c.start_all-threads.result.items c.in_ok-letters.letters.items _ _ _ c.start_all-threads.ensures c.join_all-refused.ensures.first
    (c.in_ok-letters.ensures.short short) (omega (arith, short, c.in-Some.ensures, ap letters_of c.deref.ensures.value)))))

pub returns-clause-texts : goal.returns-clause-texts
returns-clause-texts g c =
    due_of-tasks c.args.office.now c.args.tasks.items c.in_ok-letters.letters.items (length c.in-Ok-vec.counts.items) c.in_ok-letters.ensures.texts c.requires.plan
    (omega (arith, c.in-Ok-vec.ensures.len, c.len-senders.ensures, c.in-Ok-vec.counts.ok, c.args.tasks.ok))
    (omega (arith, c.in_ok-letters.ensures.most, c.if-len-due.false, c.in-Some.ensures, ap letters_of c.deref.ensures.value, c.in_ok-letters.letters.ok, c.len.ensures))
