use Rattle.std.proofs.Common.{arith, ◌≡◌, ◌∙◌, ◌∷◌, [], ap, subst, length}
use Rattle.std.specs.Prelude.{Err}
use Rattle.std.proofs.lemmas.Grind.{common_steps}
use Rattle.mailbox.specs.Plans.{AreDue}
use Rattle.mailbox.specs.Offices.{marks}
use Rattle.mailbox.proofs.Delivering.{length-adds}
use Rattle.mailbox.proofs.Plans.{due_first, due_rest}
use Rattle.mailbox.proofs.Sending.{has_ended-all, has_ended-at}
use Rattle.mailbox.proofs.threads.send_texts.Given.{Over}
use Rattle.mailbox.proofs.threads.send_texts.Goals.{In-Some}
use Rattle.mailbox.proofs.threads.send_texts.Goals as goal

-- the texts that are left are the next one and others
split : (g : Over) (c : In-Some g) → c.loop-text.text-iterator.rest.items ≡ c.in-Some.text ∷ c.next.new.self.rest.items
split g c = let steps = c.in-Some.ensures.steps in grind (arith, common_steps)

pub send_due-requires-clause-due : goal.send_due-requires-clause-due
send_due-requires-clause-due g c κs within =
    due_first (marks c.args.office.now) c.args.number c.loop-text.place c.in-Some.text c.next.new.self.rest.items
    (subst (AreDue (marks c.args.office.now) c.args.number c.loop-text.place) (split g (goal.at.send_due-requires-clause-due g c).In-Some) c.loop-text.invariant.due)

pub loop-text-preserved : goal.loop-text-preserved
loop-text-preserved g c =
    let next = split g (goal.at.loop-text-preserved g c).In-Some in
    let more = length-adds (g.Q.Fifo.known c.loop-text.sender.seat) (g.Q.Fifo.known c.send_due.new.self.seat) _ c.in_default.ensures.sent.pushed in
    record {
      can = tt;
      finite = tt;
      office = c.send_due.ensures.office;
      place = omega (arith, ap length next, c.loop-text.invariant.place);
      due = due_rest (marks c.args.office.now) c.args.number c.loop-text.place c.in-Some.text c.next.new.self.rest.items
          (subst (AreDue (marks c.args.office.now) c.args.number c.loop-text.place) next c.loop-text.invariant.due);
      sent = omega (arith, more, c.loop-text.invariant.sent);
    }

pub returns-in-Err-clause-ended : goal.returns-in-Err-clause-ended
returns-in-Err-clause-ended g c =
    let was = c.loop-text.invariant in
    rw c.refused.ensures
    (has_ended-at g.Q.Fifo.is_seat g.Q.Fifo.known g.Q.Fifo.push_cause c.args.office.now c.args.sender.now c.loop-text.sender c.args.texts.items _ c.loop-text.place
    was.place was.sent c.in-Some.text _ c.in-Err.refusal (split g (goal.at.returns-in-Err-clause-ended g c).In-Some)
    (record {
      text = c.in-Some.text;
      after = c.send_due.new.self;
      nothing = c.in-Err.ensures.refused;
      caused = c.in-Err.ensures.caused;
      memory = λ none. c.send_due.ensures.memory (c.in-Err.is ∙ ap Err none);
      no_body = λ none. c.send_due.ensures.no_body (c.in-Err.is ∙ ap Err none);
    }))

pub returns-clause-ended : goal.returns-clause-ended
returns-clause-ended g c =
    let steps = c.in-None.ensures.steps in
    let none : c.loop-text.text-iterator.rest.items ≡ [] = grind (arith, common_steps) in
    rw c.well.ensures
    (has_ended-all g.Q.Fifo.is_seat g.Q.Fifo.known g.Q.Fifo.push_cause c.args.office.now c.args.sender.now c.loop-text.sender c.args.texts.items _ c.loop-text.place
    c.loop-text.invariant.place c.loop-text.invariant.sent none)
