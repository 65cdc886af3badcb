use Rattle.std.proofs.Common.{rules, arith, refl}
use Rattle.mailbox.proofs.Order.{in_order}
use Rattle.mailbox.proofs.Counting.{counted_in-none, counted_in-then, counted_in-out_of_turn}
use Rattle.mailbox.proofs.Stopping.{all_there_open, all_there_shut, delivered_open, delivered_shut, until_refused, until_out_of_turn}
use Rattle.mailbox.proofs.Delivering.{delivered_none, delivered-then_letter}
use Rattle.mailbox.proofs.taken_letters.take_all.Goals as goal

pub loop-init : goal.loop-init
loop-init g c = record {
  can = tt;
  finite = tt;
  office = c.requires.office;
  room = c.requires.room;
  most = search rules;
  delivered = delivered_none _ _ c.args.letters.items c.requires.none;
  counted = counted_in-none _ _ _ _ refl c.requires.zero c.requires.none;
  order = in_order _ _ (g.met.Q.Fifo.sound _ _ c.requires.office.seat) c.requires.office.only;
}

pub last_due-requires-clause-shown : goal.last_due-requires-clause-shown
last_due-requires-clause-shown g c κs within =
    let took = rw c.in-Ok-Some.field-0-is at c.in-Ok-Some.ensures.answer in rw took.read.is took.read.here

pub loop-preserved : goal.loop-preserved
loop-preserved g c =
    let took = rw c.in-Ok-Some.field-0-is at c.in-Ok-Some.ensures.answer in
    let due = rw c.in-Some-last_due.is at (c.last_due.ensures.fits took.front.value c.in-Ok-Some.letter.text.now took.read) in
    record {
      can = tt;
      finite = tt;
      office = c.in-Ok-Some.ensures.office;
      room = search rules;
      most = search rules;
      delivered = rw c.push_reserved.ensures.items (delivered-then_letter _ _ _ _ _ _ _ c.loop.invariant.delivered took);
      counted =
          counted_in-then _ _ _ _ c.loop.invariant.counted c.in-Ok-Some.letter c.in-Some-last_due.place c.is_next.new.counts c.loop.counts.len c.push_reserved.new.self.items
          (omega (arith, c.loop.counts.ok)) (rw c.deref_mut.ensures.value at (c.if-not-is_next.ensures.next refl)) due c.push_reserved.ensures.items;
      order = c.in-Ok-Some.ensures.order;
    }

pub returns-in-Ok-None-clause-delivered : goal.returns-in-Ok-None-clause-delivered
returns-in-Ok-None-clause-delivered g c = delivered_open _ _ _ _ _ c.loop.invariant.delivered (rw c.in-Ok-None.field-0-is at c.in-Ok-None.ensures.answer)

pub returns-in-Ok-None-clause-short : goal.returns-in-Ok-None-clause-short
returns-in-Ok-None-clause-short g c short = all_there_open _ _ _ _ _ c.loop.invariant.delivered (rw c.in-Ok-None.field-0-is at c.in-Ok-None.ensures.answer)

pub returns-in-Err-Closed-clause-delivered : goal.returns-in-Err-Closed-clause-delivered
returns-in-Err-Closed-clause-delivered g c = delivered_shut _ _ _ _ _ c.loop.invariant.delivered (rw c.in-Err-Closed.field-0-is at c.in-Err-Closed.ensures.refused)

pub returns-in-Err-Closed-clause-short : goal.returns-in-Err-Closed-clause-short
returns-in-Err-Closed-clause-short g c short = all_there_shut _ _ _ _ _ c.loop.invariant.delivered (rw c.in-Err-Closed.field-0-is at c.in-Err-Closed.ensures.refused)

pub returns-in-Err-clause-refused : goal.returns-in-Err-clause-refused
returns-in-Err-clause-refused g c = until_refused _ _ _ _ _ c.loop.invariant.delivered _ _ c.in-Err.refusal c.in-Err.ensures.refused (λ is. c.in-Err.ensures.lost (cc))

pub returns-in_default-clause-refused : goal.returns-in_default-clause-refused
returns-in_default-clause-refused g c =
    until_out_of_turn _ _ _ _ _ c.loop.invariant.delivered _ _ _ c.in-Ok-Some.letter c.last_due.result
    c.in-Ok-Some.field-0-is c.in-Ok-Some.ensures.answer c.last_due.ensures.is (rw c.in_default.is tt)

pub returns-then-not-is_next-clause-refused : goal.returns-then-not-is_next-clause-refused
returns-then-not-is_next-clause-refused g c =
    until_out_of_turn _ _ _ _ _ c.loop.invariant.delivered _ _ _ c.in-Ok-Some.letter c.last_due.result
    c.in-Ok-Some.field-0-is c.in-Ok-Some.ensures.answer c.last_due.ensures.is
    (rw c.in-Some-last_due.is (counted_in-out_of_turn _ _ _ _ c.loop.invariant.counted _ _ (rw c.deref_mut.ensures.value at (c.if-not-is_next.ensures.other refl))))
