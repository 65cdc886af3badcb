use Rattle.std.specs.Prelude.{◌≤◌, length, vec_capacity}
use Rattle.mailbox.specs.Deliveries.{InOrder}
use Rattle.mailbox.specs.Offices.{IsReceiver}
use Rattle.mailbox.specs.Posts.{Delivered}
use Rattle.mailbox.proofs.Counting.{AreCountedIn}
use Rattle.mailbox.proofs.taken_letters.take_all.Given as goal

abbrev pub invariant-loop : goal.invariant-loop
invariant-loop g l = record {
  can : (goal.iterator-loop g).can_next l.iterator';
  finite : (goal.iterator-loop g).is_finite l.iterator';
  office : IsReceiver g.Q.Fifo.is_seat g.Q.Fifo.permits g.Q.Fifo.known l.fn.office l.receiver;
  room : l.fn.due ≤ vec_capacity l.letters;
  most : length l.letters.items ≤ l.fn.due;
  delivered : Delivered g.Q.Fifo.known l.fn.receiver l.letters.items l.receiver;
  counted : AreCountedIn l.fn.office (length l.fn.counts.items) l.counts.items l.letters.items;
  order : InOrder (g.Q.Fifo.known l.receiver.seat);
}
