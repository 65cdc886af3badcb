use Rattle.std.specs.Prelude.{◌≡◌, ◌+◌, length}
use Rattle.mailbox.specs.Plans.{AreDue}
use Rattle.mailbox.specs.Offices.{IsSender, marks}
use Rattle.mailbox.specs.Posts.{AddsEntries}
use Rattle.mailbox.proofs.threads.send_texts.Given as goal

abbrev pub invariant-loop-text : goal.invariant-loop-text
invariant-loop-text g l = record {
  can : (goal.iterator-loop-text g).can_next l.text-iterator;
  finite : (goal.iterator-loop-text g).is_finite l.text-iterator;
  office : IsSender g.Q.Fifo.is_seat g.Q.Fifo.permits g.Q.Fifo.known l.fn.office l.sender;
  place : l.place + length l.text-iterator.rest.items ≡ length l.fn.texts.items;
  sent : AddsEntries g.Q.Fifo.known l.fn.sender l.place l.sender;
  due : AreDue (marks l.fn.office) l.fn.number l.place l.text-iterator.rest.items;
}
