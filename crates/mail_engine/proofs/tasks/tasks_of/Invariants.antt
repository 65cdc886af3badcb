use Rattle.std.proofs.Common.{◌≡◌, ◌+◌, map, length}
use Rattle.std.specs.List.{All}
use Rattle.text_io.specs.Numerals.{IsWithin}
use Rattle.mailbox.specs.Posts.{letters_of}
use Rattle.mail_engine.proofs.Shares.{HaveBut}
use Rattle.mail_engine.proofs.tasks.tasks_of.Given as goal

abbrev pub invariant-loop-letter : goal.invariant-loop-letter
invariant-loop-letter g l = record {
  senders : map (λ t. t.sender) l.tasks.items ≡ l.fn.senders.items;
  texts : HaveBut l.tasks.items l.letter-iterator.rest.items l.fn.letters.items;
  all : letters_of l.tasks.items + length l.letter-iterator.rest.items ≡ length l.fn.letters.items;
  numbered : All (λ e. IsWithin 1 (length l.fn.senders.items) e.from) l.letter-iterator.rest.items;
}
