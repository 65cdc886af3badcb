use Rattle.std.proofs.Common.{◌≡◌, ◌++◌, [], map}
use Rattle.std.specs.List.{All}
use Rattle.mailbox.specs.Posts.{letters_of}
use Rattle.mail_engine.proofs.tasks.idle_tasks.Given as goal

abbrev pub invariant-loop-sender : goal.invariant-loop-sender
invariant-loop-sender g l = record {
  senders : map (λ t. t.sender) l.tasks.items ++ l.sender-iterator.rest.items ≡ l.fn.senders.items;
  none : All (λ t. t.texts.items ≡ []) l.tasks.items;
  few : letters_of l.tasks.items ≡ 0;
}
