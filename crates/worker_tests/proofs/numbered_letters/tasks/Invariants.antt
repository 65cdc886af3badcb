use Rattle.std.proofs.Common.{◌≡◌, ◌++◌, map}
use Rattle.worker_tests.proofs.numbered_letters.tasks.Given as goal

abbrev pub invariant-loop-sender : goal.invariant-loop-sender
invariant-loop-sender g l = map (λ t. t.sender) l.tasks.items ++ l.sender-iterator.rest.items ≡ l.fn.senders.items
