use Rattle.std.specs.Prelude.{◌≡◌, take}
use Rattle.mailbox.specs.Posts.{letters_of}
use Rattle.mailbox.proofs.due_texts.count_letters.Given as goal

abbrev pub invariant-loop-task : goal.invariant-loop-task
invariant-loop-task g l = l.count ≡ letters_of (take l.task-index l.fn.tasks)
