-- What the seat is told by deeds it is told by entries.
use Rattle.std.proofs.Common.{subst}
use Rattle.carriers.specs.Answers.{PushedOf}
use Rattle.carriers.specs.DeedsOfNumbers.{known_by_deeds}
use Rattle.carriers.specs.ToEntries.{pushed, push_refused}
use Rattle.owned.specs.Owned.{seat_of}
use Rattle.msq_c.specs.Queues.{known_of}
use Rattle.msq_c.specs.Blocks.{known_in}
use Rattle.msq_c.proofs.seat_blocks.SeatBlock.try_push.Goals as goal

pub returns-in-Ok-clause-pushed : goal.returns-in-Ok-clause-pushed
returns-in-Ok-clause-pushed c = pushed (known_in c.args.self.now) (known_of (seat_of c.try_push.new.self)) c.args.number
    (subst (λ b. PushedOf (known_by_deeds (known_in c.args.self.now)) b (known_by_deeds (known_of (seat_of c.try_push.new.self)))) c.in-Some.ensures.value c.in-Ok.ensures.pushed)

pub returns-in-Err-clause-refused : goal.returns-in-Err-clause-refused
returns-in-Err-clause-refused c = (c.in-Err.ensures.refusal, push_refused _ _ c.in-Err.unpushed.refusal c.in-Err.ensures.refused, c.in-Err.ensures.caused)
