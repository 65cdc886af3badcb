-- The lemmas are the law.
use Rattle.step_machine.proofs.NonBlockingLaws.{refuse_with_cause, own_next_is_worn, head_is_never_worn, never_for_head}
use Rattle.step_machine.proofs.non_blocking_laws.refusals_have_their_cause.Goals as goal

pub returns : goal.returns
returns c =
    record {
      causes = refuse_with_cause;
      own_next = own_next_is_worn;
      never_head = head_is_never_worn;
      in_history = never_for_head;
    }
