use Rattle.std.proofs.Common.{◌≡◌, true}
use Rattle.placing.specs.Kinds.{is_told_shut}
use Rattle.placing.proofs.shut_reasons.is_undrained.Goals as goal

pub returns-then-is_told_shut : goal.returns-then-is_told_shut
returns-then-is_told_shut c = λ holds. record {
  operation = c.in-Some.operation.now;
  from = 18446744073709551615;
  until = c.in-Deq-Some.until;
  stands = c.in-Some.ensures;
  pops = c.in-Deq-Some.is-0;
  told = (let told : is_told_shut c.in-Some.operation.now.reply ≡ true = cc in told);
  ended = c.in-Deq-Some.is-1;
  stays = c.is_there.ensures holds;
}
