use Rattle.std.proofs.Common.{rules, arith}
use Rattle.msq.proofs.LineNumbers.{IsLineAt-behind}
use Rattle.msq.proofs.notes.Kept.line.Goals as goal

pub loop-preserved : goal.loop-preserved
loop-preserved c = record {
  bound = omega arith;
  leads = λ says is. c.loop.invariant.leads says
      (IsLineAt-behind c.loop.counter c.in_ok-end.end c.loop.rest.now c.in_ok-rest.field-0-0.now c.in_ok-rest.field-0-1.now says (omega arith) (search rules) (search rules) is);
}
