use Rattle.std.proofs.Common.{sym, subst}
use Rattle.std.specs.Prelude.{IfSome}
use Rattle.mailbox.specs.Offices.{IsSender}
use Rattle.mailbox.specs.Endings.{IsLeftShut}
use Rattle.mailbox.proofs.threads.leave_shut.Goals as goal

pub returns-in-Some : goal.returns-in-Some
returns-in-Some g c =
    let Is = IsSender g.Q.Fifo.is_seat g.Q.Fifo.permits g.Q.Fifo.known c.args.office.now in
    subst (λ s. IfSome s (λ _. IsLeftShut g.Q.Fifo.is_seat g.Q.Fifo.permits g.Q.Fifo.known g.Q.Fifo.shut_cause c.args.office.now)) (sym c.in-Some.is)
    (record {
      before = c.in-Some.sender;
      after = c.shut.new.self;
      was = subst (λ s. IfSome s Is) c.in-Some.is c.requires;
      is = c.shut.ensures.office;
      answer = c.shut.result;
      shut = c.shut.ensures.shut;
      refused = c.shut.ensures.refused;
      refusal = c.shut.ensures.refusal;
      caused = c.shut.ensures.caused;
    })
