use Rattle.std.proofs.Common.{◌∷◌, [], refl, sym, subst}
use Rattle.mailbox.specs.declared.threads.Started.TheVariants.{Running, Unstarted}
use Rattle.mailbox.specs.Offices.{IsSender}
use Rattle.mailbox.specs.Threads.{TellFirst, IsOfOffice}
use Rattle.mailbox.proofs.Telling.{tell_one}
use Rattle.mailbox.proofs.threads.join_one.Goals as goal

pub returns-in-Running-clause-told : goal.returns-in-Running-clause-told
returns-in-Running-clause-told g c =
    let is_seat = g.Q.Fifo.is_seat in
    let known = g.Q.Fifo.known in
    let cause = g.Q.Fifo.push_cause in
    subst (λ t. TellFirst is_seat known cause (t ∷ []) c.told_of.result.0) (sym c.in-Running.is)
    (tell_one is_seat known cause (Running c.in-Running.handle) c.join.result.end.refusal c.told_of.result.0 c.join.ensures.ended c.told_of.ensures.told)

pub returns-in-Unstarted-clause-told : goal.returns-in-Unstarted-clause-told
returns-in-Unstarted-clause-told g c =
    let is_seat = g.Q.Fifo.is_seat in
    let known = g.Q.Fifo.known in
    let cause = g.Q.Fifo.push_cause in
    subst (λ t. TellFirst is_seat known cause (t ∷ []) c.told_of-in-Unstarted.result.0) (sym c.in-Unstarted.is)
    (tell_one is_seat known cause (Unstarted c.in-Unstarted.back) c.in-Unstarted.back.end.refusal c.told_of-in-Unstarted.result.0 refl c.told_of-in-Unstarted.ensures.told)

pub returns-in-Running-clause-sender : goal.returns-in-Running-clause-sender
returns-in-Running-clause-sender g c =
    let of = subst (IsOfOffice g.Q.Fifo.is_seat g.Q.Fifo.permits g.Q.Fifo.known c.args.office.now) c.in-Running.is c.requires in
    subst (IsSender g.Q.Fifo.is_seat g.Q.Fifo.permits g.Q.Fifo.known c.args.office.now) (sym c.told_of.ensures.sender)
    (subst (λ o. IsSender g.Q.Fifo.is_seat g.Q.Fifo.permits g.Q.Fifo.known o c.join.result.sender) of c.join.ensures.sender)

pub returns-in-Unstarted-clause-sender : goal.returns-in-Unstarted-clause-sender
returns-in-Unstarted-clause-sender g c =
    subst (IsSender g.Q.Fifo.is_seat g.Q.Fifo.permits g.Q.Fifo.known c.args.office.now) (sym c.told_of-in-Unstarted.ensures.sender)
    (subst (IsOfOffice g.Q.Fifo.is_seat g.Q.Fifo.permits g.Q.Fifo.known c.args.office.now) c.in-Unstarted.is c.requires)
