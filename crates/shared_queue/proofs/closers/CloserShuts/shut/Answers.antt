-- The seat is its queue's by its type, and may push. A busy try is one more in vain.
use Rattle.std.proofs.Common.{[], ◌∷◌, IfErr, refl, sym, subst, ◌∙◌, arith}
use Rattle.history.specs.Seats.{MayPush}
use Rattle.carriers.specs.Answers.{PushRefusedOf}
use Rattle.shared_queue.specs.Queues.{queue_of}
use Rattle.carriers.proofs.Learning.{sees_itself, sees_then}
use Rattle.shared_queue.proofs.Shares.{shuts_in}
use Rattle.shared_queue.proofs.Tries.{once_more}
use Rattle.shared_queue.proofs.closers.CloserShuts.shut.Goals as goal

pub loop-init : goal.loop-init
loop-init g c = record {
  sits = shuts_in g.met.C.Carrier.seat_prop c.args.self.queue.value c.args.self refl;
  more = sees_itself _;
  states = [];
  many = refl;
  each = refl;
}

pub loop-preserved : goal.loop-preserved
loop-preserved g c =
    let C = g.C.Carrier in
    let q = queue_of c.args.self.queue.value in
    let s = c.loop.seat in
    let s' = c.try_shut.new.seat in
    let i = c.loop.invariant in
    let answer = c.in-Err-Busy.ensures in
    let many = i.many in
    let more = subst (λ r. PushRefusedOf (C.known s) r (C.known s')) c.in-Err-Busy.field-0-is answer.refused in
    let caused = subst (λ b. C.shut_cause (queue_of b) s s' 8 c.in-Err-Busy.field-0) c.deref.ensures answer.caused in
    record {
      sits = (subst (λ b. C.is_seat (queue_of b) s') c.deref.ensures answer.seat, subst (MayPush (C.permits q)) (sym answer.number) i.sits.1);
      more = sees_then _ _ _ i.more more;
      states = s ∷ i.states;
      many = omega (arith, many);
      each = (i.each, record { seat = i.sits.0; more = more; caused = subst (C.shut_cause q s s' 8) c.in-Err-Busy.field-0-is caused });
    }

pub returns-clause-busy : goal.returns-clause-busy
returns-clause-busy g c =
    let C = g.C.Carrier in
    let i = c.loop.invariant in
    let s = c.loop.seat in
    let answer = c.try_shut-answer in
    let over = c.loop-test.false in
    let within = c.loop.auto.counter-end in
    once_more C.is_seat C.known C.shut_cause (queue_of c.args.self.queue.value) i.states c.args.self.seat s answer.new.seat i.sits.0 i.each
    65536 (i.many ∙ omega (arith, over, within)) answer.result answer.ensures.refused
    (subst (λ b. IfErr answer.result (C.shut_cause (queue_of b) s answer.new.seat 8)) c.deref-2.ensures answer.ensures.caused)
