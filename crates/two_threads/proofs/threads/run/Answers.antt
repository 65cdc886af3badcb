use Rattle.std.proofs.Common.{◌∙◌, ap, sym, subst}
use Rattle.history.specs.Values.{OnlyPushes, OnlyPops}
use Rattle.carriers.specs.Numbers.{fifo_of}
use Rattle.carriers.specs.ToEntries.{meets}
use Rattle.two_threads.proofs.Orders.{in_order}
use Rattle.two_threads.proofs.threads.run.Goals as goal

pub returns-clause-taken : goal.returns-clause-taken
returns-clause-taken g c =
    let here = g.met.Q.Fifo g.world.𝓛 g.world.𝓜 g.world.𝓡 ((λ s x. x), (λ x. x), (λ x. x), λ x. x) in
    let known = g.Q.Fifo.known in
    let met = meets (known c.in_ok-giver.giver) (known c.in_ok-taker.taker) (known c.meet.new.one) (known c.meet.new.other) c.meet.ensures.meets in
    let took = rw c.in_ok-taker.was at c.both-taken.ensures.taken in
    let back = sym (ap fifo_of c.new-queue.ensures ∙ c.new-numbers.ensures) in
    let gave = rw c.in_ok-giver.was at c.both-taken.ensures.given in
    in_order _ _ _ _ _ c.args.most _ _ met.second.between (here.sound _ _ c.meet.ensures.one) (here.sound _ _ c.meet.ensures.other) met.same
    (subst (λ q. OnlyPushes (g.Q.Fifo.permits q) (g.Q.Fifo.known c.args.giver).number) back c.requires.gives.alone)
    (subst (λ q. OnlyPops (g.Q.Fifo.permits q) (g.Q.Fifo.known c.args.taker).number) back c.requires.pops) (met.first.number ∙ gave.number) (met.second.number ∙ took.popped.number)
    (met.first.mine ∙ gave.mine) (met.second.mine ∙ took.popped.mine) met.second.seen took.done
