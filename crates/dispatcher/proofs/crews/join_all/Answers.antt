use Rattle.std.proofs.Common.{◌∙◌, ◌++◌, ◌∷◌, [], ap, sym, subst, length, append_assoc, arith}
use Rattle.std.specs.List.{AllZip}
use Rattle.shared_queue.specs.Queues.{numbers_in}
use Rattle.dispatcher.specs.Crews.{Returned}
use Rattle.dispatcher.proofs.Taking.{zip-push}
use Rattle.dispatcher.proofs.crews.join_all.Goals as goal

pub loop-one-init : goal.loop-one-init
loop-one-init g c =
    let gives = c.into_iter-one-iterator.ensures.into_iter_gives.0 in
    let few = ap length gives in
    let none = ap length c.requires.none in
    let room = c.requires.room in (
      [],
      gives,
      subst (AllZip (Returned {X = g.row.X.Denot} g.Q.Fifo.is_seat g.Q.Fifo.known g.Q.Fifo.pop_cause (numbers_in c.args.queue.now) c.args.jobs.now g.X.Excuse.cause g.G.Gate.done c.args.gate.now) []) (sym c.requires.none) tt,
      omega (arith, few, none, room),
    )

pub loop-one-preserved : goal.loop-one-preserved
loop-one-preserved g c =
    let Returns = Returned {X = g.row.X.Denot} g.Q.Fifo.is_seat g.Q.Fifo.known g.Q.Fifo.pop_cause (numbers_in c.args.queue.now) c.args.jobs.now g.X.Excuse.cause g.G.Gate.done c.args.gate.now in
    let was = c.loop-one.invariant in
    let split = c.in-Some.ensures.steps.0 in
    let one = c.in-Some.one in
    let rest = c.next.new.self.rest.items in
    let fewer = ap length split in
    let room = was.3 in
    let len = c.push_reserved.ensures.len in
    let cap = c.push_reserved.ensures.capacity in (
      was.0 ++ one ∷ [],
      append_assoc was.0 (one ∷ []) rest ∙ ap (λ l. was.0 ++ l) (sym split) ∙ was.1,
      subst (AllZip Returns (was.0 ++ one ∷ [])) (sym c.push_reserved.ensures.items) (zip-push Returns was.0 c.loop-one.workers.items one c.join_one.result was.2 c.join_one.ensures),
      omega (arith, fewer, room, len, cap),
    )
