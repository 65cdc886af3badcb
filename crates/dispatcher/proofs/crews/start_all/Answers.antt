use Rattle.std.proofs.Common.{◌∙◌, ◌++◌, ◌∷◌, [], ap, sym, subst, length, append_assoc, arith}
use Rattle.std.specs.List.{AllZip}
use Rattle.shared_queue.specs.Queues.{numbers_in}
use Rattle.dispatcher.specs.Crews.{IsStartedFor}
use Rattle.dispatcher.proofs.Taking.{zip-push}
use Rattle.dispatcher.proofs.crews.start_all.Goals as goal

pub loop-seat-init : goal.loop-seat-init
loop-seat-init g c =
    let gives = c.into_iter-seat-iterator.ensures.into_iter_gives.0 in
    let few = ap length gives in
    let none = ap length c.requires.none in
    let room = c.requires.room in (
      [],
      gives,
      subst (AllZip (IsStartedFor g.Q.Fifo.is_seat g.Q.Fifo.known g.Q.Fifo.pop_cause (numbers_in c.args.queue.now) c.args.jobs.now g.X.Excuse.cause g.G.Gate.done c.args.gate.now) []) (sym c.requires.none) tt,
      omega (arith, few, none, room),
    )

pub loop-seat-preserved : goal.loop-seat-preserved
loop-seat-preserved g c =
    let Starts = IsStartedFor g.Q.Fifo.is_seat g.Q.Fifo.known g.Q.Fifo.pop_cause (numbers_in c.args.queue.now) c.args.jobs.now g.X.Excuse.cause g.G.Gate.done c.args.gate.now in
    let was = c.loop-seat.invariant in
    let split = c.in-Some.ensures.steps.0 in
    let seat = c.in-Some.seat in
    let rest = c.next.new.self.rest.items in
    let fewer = ap length split in
    let room = was.3 in
    let len = c.push_reserved.ensures.len in
    let cap = c.push_reserved.ensures.capacity in (
      was.0 ++ seat ∷ [],
      append_assoc was.0 (seat ∷ []) rest ∙ ap (λ l. was.0 ++ l) (sym split) ∙ was.1,
      subst (AllZip Starts (was.0 ++ seat ∷ [])) (sym c.push_reserved.ensures.items) (zip-push Starts was.0 c.loop-seat.started.items seat c.start.result was.2 c.start.ensures),
      omega (arith, fewer, room, len, cap),
    )
