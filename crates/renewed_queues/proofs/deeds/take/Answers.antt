use Rattle.std.proofs.Common.{rules, ◌≡◌, subst}
use Rattle.carriers.proofs.Shutting.{drained_until_shut}
use Rattle.carriers.specs.Shuts.{seat_of}
use Rattle.renewed_queues.specs.Deeds.{Took}
use Rattle.renewed_queues.proofs.Takings.{values_more, each_more, took}
use Rattle.renewed_queues.proofs.deeds.take.Goals as goal

pub loop-item-preserved : goal.loop-item-preserved
loop-item-preserved g c =
    let was = c.loop-item.invariant in
    record {
      can = search rules;
      finite = tt;
      queue = search rules;
      same = search rules;
      values = values_more _ c.loop-item.values.items _ c.loop-item.yielded c.in-Some.item c.in_ok-item.field-0 (search rules) was.values (search rules);
      each = each_more c.loop-item.yielded c.in-Some.item c.in_ok-item.field-0 (search rules) was.each;
    }

pub returns-clause-took : goal.returns-clause-took
returns-clause-took g c =
    let fifo = g.Q.Fifo in
    let was = c.loop-item.invariant in
    let begun = c.into_iter-item-iterator.result in
    let drained = drained_until_shut fifo.is_seat fifo.known fifo.pop_cause begun c.next.new.self c.loop-item.yielded (search rules)
    (c.loop-item.item-iterator, c.loop-item.yielded_by, c.in-None.ensures.steps) in
    let first : (seat_of begun).now ≡ c.args.seat.now = search rules in
    let before = c.args.values.now.items in
    let after = c.loop-item.values.items in
    let done : Took (fifo.known c.args.seat.now) before after (fifo.known (seat_of c.next.new.self).now) =
    subst (λ s. Took (fifo.known s) before after (fifo.known (seat_of c.next.new.self).now)) first (took _ _ before after c.loop-item.yielded was.values was.each drained) in
    search (rules, done)
