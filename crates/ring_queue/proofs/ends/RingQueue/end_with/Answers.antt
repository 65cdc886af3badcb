use Rattle.std.proofs.Common.{sym, ap, ◌∙◌, arith}
use Rattle.std.specs.Slots.{slots_counts}
use Rattle.ring_queue.specs.Plans.{Layout}
use Rattle.ring_queue.proofs.Closed.{no_slots, numbers_closed}
use Rattle.ring_queue.proofs.Tokens.{enters, took_none}
use Rattle.ring_queue.proofs.ends.RingQueue.end_with.Goals as goal

pub load_new_seat-requires : goal.load_new_seat-requires
load_new_seat-requires c = let words = c.args.self.laid.words in (omega (arith, words), enters _ _ _)

pub gather-requires-clause-gatherer : goal.gather-requires-clause-gatherer
gather-requires-clause-gatherer c = took_none _ _ c.load_new_seat.ensures.0 c.load_new_seat.ensures.1 c.load_new_seat.ensures.2

pub free-requires : goal.free-requires
free-requires c =
    let none = no_slots c.args.self c.args.seats.items c.requires.seats c.requires.all in
    let count = c.close_with-closed.ensures.counts.1 in
    λ k lt. absurd (omega (arith, lt, count, none))

pub rest_of-rest-requires-clause-words : goal.rest_of-rest-requires-clause-words
rest_of-rest-requires-clause-words c =
    let same = ap (λ (z : Layout). z.slots) c.plan.view_is in
    let count = sym (slots_counts c.close_with-closed.result.words).0 ∙ c.close_with-closed.ensures.counts.0 in
    (numbers_closed c.args.self c.args.seats.items c.requires.seats c.requires.all _ _ _ _ _ same count c.gather.ensures.seat c.close_with-closed.ensures.values.2).there

pub rest_of-rest-requires-clause-low : goal.rest_of-rest-requires-clause-low
rest_of-rest-requires-clause-low c =
    let same = ap (λ (z : Layout). z.slots) c.plan.view_is in
    let count = sym (slots_counts c.close_with-closed.result.words).0 ∙ c.close_with-closed.ensures.counts.0 in
    (numbers_closed c.args.self c.args.seats.items c.requires.seats c.requires.all _ _ _ _ _ same count c.gather.ensures.seat c.close_with-closed.ensures.values.2).low

pub rest_of-rest-requires-clause-room : goal.rest_of-rest-requires-clause-room
rest_of-rest-requires-clause-room c =
    let same = ap (λ (z : Layout). z.slots) c.plan.view_is in
    let count = sym (slots_counts c.close_with-closed.result.words).0 ∙ c.close_with-closed.ensures.counts.0 in
    let few = (numbers_closed c.args.self c.args.seats.items c.requires.seats c.requires.all _ _ _ _ _ same count c.gather.ensures.seat c.close_with-closed.ensures.values.2).few in
    omega (arith, few, same, c.requires.room.enough)

pub returns : goal.returns
returns c =
    let same = ap (λ (z : Layout). z.slots) c.plan.view_is in
    let count = sym (slots_counts c.close_with-closed.result.words).0 ∙ c.close_with-closed.ensures.counts.0 in
    let told = c.rest_of-rest.ensures in
    record {
      rest = (numbers_closed c.args.self c.args.seats.items c.requires.seats c.requires.all _ _ _ _ _ same count c.gather.ensures.seat
          c.close_with-closed.ensures.values.2).closes c.rest_of-rest.result told.left told.taken told.whole told.shut;
    }
