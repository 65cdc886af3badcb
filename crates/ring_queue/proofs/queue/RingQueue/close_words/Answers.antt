use Rattle.std.proofs.Common.{ap, arith}
use Rattle.ring_queue.specs.Plans.{Layout}
use Rattle.ring_queue.proofs.Lefts.{room_there}
use Rattle.ring_queue.proofs.Closed.{no_word_slots, words_closed, words_parted}
use Rattle.ring_queue.proofs.Tokens.{enters, word_tokens, took_none}
use Rattle.ring_queue.proofs.queue.RingQueue.close_words.Goals as goal

pub load_new_seat-requires : goal.load_new_seat-requires
load_new_seat-requires g c = let words = c.args.self.laid.words in (omega (arith, words), enters _ _ _)

pub gather-requires-clause-gatherer : goal.gather-requires-clause-gatherer
gather-requires-clause-gatherer g c = took_none _ _ c.load_new_seat.ensures.0 c.load_new_seat.ensures.1 c.load_new_seat.ensures.2

pub gather-requires-clause-seats : goal.gather-requires-clause-seats
gather-requires-clause-seats g c = word_tokens c.args.self c.args.seats.items c.requires.seats

pub free-requires : goal.free-requires
free-requires g c =
    let none = no_word_slots c.args.self c.args.seats.items c.requires.seats c.requires.all c.requires.placed in
    let count = c.close_with-closed.ensures.counts.1 in
    λ k lt. absurd (omega (arith, lt, count, none))

pub words_left-values-requires-clause-words : goal.words_left-values-requires-clause-words
words_left-values-requires-clause-words g c =
    let same = ap (λ (z : Layout). z.slots) c.plan.view_is in
    let wide = ap (λ (z : Layout). z.width) c.plan.view_is in
    words_parted c.args.self c.args.seats.items c.requires.seats c.requires.all c.requires.placed _ _ _ c.gather.new.gatherer.me.0 _ _ same wide c.gather.ensures.seat c.close_with-closed.ensures.values.2

pub words_left-values-requires-clause-room : goal.words_left-values-requires-clause-room
words_left-values-requires-clause-room g c =
    let same = ap (λ (z : Layout). z.slots) c.plan.view_is in
    let wide = ap (λ (z : Layout). z.width) c.plan.view_is in
    let few = (words_closed c.args.self c.args.seats.items c.requires.seats c.requires.all c.requires.placed _ _ c.gather.new.gatherer.me.0 _ _ same c.gather.ensures.seat c.gather.ensures.said c.close_with-closed.ensures.values.2).few in
    room_there _ _ _ _ _ _ few same wide c.requires.values.enough

pub rest_of-rest-requires-clause-words : goal.rest_of-rest-requires-clause-words
rest_of-rest-requires-clause-words g c =
    let same = ap (λ (z : Layout). z.slots) c.plan.view_is in
    (words_closed c.args.self c.args.seats.items c.requires.seats c.requires.all c.requires.placed _ _ c.gather.new.gatherer.me.0 _ _ same c.gather.ensures.seat c.gather.ensures.said c.close_with-closed.ensures.values.2).there

pub rest_of-rest-requires-clause-low : goal.rest_of-rest-requires-clause-low
rest_of-rest-requires-clause-low g c =
    let same = ap (λ (z : Layout). z.slots) c.plan.view_is in
    (words_closed c.args.self c.args.seats.items c.requires.seats c.requires.all c.requires.placed _ _ c.gather.new.gatherer.me.0 _ _ same c.gather.ensures.seat c.gather.ensures.said c.close_with-closed.ensures.values.2).low

pub rest_of-rest-requires-clause-room : goal.rest_of-rest-requires-clause-room
rest_of-rest-requires-clause-room g c =
    let same = ap (λ (z : Layout). z.slots) c.plan.view_is in
    let few = (words_closed c.args.self c.args.seats.items c.requires.seats c.requires.all c.requires.placed _ _ c.gather.new.gatherer.me.0 _ _ same c.gather.ensures.seat c.gather.ensures.said c.close_with-closed.ensures.values.2).few in
    omega (arith, few, same, c.requires.numbers.enough)

pub returns : goal.returns
returns g c =
    let same = ap (λ (z : Layout). z.slots) c.plan.view_is in
    let told = c.rest_of-rest.ensures in
    (words_closed c.args.self c.args.seats.items c.requires.seats c.requires.all c.requires.placed _ _ c.gather.new.gatherer.me.0 _ _ same c.gather.ensures.seat c.gather.ensures.said c.close_with-closed.ensures.values.2).closes
    c.rest_of-rest.result told.left told.taken told.whole told.shut _ c.words_left-values.result.items (ap (λ (z : Layout). z.width) c.plan.view_is) c.words_left-values.ensures
