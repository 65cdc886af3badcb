use Rattle.std.proofs.Common.{◌≡◌, Bool, if◌then◌else◌, ap, arith}
use Rattle.std.specs.Slots.{slots_items}
use Rattle.ring_queue.specs.Plans.{Layout, slots_of}
use Rattle.ring_queue.proofs.Closed.{values_closed}
use Rattle.ring_queue.proofs.Tokens.{enters, bring_tokens, took_none}
use Rattle.ring_queue.proofs.queue.RingQueue.close_values.Goals as goal

pub load_new_seat-requires : goal.load_new_seat-requires
load_new_seat-requires g c = let words = c.args.self.laid.words in (omega (arith, words), enters _ _ _)

pub gather-requires-clause-gatherer : goal.gather-requires-clause-gatherer
gather-requires-clause-gatherer g c = took_none _ _ c.load_new_seat.ensures.0 c.load_new_seat.ensures.1 c.load_new_seat.ensures.2

pub gather-requires-clause-seats : goal.gather-requires-clause-seats
gather-requires-clause-seats g c = bring_tokens c.args.self c.args.seats.items c.requires.seats c.requires.apart

pub take_all-slots-requires-clause-room : goal.take_all-slots-requires-clause-room
take_all-slots-requires-clause-room g c =
    let q = c.args.self in
    let all : slots_of q.plan ≡ q.plan.slots = ap (λ (b : Bool). if b then q.plan.slots else 0) c.requires.carries in
    let slots = q.laid.slots in
    omega (arith, c.close_with-closed.ensures.counts.1, slots, all, c.requires.slots.enough)

pub rest_of-rest-requires-clause-words : goal.rest_of-rest-requires-clause-words
rest_of-rest-requires-clause-words g c =
    let same = ap (λ (z : Layout). z.slots) c.plan.view_is in
    let taken = c.take_all-slots.ensures in
    (values_closed c.args.self c.args.seats.items c.requires.seats c.requires.all c.requires.carries _ _ c.gather.new.gatherer.me.0 _ _ _ _ same
    (ap slots_items taken.words) taken.items c.gather.ensures.seat c.gather.ensures.others c.close_with-closed.ensures.values.2).there

pub rest_of-rest-requires-clause-low : goal.rest_of-rest-requires-clause-low
rest_of-rest-requires-clause-low g c =
    let same = ap (λ (z : Layout). z.slots) c.plan.view_is in
    let taken = c.take_all-slots.ensures in
    (values_closed c.args.self c.args.seats.items c.requires.seats c.requires.all c.requires.carries _ _ c.gather.new.gatherer.me.0 _ _ _ _ same
    (ap slots_items taken.words) taken.items c.gather.ensures.seat c.gather.ensures.others c.close_with-closed.ensures.values.2).low

pub rest_of-rest-requires-clause-room : goal.rest_of-rest-requires-clause-room
rest_of-rest-requires-clause-room g c =
    let same = ap (λ (z : Layout). z.slots) c.plan.view_is in
    let taken = c.take_all-slots.ensures in
    let few = (values_closed c.args.self c.args.seats.items c.requires.seats c.requires.all c.requires.carries _ _ c.gather.new.gatherer.me.0 _ _ _ _
    same (ap slots_items taken.words) taken.items c.gather.ensures.seat c.gather.ensures.others c.close_with-closed.ensures.values.2).few in
    omega (arith, few, same, c.requires.numbers.enough)

pub returns : goal.returns
returns g c =
    let same = ap (λ (z : Layout). z.slots) c.plan.view_is in
    let taken = c.take_all-slots.ensures in
    let told = c.rest_of-rest.ensures in
    (values_closed c.args.self c.args.seats.items c.requires.seats c.requires.all c.requires.carries _ _ c.gather.new.gatherer.me.0 _ _ _ _ same
    (ap slots_items taken.words) taken.items c.gather.ensures.seat c.gather.ensures.others c.close_with-closed.ensures.values.2).closes
    c.rest_of-rest.result told.left told.taken told.whole told.shut
