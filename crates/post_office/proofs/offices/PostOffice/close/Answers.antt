-- The seats that are put together are the queue's, and what is known of its end is what the laws of givers and takers ask.
use Rattle.std.proofs.Common.{◌∙◌, ap}
use Rattle.shared_queue.specs.Queues.{queue_of}
use Rattle.post_office.proofs.Shares.{seats_put}
use Rattle.post_office.proofs.Closed.{each_sits, asks_so, comes_back, delivers, each_once}
use Rattle.post_office.proofs.offices.PostOffice.close.Goals as goal

pub close-requires-clause-seats : goal.close-requires-clause-seats
close-requires-clause-seats g c κs within =
    let put = seats_put c.args.self c.args.senders.items c.args.receivers.items (c.reserve.ensures.items ∙ c.new-seats.ensures.items)
    c.put_senders.ensures.items c.put_receivers.ensures.items c.push_reserved.ensures.items in
    each_sits c.args.self c.args.senders.items c.args.receivers.items (c.into_inner.ensures ∙ ap queue_of c.in-Ok.ensures.ok) put g.met.C.Carrier.seat_prop c.requires.senders c.requires.receivers

pub close-requires-clause-asked : goal.close-requires-clause-asked
close-requires-clause-asked g c κs within =
    let put = seats_put c.args.self c.args.senders.items c.args.receivers.items (c.reserve.ensures.items ∙ c.new-seats.ensures.items)
    c.put_senders.ensures.items c.put_receivers.ensures.items c.push_reserved.ensures.items in
    asks_so c.args.self c.args.senders.items c.args.receivers.items (c.into_inner.ensures ∙ ap queue_of c.in-Ok.ensures.ok) put g.C.CloseCarrier.asks c.requires.asked

pub returns-in-Ok-close-clause-in_order : goal.returns-in-Ok-close-clause-in_order
returns-in-Ok-close-clause-in_order g c =
    let put = seats_put c.args.self c.args.senders.items c.args.receivers.items (c.reserve.ensures.items ∙ c.new-seats.ensures.items)
    c.put_senders.ensures.items c.put_receivers.ensures.items c.push_reserved.ensures.items in
    delivers c.args.self c.args.senders.items c.args.receivers.items (c.into_inner.ensures ∙ ap queue_of c.in-Ok.ensures.ok) put c.in-Ok-close.end.0 c.in-Ok-close.ensures.rest

pub returns-in-Ok-close-clause-once : goal.returns-in-Ok-close-clause-once
returns-in-Ok-close-clause-once g c =
    let put = seats_put c.args.self c.args.senders.items c.args.receivers.items (c.reserve.ensures.items ∙ c.new-seats.ensures.items)
    c.put_senders.ensures.items c.put_receivers.ensures.items c.push_reserved.ensures.items in
    each_once c.args.self c.args.senders.items c.args.receivers.items (c.into_inner.ensures ∙ ap queue_of c.in-Ok.ensures.ok) put c.in-Ok-close.end.0 c.in-Ok-close.ensures.rest

pub returns-in-Err-close-clause-back : goal.returns-in-Err-close-clause-back
returns-in-Err-close-clause-back g c =
    let put = seats_put c.args.self c.args.senders.items c.args.receivers.items (c.reserve.ensures.items ∙ c.new-seats.ensures.items)
    c.put_senders.ensures.items c.put_receivers.ensures.items c.push_reserved.ensures.items in
    comes_back c.args.self c.args.senders.items c.args.receivers.items (c.in-Err-close.ensures.queue ∙ c.into_inner.ensures ∙ ap queue_of
    c.in-Ok.ensures.ok) (c.in-Err-close.ensures.same ∙ put) g.met.C.Carrier.seat_prop c.requires.senders c.requires.receivers

pub returns-in-Err-clause-back : goal.returns-in-Err-clause-back
returns-in-Err-clause-back g c =
    let put = seats_put c.args.self c.args.senders.items c.args.receivers.items (c.reserve.ensures.items ∙ c.new-seats.ensures.items)
    c.put_senders.ensures.items c.put_receivers.ensures.items c.push_reserved.ensures.items in
    comes_back c.args.self c.args.senders.items c.args.receivers.items (ap (λ a. queue_of a.value) c.in-Err.ensures.err) put g.met.C.Carrier.seat_prop c.requires.senders c.requires.receivers
