use Rattle.std.proofs.Common.{ap, length, arith}
use denote.Param.Send.{sendable}
use Rattle.tasks.proofs.Parting.{alone, behind}
use Rattle.tasks.proofs.Closed.{may_take, may_offer, many, all_joined, each_sits, asks_so, tells_so, told_so, answered_so, run_by}
use Rattle.tasks.proofs.pools.run_in.Goals as goal

pub run_batch-led-requires-clause-bounds : goal.run_batch-led-requires-clause-bounds
run_batch-led-requires-clause-bounds g c κs within =
    let b = c.type_bounds in
    (b.sync-R, b.sync-C, b.send-T, b.send-T-Output, b.send-T-Error, search (sendable, b.send-C-Seat) depth 20)

pub run_batch-led-requires-clause-takers : goal.run_batch-led-requires-clause-takers
run_batch-led-requires-clause-takers g c κs within = may_take c.requires.crew _ _ c.in-Some.ensures.items c.new-queue.ensures

pub run_batch-led-requires-clause-batch : goal.run_batch-led-requires-clause-batch
run_batch-led-requires-clause-batch g c κs within = may_offer c.requires.crew _ _ c.in-Some.ensures.items c.new-queue.ensures c.args.tasks c.args.space.gather c.requires.space.slots

pub part-requires : goal.part-requires
part-requires g c =
    let workers = many c.requires.crew _ _ c.in-Some.ensures.items c.new-queue.ensures c.args.tasks c.args.space.gather g.C.Carrier.pop_cause g.C.Carrier.shut_cause g.T.Task.answers c.run_batch-led.result.0 c.run_batch-led.result.1.items c.run_batch-led.ensures.led c.run_batch-led.ensures.back in
    let parts = c.requires.space.parts in
    record {
      seats = omega (arith, workers, ap length parts.no_seats, parts.room.seats, c.push_reserved.ensures.len, c.push_reserved.ensures.capacity);
      dones = omega (arith, workers, ap length parts.no_dones, parts.room.dones);
      ends = omega (arith, workers, ap length parts.no_ends, parts.room.ends);
    }

pub close_with-rest-requires-clause-seats : goal.close_with-rest-requires-clause-seats
close_with-rest-requires-clause-seats g c =
    let seats = behind c.part.ensures.seats c.push_reserved.ensures.items c.requires.space.parts.no_seats in
    each_sits c.requires.crew _ _ c.in-Some.ensures.items c.new-queue.ensures c.args.tasks c.args.space.gather g.C.Carrier.pop_cause g.C.Carrier.shut_cause g.T.Task.answers c.run_batch-led.result.0 c.run_batch-led.result.1.items c.run_batch-led.ensures.led c.run_batch-led.ensures.back seats c.into_inner.ensures

pub close_with-rest-requires-clause-asked : goal.close_with-rest-requires-clause-asked
close_with-rest-requires-clause-asked g c =
    let seats = behind c.part.ensures.seats c.push_reserved.ensures.items c.requires.space.parts.no_seats in
    asks_so c.requires.crew _ _ c.in-Some.ensures.items c.new-queue.ensures c.args.tasks c.args.space.gather g.C.Carrier.pop_cause g.C.Carrier.shut_cause g.T.Task.answers c.run_batch-led.result.0 c.run_batch-led.result.1.items c.run_batch-led.ensures.led c.run_batch-led.ensures.back seats c.into_inner.ensures g.C.CloseCarrier.asks c.requires.asked

pub told-outcomes-requires : goal.told-outcomes-requires
told-outcomes-requires g c =
    let seats = behind c.part.ensures.seats c.push_reserved.ensures.items c.requires.space.parts.no_seats in
    tells_so c.requires.crew _ _ c.in-Some.ensures.items c.new-queue.ensures c.args.tasks c.args.space.gather g.C.Carrier.pop_cause g.C.Carrier.shut_cause g.T.Task.answers c.run_batch-led.result.0 c.run_batch-led.result.1.items c.run_batch-led.ensures.led c.run_batch-led.ensures.back seats c.into_inner.ensures
    c.close_with-rest.result.0 c.close_with-rest.ensures.rest c.requires.space.slots (alone c.part.ensures.dones c.requires.space.parts.no_dones)

pub returns-clause-told : goal.returns-clause-told
returns-clause-told g c =
    let seats = behind c.part.ensures.seats c.push_reserved.ensures.items c.requires.space.parts.no_seats in
    told_so c.requires.crew _ _ c.in-Some.ensures.items c.new-queue.ensures c.args.tasks c.args.space.gather g.C.Carrier.pop_cause g.C.Carrier.shut_cause g.T.Task.answers c.run_batch-led.result.0 c.run_batch-led.result.1.items c.run_batch-led.ensures.led c.run_batch-led.ensures.back seats c.into_inner.ensures
    c.close_with-rest.result.0 c.close_with-rest.ensures.rest c.requires.space.slots (alone c.part.ensures.dones c.requires.space.parts.no_dones) _ c.told-outcomes.ensures

pub returns-clause-joined : goal.returns-clause-joined
returns-clause-joined g c = all_joined c.requires.crew _ _ c.in-Some.ensures.items c.new-queue.ensures c.args.tasks c.args.space.gather g.C.Carrier.pop_cause g.C.Carrier.shut_cause g.T.Task.answers c.run_batch-led.result.0 c.run_batch-led.result.1.items c.run_batch-led.ensures.led c.run_batch-led.ensures.back (alone c.part.ensures.ends c.requires.space.parts.no_ends)

pub returns-clause-finished : goal.returns-clause-finished
returns-clause-finished g c =
    let seats = behind c.part.ensures.seats c.push_reserved.ensures.items c.requires.space.parts.no_seats in
    answered_so c.requires.crew _ _ c.in-Some.ensures.items c.new-queue.ensures c.args.tasks c.args.space.gather g.C.Carrier.pop_cause g.C.Carrier.shut_cause g.T.Task.answers c.run_batch-led.result.0 c.run_batch-led.result.1.items c.run_batch-led.ensures.led c.run_batch-led.ensures.back seats c.into_inner.ensures
    c.close_with-rest.result.0 c.close_with-rest.ensures.rest c.requires.space.slots (alone c.part.ensures.dones c.requires.space.parts.no_dones) _ c.told-outcomes.ensures
    (alone c.part.ensures.ends c.requires.space.parts.no_ends)

pub returns-clause-ran : goal.returns-clause-ran
returns-clause-ran g c =
    let seats = behind c.part.ensures.seats c.push_reserved.ensures.items c.requires.space.parts.no_seats in
    run_by c.requires.crew _ _ c.in-Some.ensures.items c.new-queue.ensures c.args.tasks c.args.space.gather g.C.Carrier.pop_cause g.C.Carrier.shut_cause g.T.Task.answers c.run_batch-led.result.0 c.run_batch-led.result.1.items c.run_batch-led.ensures.led c.run_batch-led.ensures.back seats c.into_inner.ensures
    c.close_with-rest.result.0 c.close_with-rest.ensures.rest c.requires.space.slots (alone c.part.ensures.dones c.requires.space.parts.no_dones) _ _ c.told-outcomes.ensures
    (alone c.part.ensures.ends c.requires.space.parts.no_ends)
