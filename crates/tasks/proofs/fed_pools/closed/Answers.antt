use Rattle.std.proofs.Common.{◌∙◌, ap, length}
use Rattle.std.proofs.lemmas.List.{length-map}
use Rattle.tasks.specs.Parts.{end_in}
use Rattle.tasks.proofs.Parting.{alone, behind, fits, all_takers, all_givers}
use Rattle.tasks.proofs.FedClosed.{takers_sit, takers_asked, givers_sit, givers_asked, none_left, fed_so, idles_so}
use Rattle.tasks.proofs.fed_pools.closed.Goals as goal

pub seats_of-takers-requires-clause-room : goal.seats_of-takers-requires-clause-room
seats_of-takers-requires-clause-room g c = fits c.args.crew.workers.items _ _ _ (behind c.part.ensures.seats c.push_reserved.ensures.items c.requires.rooms.parts.no_seats) c.requires.rooms.takers

pub seats_of-takers-requires-clause-room_too : goal.seats_of-takers-requires-clause-room_too
seats_of-takers-requires-clause-room_too g c = fits c.args.crew.workers.items _ _ _ (behind c.part.ensures.seats c.push_reserved.ensures.items c.requires.rooms.parts.no_seats) c.requires.rooms.givers

pub close_with-left-requires-clause-seats : goal.close_with-left-requires-clause-seats
close_with-left-requires-clause-seats g c = takers_sit c.requires.ended (all_takers _ _ c.seats_of-takers.ensures.takers (behind c.part.ensures.seats c.push_reserved.ensures.items c.requires.rooms.parts.no_seats))

pub close_with-rest-requires-clause-seats : goal.close_with-rest-requires-clause-seats
close_with-rest-requires-clause-seats g c = givers_sit c.requires.ended (all_givers _ _ c.seats_of-takers.ensures.givers (behind c.part.ensures.seats c.push_reserved.ensures.items c.requires.rooms.parts.no_seats))

pub close_with-left-requires-clause-asked : goal.close_with-left-requires-clause-asked
close_with-left-requires-clause-asked g c =
    takers_asked c.requires.ended (all_takers _ _ c.seats_of-takers.ensures.takers (behind c.part.ensures.seats c.push_reserved.ensures.items c.requires.rooms.parts.no_seats)) g.C.CloseCarrier.asks c.requires.tasks_asked

pub close_with-rest-requires-clause-asked : goal.close_with-rest-requires-clause-asked
close_with-rest-requires-clause-asked g c =
    givers_asked c.requires.ended (all_givers _ _ c.seats_of-takers.ensures.givers (behind c.part.ensures.seats c.push_reserved.ensures.items c.requires.rooms.parts.no_seats)) g.D.CloseCarrier.asks c.requires.results_asked

pub returns-clause-told : goal.returns-clause-told
returns-clause-told g c =
    let takers = all_takers _ _ c.seats_of-takers.ensures.takers (behind c.part.ensures.seats c.push_reserved.ensures.items c.requires.rooms.parts.no_seats) in
    let givers = all_givers _ _ c.seats_of-takers.ensures.givers (behind c.part.ensures.seats c.push_reserved.ensures.items c.requires.rooms.parts.no_seats) in
    let unsent = alone c.part.ensures.dones c.requires.rooms.parts.no_dones in
    let fed = fed_so c.requires.ended c.close_with-left.result.0 c.close_with-rest.result.0 takers givers
    c.close_with-left.ensures.rest c.close_with-rest.ensures.rest unsent c.tell_left.new.feed c.tell_unsent.new.feed c.tell_left.ensures.told c.tell_unsent.ensures.told in
    record { given = fed.0; told = fed.1; so_far = fed.2; answered = fed.3 }

pub returns-clause-all : goal.returns-clause-all
returns-clause-all g c =
    let takers = all_takers _ _ c.seats_of-takers.ensures.takers (behind c.part.ensures.seats c.push_reserved.ensures.items c.requires.rooms.parts.no_seats) in
    let givers = all_givers _ _ c.seats_of-takers.ensures.givers (behind c.part.ensures.seats c.push_reserved.ensures.items c.requires.rooms.parts.no_seats) in
    none_left c.requires.ended c.close_with-left.result.0 c.close_with-rest.result.0 takers givers c.close_with-left.ensures.rest c.close_with-rest.ensures.rest

pub returns-clause-kept : goal.returns-clause-kept
returns-clause-kept g c = c.tell_unsent.ensures.kept ∙ c.tell_left.ensures.kept

pub returns-clause-idle : goal.returns-clause-idle
returns-clause-idle g c =
    let takers = all_takers _ _ c.seats_of-takers.ensures.takers (behind c.part.ensures.seats c.push_reserved.ensures.items c.requires.rooms.parts.no_seats) in
    let givers = all_givers _ _ c.seats_of-takers.ensures.givers (behind c.part.ensures.seats c.push_reserved.ensures.items c.requires.rooms.parts.no_seats) in
    let unsent = alone c.part.ensures.dones c.requires.rooms.parts.no_dones in
    idles_so c.requires.ended c.close_with-left.result.0 c.close_with-rest.result.0 takers givers
    c.close_with-left.ensures.rest c.close_with-rest.ensures.rest unsent c.tell_left.new.feed c.tell_unsent.new.feed g.F.Feed.idle c.tell_left.ensures.same c.tell_unsent.ensures.same c.requires.idle

pub returns-clause-joined : goal.returns-clause-joined
returns-clause-joined g c =
    ap length (alone c.part.ensures.ends c.requires.rooms.parts.no_ends) ∙ length-map c.args.crew.workers.items end_in
