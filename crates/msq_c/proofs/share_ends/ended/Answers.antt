use Rattle.std.proofs.Common.{ap, ◌∙◌}
use Rattle.msq_c.proofs.ShareEnds.{end_room, end_seats, end_closes, end_ends}
use Rattle.msq_c.proofs.share_ends.ended.Goals as goal

pub end_with-requires-clause-room : goal.end_with-requires-clause-room
end_with-requires-clause-room g c = end_room g.H.Slot.own c.args.others.items c.args.last c.into_share.result (c.into_share.ensures ∙ ap (λ b. b.share) (c.into_inner.ensures ∙ c.into_seat.ensures))
    c.in-Ok.stepped (c.in-Ok.ensures.ok ∙ c.into_parts-share.ensures.queue) c.into_inner-in-Ok.result c.into_inner-in-Ok.ensures
    c.into_parts-share.result.1 c.into_parts-share.ensures.seat c.without_shares-seats.result.items c.without_shares-seats.ensures.seats g.C.EndQueue.has_room c.args.room c.requires.room

pub end_with-requires-clause-seats : goal.end_with-requires-clause-seats
end_with-requires-clause-seats g c = end_seats g.H.Slot.own c.args.others.items c.args.last c.into_share.result (c.into_share.ensures ∙ ap (λ b. b.share) (c.into_inner.ensures ∙ c.into_seat.ensures))
    c.in-Ok.stepped (c.in-Ok.ensures.ok ∙ c.into_parts-share.ensures.queue) c.into_inner-in-Ok.result c.into_inner-in-Ok.ensures
    c.into_parts-share.result.1 c.into_parts-share.ensures.seat c.without_shares-seats.result.items c.without_shares-seats.ensures.seats
    c.into_parts-share.ensures.sits.0 c.requires.one c.without_shares-seats.ensures.sit

pub returns-in-Ok-clause-closes : goal.returns-in-Ok-clause-closes
returns-in-Ok-clause-closes g c = end_closes g.H.Slot.own c.args.others.items c.args.last c.into_share.result (c.into_share.ensures ∙ ap (λ b. b.share) (c.into_inner.ensures ∙ c.into_seat.ensures))
    c.in-Ok.stepped (c.in-Ok.ensures.ok ∙ c.into_parts-share.ensures.queue) c.into_inner-in-Ok.result c.into_inner-in-Ok.ensures
    c.into_parts-share.result.1 c.into_parts-share.ensures.seat c.without_shares-seats.result.items c.without_shares-seats.ensures.seats g.C.EndQueue.closes c.end_with.result.0 c.end_with.ensures.closes

pub returns-in-Ok-clause-ends : goal.returns-in-Ok-clause-ends
returns-in-Ok-clause-ends g c = end_ends g.H.Slot.own c.args.others.items c.args.last c.into_share.result (c.into_share.ensures ∙ ap (λ b. b.share) (c.into_inner.ensures ∙ c.into_seat.ensures))
    c.in-Ok.stepped (c.in-Ok.ensures.ok ∙ c.into_parts-share.ensures.queue) c.into_inner-in-Ok.result c.into_inner-in-Ok.ensures g.C.EndQueue.ends c.end_with.result.0 c.end_with.result.1 c.end_with.ensures.ends
