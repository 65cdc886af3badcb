use Rattle.std.proofs.Common.{◌∙◌}
use Rattle.msq_c.proofs.QueueEnds.{same_owned, others_one, room_for, closed_if}
use Rattle.msq_c.proofs.ends.close.Goals as goal

pub ended-requires-clause-room : goal.ended-requires-clause-room
ended-requires-clause-room c = room_for c.args.slots.now c.if-not-all_are_full.ensures c.requires c.in_ok-owned.owned.items
    c.pop.new.self.items c.in-Some.last (c.in_ok-owned.ensures.taken ∙ same_owned _ _ c.room_of.ensures.seats) c.in-Some.ensures.items c.in_ok-room.room c.in_ok-room.ensures.room

pub ended-requires-clause-others : goal.ended-requires-clause-others
ended-requires-clause-others c = others_one c.args.slots.now c.if-not-all_are_full.ensures c.requires c.in_ok-owned.owned.items
    c.pop.new.self.items c.in-Some.last (c.in_ok-owned.ensures.taken ∙ same_owned _ _ c.room_of.ensures.seats) c.in-Some.ensures.items

pub returns-clause-closes : goal.returns-clause-closes
returns-clause-closes c = closed_if c.args.slots.now c.if-not-all_are_full.ensures c.requires c.in_ok-owned.owned.items
    c.pop.new.self.items c.in-Some.last (c.in_ok-owned.ensures.taken ∙ same_owned _ _ c.room_of.ensures.seats) c.in-Some.ensures.items c.ended.result c.ended.ensures.closes c.ended.ensures.ends
