use Rattle.std.proofs.Common.{◌∙◌}
use Rattle.msq_c.proofs.WordEnds.{same_owned, others_one, room_for, closed_if}
use Rattle.msq_c.proofs.word_ends.close.Goals as goal

pub ended-requires-clause-room : goal.ended-requires-clause-room
ended-requires-clause-room g c κs lives = room_for g.H.Slot.holds g.H.Slot.own c.args.slots.now c.if-not-all_are_full.ensures c.requires c.in_ok-owned.owned.items
    c.pop.new.self.items c.in-Some.last (c.in_ok-owned.ensures.taken ∙ same_owned g.H.Slot.holds g.H.Slot.own _ _ c.room_of.ensures.seats
    ∙ same_owned g.H.Slot.holds g.H.Slot.own _ _ c.shares_of.ensures) c.in-Some.ensures.items _ c.shares_of.ensures c.in_ok-room.room c.in_ok-room.ensures.room

pub ended-requires-clause-others : goal.ended-requires-clause-others
ended-requires-clause-others g c κs lives = others_one g.H.Slot.holds g.H.Slot.own c.args.slots.now c.if-not-all_are_full.ensures c.requires c.in_ok-owned.owned.items
    c.pop.new.self.items c.in-Some.last (c.in_ok-owned.ensures.taken ∙ same_owned g.H.Slot.holds g.H.Slot.own _ _ c.room_of.ensures.seats
    ∙ same_owned g.H.Slot.holds g.H.Slot.own _ _ c.shares_of.ensures) c.in-Some.ensures.items

pub returns-clause-closes : goal.returns-clause-closes
returns-clause-closes g c = closed_if g.H.Slot.holds g.H.Slot.own c.args.slots.now c.if-not-all_are_full.ensures c.requires c.in_ok-owned.owned.items
    c.pop.new.self.items c.in-Some.last (c.in_ok-owned.ensures.taken ∙ same_owned g.H.Slot.holds g.H.Slot.own _ _ c.room_of.ensures.seats
    ∙ same_owned g.H.Slot.holds g.H.Slot.own _ _ c.shares_of.ensures) c.in-Some.ensures.items c.ended.result c.ended.ensures.closes c.ended.ensures.ends
