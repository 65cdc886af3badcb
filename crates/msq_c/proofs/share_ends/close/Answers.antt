use Rattle.std.proofs.Common.{◌∙◌, sym}
use Rattle.std.proofs.lemmas.List.{with_items_is}
use Rattle.msq_c.proofs.ShareEnds.{others_full, last_full, others_one, some_for, room_for, closed_if}
use Rattle.msq_c.proofs.share_ends.close.Goals as goal

pub ended-requires-clause-last : goal.ended-requires-clause-last
ended-requires-clause-last g c κs lives = last_full g.H.Slot.holds g.H.Slot.own c.args.slots.now c.if-not-all_are_full.ensures c.requires c.room_of.new.slots c.pop.new.self.items c.in-Some.last c.room_of.ensures.seats
    (sym (with_items_is c.in_ok-handles.handles c.swap_with_slice.new.other (c.swap_with_slice.ensures.other_len ∙ c.deref_mut.ensures.len) ∙ c.swap_with_slice.ensures.other_after) ∙ c.in-Some.ensures.items)

pub ended-requires-clause-full : goal.ended-requires-clause-full
ended-requires-clause-full g c κs lives = others_full g.H.Slot.holds g.H.Slot.own c.args.slots.now c.if-not-all_are_full.ensures c.requires c.room_of.new.slots c.pop.new.self.items c.in-Some.last c.room_of.ensures.seats
    (sym (with_items_is c.in_ok-handles.handles c.swap_with_slice.new.other (c.swap_with_slice.ensures.other_len ∙ c.deref_mut.ensures.len) ∙ c.swap_with_slice.ensures.other_after) ∙ c.in-Some.ensures.items)

pub ended-requires-clause-one : goal.ended-requires-clause-one
ended-requires-clause-one g c κs lives = others_one g.H.Slot.holds g.H.Slot.own c.args.slots.now c.if-not-all_are_full.ensures c.requires c.room_of.new.slots c.pop.new.self.items c.in-Some.last c.room_of.ensures.seats
    (sym (with_items_is c.in_ok-handles.handles c.swap_with_slice.new.other (c.swap_with_slice.ensures.other_len ∙ c.deref_mut.ensures.len) ∙ c.swap_with_slice.ensures.other_after) ∙ c.in-Some.ensures.items)

pub ended-requires-clause-room : goal.ended-requires-clause-room
ended-requires-clause-room g c κs lives = room_for g.H.Slot.holds g.H.Slot.own c.args.slots.now c.if-not-all_are_full.ensures c.requires c.room_of.new.slots c.pop.new.self.items c.in-Some.last c.room_of.ensures.seats
    (sym (with_items_is c.in_ok-handles.handles c.swap_with_slice.new.other (c.swap_with_slice.ensures.other_len ∙ c.deref_mut.ensures.len) ∙ c.swap_with_slice.ensures.other_after) ∙ c.in-Some.ensures.items)
    g.C.EndQueue.has_room c.in_ok-room.room c.in_ok-room.ensures.room

pub ended-requires-clause-some : goal.ended-requires-clause-some
ended-requires-clause-some g c κs lives = some_for g.H.Slot.holds g.H.Slot.own c.args.slots.now c.if-not-all_are_full.ensures c.requires c.room_of.new.slots c.pop.new.self.items c.in-Some.last c.room_of.ensures.seats
    (sym (with_items_is c.in_ok-handles.handles c.swap_with_slice.new.other (c.swap_with_slice.ensures.other_len ∙ c.deref_mut.ensures.len) ∙ c.swap_with_slice.ensures.other_after) ∙ c.in-Some.ensures.items)
    _ c.in-Ok.ensures.capacity

pub returns-clause-closes : goal.returns-clause-closes
returns-clause-closes g c = closed_if g.H.Slot.holds g.H.Slot.own c.args.slots.now c.if-not-all_are_full.ensures c.requires c.room_of.new.slots c.pop.new.self.items c.in-Some.last c.room_of.ensures.seats
    (sym (with_items_is c.in_ok-handles.handles c.swap_with_slice.new.other (c.swap_with_slice.ensures.other_len ∙ c.deref_mut.ensures.len) ∙ c.swap_with_slice.ensures.other_after) ∙ c.in-Some.ensures.items)
    g.C.EndQueue.closes g.C.EndQueue.ends c.ended.result c.ended.ensures.closes c.ended.ensures.ends
