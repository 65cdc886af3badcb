use Rattle.std.proofs.Common.{◌≡◌, suc, ◌+◌, ◌-◌, ◌*◌, ap, ◌∙◌, arith}
use Rattle.std.proofs.Math.Nat.{suc-mul}
use Rattle.std.specs.Slots.{slots_items}
use Rattle.ring_queue.proofs.Lefts.{one_beside, room_more}
use Rattle.ring_queue.proofs.remains.parts_left.Goals as goal

pub value_left-values-requires-clause-room : goal.value_left-values-requires-clause-room
value_left-values-requires-clause-room g c =
    let before = c.loop-place.invariant in
    let lt = c.loop-place-test.true in
    let more = room_more (c.loop-place.place - c.args.head) (c.args.tail - c.args.head) c.args.width (omega (arith, lt, before.from)) in
    omega (arith, before.len, before.room, more)

pub loop-place-preserved : goal.loop-place-preserved
loop-place-preserved g c =
    let before = c.loop-place.invariant in
    let now = c.value_left-values.ensures in
    let words = slots_items c.args.closed.now.words in
    let w = c.args.width in
    let next : (c.loop-place.place + 1) - c.args.head ≡ suc (c.loop-place.place - c.args.head) = omega (arith, before.from) in
    let product : ((c.loop-place.place + 1) - c.args.head) * w ≡ (c.loop-place.place - c.args.head) * w + w = ap (λ k. k * w) next ∙ suc-mul (c.loop-place.place - c.args.head) w in
    record {
      told = one_beside c.args.slots w words _ c.loop-place.values.items c.loop-place.place c.args.tail before.told c.value_left-values.result.items c.loop-place-test.true now.items;
      len = omega (arith, now.count, before.len, product);
      from = omega (arith, before.from);
      room = omega (arith, now.room, before.room);
    }
