use Rattle.std.proofs.Common.{◌+◌, ◌-◌, ◌++◌, sym, ap, ◌∙◌, arith}
use Rattle.std.specs.Slots.{slots_items}
use Rattle.ring_queue.specs.Steps.{taken_in}
use Rattle.ring_queue.specs.Remains.{values_from}
use Rattle.ring_queue.proofs.Lefts.{one_read}
use Rattle.ring_queue.proofs.remains.values_left.Goals as goal

pub loop-place-preserved : goal.loop-place-preserved
loop-place-preserved g c =
    let pushed = rw c.unwrap.ensures at c.push.ensures.items in
    let longer = rw c.unwrap.ensures at c.push.ensures.len in
    let more = c.push.ensures.capacity in
    let words = slots_items c.args.closed.now.words in
    record {
      told = one_read c.args.slots words _ c.loop-place.values.items c.loop-place.place c.args.tail c.loop-place.invariant.told c.taken_of.result c.loop-place-test.true
          (c.taken_of.ensures ∙ ap taken_in c.word_at-word.ensures)
          ∙ ap (λ xs. xs ++ values_from c.args.slots words (c.loop-place.place + 1) (c.args.tail - (c.loop-place.place + 1))) (sym pushed);
      len = omega (arith, longer, c.loop-place.invariant.len);
      room = omega (arith, more, c.loop-place.invariant.room);
    }
