use Rattle.std.proofs.Common.{ℕ, get_or, ◌+◌, ◌-◌, ◌++◌, sym, ap, ◌∙◌, arith}
use Rattle.std.specs.Slots.{slots_items}
use Rattle.ring_queue.specs.Placed.{parts_from}
use Rattle.ring_queue.proofs.Lefts.{one_part, none_part}
use Rattle.ring_queue.proofs.remains.value_left.Goals as goal

pub loop-part-preserved : goal.loop-part-preserved
loop-part-preserved g c =
    let pushed = rw c.unwrap.ensures at c.push.ensures.items in
    let longer = rw c.unwrap.ensures at c.push.ensures.len in
    let more = c.push.ensures.capacity in
    let words = slots_items c.args.closed.now.words in
    let before = c.loop-part.invariant in
    record {
      told = one_part c.args.slots words c.args.place c.args.width _ c.loop-part.values.items c.loop-part.part before.told c.word_at-word.result c.loop-part-test.true
          (c.word_at-word.ensures ∙ ap (λ (k : ℕ). get_or words k 0) c.part_word.ensures)
          ∙ ap (λ xs. xs ++ parts_from c.args.slots words c.args.place (c.loop-part.part + 1) (c.args.width - (c.loop-part.part + 1))) (sym pushed);
      len = omega (arith, longer, before.len);
      room = omega (arith, more, before.room);
    }

pub returns-clause-items : goal.returns-clause-items
returns-clause-items g c =
    let over = c.loop-part-test.false in
    sym (none_part c.args.slots (slots_items c.args.closed.now.words) c.args.place c.args.width _ c.loop-part.values.items c.loop-part.part c.loop-part.invariant.told (omega (arith, over)))
