use Rattle.std.proofs.Common.{ℕ, ap, ◌∙◌, arith}
use Rattle.ring_queue.specs.declared.queue.RingQueue.{RingQueue}
use Rattle.ring_queue.specs.Placed.{value_word}
use Rattle.ring_queue.proofs.Placing.{parts_within}
use Rattle.ring_queue.proofs.queue.RingQueue.word_of.Goals as goal

pub part_word-requires-clause-small : goal.part_word-requires-clause-small
part_word-requires-clause-small g c =
    let same = ap (λ (q : RingQueue _). q.plan.slots) c.self.view_is in
    let small = c.args.self.now.laid.planned.small in
    omega (arith, same, small)

pub part_word-requires-clause-slot : goal.part_word-requires-clause-slot
part_word-requires-clause-slot g c =
    let same = ap (λ (q : RingQueue _). q.plan.slots) c.self.view_is in
    let within = c.slot_of.ensures.within in
    omega (arith, same, within)

pub part_word-requires-clause-part : goal.part_word-requires-clause-part
part_word-requires-clause-part g c =
    let thin = c.args.self.now.laid.planned.thin in
    let low = c.requires.part in
    omega (arith, thin, low)

pub returns-clause-value : goal.returns-clause-value
returns-clause-value g c =
    let same = ap (λ (q : RingQueue _). q.plan.slots) c.self.view_is in
    c.part_word.ensures ∙ (λ i. value_word (same i) (c.slot_of.ensures.value i) c.args.part)

pub returns-clause-within : goal.returns-clause-within
returns-clause-within g c =
    let z = c.args.self.now.plan in
    let same = ap (λ (q : RingQueue _). q.plan.slots) c.self.view_is in
    let told = c.part_word.ensures ∙ ap (λ (k : ℕ). value_word k c.slot_of.result c.args.part) same in
    let lt = parts_within z.slots z.width c.slot_of.result c.args.part c.slot_of.ensures.within c.requires.part c.args.self.now.laid.planned.thin in
    omega (arith, told, lt)
