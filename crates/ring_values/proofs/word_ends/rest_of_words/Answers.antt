use Rattle.std.proofs.Common.{◌≡◌, ℕ, ◌+◌, ◌-◌, ◌*◌, ◌++◌, List, length, take, drop, slice_range, ap, ◌∙◌, arith}
use Rattle.std.proofs.Math.Nat.{suc-mul}
use Rattle.carriers.specs.declared.items.ItemOf.{ItemOf}
use Rattle.history.specs.Rests.{left_of}
use Rattle.ring_values.specs.WordQueues.{joined}
use Rattle.ring_values.proofs.LearnedWords.{one_joined}
use Rattle.ring_values.proofs.word_ends.rest_of_words.Goals as goal

pub loop-number-preserved : goal.loop-number-preserved
loop-number-preserved g c =
    let K = g.row.K in
    let at = c.loop-number.at in
    let words = c.args.words.items in
    let later = left_of c.next.new.self in
    let so = c.loop-number.invariant in
    let gives = c.in-Some.ensures.steps.0 in
    let fewer = ap length gives in
    let pushed = rw c.unwrap.ensures at c.push.ensures.items in
    let longer = rw c.unwrap.ensures at c.push.ensures.len in
    let part = ap (λ (xs : List ℕ). slice_range xs at (at + K)) c.deref.ensures.value in
    let wide : at + K - at ≡ K = omega arith in
    let value = c.copy_from_slice.ensures.after ∙ part ∙ ap (λ (k : ℕ). take k (drop at words)) wide in
    let one = one_joined K c.loop-number.values.items _ (left_of c.loop-number.rest) later words at c.in-Some.number c.copy_from_slice.new.self gives value so.so_far in
    record {
      so_far = ap (λ (xs : List (ItemOf (List ℕ))). xs ++ joined K later (drop (at + K) words)) pushed ∙ one;
      same = omega (arith, so.same, ap (λ (k : ℕ). k * K) fewer, suc-mul (length later) K);
      room = omega (arith, so.room, longer, fewer, c.push.ensures.capacity);
    }
