use Rattle.std.proofs.Common.{◌+◌, false, take, get_or, sym, ap, ◌∙◌, arith}
use Rattle.std.proofs.lemmas.List.{get_or-set_other}
use Rattle.std.specs.Slots.{slots_items, slots_filled}
use Rattle.node_arena.proofs.Emptied.{took_one, cleared}
use Rattle.node_arena.proofs.ended.take_all.Goals as goal

pub loop-i-preserved : goal.loop-i-preserved
loop-i-preserved g c =
    let pushed = rw c.unwrap.ensures at c.push.ensures.items in
    let before = c.loop-i.invariant in
    let took = c.take.ensures.others in
    record {
      taken = pushed ∙ took_one (slots_items c.loop-i.closed.slots) _ c.loop-i.i c.take.result before.taken c.take.ensures.value ∙ ap (take (c.loop-i.i + 1)) (sym took.0);
      room = omega (arith, before.room, took.2, c.push.ensures.capacity);
      same = took.0 ∙ before.same;
      count = took.2 ∙ before.count;
      words = took.3 ∙ before.words;
      full = λ k low high. ap (λ fs. get_or fs k false) took.1 ∙ (get_or-set_other (slots_filled c.loop-i.closed.slots) c.loop-i.i k false false
          (λ e. omega (arith, e, low)) ∙ before.full k (omega (arith, low)) (omega (arith, high, took.2)));
      none = λ k low. ap (λ fs. get_or fs k false) took.1 ∙ cleared (slots_filled c.loop-i.closed.slots) c.loop-i.i k (before.none k) low;
    }
