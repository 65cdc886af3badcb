use Rattle.std.proofs.Common.{◌++◌, ◌∷◌, [], length, ap, ◌∙◌, sym, arith}
use Rattle.std.proofs.lemmas.List.{map_push}
use Rattle.seat_pool.proofs.ends.bare.Goals as goal

pub loop-held-preserved : goal.loop-held-preserved
loop-held-preserved g c = record {
  those = c.push_reserved.ensures.items ∙ (λ i. c.loop-held.invariant.those i ++ c.into_seat.ensures i ∷ []) ∙ sym (map_push _ c.loop-held.yielded c.in-Some.held);
  room = omega (arith, c.push_reserved.ensures.len, c.push_reserved.ensures.capacity, ap length c.in-Some.ensures.steps.0, c.loop-held.invariant.room);
}
