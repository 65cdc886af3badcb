use Rattle.std.proofs.Common.{◌++◌, ◌∷◌, [], length, ap, ◌∙◌, sym, arith}
use Rattle.std.proofs.lemmas.List.{map_push}
use Rattle.picked.specs.Either.{as_second}
use Rattle.picked.proofs.either.EitherSeat.all_second.Goals as goal

pub loop-seat-preserved : goal.loop-seat-preserved
loop-seat-preserved g c = record {
  those = c.push_reserved.ensures.items ∙ ap (λ xs. xs ++ as_second c.in-Some.seat ∷ []) c.loop-seat.invariant.those ∙ sym (map_push as_second c.loop-seat.yielded c.in-Some.seat);
  room = omega (arith, c.push_reserved.ensures.len, c.push_reserved.ensures.capacity, ap length c.in-Some.ensures.steps.0, c.loop-seat.invariant.room);
}
