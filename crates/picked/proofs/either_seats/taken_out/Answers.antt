use Rattle.std.proofs.Common.{◌++◌, ◌∷◌, [], map, length, ap, ◌∙◌, sym, arith}
use Rattle.std.proofs.lemmas.List.{map_push}
use Rattle.std.proofs.lemmas.List.Elements.{All-head, All-rest}
use Rattle.picked.proofs.either_seats.taken_out.Goals as goal

pub loop-seat-preserved : goal.loop-seat-preserved
loop-seat-preserved g c = record {
  those = λ made is. ap (λ xs. xs ++ c.in-Some.seat ∷ []) (c.loop-seat.invariant.those made is)
      ∙ ap (λ x. map made c.loop-seat.room.items ++ x ∷ []) (is c.in-Some.seat c.take.result c.take.ensures)
      ∙ sym (map_push made c.loop-seat.room.items c.take.result) ∙ ap (map made) (sym c.push_reserved.ensures.items);
  each = All-rest (goal.F-pre g c.args.take) _ _ _ c.in-Some.ensures.steps.0 c.loop-seat.invariant.each;
  room = omega (arith, c.push_reserved.ensures.len, c.push_reserved.ensures.capacity, ap length c.in-Some.ensures.steps.0, c.loop-seat.invariant.room);
}

pub take-requires : goal.take-requires
take-requires g c = All-head (goal.F-pre g c.args.take) _ _ (rw c.in-Some.ensures.steps.0 at c.loop-seat.invariant.each)

pub push_reserved-requires : goal.push_reserved-requires
push_reserved-requires g c = omega (arith, ap length c.in-Some.ensures.steps.0, c.loop-seat.invariant.room)
