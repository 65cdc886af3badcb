use Rattle.std.proofs.Common.{◌++◌, ◌∷◌, [], length, ap, ◌∙◌, sym, arith}
use Rattle.std.proofs.lemmas.List.{map_push}
use Rattle.owned.specs.Owned.{seat_of}
use Rattle.owned.proofs.ends.without_shares.Goals as goal

pub loop-one-preserved : goal.loop-one-preserved
loop-one-preserved g c = record {
  those = c.push_reserved.ensures.items ∙ ap (λ xs. xs ++ seat_of c.in-Some.one ∷ []) c.loop-one.invariant.those ∙ sym (map_push seat_of c.loop-one.yielded c.in-Some.one);
  room = omega (arith, c.push_reserved.ensures.len, c.push_reserved.ensures.capacity, ap length c.in-Some.ensures.steps.0, c.loop-one.invariant.room);
}
