use Rattle.std.proofs.Common.{◌≡◌, ◌++◌, ◌∷◌, [], map, length, ap, ◌∙◌, sym, true, arith}
use Rattle.std.proofs.lemmas.List.{map_push}
use Rattle.std.proofs.lemmas.List.Elements.{All-rest}
use Rattle.msq_c.specs.Blocks.{owned_in}
use Rattle.msq_c.specs.Seats.{is_full}
use Rattle.msq_c.specs.Ends.{owned_at}
use Rattle.msq_c.proofs.ends.take_all.Goals as goal

pub loop-handle-preserved : goal.loop-handle-preserved
loop-handle-preserved c =
    let taken : c.into_owned.result ≡ owned_at c.in-Some.handle = c.into_owned.ensures ∙ ap owned_in (c.into_inner.ensures ∙ c.into_seat.ensures) in
    record {
      those = c.push_reserved.ensures.items ∙ ap (λ xs. xs ++ c.into_owned.result ∷ []) c.loop-handle.invariant.those
          ∙ ap (λ x. map owned_at c.loop-handle.yielded ++ x ∷ []) taken ∙ sym (map_push owned_at c.loop-handle.yielded c.in-Some.handle);
      full = All-rest (λ h. is_full h ≡ true) _ _ _ c.in-Some.ensures.steps.0 c.loop-handle.invariant.full;
      room = omega (arith, c.push_reserved.ensures.len, c.push_reserved.ensures.capacity, ap length c.in-Some.ensures.steps.0, c.loop-handle.invariant.room);
    }
