use Rattle.std.proofs.Common.{◌≡◌, ◌++◌, ◌∷◌, [], map, length, ap, ◌∙◌, sym, true, arith}
use Rattle.std.proofs.lemmas.List.{map_push, map-id, with_items_is}
use Rattle.std.proofs.lemmas.List.Elements.{All-rest}
use Rattle.std.proofs.lemmas.Iterator.Adapters.{YieldsList-from_vec}
use Rattle.std.proofs.lemmas.Iterator.Consumers.{YieldsList-end}
use Rattle.msq_c.specs.WordBlocks.{owned_in}
use Rattle.msq_c.specs.WordEnds.{owned_at}
use Rattle.msq_c.proofs.word_ends.take_all.Goals as goal

pub loop-handle-preserved : goal.loop-handle-preserved
loop-handle-preserved g c =
    let taken : c.into_owned.result ≡ owned_at g.H.Slot.own c.in-Some.handle = c.into_owned.ensures ∙ ap owned_in (c.into_inner.ensures ∙ c.into_seat.ensures) in
    record {
      those = c.push_reserved.ensures.items ∙ ap (λ xs. xs ++ c.into_owned.result ∷ []) c.loop-handle.invariant.those
          ∙ ap (λ x. map (owned_at g.H.Slot.own) c.loop-handle.yielded ++ x ∷ []) taken ∙ sym (map_push (owned_at g.H.Slot.own) c.loop-handle.yielded c.in-Some.handle);
      full = All-rest (λ h. g.H.Slot.holds h ≡ true) _ _ _ c.in-Some.ensures.steps.0 c.loop-handle.invariant.full;
      room = omega (arith, c.push_reserved.ensures.len, c.push_reserved.ensures.capacity, ap length c.in-Some.ensures.steps.0, c.loop-handle.invariant.room);
    }

pub returns-clause-taken : goal.returns-clause-taken
returns-clause-taken g c =
    let begun = c.into_iter-handle-iterator.ensures.into_iter_gives in
    let were : c.swap_with_slice.new.other ≡ c.args.slots.now = c.swap_with_slice.ensures.other_after in
    let many = c.swap_with_slice.ensures.other_len ∙ c.deref_mut.ensures.len in
    let first = begun.0 ∙ with_items_is c.in_ok-handles.handles c.swap_with_slice.new.other many ∙ were in
    let long = begun.1 ∙ sym many ∙ ap length were in
    let end = YieldsList-end (YieldsList-from_vec {s = c.into_iter-handle-iterator.result} c.args.slots.now first long)
    c.loop-handle.yielded c.loop-handle.handle-iterator c.loop-handle.yielded_by c.next.result c.next.new.self c.in-None.is c.next.ensures.steps in
    c.loop-handle.invariant.those ∙ ap (map (owned_at g.H.Slot.own)) (sym (map-id c.loop-handle.yielded) ∙ end.0)
