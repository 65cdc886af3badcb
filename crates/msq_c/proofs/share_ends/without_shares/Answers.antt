use Rattle.std.proofs.Common.{◌≡◌, ◌++◌, ◌∷◌, [], map, length, ap, ◌∙◌, sym, subst, true, arith}
use Rattle.std.specs.List.{All}
use Rattle.std.proofs.lemmas.List.{map_push}
use Rattle.std.proofs.lemmas.List.Elements.{All-rest}
use Rattle.shared_queue.specs.Sharing.{share_queue, share_seat}
use Rattle.msq_c.specs.NewShares.{share_at}
use Rattle.msq_c.specs.ShareEnds.{seat_at}
use Rattle.msq_c.proofs.ShareEnds.{sit_more}
use Rattle.msq_c.proofs.share_ends.without_shares.Goals as goal

pub loop-handle-preserved : goal.loop-handle-preserved
loop-handle-preserved g c =
    let share : c.into_share.result ≡ share_at g.H.Slot.own c.in-Some.handle = c.into_share.ensures ∙ ap (λ b. b.share) (c.into_inner.ensures ∙ c.into_seat.ensures) in
    let seat : c.into_parts-seat.result.1 ≡ seat_at g.H.Slot.own c.in-Some.handle = c.into_parts-seat.ensures.seat ∙ ap share_seat share in
    let here : g.C.Carrier.is_seat (share_queue (share_at g.H.Slot.own c.in-Some.handle)) c.into_parts-seat.result.1 =
    subst (λ s. g.C.Carrier.is_seat (share_queue s) c.into_parts-seat.result.1) share c.into_parts-seat.ensures.sits.0 in
    record {
      those = c.push_reserved.ensures.items ∙ ap (λ xs. xs ++ c.into_parts-seat.result.1 ∷ []) c.loop-handle.invariant.those
          ∙ ap (λ x. map (seat_at g.H.Slot.own) c.loop-handle.yielded ++ x ∷ []) seat ∙ sym (map_push (seat_at g.H.Slot.own) c.loop-handle.yielded c.in-Some.handle);
      sit = λ q all. subst (All (g.C.Carrier.is_seat q)) (sym c.push_reserved.ensures.items)
          (sit_more g.H.Slot.own c.loop-handle.seats.items c.loop-handle.yielded c.in-Some.handle c.into_parts-seat.result.1 c.loop-handle.invariant.sit here q all);
      full = All-rest (λ h. g.H.Slot.holds h ≡ true) _ _ _ c.in-Some.ensures.steps.0 c.loop-handle.invariant.full;
      room = omega (arith, c.push_reserved.ensures.len, c.push_reserved.ensures.capacity, ap length c.in-Some.ensures.steps.0, c.loop-handle.invariant.room);
    }
