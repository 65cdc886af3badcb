use Rattle.std.proofs.Common.{◌≡◌, length, ap, true, arith}
use Rattle.std.proofs.lemmas.List.Elements.{All-same, All-push}
use Rattle.msq_c.proofs.WordMade.{put_one, one_longer}
use Rattle.msq_c.proofs.slots.sealed.Goals as goal

pub loop-boxed-preserved : goal.loop-boxed-preserved
loop-boxed-preserved g c = record {
  those = put_one g.H.Slot.own c.loop-boxed.handles.items c.push_reserved.new.self.items c.of.result c.push_reserved.ensures.items
      c.loop-boxed.yielded c.in-Some.boxed (λ b. b.value) c.of.ensures.value c.loop-boxed.invariant.those;
  full = All-same (λ h. g.H.Slot.holds h ≡ true) _ _ c.push_reserved.ensures.items
      (All-push (λ h. g.H.Slot.holds h ≡ true) c.loop-boxed.handles.items c.of.result c.loop-boxed.invariant.full c.of.ensures.full);
  count = one_longer g.H.Slot.own c.loop-boxed.handles.items c.push_reserved.new.self.items c.of.result c.push_reserved.ensures.items
      c.loop-boxed.yielded c.in-Some.boxed c.loop-boxed.invariant.count;
  room = omega (arith, c.push_reserved.ensures.len, c.push_reserved.ensures.capacity, ap length c.in-Some.ensures.steps.0, c.loop-boxed.invariant.room);
}
