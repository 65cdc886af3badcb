use Rattle.std.proofs.Common.{◌++◌, ◌∷◌, [], length, ap, ◌∙◌, arith, None}
use Rattle.std.proofs.lemmas.List.{length-replicate, replicate_more}
use Rattle.tasks.proofs.gathers.empty_slots.Goals as goal

pub loop-preserved : goal.loop-preserved
loop-preserved g c = record {
  slots = c.push_reserved.ensures.items ∙ ap (λ xs. xs ++ None ∷ []) c.loop.invariant.slots ∙ replicate_more c.loop.counter None;
  room = omega (arith, c.push_reserved.ensures.capacity, c.loop.invariant.room);
}

pub push_reserved-requires : goal.push_reserved-requires
push_reserved-requires g c = omega (arith, simp length-replicate at (ap length c.loop.invariant.slots), c.loop.invariant.room)
