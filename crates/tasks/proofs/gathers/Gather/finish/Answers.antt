use Rattle.std.proofs.Common.{◌∙◌, ◌++◌, ◌∷◌, [], ap, sym, length, map, Some, append_assoc, arith, rules}
use Rattle.std.proofs.lemmas.List.{map-append}
use Rattle.std.proofs.lemmas.List.Elements.{All-head, All-rest}
use Rattle.tasks.specs.Gathers.{IsFilled}
use Rattle.tasks.proofs.gathers.Gather.finish.Goals as goal

pub loop-slot-preserved : goal.loop-slot-preserved
loop-slot-preserved g c =
    let rest = c.next.new.self.rest.items in
    let out = c.loop-slot.out.items in
    let one = c.in-Some-slot.outcome in
    let len = c.push_reserved.ensures.len in
    let cap = c.push_reserved.ensures.capacity in
    let fewer = ap length c.in-Some.ensures.steps.0 in
    let room = c.loop-slot.invariant.room in
    record {
      put = ap (λ l. map (λ x. Some x) l ++ rest) c.push_reserved.ensures.items
          ∙ ap (λ l. l ++ rest) (map-append (λ x. Some x) out (one ∷ []))
          ∙ append_assoc (map (λ x. Some x) out) (Some one ∷ []) rest
          ∙ ap (λ s. map (λ x. Some x) out ++ s ∷ rest) (sym c.in-Some-slot.is)
          ∙ ap (λ r. map (λ x. Some x) out ++ r) (sym c.in-Some.ensures.steps.0)
          ∙ c.loop-slot.invariant.put;
      filled = All-rest IsFilled _ _ _ c.in-Some.ensures.steps.0 c.loop-slot.invariant.filled;
      room = omega (arith, len, cap, fewer, room);
    }

pub push_reserved-requires : goal.push_reserved-requires
push_reserved-requires g c = omega (arith, ap length c.in-Some.ensures.steps.0, c.loop-slot.invariant.room)

pub unreachable-requires : goal.unreachable-requires
unreachable-requires g c =
    let filled : IsFilled c.in-Some.slot = All-head IsFilled _ _ (rw c.in-Some.ensures.steps.0 at c.loop-slot.invariant.filled) in
    search rules
