use Rattle.std.proofs.Common.{◌<◌, ◌∙◌, ap, sym, subst, length, map}
use Rattle.std.specs.List.{All}
use Rattle.std.proofs.lemmas.List.{length-set}
use Rattle.std.proofs.lemmas.List.Elements.{All-head, All-rest}
use Rattle.carriers.specs.Rests.{left_in}
use Rattle.tasks.specs.Gathers.{slots_in, fills, told_left}
use Rattle.tasks.proofs.gathers.Gather.put_left.Goals as goal

pub loop-item-preserved : goal.loop-item-preserved
loop-item-preserved g c =
    let rest = left_in c.next.new.self in
    let long = ap length c.put.ensures ∙ length-set (slots_in c.loop-item.self) _ _ in
    record {
      put = (λ i. fills (c.put.ensures i) (map told_left rest)) ∙ ap (λ r. fills (slots_in c.loop-item.self) (map told_left r)) (sym c.in-Some.ensures.steps.0) ∙ c.loop-item.invariant.put;
      within = subst (λ n. All (λ x. x.value.number < n) rest) (sym long) (All-rest (λ x. x.value.number < length (slots_in c.loop-item.self)) _ _ _
          c.in-Some.ensures.steps.0 c.loop-item.invariant.within);
    }

pub put-requires : goal.put-requires
put-requires g c = All-head (λ x. x.value.number < length (slots_in c.loop-item.self)) c.in-Some.item _ (rw c.in-Some.ensures.steps.0 at c.loop-item.invariant.within)

pub returns : goal.returns
returns g c = ap (λ r. fills (slots_in c.loop-item.self) (map told_left r)) (sym c.in-None.ensures.steps.0.0) ∙ c.loop-item.invariant.put
