use Rattle.std.proofs.Common.{◌<◌, ◌∙◌, ap, sym, subst, length, map}
use Rattle.std.specs.List.{All}
use Rattle.std.proofs.lemmas.List.{length-set}
use Rattle.std.proofs.lemmas.List.Elements.{All-head, All-rest}
use Rattle.tasks.specs.Gathers.{slots_in, fills, told_done}
use Rattle.tasks.proofs.gathers.Gather.put_done.Goals as goal

pub put-requires : goal.put-requires
put-requires g c =
    All-head (λ d. d.number < length (slots_in c.loop-one.self)) _ _ (subst (All (λ d. d.number < length (slots_in c.loop-one.self))) c.in-Some.ensures.steps.0 c.loop-one.invariant.within)

pub loop-one-preserved : goal.loop-one-preserved
loop-one-preserved g c =
    let rest = c.next.new.self.rest.items in
    let long = ap length c.put.ensures ∙ length-set (slots_in c.loop-one.self) _ _ in
    record {
      put = (λ i. fills (c.put.ensures i) (map told_done rest)) ∙ ap (λ r. fills (slots_in c.loop-one.self) (map told_done r)) (sym c.in-Some.ensures.steps.0) ∙ c.loop-one.invariant.put;
      within = subst (λ n. All (λ d. d.number < n) rest) (sym long) (All-rest (λ d. d.number < length (slots_in c.loop-one.self)) _ _ _ c.in-Some.ensures.steps.0 c.loop-one.invariant.within);
    }
