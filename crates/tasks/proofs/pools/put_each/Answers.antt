use Rattle.std.proofs.Common.{◌<◌, ◌∙◌, ap, sym, subst, length, map}
use Rattle.std.specs.List.{All}
use Rattle.std.proofs.lemmas.List.Elements.{All-head, All-rest}
use Rattle.tasks.specs.Gathers.{slots_in, fills, told_done}
use Rattle.tasks.proofs.Gathering.{fills-append, length-fills}
use Rattle.tasks.specs.Parts.{AreWithin, tells_of}
use Rattle.tasks.proofs.pools.put_each.Goals as goal

pub put_done-requires : goal.put_done-requires
put_done-requires g c =
    let n = length (slots_in c.loop-done.gather) in
    All-head (λ ds. All (λ d. d.number < n) ds.items) _ _ (subst (AreWithin n) c.in-Some.ensures.steps.0 c.loop-done.invariant.within)

pub loop-done-preserved : goal.loop-done-preserved
loop-done-preserved g c =
    let rest = c.next.new.self.rest.items in
    let was = slots_in c.loop-done.gather in
    let told = map told_done c.in-Some.done.items in
    let long = ap length c.put_done.ensures ∙ length-fills was told in
    record {
      put = (λ i. fills (c.put_done.ensures i) (tells_of rest)) ∙ sym (fills-append was told (tells_of rest)) ∙ ap (λ r. fills was (tells_of r))
          (sym c.in-Some.ensures.steps.0) ∙ c.loop-done.invariant.put;
      within = subst (λ n. AreWithin n rest) (sym long) (All-rest (λ ds. All (λ d. d.number < length was) ds.items) _ _ _ c.in-Some.ensures.steps.0 c.loop-done.invariant.within);
    }
