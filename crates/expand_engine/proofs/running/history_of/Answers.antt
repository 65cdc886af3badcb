use Rattle.std.proofs.Common.{◌≡◌, ◌≤◌, All, None, length, subst}
use Rattle.expand_engine.specs.UnrolledActs.{unrolled}
use Rattle.expand_engine.specs.Expansions.{IsActOf}
use Rattle.expand_engine.proofs.Ranges.{acts_few, acts_in_range, sizes_in_range}
use Rattle.expand_engine.proofs.running.history_of.Goals as goal

pub history_of_acts-requires-clause-range : goal.history_of_acts-requires-clause-range
history_of_acts-requires-clause-range c = sizes_in_range c.args.recipe.now.text.items c.args.recipe.now.sizes c.args.recipe.now.lines.items c.requires

pub history_of_acts-requires-clause-acts : goal.history_of_acts-requires-clause-acts
history_of_acts-requires-clause-acts c =
    let told = c.in_ok-acts.ensures.ok in
    let lines = c.deref.ensures.value in
    let given = c.deref-2.ensures.value in
    let same : unrolled 1 None c.args.recipe.now.lines.items ≡ c.deref-2.result.now = cc in
    subst (All IsActOf) same (acts_in_range c.args.recipe.now.text.items c.args.recipe.now.sizes c.args.recipe.now.lines.items c.requires)

pub history_of_acts-requires-clause-few : goal.history_of_acts-requires-clause-few
history_of_acts-requires-clause-few c =
    let told = c.in_ok-acts.ensures.ok in
    let lines = c.deref.ensures.value in
    let given = c.deref-2.ensures.value in
    let same : unrolled 1 None c.args.recipe.now.lines.items ≡ c.deref-2.result.now = cc in
    subst (λ acts. length acts ≤ 1000000) same (acts_few c.args.recipe.now.text.items c.args.recipe.now.sizes c.args.recipe.now.lines.items c.requires)
