use Rattle.std.proofs.Common.{◌≡◌, ◌≤◌, All, None, arith, length, subst}
use Rattle.std.specs.Prelude.{option_map}
use Rattle.expand_engine.specs.declared.acts.Stop.{Stop}
use Rattle.expand_engine.specs.UnrolledActs.{unrolled}
use Rattle.expand_engine.specs.Expansions.{IsActOf, IsVersionOf}
use Rattle.expand_engine.proofs.Ranges.{acts_few, acts_in_range, sizes_in_range}
use Rattle.expand_engine.proofs.Standing.{stands_for, stop_acts}
use Rattle.expand_engine.proofs.expansions.expansion_of.Goals as goal

pub do_acts-requires-clause-range : goal.do_acts-requires-clause-range
do_acts-requires-clause-range c = sizes_in_range c.args.recipe.now.text.items c.args.recipe.now.sizes c.args.recipe.now.lines.items c.requires

pub do_acts-requires-clause-acts : goal.do_acts-requires-clause-acts
do_acts-requires-clause-acts c =
    let told = c.in_ok-acts.ensures.ok in
    let lines = c.deref.ensures.value in
    let given = c.deref-2.ensures.value in
    let same : unrolled 1 None c.args.recipe.now.lines.items ≡ c.deref-2.result.now = cc in
    subst (All IsActOf) same (acts_in_range c.args.recipe.now.text.items c.args.recipe.now.sizes c.args.recipe.now.lines.items c.requires)

pub do_acts-requires-clause-few : goal.do_acts-requires-clause-few
do_acts-requires-clause-few c =
    let told = c.in_ok-acts.ensures.ok in
    let lines = c.deref.ensures.value in
    let given = c.deref-2.ensures.value in
    let same : unrolled 1 None c.args.recipe.now.lines.items ≡ c.deref-2.result.now = cc in
    subst (λ acts. length acts ≤ 1000000) same (acts_few c.args.recipe.now.text.items c.args.recipe.now.sizes c.args.recipe.now.lines.items c.requires)

pub with_refused-requires : goal.with_refused-requires
with_refused-requires c =
    let told = c.in_ok-acts.ensures.ok in
    let lines = c.deref.ensures.value in
    let given = c.deref-2.ensures.value in
    let same : unrolled 1 None c.args.recipe.now.lines.items ≡ c.deref-2.result.now = cc in
    stop_acts c.args.recipe.now.text.items c.args.recipe.now.sizes c.args.recipe.now.lines.items c.deref-2.result.now c.in_ok-done.done c.requires same c.in_ok-done.ensures.ok

pub returns-clause-ok : goal.returns-clause-ok
returns-clause-ok c =
    let told = c.in_ok-acts.ensures.ok in
    let lines = c.deref.ensures.value in
    let given = c.deref-2.ensures.value in
    let same : unrolled 1 None c.args.recipe.now.lines.items ≡ c.deref-2.result.now = cc in
    let events = c.deref-3.ensures.value in
    let last : c.deref-3.result.now ≡ c.in_ok-events.events.items = cc in
    let refuses = c.refusal_of.ensures in
    let made_is : c.len.result ≡ length c.in_ok-done.done.events.items = omega (arith, c.len.ensures, c.in_ok-done.done.events.ok) in
    let refusal_is : c.refusal_of.result ≡ option_map (λ (stop : Stop). stop.refusal) c.in_ok-done.done.stop = cc in
    stands_for c.args.recipe.now.text.items c.args.recipe.now.sizes c.args.recipe.now.lines.items c.deref-2.result.now c.in_ok-done.done c.requires same c.in_ok-done.ensures.ok c.in_ok-events.events.items
    c.version_of.result _ _ c.in_ok-events.ensures.ok (subst (λ events. IsVersionOf c.args.recipe.now.sizes.bits events c.version_of.result) last c.version_of.ensures) made_is refusal_is
