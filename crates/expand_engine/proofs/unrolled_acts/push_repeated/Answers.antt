use Rattle.std.proofs.Common.{sym, ◌∙◌}
use Rattle.std.proofs.lemmas.Bool.{eqb-true}
use Rattle.std.proofs.lemmas.List.{nil_from_length}
use Rattle.expand_engine.proofs.Unrolled.{repeated-next, repeated-none}
use Rattle.expand_engine.proofs.unrolled_acts.push_repeated.Goals as goal

pub returns-then-is_empty-clause-ok : goal.returns-then-is_empty-clause-ok
returns-then-is_empty-clause-ok c = repeated-none c.args.acts.now.items c.args.body.now c.args.times (nil_from_length _ (eqb-true _ _ (sym c.is_empty.ensures ∙ c.if-is_empty.true)))

pub loop-preserved : goal.loop-preserved
loop-preserved c =
    repeated-next c.args.acts.now.items c.loop.acts.items c.push_acts.new.acts.items c.args.body.now c.loop.counter c.loop.invariant c.in_ok-push_acts.ensures.ok
