use Rattle.std.proofs.Common.{inl, ◌+◌, take, take_all, sym, subst}
use Rattle.std.specs.List.{AllZip}
use Rattle.std.proofs.lemmas.List.Elements.{all_zip_more}
use Rattle.placing.specs.SpreadStamps.{IsPointed}
use Rattle.placing.proofs.spread_stamps.pointed.Goals as goal

pub loop-index-preserved : goal.loop-index-preserved
loop-index-preserved c =
    subst (λ news. AllZip IsPointed (take (c.loop-index.index + 1) c.args.history.now) news) (sym c.in_ok-push.ensures.items)
    (all_zip_more IsPointed c.args.history.now c.loop-index.pointed.items c.loop-index.index c.index-history-index.result c.at_point.result
    c.loop-index-test.true c.index-history-index.is c.loop-index.invariant c.at_point.ensures)

pub returns : goal.returns
returns c =
    inl (subst (λ ops. AllZip IsPointed ops c.loop-index.pointed.items) (take_all c.loop-index.index c.args.history.now c.loop-index-test.false) c.loop-index.invariant)
