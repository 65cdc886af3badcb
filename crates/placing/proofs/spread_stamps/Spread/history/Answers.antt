use Rattle.std.proofs.Common.{◌+◌, ◌∙◌, ap, take, take_all, sym, subst, arith}
use Rattle.std.specs.Option.{option_flatten}
use Rattle.std.specs.List.{AllZip}
use Rattle.std.proofs.lemmas.List.Elements.{all_zip_more}
use Rattle.placing.specs.SpreadStamps.{IsSpreadFrom}
use Rattle.placing.proofs.Putting.{lent_at, points_more}
use Rattle.placing.proofs.spread_stamps.Spread.history.Goals as goal

pub loop-index-preserved : goal.loop-index-preserved
loop-index-preserved c =
    let long = c.requires.long in
    let within = c.loop-index-test.true in
    let there = lent_at (λ p. p.now) c.args.points.now c.loop-index.index c.get.result c.get.ensures.lookup in
    let at = c.in-Some.ensures.at ∙ c.flatten-at.ensures ∙ ap option_flatten (c.copied.ensures ∙ there) in (
      subst
          (λ news. AllZip (IsSpreadFrom c.args.self.now.numbers.items c.args.self.now.width) (take (c.loop-index.index + 1) c.args.history.now) news)
          (sym c.in_ok-push-in-Some.ensures.items)
          (all_zip_more (IsSpreadFrom c.args.self.now.numbers.items c.args.self.now.width) c.args.history.now c.loop-index.spread.items
          c.loop-index.index c.index-history-index.result c.in-Some.new c.loop-index-test.true c.index-history-index.is c.loop-index.invariant.0
          c.in-Some.ensures.new),
      points_more c.args.points.now c.loop-index.spread.items c.push.new.self.items c.in-Some.new c.loop-index.index (omega (arith, long, within)) at
          c.loop-index.invariant.1 c.in_ok-push-in-Some.ensures.items,
    )

pub returns-clause-spread : goal.returns-clause-spread
returns-clause-spread c =
    subst (λ ops. AllZip (IsSpreadFrom c.args.self.now.numbers.items c.args.self.now.width) ops c.loop-index.spread.items)
    (take_all c.loop-index.index c.args.history.now c.loop-index-test.false) c.loop-index.invariant.0

pub returns-clause-points : goal.returns-clause-points
returns-clause-points c =
    let long = c.requires.long in
    let past = c.loop-index-test.false in
    c.loop-index.invariant.1 ∙ take_all c.loop-index.index c.args.points.now (omega (arith, long, past))
