use Rattle.std.proofs.Common.{◌∙◌, ◌++◌, refl, sym, ap, map}
use Rattle.carriers.specs.Rests.{left_in}
use Rattle.tasks.specs.Answered.{value_in}
use Rattle.tasks.proofs.FedTelling.{told_none, told_one, told_all, not_empty}
use Rattle.tasks.proofs.fed_pools.tell_left.Goals as goal

pub loop-item-init : goal.loop-item-init
loop-item-init g c = record {
  told = told_none (g.F.Feed.stands c.args.feed.now) _ _
      (ap (λ r. map value_in (left_in r)) c.into_iter-item-iterator.ensures.into_iter_gives);
  kept = refl;
  same = λ none. refl;
}

pub loop-item-preserved : goal.loop-item-preserved
loop-item-preserved g c =
    let was = c.loop-item.invariant.told in
    let first = ap (map value_in) c.in-Some.ensures.steps.0 in
    record {
      told = told_one (g.F.Feed.stands c.args.feed.now) (g.F.Feed.stands c.loop-item.feed) (g.F.Feed.stands c.tell.new.self) _ _ _ c.in-Some.item.value was first c.tell.ensures.stands;
      kept = c.tell.ensures.kept ∙ c.loop-item.invariant.kept;
      same = λ none. not_empty was.before _ c.in-Some.item.value _ (ap (λ l. was.before ++ l) (sym first) ∙ was.split) none;
    }

pub returns-clause-told : goal.returns-clause-told
returns-clause-told g c = told_all (g.F.Feed.stands c.args.feed.now) (g.F.Feed.stands c.loop-item.feed) _ _ c.loop-item.invariant.told (ap (map value_in) c.in-None.ensures.steps.0.0)

pub returns-clause-same : goal.returns-clause-same
returns-clause-same g c = λ none. c.loop-item.invariant.same (ap (map value_in) none)
