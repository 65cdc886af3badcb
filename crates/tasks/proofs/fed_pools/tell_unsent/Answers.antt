use Rattle.std.proofs.Common.{◌∙◌, ◌++◌, refl, sym, ap}
use Rattle.tasks.specs.Workers.{unsent_in}
use Rattle.tasks.specs.FedPools.{unsent_of}
use Rattle.tasks.proofs.FedTelling.{told_none, told_one, not_empty}
use Rattle.tasks.proofs.fed_pools.tell_unsent.Goals as goal

pub loop-done-init : goal.loop-done-init
loop-done-init g c = record { told = told_none (g.F.Feed.stands c.args.feed.now) _ _ (ap unsent_of c.into_iter-done-iterator.ensures.into_iter_gives.0); kept = refl; same = λ none. refl }

pub loop-done-preserved-in-Some-done : goal.loop-done-preserved-in-Some-done
loop-done-preserved-in-Some-done g c =
    let was = c.loop-done.invariant.told in
    let rest = c.next.new.self.rest.items in
    let first = ap unsent_of c.in-Some.ensures.steps.0 ∙ ap (λ o. unsent_in o ++ unsent_of rest) c.in-Some-done.is in
    record {
      told = told_one (g.F.Feed.stands c.args.feed.now) (g.F.Feed.stands c.loop-done.feed) (g.F.Feed.stands c.tell.new.self) _ (unsent_of rest) _ c.in-Some-done.done was first c.tell.ensures.stands;
      kept = c.tell.ensures.kept ∙ c.loop-done.invariant.kept;
      same = λ none. not_empty was.before _ c.in-Some-done.done _ (ap (λ l. was.before ++ l) (sym first) ∙ was.split) none;
    }
