use Rattle.std.specs.Prelude.{◌≡◌, []}
use Rattle.tasks.specs.FedPools.{unsent_of}
use Rattle.tasks.proofs.FedTelling.{Told}
use Rattle.tasks.proofs.fed_pools.tell_unsent.Given as goal

abbrev pub invariant-loop-done : goal.invariant-loop-done
invariant-loop-done g l = record {
  told : Told (g.F.Feed.stands l.initial.feed) (g.F.Feed.stands l.feed) (unsent_of l.done-iterator.rest.items) (unsent_of l.fn.unsent.items);
  kept : g.F.Feed.kept l.feed ≡ g.F.Feed.kept l.initial.feed;
  same : unsent_of l.fn.unsent.items ≡ [] → l.feed ≡ l.initial.feed;
}
