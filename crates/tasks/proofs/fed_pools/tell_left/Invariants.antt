use Rattle.std.specs.Prelude.{◌≡◌, [], map}
use Rattle.carriers.specs.Rests.{left_in}
use Rattle.tasks.specs.Answered.{value_in}
use Rattle.tasks.proofs.FedTelling.{Told}
use Rattle.tasks.proofs.fed_pools.tell_left.Given as goal

abbrev pub invariant-loop-item : goal.invariant-loop-item
invariant-loop-item g l = record {
  told : Told (g.F.Feed.stands l.initial.feed) (g.F.Feed.stands l.feed) (map value_in (left_in l.item-iterator)) (map value_in (left_in l.fn.rest));
  kept : g.F.Feed.kept l.feed ≡ g.F.Feed.kept l.initial.feed;
  same : map value_in (left_in l.fn.rest) ≡ [] → l.feed ≡ l.initial.feed;
}
