use Rattle.std.specs.Prelude.{◌≡◌, ◌+◌, ◌≤◌, ◌++◌, length, map, vec_len, vec_capacity}
use Rattle.tasks.specs.Posts.{takes, gives}
use Rattle.tasks.proofs.posts.posts_of.Given as goal

abbrev pub invariant-loop-taker : goal.invariant-loop-taker
invariant-loop-taker g l = record {
  takers : map takes l.posts.items ++ l.taker-iterator.rest.items ≡ l.fn.takers.items;
  givers : map gives l.posts.items ++ l.givers.rest.items ≡ l.fn.givers.items;
  same : length l.taker-iterator.rest.items ≡ length l.givers.rest.items;
  room : vec_len l.posts + length l.taker-iterator.rest.items ≤ vec_capacity l.posts;
}
