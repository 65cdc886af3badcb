use Rattle.std.specs.Prelude.{◌≡◌, ◌+◌, ◌≤◌, ◌++◌, length, map, vec_len, vec_capacity}
use Rattle.tasks.specs.Posts.{takes, gives}
use Rattle.tasks.proofs.posts.seats_of.Given as goal

abbrev pub invariant-loop-post : goal.invariant-loop-post
invariant-loop-post g l = record {
  takers : l.takers.items ++ map takes l.post-iterator.rest.items ≡ map takes l.fn.posts.items;
  givers : l.givers.items ++ map gives l.post-iterator.rest.items ≡ map gives l.fn.posts.items;
  room : vec_len l.takers + length l.post-iterator.rest.items ≤ vec_capacity l.takers;
  room_too : vec_len l.givers + length l.post-iterator.rest.items ≤ vec_capacity l.givers;
}
