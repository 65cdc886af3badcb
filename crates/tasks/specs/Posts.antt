-- The seats of a worker of a fed pool.
use Rattle.tasks.specs.declared.posts.Post.{Post}

module _ {S U : Type 0} where
  -- the seat of a post that takes tasks
  abbrev pub takes : Post S U → S
  takes p = p.taker

  -- its seat that sends results
  abbrev pub gives : Post S U → U
  gives p = p.giver
