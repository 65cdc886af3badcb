-- A pool whose workers have ended, with its queues.
use Rattle.std.specs.Prelude.{◌≡◌, List, [], ◌∷◌, ◌++◌, map}
use Rattle.std.specs.List.{AllZip}
use Rattle.history.specs.Seats.{Permit}
use Rattle.carriers.specs.Knowledge.{KnownOf}
use Rattle.tasks.specs.declared.answers.Done.{Done}
use Rattle.tasks.specs.declared.runs.Numbered.{Numbered}
use Rattle.tasks.specs.declared.posts.Post.{Post}
use Rattle.tasks.specs.declared.leader.Leader.{Leader}
use Rattle.tasks.specs.declared.fed_pools.Crew.{Crew}
use Rattle.tasks.specs.Workers.{IsServed}
use Rattle.tasks.specs.Leaders.{HasEnded}
use Rattle.tasks.specs.Posts.{takes, gives}
use Rattle.tasks.specs.FedPools.{IsLineOf}

module _ {Q S V U T A F : Type 0} (is_seat : Q → S → Type 0) (permits : Q → List Permit) (known : S → KnownOf (Numbered T))
    (is_seat' : V → U → Type 0) (permits' : V → List Permit) (known' : U → KnownOf (Done A))
    (answers : T → A → Type 0) (stands : F → List T → List (Done A) → Type 0) where
  -- all seats of two new queues were those of who handed out the tasks and of the workers, and these have ended
  pub record AllEnded (queue : Q) (results : V) (crew : Crew S U F A) : Type 0 where
    pub seats : List S
    pub seats' : List U
    pub line : IsLineOf is_seat permits known queue seats
    pub line' : IsLineOf is_seat' permits' known' results seats'
    pub posts : List (Post S U)
    pub leader : Leader S U F
    pub split : seats ≡ map takes posts ++ leader.tasks ∷ []
    pub split' : seats' ≡ map gives posts ++ leader.results ∷ []
    pub led : HasEnded is_seat permits known is_seat' permits' known' answers stands queue results leader crew.led
    pub back : AllZip (IsServed is_seat permits known is_seat' permits' known' answers queue results) posts crew.workers.items
