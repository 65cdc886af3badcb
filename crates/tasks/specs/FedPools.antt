-- The two queues of a fed pool, and what became of its tasks.
use Rattle.std.specs.Prelude.{◌≡◌, ℕ, ◌+◌, ◌≤◌, ◌<◌, List, [], map, length, Option, Some, slice_get, vec_capacity}
use Rattle.std.specs.List.{All, flat_map}
use Rattle.history.specs.Seats.{Permit, MayPush, MayPop}
use Rattle.carriers.specs.Knowledge.{KnownOf}
use Rattle.carriers.specs.Rests.{left_in}
use Rattle.tasks.specs.declared.answers.Done.{Done}
use Rattle.tasks.specs.declared.turns.Worked.{Worked}
use Rattle.tasks.specs.declared.posts.Post.{Post}
use Rattle.tasks.specs.declared.fed_pools.Line.{Line}
use Rattle.tasks.specs.declared.fed_pools.Fed.{Fed}
use Rattle.tasks.specs.declared.fed_pools.Rooms.{Rooms}
use Rattle.tasks.specs.declared.fed_pools.Space.{Space}
use Rattle.tasks.specs.Answered.{AnsweredOnce, value_in}
use Rattle.tasks.specs.Workers.{unsent_in}
use Rattle.tasks.specs.Parts.{IsNew}

-- these are all the seats of a new queue, in no call, and each may push and pop
pub record IsLineOf {Q S N : Type 0} (is_seat : Q → S → Type 0) (permits : Q → List Permit) (known : S → KnownOf N) (queue : Q) (seats : List S) : Type 0 where
  pub each : All (is_seat queue) seats
  pub count : length seats ≡ length (permits queue)
  pub some : 0 < length seats
  pub unused : (k : ℕ) (s : S) → slice_get seats k ≡ Some s → ((known s).number ≡ k + 1) × ((known s).mine ≡ [])
  pub both : (k : ℕ) → k < length seats → MayPush (permits queue) (k + 1) × MayPop (permits queue) (k + 1)

-- and so are those of a line
abbrev pub IsLine : {Q S N : Type 0} → (Q → S → Type 0) → (Q → List Permit) → (S → KnownOf N) → Line Q S → Type 0
IsLine is_seat permits known line = IsLineOf is_seat permits known line.queue line.seats.items

-- the feed gave tasks and was told results: each task that it gave has its own result among these, or is handed back; each once
pub record HasFed {T A F : Type 0} (answers : T → A → Type 0) (stands : F → List T → List (Done A) → Type 0) (fed : Fed F T) : Type 0 where
  pub given : List T
  pub told : List (Done A)
  pub so_far : stands fed.feed given told
  pub answered : AnsweredOnce answers given told (map value_in (left_in fed.left))

-- the results that weren't sent
abbrev pub unsent_of : {A : Type 0} → List (Option (Done A)) → List (Done A)
unsent_of rs = flat_map unsent_in rs

module _ {S U A : Type 0} where
  -- the seat of a worker that takes tasks
  abbrev pub taker_in : Worked (Post S U) (Option (Done A)) → S
  taker_in w = w.seat.taker

  -- its seat that sends results
  abbrev pub giver_in : Worked (Post S U) (Option (Done A)) → U
  giver_in w = w.seat.giver

  -- there is room for what so many workers bring back, and for their seats, and nothing is there yet
  pub record AreRooms (n : ℕ) (rooms : Rooms S U A) : Type 0 where
    pub parts : IsNew n rooms.parts
    pub no_takers : rooms.takers.items ≡ []
    pub takers : n ≤ vec_capacity rooms.takers
    pub no_givers : rooms.givers.items ≡ []
    pub givers : n ≤ vec_capacity rooms.givers

  -- there is room for so many workers, and nothing is there yet
  pub record IsSpace (n : ℕ) (space : Space S U A) : Type 0 where
    pub no_posts : space.posts.items ≡ []
    pub posts : n ≤ vec_capacity space.posts
    pub no_workers : space.workers.items ≡ []
    pub workers : n ≤ vec_capacity space.workers
    pub rooms : AreRooms n space.rooms
