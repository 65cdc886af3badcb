-- A new pool over two lines, the last seat of each for who hands out the tasks.
use Rattle.std.proofs.Common.{◌≡◌, ◌∙◌, ◌+◌, sym, ap, Option, List, [], ◌∷◌, ◌++◌, map, length, arith}
use Rattle.std.specs.List.{All, AllZip}
use Rattle.std.proofs.lemmas.List.{length-map}
use Rattle.history.specs.Seats.{Permit}
use Rattle.carriers.specs.Knowledge.{KnownOf}
use Rattle.tasks.specs.declared.answers.Done.{Done}
use Rattle.tasks.specs.declared.runs.Numbered.{Numbered}
use Rattle.tasks.specs.declared.turns.Worked.{Worked}
use Rattle.tasks.specs.declared.posts.Post.{Post}
use Rattle.tasks.specs.declared.leader.Leader.{Leader}
use Rattle.tasks.specs.declared.fed_pools.Crew.{Crew}
use Rattle.tasks.specs.Workers.{IsPost, IsServed}
use Rattle.tasks.specs.Leaders.{IsLeading, HasEnded}
use Rattle.tasks.specs.FedPools.{IsLineOf}
use Rattle.tasks.specs.Posts.{takes, gives}
use Rattle.tasks.specs.Ends.{AllEnded}
use Rattle.tasks.proofs.Going.{begins}
use Rattle.tasks.proofs.Lines.{count, others_are, last_is, last_may, last_new}
use Rattle.tasks.proofs.Posting.{on, posts_are}
use Rattle.tasks.proofs.Closing.{as_many}

-- a list's last element is put behind the others, whatever these are called
split_by : {X : Type 0} {xs ys zs : List X} (x : X) → xs ≡ ys ++ x ∷ [] → zs ≡ ys → xs ≡ zs ++ x ∷ []
split_by x one other = one ∙ ap (λ l. l ++ x ∷ []) (sym other)

module _ {Q S V U T A : Type 0} {is_seat : Q → S → Type 0} {permits : Q → List Permit} {known : S → KnownOf (Numbered T)}
    {is_seat' : V → U → Type 0} {permits' : V → List Permit} {known' : U → KnownOf (Done A)}
    {queue : Q} {results : V} {seats takers : List S} {seats' givers : List U} (s : S) (u : U) (ps : List (Post S U))
    (line : IsLineOf is_seat permits known queue seats) (line' : IsLineOf is_seat' permits' known' results seats')
    (last : seats ≡ takers ++ s ∷ []) (last' : seats' ≡ givers ++ u ∷ []) (first : map takes ps ≡ takers) (first' : map gives ps ≡ givers)
    {q : Q} {v : V} (same : q ≡ queue) (same' : v ≡ results) where
  split : seats ≡ map takes ps ++ s ∷ []
  split = split_by s last first

  split' : seats' ≡ map gives ps ++ u ∷ []
  split' = split_by u last' first'

  -- the posts of its workers
  pub new_posts : All (IsPost is_seat permits known is_seat' permits' known' q v) ps
  new_posts =
      on (λ q v. All (IsPost is_seat permits known is_seat' permits' known' q v) ps) (sym same) (sym same')
      (posts_are is_seat permits known is_seat' permits' known' queue results ps
      (others_are is_seat permits known queue seats (map takes ps) s split line)
      (others_are is_seat' permits' known' results seats' (map gives ps) u split' line'))

  module _ {F : Type 0} (answers : T → A → Type 0) (stands : F → List T → List (Done A) → Type 0) (feed : F) where
    abbrev leader : Leader S U F
    leader = record { tasks = s; results = u; feed = feed; given = 0; awaited = 0 }

    -- who hands out the tasks
    pub new_leader : stands feed [] [] → IsLeading is_seat permits known is_seat' permits' known' answers stands q v leader
    new_leader so =
        on (λ q v. IsLeading is_seat permits known is_seat' permits' known' answers stands q v leader) (sym same) (sym same')
        (begins is_seat permits known is_seat' permits' known' answers stands queue results s u feed
        (last_is is_seat permits known queue seats (map takes ps) s split line)
        (last_may is_seat permits known queue seats (map takes ps) s split line)
        (last_new is_seat permits known queue seats (map takes ps) s split line)
        (last_is is_seat' permits' known' results seats' (map gives ps) u split' line')
        (last_may is_seat' permits' known' results seats' (map gives ps) u split' line')
        (last_new is_seat' permits' known' results seats' (map gives ps) u split' line') so)

    module _ {crew : Crew S U F A} (led : HasEnded is_seat permits known is_seat' permits' known' answers stands q v leader crew.led)
        (back : AllZip (IsServed is_seat permits known is_seat' permits' known' answers q v) ps crew.workers.items) where
      -- once its workers have ended
      pub new_ended : {q' : Q} {v' : V} → q' ≡ q → v' ≡ v → AllEnded is_seat permits known is_seat' permits' known' answers stands q' v' crew
      new_ended one other =
          on (λ q v. AllEnded is_seat permits known is_seat' permits' known' answers stands q v crew) (sym (one ∙ same)) (sym (other ∙ same'))
          (record {
            seats = seats;
            seats' = seats';
            line = line;
            line' = line';
            posts = ps;
            leader = leader;
            split = split;
            split' = split';
            led = on (λ q v. HasEnded is_seat permits known is_seat' permits' known' answers stands q v leader crew.led) same same' led;
            back = on (λ q v. AllZip (IsServed is_seat permits known is_seat' permits' known' answers q v) ps crew.workers.items) same same' back;
          })

  -- there is one seat more than workers
  pub new_many : (answers : T → A → Type 0) (ws : List (Worked (Post S U) (Option (Done A)))) → AllZip (IsServed is_seat permits known is_seat' permits' known' answers q v) ps ws → length seats ≡ length ws + 1
  new_many answers ws back =
      let many = as_many is_seat permits known is_seat' permits' known' answers q v ps ws back in
      let all = count is_seat permits known queue seats (map takes ps) s split line in
      let len = length-map ps takes in
      omega (arith, many, all, len)
