-- A pool that has ended, closed by all its seats.
use Rattle.std.proofs.Common.{◌≡◌, refl, ap, subst, suc, Option, List, [], ◌∷◌, ◌++◌, map, length}
use Rattle.std.specs.List.{All, AllZip}
use Rattle.std.specs.List.Sorted.{IsPermutation}
use Rattle.std.proofs.lemmas.List.Elements.{All-cons, All-nil}
use Rattle.history.specs.Seats.{Permit}
use Rattle.carriers.specs.declared.rests.RestOf.{RestOf}
use Rattle.carriers.specs.Knowledge.{KnownOf}
use Rattle.carriers.specs.Rests.{left_in}
use Rattle.carriers.specs.Ends.{ClosesOf}
use Rattle.carriers.specs.Together.{pushed_by, popped_by}
use Rattle.carriers.proofs.Together.{handed_over_once}
use Rattle.tasks.specs.declared.answers.Done.{Done}
use Rattle.tasks.specs.declared.runs.Numbered.{Numbered}
use Rattle.tasks.specs.declared.turns.Worked.{Worked}
use Rattle.tasks.specs.declared.posts.Post.{Post}
use Rattle.tasks.specs.declared.fed_pools.Crew.{Crew}
use Rattle.tasks.specs.Answered.{AnsweredOnce, value_in}
use Rattle.tasks.specs.Workers.{IsServed}
use Rattle.tasks.specs.Leaders.{LeadsSo}
use Rattle.tasks.specs.FedPools.{taker_in, giver_in, unsent_of}
use Rattle.tasks.specs.Parts.{done_in}
use Rattle.tasks.specs.Posts.{takes, gives}
use Rattle.tasks.specs.Ends.{AllEnded}
use Rattle.tasks.proofs.Together.{Together, together}
use Rattle.tasks.proofs.Lines.{numbers, others_new, apart, every}
use Rattle.tasks.proofs.FedEnding as ending

module _ {Q S V U T A : Type 0} (is_seat : Q → S → Type 0) (permits : Q → List Permit) (known : S → KnownOf (Numbered T))
    (is_seat' : V → U → Type 0) (permits' : V → List Permit) (known' : U → KnownOf (Done A)) (answers : T → A → Type 0) where
  module _ (queue : Q) (results : V) where
    abbrev Is : Post S U → Worked (Post S U) (Option (Done A)) → Type 0
    Is = IsServed is_seat permits known is_seat' permits' known' answers queue results

    -- the workers' seats are back
    pub takers_back : (ps : List (Post S U)) (ws : List (Worked (Post S U) (Option (Done A)))) → AllZip Is ps ws → All (is_seat queue) (map taker_in ws)
    takers_back [] [] h = All-nil (is_seat queue)
    takers_back [] (w ∷ ws) h = absurd h
    takers_back (p ∷ ps) [] h = absurd h
    takers_back (p ∷ ps) (w ∷ ws) h = All-cons (is_seat queue) w.seat.taker (map taker_in ws) h.0.post.taker (takers_back ps ws h.1)

    pub givers_back : (ps : List (Post S U)) (ws : List (Worked (Post S U) (Option (Done A)))) → AllZip Is ps ws → All (is_seat' results) (map giver_in ws)
    givers_back [] [] h = All-nil (is_seat' results)
    givers_back [] (w ∷ ws) h = absurd h
    givers_back (p ∷ ps) [] h = absurd h
    givers_back (p ∷ ps) (w ∷ ws) h = All-cons (is_seat' results) w.seat.giver (map giver_in ws) h.0.post.giver (givers_back ps ws h.1)

    -- with their numbers
    taker_numbers : (ps : List (Post S U)) (ws : List (Worked (Post S U) (Option (Done A)))) → AllZip Is ps ws → numbers (map known (map taker_in ws)) ≡ numbers (map known (map takes ps))
    taker_numbers [] [] h = refl
    taker_numbers [] (w ∷ ws) h = absurd h
    taker_numbers (p ∷ ps) [] h = absurd h
    taker_numbers (p ∷ ps) (w ∷ ws) h = (λ i. h.0.taker_number i ∷ taker_numbers ps ws h.1 i)

    giver_numbers : (ps : List (Post S U)) (ws : List (Worked (Post S U) (Option (Done A)))) → AllZip Is ps ws → numbers (map known' (map giver_in ws)) ≡ numbers (map known' (map gives ps))
    giver_numbers [] [] h = refl
    giver_numbers [] (w ∷ ws) h = absurd h
    giver_numbers (p ∷ ps) [] h = absurd h
    giver_numbers (p ∷ ps) (w ∷ ws) h = (λ i. h.0.giver_number i ∷ giver_numbers ps ws h.1 i)

    pub as_many : (ps : List (Post S U)) (ws : List (Worked (Post S U) (Option (Done A)))) → AllZip Is ps ws → length ws ≡ length ps
    as_many [] [] h = refl
    as_many [] (w ∷ ws) h = absurd h
    as_many (p ∷ ps) [] h = absurd h
    as_many (p ∷ ps) (w ∷ ws) h = ap suc (as_many ps ws h.1)

  module _ {F : Type 0} (stands : F → List T → List (Done A) → Type 0) (queue : Q) (results : V) (crew : Crew S U F A)
      (e : AllEnded is_seat permits known is_seat' permits' known' answers stands queue results crew) where
    abbrev ws : List (Worked (Post S U) (Option (Done A)))
    ws = crew.workers.items

    abbrev g : KnownOf (Numbered T)
    g = known crew.led.leader.tasks

    abbrev o : KnownOf (Done A)
    o = known' crew.led.leader.results

    abbrev ks : List (KnownOf (Numbered T))
    ks = map known (map taker_in ws)

    abbrev os : List (KnownOf (Done A))
    os = map known' (map giver_in ws)

    -- each seat is the queue's
    pub takers_in : All (is_seat queue) (crew.led.leader.tasks ∷ map taker_in ws)
    takers_in = All-cons (is_seat queue) crew.led.leader.tasks (map taker_in ws) e.led.goes.leading.seats.tasks_seat (takers_back queue results e.posts ws e.back)

    pub givers_in : All (is_seat' results) (crew.led.leader.results ∷ map giver_in ws)
    givers_in = All-cons (is_seat' results) crew.led.leader.results (map giver_in ws) e.led.goes.leading.seats.results_seat (givers_back queue results e.posts ws e.back)

    all_ws : Together is_seat permits known is_seat' permits' known' answers queue results ws
    all_ws =
        together is_seat permits known is_seat' permits' known' answers queue results e.posts ws e.back
        (others_new is_seat permits known queue e.seats (map takes e.posts) e.leader.tasks e.split e.line)
        (others_new is_seat' permits' known' results e.seats' (map gives e.posts) e.leader.results e.split' e.line')

    module _ (rest : RestOf (Numbered T)) (untold : RestOf (Done A)) (ts : List S) (us : List U) (is : ts ≡ crew.led.leader.tasks ∷ map taker_in ws)
        (is' : us ≡ crew.led.leader.results ∷ map giver_in ws)
        (closed : ClosesOf (permits queue) (map known ts) rest) (closed' : ClosesOf (permits' results) (map known' us) untold) where
      by_all : ClosesOf (permits queue) (g ∷ ks) rest
      by_all = subst (λ l. ClosesOf (permits queue) (map known l) rest) is closed

      by_all' : ClosesOf (permits' results) (o ∷ os) untold
      by_all' = subst (λ l. ClosesOf (permits' results) (map known' l) untold) is' closed'

      tasks_once : IsPermutation (pushed_by (g ∷ ks)) (popped_by (g ∷ ks) ++ left_in rest)
      tasks_once =
          handed_over_once (permits queue) (g ∷ ks) rest by_all
          (by_all.all (every is_seat permits known queue e.seats (map takes e.posts) e.leader.tasks e.split e.line g ks e.led.goes.tasks_number (taker_numbers queue results e.posts ws e.back)))
          (apart is_seat permits known queue e.seats (map takes e.posts) e.leader.tasks e.split e.line g ks e.led.goes.tasks_number (taker_numbers queue results e.posts ws e.back))

      results_once : IsPermutation (pushed_by (o ∷ os)) (popped_by (o ∷ os) ++ left_in untold)
      results_once =
          handed_over_once (permits' results) (o ∷ os) untold by_all'
          (by_all'.all (every is_seat' permits' known' results e.seats' (map gives e.posts) e.leader.results e.split' e.line' o os
          e.led.goes.results_number (giver_numbers queue results e.posts ws e.back)))
          (apart is_seat' permits' known' results e.seats' (map gives e.posts) e.leader.results e.split' e.line' o os e.led.goes.results_number (giver_numbers queue results e.posts ws e.back))

      abbrev so : LeadsSo answers (stands crew.led.leader.feed) g o crew.led.leader.given crew.led.leader.awaited
      so = e.led.goes.leading.so

      -- each task that was given is told of once
      pub answered : AnsweredOnce answers so.given ((so.told ++ map value_in (left_in untold)) ++ unsent_of (map done_in ws)) (map value_in (left_in rest))
      answered =
          let t = all_ws in
          ending.answered_once answers (stands crew.led.leader.feed) g o crew.led.leader.given crew.led.leader.awaited so ks os t.items t.dones t.sent (unsent_of (map done_in ws))
          t.popped t.pushed t.given t.taken t.done t.all rest untold tasks_once results_once

      -- and nothing is left where all was told
      pub nothing_left : crew.led.leader.awaited ≡ 0 → (left_in rest ≡ []) × ((left_in untold ≡ []) × (unsent_of (map done_in ws) ≡ []))
      nothing_left =
          let t = all_ws in
          ending.nothing_left answers (stands crew.led.leader.feed) g o crew.led.leader.given crew.led.leader.awaited so ks os t.items t.dones t.sent (unsent_of (map done_in ws))
          t.popped t.pushed t.given t.taken t.done t.all rest untold tasks_once results_once
