-- A pool that has ended, closed by all its seats, under whatever names these go.
use Rattle.std.proofs.Common.{◌≡◌, ◌∙◌, ◌+◌, ◌++◌, sym, ap, subst, List, [], ◌∷◌, map, length, Option, None, arith}
use Rattle.std.specs.List.{All}
use Rattle.std.proofs.lemmas.List.{length-map}
use Rattle.history.specs.Seats.{Permit}
use Rattle.carriers.specs.declared.rests.RestOf.{RestOf}
use Rattle.carriers.specs.Knowledge.{KnownOf}
use Rattle.carriers.specs.Ends.{ClosesOf, AsksSoMany}
use Rattle.carriers.specs.Rests.{left_in}
use Rattle.tasks.specs.declared.answers.Done.{Done}
use Rattle.tasks.specs.declared.runs.Numbered.{Numbered}
use Rattle.tasks.specs.declared.turns.Worked.{Worked}
use Rattle.tasks.specs.declared.posts.Post.{Post}
use Rattle.tasks.specs.declared.fed_pools.Crew.{Crew}
use Rattle.tasks.specs.Answered.{AnsweredOnce, value_in}
use Rattle.tasks.specs.FedPools.{taker_in, giver_in, unsent_of}
use Rattle.tasks.specs.Parts.{done_in}
use Rattle.tasks.specs.Ends.{AllEnded}
use Rattle.tasks.proofs.Closing.{takers_in, givers_in, answered, nothing_left}

module _ {Q S V U T A F : Type 0} {is_seat : Q → S → Type 0} {permits : Q → List Permit} {known : S → KnownOf (Numbered T)}
    {is_seat' : V → U → Type 0} {permits' : V → List Permit} {known' : U → KnownOf (Done A)} {answers : T → A → Type 0} {stands : F → List T → List (Done A) → Type 0}
    {queue : Q} {results : V} {crew : Crew S U F A} (ended : AllEnded is_seat permits known is_seat' permits' known' answers stands queue results crew) where
  abbrev ws : List (Worked (Post S U) (Option (Done A)))
  ws = crew.workers.items

  -- the seats of the queue of tasks are its own, and as many as a close asks for
  module _ {ts : List S} (takers : ts ≡ crew.led.leader.tasks ∷ map taker_in ws) where
    pub takers_sit : All (is_seat queue) ts
    takers_sit = subst (All (is_seat queue)) (sym takers) (takers_in is_seat permits known is_seat' permits' known' answers stands queue results crew ended)

    pub takers_asked : (asks : Q → List (KnownOf (Numbered T)) → Type 0) → AsksSoMany asks queue (length ws + 1) → asks queue (map known ts)
    takers_asked asks h =
        let is = ap length takers in
        let these = length-map ts known in
        let workers = length-map ws taker_in in
        h (map known ts) (omega (arith, is, these, workers))

  -- and so are those of the queue of results
  module _ {us : List U} (givers : us ≡ crew.led.leader.results ∷ map giver_in ws) where
    pub givers_sit : All (is_seat' results) us
    givers_sit = subst (All (is_seat' results)) (sym givers) (givers_in is_seat permits known is_seat' permits' known' answers stands queue results crew ended)

    pub givers_asked : (asks : V → List (KnownOf (Done A)) → Type 0) → AsksSoMany asks results (length ws + 1) → asks results (map known' us)
    givers_asked asks h =
        let is = ap length givers in
        let these = length-map us known' in
        let workers = length-map ws giver_in in
        h (map known' us) (omega (arith, is, these, workers))

  module _ (rest : RestOf (Numbered T)) (untold : RestOf (Done A)) {ts : List S} {us : List U} (takers : ts ≡ crew.led.leader.tasks ∷ map taker_in ws)
      (givers : us ≡ crew.led.leader.results ∷ map giver_in ws)
      (closed : ClosesOf (permits queue) (map known ts) rest) (closed' : ClosesOf (permits' results) (map known' us) untold) where
    -- nothing is left where the leader wasn't refused
    nothing : crew.led.refused ≡ None → (left_in rest ≡ []) × ((left_in untold ≡ []) × (unsent_of (map done_in ws) ≡ []))
    nothing none = nothing_left is_seat permits known is_seat' permits' known' answers stands queue results crew ended rest untold ts us takers givers closed closed' (ended.led.told none)

    pub none_left : crew.led.refused ≡ None → left_in rest ≡ []
    none_left none = (nothing none).0

    module _ {unsent : List (Option (Done A))} (unsent_are : unsent ≡ map done_in ws) (middle last : F) where
      -- each task that was given is told of once: what is left of the results is told too, and then what wasn't sent
      pub fed_so : ((given : List T) (told : List (Done A)) → stands crew.led.leader.feed given told → stands middle given (told ++ map value_in (left_in untold)))
          → ((given : List T) (told : List (Done A)) → stands middle given told → stands last given (told ++ unsent_of unsent))
          → (given : List T) × (told : List (Done A)) × stands last given told × AnsweredOnce answers given told (map value_in (left_in rest))
      fed_so tells tells' =
          let so = ended.led.goes.leading.so in
          let told = so.told ++ map value_in (left_in untold) in (
            so.given,
            told ++ unsent_of (map done_in ws),
            subst (λ rs. stands last so.given (told ++ unsent_of rs)) unsent_are (tells' so.given told (tells so.given so.told so.so_far)),
            answered is_seat permits known is_seat' permits' known' answers stands queue results crew ended rest untold ts us takers givers closed closed',
          )

      -- where the leader wasn't refused, the feed is as the leader left it, so it is idle
      pub idles_so : (idle : F → Type 0) → (left_in untold ≡ [] → middle ≡ crew.led.leader.feed) → (unsent_of unsent ≡ [] → last ≡ middle)
          → (crew.led.refused ≡ None → idle crew.led.leader.feed) → crew.led.refused ≡ None → idle last
      idles_so idle same same' h none =
          let no = (nothing none).1 in
          subst idle (sym (same' (ap unsent_of unsent_are ∙ no.1) ∙ same no.0)) (h none)
