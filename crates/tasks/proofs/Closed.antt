-- A pool whose submitter and workers have brought their seats back, with its queue, under whatever names these go.
use Rattle.std.proofs.Common.{◌≡◌, ◌∙◌, ◌+◌, ◌++◌, ℕ, refl, sym, ap, subst, List, [], ◌∷◌, map, length, replicate, Some, None, arith}
use Rattle.std.specs.Global.{Vec}
use Rattle.std.specs.List.{All, AllZip, Any}
use Rattle.std.proofs.lemmas.List.{length-map, length-replicate}
use Rattle.std.proofs.lemmas.List.Elements.{All-cons}
use Rattle.history.specs.declared.refusals.Refusal.{Refusal}
use Rattle.history.specs.Seats.{Permit}
use Rattle.carriers.specs.declared.rests.RestOf.{RestOf}
use Rattle.carriers.specs.Knowledge.{KnownOf}
use Rattle.carriers.specs.Ends.{ClosesOf, AsksSoMany}
use Rattle.carriers.specs.Rests.{left_in}
use Rattle.tasks.specs.declared.answers.Done.{Done}
use Rattle.tasks.specs.declared.answers.Outcome.{Outcome}
use Rattle.tasks.specs.declared.gathers.Gather.{Gather}
use Rattle.tasks.specs.declared.runs.Numbered.{Numbered}
use Rattle.tasks.specs.declared.turns.End.{End}
use Rattle.tasks.specs.declared.turns.Worked.{Worked}
use Rattle.tasks.specs.Tasks.{AreTold}
use Rattle.tasks.specs.Gathers.{slots_in}
use Rattle.tasks.specs.declared.pools.Batch.{Batch}
use Rattle.tasks.specs.declared.offers.Led.{Led}
use Rattle.tasks.specs.Turns.{IsBack}
use Rattle.tasks.specs.Offers.{HasLed}
use Rattle.tasks.specs.Crews.{AreTakers, IsBatch}
use Rattle.tasks.specs.Parts.{seat_in, done_in, end_in, told_of, CanTell}
use Rattle.tasks.specs.Pools.{IsCrewOf, IsFinished, IsAnswered, IsRunBy}
use Rattle.tasks.proofs.Seats.{count, takers_are, giver_is, giver_may}
use Rattle.tasks.proofs.Ending.{each_back, as_many, can_tell, are_told, all_answered}

module _ {Q S T : Type 0} {is_seat : Q → S → Type 0} {permits : Q → List Permit} {known : S → KnownOf (Numbered T)} {queue : Q} {seats : List S}
    (crew : IsCrewOf is_seat permits known queue seats) (takers : List S) (giver : S) (split : seats ≡ takers ++ giver ∷ []) {q : Q} (same : q ≡ queue) where
  -- the workers' seats are those of takers
  pub may_take : AreTakers is_seat permits known q takers
  may_take = subst (λ x. AreTakers is_seat permits known x takers) (sym same) (takers_are is_seat permits known queue seats takers giver split crew)

  module _ {A : Type 0} (tasks : Vec T) (gather : Gather T A) where
    abbrev batch : Batch S T A
    batch = record { giver = giver; tasks = tasks; gather = gather }

    -- and the tasks can be offered by the last seat
    pub may_offer : slots_in gather ≡ replicate (length tasks.items) None → IsBatch is_seat permits known q batch
    may_offer new =
        subst (λ x. IsBatch is_seat permits known x batch) (sym same)
        (record {
          seat = giver_is is_seat permits known queue seats takers giver split crew;
          role = giver_may is_seat permits known queue seats takers giver split crew;
          slots = ap length new ∙ length-replicate (length tasks.items) None;
        })

    module _ (pop_cause shut_cause : Q → S → S → ℕ → Refusal → Type 0) (answers : T → A → Type 0) (led : Led S T A) (ws : List (Worked S (Vec (Done A))))
        (leads : HasLed is_seat known shut_cause answers q tasks.items giver (slots_in gather) led) (returned : AllZip (IsBack is_seat known pop_cause answers q) takers ws) where
      led_here : HasLed is_seat known shut_cause answers queue tasks.items giver (slots_in gather) led
      led_here = subst (λ x. HasLed is_seat known shut_cause answers x tasks.items giver (slots_in gather) led) same leads

      back_here : AllZip (IsBack is_seat known pop_cause answers queue) takers ws
      back_here = subst (λ x. AllZip (IsBack is_seat known pop_cause answers x) takers ws) same returned

      -- there is one seat more than workers
      pub many : length ws + 1 ≡ length seats
      many =
          let these = as_many is_seat permits known pop_cause shut_cause answers queue takers ws back_here in
          let all = count is_seat permits known queue seats takers giver split crew in
          omega (arith, these, all)

      -- each worker ended
      pub all_joined : {ends : List End} → ends ≡ map end_in ws → length ends + 1 ≡ length seats
      all_joined is =
          let all = many in
          let len = ap length is ∙ length-map ws end_in in
          omega (arith, all, len)

      module _ {back : List S} (is : back ≡ led.seat ∷ map seat_in ws) {q' : Q} (same' : q' ≡ q) where
        -- each seat is the queue's
        pub each_sits : All (is_seat q') back
        each_sits =
            subst (λ x. All (is_seat x) back) (sym same')
            (subst (All (is_seat q)) (sym is) (All-cons (is_seat q) led.seat (map seat_in ws) leads.seat (each_back is_seat permits known pop_cause shut_cause answers q takers ws returned)))

        -- they are as many as a close asks for
        pub asks_so : (asks : Q → List (KnownOf (Numbered T)) → Type 0) → AsksSoMany asks queue (length seats) → asks q' (map known back)
        asks_so asks h =
            let these = length-map back known in
            let those = ap length is in
            let workers = length-map ws seat_in in
            let all = many in
            subst (λ x. asks x (map known back)) (sym (same' ∙ same)) (h (map known back) (omega (arith, these, those, workers, all)))

        module _ (rest : RestOf (Numbered T)) (closes : ClosesOf (permits q') (map known back) rest) (new : slots_in gather ≡ replicate (length tasks.items) None)
            {dones : List (Vec (Done A))} (dones_are : dones ≡ map done_in ws) where
          closed : ClosesOf (permits queue) (map known (led.seat ∷ map seat_in ws)) rest
          closed =
              subst (λ x. ClosesOf (permits x) (map known (led.seat ∷ map seat_in ws)) rest) (same' ∙ same)
              (subst (λ l. ClosesOf (permits q') (map known l) rest) is closes)

          -- results and tasks left can be told
          pub tells_so : CanTell (slots_in led.gather) dones (left_in rest)
          tells_so =
              subst (λ ds. CanTell (slots_in led.gather) ds (left_in rest)) (sym dones_are)
              (can_tell is_seat permits known pop_cause shut_cause answers queue seats takers giver split crew tasks.items (slots_in gather) new led ws led_here back_here rest closed)

          module _ (os : List (Outcome T A)) (told : map (λ o. Some o) os ≡ told_of (slots_in led.gather) dones (left_in rest)) where
            told' : map (λ o. Some o) os ≡ told_of (slots_in led.gather) (map done_in ws) (left_in rest)
            told' = told ∙ ap (λ ds. told_of (slots_in led.gather) ds (left_in rest)) dones_are

            -- each is then told of at its own place
            pub told_so : AreTold answers tasks.items os
            told_so = are_told is_seat permits known pop_cause shut_cause answers queue seats takers giver split crew tasks.items (slots_in gather) new led ws led_here back_here rest closed os told'

            -- and each is answered where a worker found the queue shut and empty
            pub answered_so : {ends : List End} → ends ≡ map end_in ws → Any IsFinished ends → All IsAnswered os
            answered_so is any =
                all_answered is_seat permits known pop_cause shut_cause answers queue seats takers giver split crew tasks.items (slots_in gather) new led ws led_here
                back_here rest closed (subst (Any IsFinished) is any) os told'

          -- and all of that was brought back
          pub run_by : (outcomes : Vec (Outcome T A)) (ends : Vec End) → map (λ o. Some o) outcomes.items ≡ told_of (slots_in led.gather) dones (left_in rest)
              → ends.items ≡ map end_in ws
              → IsRunBy is_seat known pop_cause shut_cause answers queue seats tasks.items (record { outcomes = outcomes; ends = ends; refused = led.refused; unshut = led.unshut })
          run_by outcomes ends told ended =
              record {
                takers = takers;
                giver = giver;
                split = split;
                led = led;
                leads = subst (λ ss. HasLed is_seat known shut_cause answers queue tasks.items giver ss led) new led_here;
                workers = ws;
                back = back_here;
                left = left_in rest;
                told = told ∙ ap (λ ds. told_of (slots_in led.gather) ds (left_in rest)) dones_are;
                ends = ended;
                refused = refl;
                unshut = refl;
              }
