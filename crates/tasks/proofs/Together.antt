-- What all workers did, together.
use Rattle.std.proofs.Common.{◌≡◌, ◌∙◌, sym, refl, ap, subst, Option, List, [], ◌∷◌, ◌++◌, map, append_assoc}
use Rattle.std.specs.List.{All, AllZip}
use Rattle.std.specs.List.Sorted.{IsPermutation}
use Rattle.std.proofs.lemmas.List.{map-append}
use Rattle.std.proofs.lemmas.List.Elements.{All-head, All-tail}
use Rattle.std.proofs.lemmas.List.Sorted.{IsPermutation-refl, IsPermutation-trans, IsPermutation-append_right}
use Rattle.history.specs.Seats.{Permit}
use Rattle.carriers.specs.declared.items.ItemOf.{ItemOf}
use Rattle.carriers.specs.Deeds.{did_push, did_pop}
use Rattle.carriers.specs.Values.{values_pushed, values_popped}
use Rattle.carriers.specs.Knowledge.{KnownOf}
use Rattle.carriers.specs.Together.{pushed_by, popped_by}
use Rattle.carriers.proofs.Together.{to_front}
use Rattle.tasks.specs.declared.answers.Done.{Done}
use Rattle.tasks.specs.declared.runs.Numbered.{Numbered}
use Rattle.tasks.specs.declared.turns.Worked.{Worked}
use Rattle.tasks.specs.Tasks.{IsDoneOf}
use Rattle.tasks.specs.Turns.{AreDone}
use Rattle.tasks.specs.declared.posts.Post.{Post}
use Rattle.tasks.specs.Answered.{value_in}
use Rattle.tasks.specs.Workers.{IsServed, unsent_in}
use Rattle.tasks.specs.FedPools.{taker_in, giver_in, unsent_of}
use Rattle.tasks.specs.Parts.{done_in}
use Rattle.tasks.specs.Posts.{takes, gives}
use Rattle.tasks.proofs.Deeds.{pushes-pushed, pushes-popped, pops-pushed, pops-popped, values-items}
use Rattle.tasks.proofs.Zipping.{zip-append}

module _ {Q S V U T A : Type 0} (is_seat : Q → S → Type 0) (permits : Q → List Permit) (known : S → KnownOf (Numbered T))
    (is_seat' : V → U → Type 0) (permits' : V → List Permit) (known' : U → KnownOf (Done A)) (answers : T → A → Type 0) (queue : Q) (results : V) where
  abbrev takers : List (Worked (Post S U) (Option (Done A))) → List (KnownOf (Numbered T))
  takers ws = map known (map taker_in ws)

  abbrev givers : List (Worked (Post S U) (Option (Done A))) → List (KnownOf (Done A))
  givers ws = map known' (map giver_in ws)

  pub record Together (ws : List (Worked (Post S U) (Option (Done A)))) : Type 0 where
    pub items : List (ItemOf (Numbered T))
    pub dones : List (Done A)
    pub sent : List (Done A)
    pub popped : popped_by (takers ws) ≡ items
    pub pushed : pushed_by (takers ws) ≡ []
    pub given : map value_in (pushed_by (givers ws)) ≡ sent
    pub taken : popped_by (givers ws) ≡ []
    pub done : AreDone answers items dones
    pub all : IsPermutation dones (sent ++ unsent_of (map done_in ws))

  abbrev Is : Post S U → Worked (Post S U) (Option (Done A)) → Type 0
  Is = IsServed is_seat permits known is_seat' permits' known' answers queue results

  pub together : (ps : List (Post S U)) (ws : List (Worked (Post S U) (Option (Done A)))) → AllZip Is ps ws
      → All (λ (s : S). (known s).mine ≡ []) (map takes ps) → All (λ (u : U). (known' u).mine ≡ []) (map gives ps) → Together ws
  together [] [] h new new' = record { items = []; dones = []; sent = []; popped = refl; pushed = refl; given = refl; taken = refl; done = tt; all = IsPermutation-refl [] }
  together [] (w ∷ ws) h new new' = absurd h
  together (p ∷ ps) [] h new new' = absurd h
  together (p ∷ ps) (w ∷ ws) h new new' =
      let s = h.0.served in
      let rest = together ps ws h.1 (All-tail (λ (s : S). (known s).mine ≡ []) p.taker (map takes ps) new) (All-tail (λ (u : U). (known' u).mine ≡ []) p.giver (map gives ps) new') in
      let n = (known p.taker).number in
      let m = (known' p.giver).number in
      let mine : (known w.seat.taker).mine ≡ map (did_pop n) s.items = s.popped ∙ ap (λ ds. ds ++ map (did_pop n) s.items) (All-head (λ (s : S). (known s).mine ≡ []) p.taker (map takes ps) new) in
      let gave : (known' w.seat.giver).mine ≡ map (did_push m) s.sent = s.pushed ∙ ap (λ ds. ds ++ map (did_push m) s.sent) (All-head (λ (u : U). (known' u).mine ≡ []) p.giver (map gives ps) new') in
      let unsent = unsent_in w.done in
      record {
        items = s.items ++ rest.items;
        dones = (s.sent ++ unsent) ++ rest.dones;
        sent = s.sent ++ rest.sent;
        popped = (λ i. (ap values_popped mine ∙ pops-popped n s.items) i ++ rest.popped i);
        pushed = (λ i. (ap values_pushed mine ∙ pops-pushed n s.items) i ++ rest.pushed i);
        given =
            map-append value_in (values_pushed (known' w.seat.giver).mine) (pushed_by (givers ws))
            ∙ (λ i. (ap (map value_in) (ap values_pushed gave ∙ pushes-pushed m s.sent) ∙ values-items m s.sent) i ++ rest.given i);
        taken = (λ i. (ap values_popped gave ∙ pushes-popped m s.sent) i ++ rest.taken i);
        done = zip-append (λ (x : ItemOf (Numbered T)) d. IsDoneOf answers x.value d) s.items rest.items (s.sent ++ unsent) rest.dones s.done rest.done;
        all = middle s.sent unsent rest.dones rest.sent (unsent_of (map done_in ws)) rest.all;
      }
    where
      middle : (xs us ds ss vs : List (Done A)) → IsPermutation ds (ss ++ vs) → IsPermutation ((xs ++ us) ++ ds) ((xs ++ ss) ++ (us ++ vs))
      middle xs us ds ss vs h =
          subst (λ l. IsPermutation l ((xs ++ ss) ++ (us ++ vs))) (sym (append_assoc xs us ds))
          (subst (IsPermutation (xs ++ (us ++ ds))) (sym (append_assoc xs ss (us ++ vs)))
          (IsPermutation-append_right xs (us ++ ds) (ss ++ (us ++ vs))
          (IsPermutation-trans (us ++ ds) (us ++ (ss ++ vs)) (ss ++ (us ++ vs)) (IsPermutation-append_right us ds (ss ++ vs) h) (to_front us ss vs))))
