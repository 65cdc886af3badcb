-- Each entry of the history of numbers is a deed of that of values whose words lie in their places.
use Rattle.std.proofs.Common.{◌≡◌, ℕ, Bool, true, false, List, [], ◌∷◌, ◌++◌, map, sym, refl, ap, subst}
use Rattle.std.proofs.lemmas.List.{map-append}
use mathlib.Core.Bool.{true≢false}
use Rattle.history.specs.declared.operations.Entry.{Entry}
use Rattle.history.specs.declared.operations.Entry.TheVariants.{Push, Pop, Shut}
use Rattle.history.specs.declared.operations.Taken.{Taken}
use Rattle.history.specs.declared.operations.Reply.{Reply}
use Rattle.history.specs.declared.operations.Reply.TheVariants.{Done, Value}
use Rattle.history.specs.declared.operations.Op.TheVariants.{Enq, Deq, Shut as Shuts}
use Rattle.history.specs.Queue.{Queue, empty, response}
use Rattle.history.specs.Entries.{Leads, IsQueueRun}
use Rattle.node_arena.specs.Deeds.{Item, item, Deed, pushed, popped, closed, Runs, Matches}
use Rattle.node_arena.proofs.Riding.{plays_on, plays_then}
use Rattle.ring_queue.specs.Placed.{number_of, Said}

abbrev queue_of : List Taken → Bool → Queue
queue_of vs s = record { values = vs; shut = s }

abbrev is_done : Reply → Bool
is_done Done = true
is_done _ = false

abbrev value_or : Taken → Reply → Taken
value_or v (Value t) = t
value_or v _ = v

abbrev is_value : Reply → Bool
is_value (Value t) = true
is_value _ = false

-- nothing is pushed onto a queue that is shut, and what is popped stands at the front
open_at_push : (vs : List Taken) (s : Bool) (n b : ℕ) → (response n (Enq b) (queue_of vs s)).reply ≡ Done → s ≡ false
open_at_push vs true n b e = let d : false ≡ true = ap is_done e in sym d
open_at_push vs false n b e = refl

open_at_shut : (vs : List Taken) (s : Bool) (n : ℕ) → (response n Shuts (queue_of vs s)).reply ≡ Done → s ≡ false
open_at_shut vs true n e = let d : false ≡ true = ap is_done e in sym d
open_at_shut vs false n e = refl

no_value : false ≡ true → ⊥
no_value e = true≢false (sym e)

front_is : (vs : List Taken) (s : Bool) (n : ℕ) (t : Taken) → (response n Deq (queue_of vs s)).reply ≡ Value t → (rest : List Taken) × (vs ≡ t ∷ rest)
front_is [] true n t e = absurd (no_value (ap is_value e))
front_is [] false n t e = absurd (no_value (ap is_value e))
front_is (v ∷ vs) s n t e = (vs, (let d : v ≡ t = ap (value_or v) e in ap (λ (y : Taken). y ∷ vs) d))

runs_push : (q : List (Item (List ℕ))) (s : Bool) (ds : List (Deed (List ℕ))) (r : List (Item (List ℕ))) (n : ℕ) (x : List ℕ) → Runs q s ds r false → Runs q s (ds ++ pushed n x ∷ []) (r ++ item n x ∷ []) false
runs_push q s [] r n x h = (h.1, (ap (λ y. y ++ item n x ∷ []) h.0, h.1))
runs_push q s (pushed m y ∷ ds) r n x h = (h.0, runs_push (q ++ item m y ∷ []) s ds r n x h.1)
runs_push q s (popped m t ∷ ds) r n x h = (h.0, h.1, runs_push h.0 s ds r n x h.2)
runs_push q s (closed m ∷ ds) r n x h = (h.0, runs_push q true ds r n x h.1)

runs_pop : (q : List (Item (List ℕ))) (s : Bool) (ds : List (Deed (List ℕ))) (r : List (Item (List ℕ))) (s' : Bool) (n : ℕ) (t : Item (List ℕ)) → Runs q s ds (t ∷ r) s' → Runs q s (ds ++ popped n t ∷ []) r s'
runs_pop q s [] r s' n t h = (r, h.0, (refl, h.1))
runs_pop q s (pushed m y ∷ ds) r s' n t h = (h.0, runs_pop (q ++ item m y ∷ []) s ds r s' n t h.1)
runs_pop q s (popped m u ∷ ds) r s' n t h = (h.0, h.1, runs_pop h.0 s ds r s' n t h.2)
runs_pop q s (closed m ∷ ds) r s' n t h = (h.0, runs_pop q true ds r s' n t h.1)

runs_shut : (q : List (Item (List ℕ))) (s : Bool) (ds : List (Deed (List ℕ))) (r : List (Item (List ℕ))) (n : ℕ) → Runs q s ds r false → Runs q s (ds ++ closed n ∷ []) r true
runs_shut q s [] r n h = (h.1, (h.0, refl))
runs_shut q s (pushed m y ∷ ds) r n h = (h.0, runs_shut (q ++ item m y ∷ []) s ds r n h.1)
runs_shut q s (popped m u ∷ ds) r n h = (h.0, h.1, runs_shut h.0 s ds r n h.2)
runs_shut q s (closed m ∷ ds) r n h = (h.0, runs_shut q true ds r n h.1)

matches_on : (es fs : List Entry) (ds gs : List (Deed (List ℕ))) → Matches es ds → Matches fs gs → Matches (es ++ fs) (ds ++ gs)
matches_on [] fs [] gs h k = k
matches_on (Push n b ∷ es) fs (pushed m x ∷ ds) gs h k = (h.0, matches_on es fs ds gs h.1 k)
matches_on (Pop n t ∷ es) fs (popped m u ∷ ds) gs h k = (h.0, h.1, matches_on es fs ds gs h.2 k)
matches_on (Shut n ∷ es) fs (closed m ∷ ds) gs h k = (h.0, matches_on es fs ds gs h.1 k)
matches_on es fs ds gs h k = absurd h

split_front : (q : List (Item (List ℕ))) (t : Taken) (rest : List Taken) → map number_of q ≡ t ∷ rest → (l : Item (List ℕ)) × (q' : List (Item (List ℕ))) × (q ≡ l ∷ q') × (number_of l ≡ t)
split_front [] t rest e = absurd (no_value (ap is_some_list e))
  where
    is_some_list : List Taken → Bool
    is_some_list [] = false
    is_some_list (y ∷ ys) = true
split_front (l ∷ q') t rest e = (l, q', refl, ap (first_or (number_of l)) e)
  where
    first_or : Taken → List Taken → Taken
    first_or d [] = d
    first_or d (y ∷ ys) = y

module _ (history : List Entry) (me : ℕ) (g : Said history) where
  -- a push of a value, whose number is 0
  pub said_push : (x : List ℕ) → IsQueueRun (history ++ Push me 0 ∷ [])
      → (g' : Said (history ++ Push me 0 ∷ [])) × (g'.deeds ≡ g.deeds ++ pushed me x ∷ []) × (g'.items ≡ g.items ++ item me x ∷ [])
  said_push x run =
      let vs = map number_of g.items in
      let on = plays_on empty (queue_of vs g.shut) run.0 history (Push me 0 ∷ []) g.leads run.1 in
      let opened = open_at_push vs g.shut me 0 on.0 in
      let leads = subst (λ (s : Bool). Leads history s vs) opened g.leads in
      let runs = subst (λ (s : Bool). Runs [] false g.deeds g.items s) opened g.runs in (
        record {
          deeds = g.deeds ++ pushed me x ∷ [];
          items = g.items ++ item me x ∷ [];
          shut = false;
          leads = subst (Leads (history ++ Push me 0 ∷ []) false) (sym (map-append number_of g.items (item me x ∷ [])))
              (plays_then empty (queue_of vs false) (queue_of (vs ++ number_of (item me x) ∷ []) false) history (Push me 0 ∷ []) leads (refl, refl));
          runs = runs_push [] false g.deeds g.items me x runs;
          matches = matches_on history (Push me 0 ∷ []) g.deeds (pushed me x ∷ []) g.matches (refl, tt);
        },
        refl,
        refl,
      )

  -- a pop of the value in front
  pub said_pop : (t : Taken) → IsQueueRun (history ++ Pop me t ∷ []) → (front : Item (List ℕ)) × (rest : List (Item (List ℕ))) × (g.items ≡ front ∷ rest) × (number_of front ≡ t)
      × ((g' : Said (history ++ Pop me t ∷ [])) × (g'.deeds ≡ g.deeds ++ popped me front ∷ []) × (g'.items ≡ rest))
  said_pop t run =
      let vs = map number_of g.items in
      let on = plays_on empty (queue_of vs g.shut) run.0 history (Pop me t ∷ []) g.leads run.1 in
      let front = front_is vs g.shut me t on.0 in
      let it = split_front g.items t front.0 front.1 in
      let l = it.0 in
      let P : Taken → Type 0 = λ u. (g' : Said (history ++ Pop me u ∷ [])) × (g'.deeds ≡ g.deeds ++ popped me l ∷ []) × (g'.items ≡ it.1) in
      let leads = subst (λ (y : List (Item (List ℕ))). Leads history g.shut (map number_of y)) it.2 g.leads in
      let runs = subst (λ (y : List (Item (List ℕ))). Runs [] false g.deeds y g.shut) it.2 g.runs in (
        l,
        it.1,
        it.2,
        it.3,
        subst P it.3 (
          record {
            deeds = g.deeds ++ popped me l ∷ [];
            items = it.1;
            shut = g.shut;
            leads = plays_then empty (queue_of (map number_of (l ∷ it.1)) g.shut) (queue_of (map number_of it.1) g.shut) history (Pop me (number_of l) ∷ []) leads (refl, refl);
            runs = runs_pop [] false g.deeds it.1 g.shut me l runs;
            matches = matches_on history (Pop me (number_of l) ∷ []) g.deeds (popped me l ∷ []) g.matches (refl, refl, tt);
          },
          refl,
          refl,
        ),
      )

  -- a shut leaves the values
  pub said_shut : IsQueueRun (history ++ Shut me ∷ []) → (g' : Said (history ++ Shut me ∷ [])) × (g'.deeds ≡ g.deeds ++ closed me ∷ []) × (g'.items ≡ g.items)
  said_shut run =
      let vs = map number_of g.items in
      let on = plays_on empty (queue_of vs g.shut) run.0 history (Shut me ∷ []) g.leads run.1 in
      let opened = open_at_shut vs g.shut me on.0 in
      let leads = subst (λ (s : Bool). Leads history s vs) opened g.leads in
      let runs = subst (λ (s : Bool). Runs [] false g.deeds g.items s) opened g.runs in (
        record {
          deeds = g.deeds ++ closed me ∷ [];
          items = g.items;
          shut = true;
          leads = plays_then empty (queue_of vs false) (queue_of vs true) history (Shut me ∷ []) leads (refl, refl);
          runs = runs_shut [] false g.deeds g.items me runs;
          matches = matches_on history (Shut me ∷ []) g.deeds (closed me ∷ []) g.matches (refl, tt);
        },
        refl,
        refl,
      )
