-- Each entry of the history of numbers is a deed of that of values.
use Rattle.std.proofs.Common.{append-nil, append_assoc, ◌≡◌, ℕ, suc, ◌<◌, Bool, true, false, List, [], ◌∷◌, ◌++◌, map, Some, sym, refl, ap, ◌∙◌, subst}
use Rattle.std.proofs.lemmas.List.{map-append}
use mathlib.Core.Option.{some, none, some-injective}
use mathlib.Core.Option as maybe
use mathlib.Core.Bool.{true≢false}
use Rattle.history.specs.declared.operations.Entry.{Entry}
use Rattle.history.specs.declared.operations.Entry.TheVariants.{Push, Pop, Shut}
use Rattle.history.specs.declared.operations.Taken.{Taken}
use Rattle.history.specs.declared.operations.Reply.{Reply}
use Rattle.history.specs.declared.operations.Reply.TheVariants.{Done, Value}
use Rattle.history.specs.declared.operations.Op.TheVariants.{Enq, Deq, Shut as Shuts}
use Rattle.history.specs.Queue.{Queue, empty, response}
use Rattle.history.specs.Entries.{Plays, Leads, IsQueueRun}
use Rattle.node_arena.specs.Deeds.{Item, item, Deed, pushed, popped, closed, Runs, Matches, values_pushed, values_popped}
use Rattle.node_arena.specs.Slots.{Lying, item_of, Home, Slotted, Changes}
use Rattle.node_arena.specs.ValueHistories.{number_of, Rides}
use Rattle.node_arena.proofs.Slotting.{pushes, pops_front}

-- what entries lead to, what further ones lead on from
pub plays_on : (q a c : Queue) (es fs : List Entry) → Plays q es a → Plays q (es ++ fs) c → Plays a fs c
plays_on q a c [] fs h k = subst (λ (y : Queue). Plays y fs c) h k
plays_on q a c (Push n b ∷ es) fs h k = plays_on _ a c es fs h.1 k.1
plays_on q a c (Pop n t ∷ es) fs h k = plays_on _ a c es fs h.1 k.1
plays_on q a c (Shut n ∷ es) fs h k = plays_on _ a c es fs h.1 k.1

pub plays_then : (q a c : Queue) (es fs : List Entry) → Plays q es a → Plays a fs c → Plays q (es ++ fs) c
plays_then q a c [] fs h k = subst (λ (y : Queue). Plays y fs c) (sym h) k
plays_then q a c (Push n b ∷ es) fs h k = (h.0, plays_then _ a c es fs h.1 k)
plays_then q a c (Pop n t ∷ es) fs h k = (h.0, plays_then _ a c es fs h.1 k)
plays_then q a c (Shut n ∷ es) fs h k = (h.0, plays_then _ a c es fs h.1 k)

abbrev queue_of : List Taken → Bool → Queue
queue_of vs s = record { values = vs; shut = s }

abbrev is_done : Reply → Bool
is_done Done = true
is_done _ = false

abbrev value_or : Taken → Reply → Taken
value_or v (Value t) = t
value_or v _ = v

abbrev is_value : Reply → Bool
is_value (Value t) = true
is_value _ = false

-- nothing is pushed onto a queue that is shut, and what is popped stands at the front
open_at_push : (vs : List Taken) (s : Bool) (n b : ℕ) → (response n (Enq b) (queue_of vs s)).reply ≡ Done → s ≡ false
open_at_push vs true n b e = let d : false ≡ true = ap is_done e in sym d
open_at_push vs false n b e = refl

open_at_shut : (vs : List Taken) (s : Bool) (n : ℕ) → (response n Shuts (queue_of vs s)).reply ≡ Done → s ≡ false
open_at_shut vs true n e = let d : false ≡ true = ap is_done e in sym d
open_at_shut vs false n e = refl

no_value : false ≡ true → ⊥
no_value e = true≢false (sym e)

front_is : (vs : List Taken) (s : Bool) (n : ℕ) (t : Taken) → (response n Deq (queue_of vs s)).reply ≡ Value t → (rest : List Taken) × (vs ≡ t ∷ rest)
front_is [] true n t e = absurd (no_value (ap is_value e))
front_is [] false n t e = absurd (no_value (ap is_value e))
front_is (v ∷ vs) s n t e = (vs, (let d : v ≡ t = ap (value_or v) e in ap (λ (y : Taken). y ∷ vs) d))

module _ {T : Type 0} where
  runs_push : (q : List (Item T)) (s : Bool) (ds : List (Deed T)) (r : List (Item T)) (n : ℕ) (x : T) → Runs q s ds r false → Runs q s (ds ++ pushed n x ∷ []) (r ++ item n x ∷ []) false
  runs_push q s [] r n x h = (h.1, (ap (λ y. y ++ item n x ∷ []) h.0, h.1))
  runs_push q s (pushed m y ∷ ds) r n x h = (h.0, runs_push (q ++ item m y ∷ []) s ds r n x h.1)
  runs_push q s (popped m t ∷ ds) r n x h = (h.0, h.1, runs_push h.0 s ds r n x h.2)
  runs_push q s (closed m ∷ ds) r n x h = (h.0, runs_push q true ds r n x h.1)

  runs_pop : (q : List (Item T)) (s : Bool) (ds : List (Deed T)) (r : List (Item T)) (s' : Bool) (n : ℕ) (t : Item T) → Runs q s ds (t ∷ r) s' → Runs q s (ds ++ popped n t ∷ []) r s'
  runs_pop q s [] r s' n t h = (r, h.0, (refl, h.1))
  runs_pop q s (pushed m y ∷ ds) r s' n t h = (h.0, runs_pop (q ++ item m y ∷ []) s ds r s' n t h.1)
  runs_pop q s (popped m u ∷ ds) r s' n t h = (h.0, h.1, runs_pop h.0 s ds r s' n t h.2)
  runs_pop q s (closed m ∷ ds) r s' n t h = (h.0, runs_pop q true ds r s' n t h.1)

  runs_shut : (q : List (Item T)) (s : Bool) (ds : List (Deed T)) (r : List (Item T)) (n : ℕ) → Runs q s ds r false → Runs q s (ds ++ closed n ∷ []) r true
  runs_shut q s [] r n h = (h.1, (h.0, refl))
  runs_shut q s (pushed m y ∷ ds) r n h = (h.0, runs_shut (q ++ item m y ∷ []) s ds r n h.1)
  runs_shut q s (popped m u ∷ ds) r n h = (h.0, h.1, runs_shut h.0 s ds r n h.2)
  runs_shut q s (closed m ∷ ds) r n h = (h.0, runs_shut q true ds r n h.1)

  matches_on : (es fs : List Entry) (ds gs : List (Deed T)) → Matches es ds → Matches fs gs → Matches (es ++ fs) (ds ++ gs)
  matches_on [] fs [] gs h k = k
  matches_on (Push n b ∷ es) fs (pushed m x ∷ ds) gs h k = (h.0, matches_on es fs ds gs h.1 k)
  matches_on (Pop n t ∷ es) fs (popped m u ∷ ds) gs h k = (h.0, h.1, matches_on es fs ds gs h.2 k)
  matches_on (Shut n ∷ es) fs (closed m ∷ ds) gs h k = (h.0, matches_on es fs ds gs h.1 k)
  matches_on es fs ds gs h k = absurd h

  split_front : (q : List (Lying T)) (t : Taken) (rest : List Taken) → map number_of q ≡ t ∷ rest → (l : Lying T) × (q' : List (Lying T)) × (q ≡ l ∷ q') × (number_of l ≡ t)
  split_front [] t rest e = absurd (no_value (ap is_some_list e))
    where
      is_some_list : List Taken → Bool
      is_some_list [] = false
      is_some_list (y ∷ ys) = true
  split_front (l ∷ q') t rest e = (l, q', refl, ap (first_or (number_of l)) e)
    where
      first_or : Taken → List Taken → Taken
      first_or d [] = d
      first_or d (y ∷ ys) = y

  module _ (history : List Entry) (n : ℕ) (flag flag' : ℕ → ℕ) (home home' : ℕ → Home T) (hand hand' : ℕ → maybe.Option ℕ) (id me : ℕ) where
    -- a push of the slot that is out with the seat
    pub rides_push : (r : Rides history n flag home hand) (b : ℕ) (x : T) → hand id ≡ some b → IsQueueRun (history ++ Push me b ∷ [])
        → ((i : ℕ) → flag' i ≡ flag i) → Changes home home' b (some (some (Some x))) → Changes hand hand' id none
        → (r' : Rides (history ++ Push me b ∷ []) n flag' home' hand') × (r'.deeds ≡ r.deeds ++ pushed me x ∷ [])
    rides_push r b x mine run flags homes hands =
        let vs = map number_of r.q in
        let new : Lying T = record { from = me; slot = b; value = x } in
        let on = plays_on empty (queue_of vs r.shut) run.0 history (Push me b ∷ []) r.leads run.1 in
        let opened = open_at_push vs r.shut me b on.0 in
        let leads = subst (λ (s : Bool). Leads history s vs) opened r.leads in
        let runs = subst (λ (s : Bool). Runs [] false r.deeds (map item_of r.q) s) opened r.runs in (
          record {
            deeds = r.deeds ++ pushed me x ∷ [];
            q = r.q ++ new ∷ [];
            pops = r.pops;
            shut = false;
            leads = subst (Leads (history ++ Push me b ∷ []) false) (sym (map-append number_of r.q (new ∷ [])))
                (plays_then empty (queue_of vs false) (queue_of (vs ++ number_of new ∷ []) false) history (Push me b ∷ []) leads (refl, refl));
            runs = subst (λ y. Runs [] false (r.deeds ++ pushed me x ∷ []) y false) (sym (map-append item_of r.q (new ∷ []))) (runs_push [] false r.deeds (map item_of r.q) me x runs);
            matches = matches_on history (Push me b ∷ []) r.deeds (pushed me x ∷ []) r.matches (refl, tt);
            slotted = pushes n flag flag' home home' hand hand' r.pops id b r.q me x r.slotted mine flags homes hands;
          },
          refl,
        )

    -- a shut leaves all slots where they are
    pub rides_shut : (r : Rides history n flag home hand) → IsQueueRun (history ++ Shut me ∷ []) → (r' : Rides (history ++ Shut me ∷ []) n flag home hand) × (r'.deeds ≡ r.deeds ++ closed me ∷ [])
    rides_shut r run =
        let vs = map number_of r.q in
        let on = plays_on empty (queue_of vs r.shut) run.0 history (Shut me ∷ []) r.leads run.1 in
        let opened = open_at_shut vs r.shut me on.0 in
        let leads = subst (λ (s : Bool). Leads history s vs) opened r.leads in
        let runs = subst (λ (s : Bool). Runs [] false r.deeds (map item_of r.q) s) opened r.runs in (
          record {
            deeds = r.deeds ++ closed me ∷ [];
            q = r.q;
            pops = r.pops;
            shut = true;
            leads = plays_then empty (queue_of vs false) (queue_of vs true) history (Shut me ∷ []) leads (refl, refl);
            runs = runs_shut [] false r.deeds (map item_of r.q) me runs;
            matches = matches_on history (Shut me ∷ []) r.deeds (closed me ∷ []) r.matches (refl, tt);
            slotted = r.slotted;
          },
          refl,
        )

  -- a pop: the slot at the front goes to the seat, with the value of the push that stands there
  pub rides_pop : (history : List Entry) (n : ℕ) (flag : ℕ → ℕ) (home : ℕ → Home T) (hand : ℕ → maybe.Option ℕ) (me : ℕ)
      (r : Rides history n flag home hand) (t : Taken) → IsQueueRun (history ++ Pop me t ∷ [])
      → (x : T) × (t.body < n) × (home t.body ≡ some (some (Some x)))
      × ((flag' : ℕ → ℕ) (home' : ℕ → Home T) (hand' : ℕ → maybe.Option ℕ) (id : ℕ) → hand id ≡ none → ((i : ℕ) → flag' i ≡ flag i)
      → Changes home home' t.body (some none) → Changes hand hand' id (some t.body)
      → (r' : Rides (history ++ Pop me t ∷ []) n flag' home' hand') × (r'.deeds ≡ r.deeds ++ popped me (item t.from x) ∷ []))
  rides_pop history n flag home hand me r t run =
      let vs = map number_of r.q in
      let on = plays_on empty (queue_of vs r.shut) run.0 history (Pop me t ∷ []) r.leads run.1 in
      let front = front_is vs r.shut me t on.0 in
      let it = split_front r.q t front.0 front.1 in
      let l = it.0 in
      let P : Taken → Type 0 = λ u. (x : T) × (u.body < n) × (home u.body ≡ some (some (Some x)))
      × ((flag' : ℕ → ℕ) (home' : ℕ → Home T) (hand' : ℕ → maybe.Option ℕ) (id : ℕ) → hand id ≡ none → ((i : ℕ) → flag' i ≡ flag i)
      → Changes home home' u.body (some none) → Changes hand hand' id (some u.body)
      → (r' : Rides (history ++ Pop me u ∷ []) n flag' home' hand') × (r'.deeds ≡ r.deeds ++ popped me (item u.from x) ∷ [])) in
      let leads = subst (λ (y : List (Lying T)). Leads history r.shut (map number_of y)) it.2 r.leads in
      let runs = subst (λ (y : List (Lying T)). Runs [] false r.deeds (map item_of y) r.shut) it.2 r.runs in
      let slotted = subst (Slotted n flag home hand r.pops) it.2 r.slotted in
      let lies = slotted.lies 0 l refl in
      subst P it.3 (
        l.value,
        lies.0,
        lies.2,
        λ flag' home' hand' id has_none flags homes hands. (
          record {
            deeds = r.deeds ++ popped me (item_of l) ∷ [];
            q = it.1;
            pops = suc r.pops;
            shut = r.shut;
            leads = plays_then empty (queue_of (map number_of (l ∷ it.1)) r.shut) (queue_of (map number_of it.1) r.shut) history (Pop me (number_of l) ∷ []) leads (refl, refl);
            runs = runs_pop [] false r.deeds (map item_of it.1) r.shut me (item_of l) runs;
            matches = matches_on history (Pop me (number_of l) ∷ []) r.deeds (popped me (item_of l) ∷ []) r.matches (refl, refl, tt);
            slotted = (pops_front n flag flag' home home' hand hand' r.pops id l.slot it.1 l.from l.value slotted has_none flags homes hands).2;
          },
          refl,
        ),
      )

  -- flags and hands that are the same at each number
  pub rides_same : (history : List Entry) (n : ℕ) (flag flag' : ℕ → ℕ) (home : ℕ → Home T) (hand hand' : ℕ → maybe.Option ℕ)
      (r : Rides history n flag home hand) → ((i : ℕ) → flag i ≡ flag' i) → ((j : ℕ) → hand j ≡ hand' j)
      → (r' : Rides history n flag' home hand') × (r'.deeds ≡ r.deeds)
  rides_same history n flag flag' home hand hand' r flags hands = (
    record {
      deeds = r.deeds;
      q = r.q;
      pops = r.pops;
      shut = r.shut;
      leads = r.leads;
      runs = r.runs;
      matches = r.matches;
      slotted = (let P : (ℕ → ℕ) × (ℕ → maybe.Option ℕ) → Type 0 = λ y. Slotted n y.0 home y.1 r.pops r.q in subst P (λ d. ((λ i. flags i d), (λ j. hands j d))) r.slotted);
    },
    refl,
  )

  -- a beginning of what runs runs
  pub runs_first : (q : List (Item T)) (s : Bool) (ds es : List (Deed T)) (q' : List (Item T)) (s' : Bool) → Runs q s (ds ++ es) q' s' → (r : List (Item T)) × (b : Bool) × Runs q s ds r b
  runs_first q s [] es q' s' h = (q, s, (refl, refl))
  runs_first q s (pushed n x ∷ ds) es q' s' h = let r = runs_first (q ++ item n x ∷ []) s ds es q' s' h.1 in (r.0, r.1, (h.0, r.2))
  runs_first q s (popped n t ∷ ds) es q' s' h = let r = runs_first h.0 s ds es q' s' h.2 in (r.0, r.1, (h.0, h.1, r.2))
  runs_first q s (closed n ∷ ds) es q' s' h = let r = runs_first q true ds es q' s' h.1 in (r.0, r.1, (h.0, r.2))

  -- the pushes, one after another, are the values popped and then those that are left
  pub popped_then_left : (q : List (Item T)) (s : Bool) (ds : List (Deed T)) (q' : List (Item T)) (s' : Bool) → Runs q s ds q' s' → q ++ values_pushed ds ≡ values_popped ds ++ q'
  popped_then_left q s [] q' s' h = append-nil q ∙ h.0
  popped_then_left q s (pushed n x ∷ ds) q' s' h = sym (append_assoc q (item n x ∷ []) (values_pushed ds)) ∙ popped_then_left (q ++ item n x ∷ []) s ds q' s' h.1
  popped_then_left q s (popped n t ∷ ds) q' s' h = ap (λ y. y ++ values_pushed ds) h.1 ∙ ap (λ y. t ∷ y) (popped_then_left h.0 s ds q' s' h.2)
  popped_then_left q s (closed n ∷ ds) q' s' h = popped_then_left q true ds q' s' h.1
