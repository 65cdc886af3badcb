-- A line of a ring keeps the rule of the slots too: what it adds to the history of numbers, it adds to that of values.
use Rattle.std.proofs.Common.{◌≡◌, ◌≢◌, ℕ, ◌+◌, ◌<◌, ◌≤◌, ◌⊎◌, inl, inr, ⊎_elim, Bool, true, false, if◌then◌else◌, Option, Some, None, List, [], ◌∷◌}
use Rattle.std.proofs.Common.{◌++◌, zero, suc, length, get_or, set, map, take, sym, refl, ap, ◌∙◌, subst, arith, append-nil, append_assoc}
use Rattle.std.proofs.lemmas.List.{set-get_or, length-set, get_or-set_same, get_or-set_other, get_or-take, take-set-le}
use Rattle.std.proofs.Math.Seq.{take-set-lt}
use mathlib.Core.Option.{some, none, some-ne-none}
use mathlib.Core.Option as maybe
use mathlib.Core.Bool.{true≢false}
use mathlib.Core.Logic.{dite}
use native.Mathlib.Decide.{ℕ_discrete}
use lib.ListN.{get_elem?}
use Rattle.atomic_table.specs.Table.{State, Me, Act, keeps, takes, gives, Valid, carried_after, stepped, Allows}
use Rattle.atomic_table.proofs.Lists.{at_map, at_set, set_again, set_else, set_here}
use Rattle.history.specs.declared.operations.Entry.{Entry}
use Rattle.history.specs.declared.operations.Entry.TheVariants.{Push, Pop, Shut}
use Rattle.history.specs.declared.operations.Taken.{Taken}
use Rattle.history.specs.Queue.{Queue}
use Rattle.history.specs.Entries.{IsQueueRun}
use Rattle.node_arena.specs.Beside.{flag_at, home_at}
use Rattle.node_arena.specs.Deeds.{Item, item, Deed, pushed, popped, closed, Runs, Matches}
use Rattle.node_arena.specs.Slots.{Changes, Slotted, item_of}
use Rattle.node_arena.specs.ValueHistories.{Rides}
use Rattle.node_arena.proofs.Slotting.{acquires, releases}
use Rattle.node_arena.proofs.Riding.{rides_push, rides_pop, rides_shut, rides_same, runs_first}
use Rattle.node_arena.proofs.Lifts.{map_set}
use Rattle.node_arena.proofs.Loads.{runs_to_pop}
use Rattle.node_arena.proofs.KnownValues.{all_on}
use Rattle.ring_queue.specs.Plans.{Layout, words_of}
use Rattle.ring_queue.specs.Knowledge.{SeatView, View, seated, knows}
use Rattle.ring_queue.specs.Rule.{Ring, Run, put}
use Rattle.ring_queue.specs.Beside.{Beside, plain_of, plain_state, hand_in, hand_at, Begins, Carried, HoldsValues, KnowsValues, Effect, IsReadyFor}
use Rattle.ring_queue.proofs.Tables.{HoldsWith, Extends, its_seat, one_seat}
use Rattle.ring_queue.proofs.Calls.{Does}
use Rattle.ring_queue.specs.Placed.{Placing}
use Rattle.ring_queue.specs.Paths.{Try, accessed}
use Rattle.ring_queue.proofs.Runs.{Made, run_on, knew_of}

abbrev is_first : {A B : Type 0} → A ⊎ B → Bool
is_first (inl a) = true
is_first (inr b) = false

the_first : {A B : Type 0} (u : A ⊎ B) → is_first u ≡ true → A
the_first (inl a) e = a
the_first (inr b) e = absurd (true≢false (sym e))

the_second : {A B : Type 0} (u : A ⊎ B) → is_first u ≡ false → B
the_second (inl a) e = absurd (true≢false e)
the_second (inr b) e = b

set_at : {A : Type 0} (l : List A) (i : ℕ) (a b : A) → get_elem? l i ≡ some a → get_elem? (set l i b) i ≡ some b
set_at [] i a b e = absurd (some-ne-none a (sym e))
set_at (x ∷ xs) zero a b e = refl
set_at (x ∷ xs) (suc i) a b e = set_at xs i a b e

-- a seat whose deeds go with what it has seen, and begin deeds that run, knows what is so
pub knows_first : {T : Type 0} (z : Layout) (seen : List Entry) (w : Beside T) (ds rest : List (Deed T)) → ds ≡ w.deeds ++ rest → Matches seen w.deeds
    → (q : List (Item T)) (shut : Bool) → Runs [] false ds q shut → ((i : ℕ) → w.hand ≡ some i → i < z.slots) → KnowsValues z seen w
knows_first z seen w ds rest begins matches q shut runs there =
    let first = runs_first [] false w.deeds rest q shut (subst (λ (y : List (Deed _)). Runs [] false y q shut) begins runs) in
    record { matches = matches; values = first.0; shut = first.1; runs = first.2; there = there }

module _ {T : Type 0} (z : Layout) (s : State (Option T) (Beside T)) (H : HoldsValues z s) (count : length s.homes ≡ z.slots) (id : ℕ) (v : SeatView)
    (ds : List (Deed T)) (hd : maybe.Option ℕ) (os : List (List (Deed T))) (ts : List Try) (pl : Placing)
    (mine : get_elem? s.views id ≡ some (record { plain = seated v; deeds = ds; hand = hd; others = os; tries = ts; placing = pl })) (p : ℕ) (f : ℕ → ℕ) (all : List Entry)
    (fact : SeatView → ℕ → SeatView → Type 0) (line : Does z p v f all fact) (within : p < words_of z)
    (ran : (n : ℕ) (v' : SeatView) → fact v n v' → Made z p n (f n) v v') where
  abbrev w : Beside T
  w = record { plain = seated v; deeds = ds; hand = hd; others = os; tries = ts; placing = pl }

  abbrev m : ℕ
  m = words_of z

  abbrev n : ℕ
  n = z.slots

  abbrev s0 : State ℕ View
  s0 = plain_state m s

  abbrev rides : Rides H.base.ring.history n (flag_at m s.words) (home_at s.homes) (hand_at s.views)
  rides = H.values.rides

  mine0 : get_elem? s0.views id ≡ some (seated v)
  mine0 = at_map plain_of s.views id w mine

  its : H.base.seats v.number ≡ v
  its = its_seat z s0 H.base id v mine0

  abbrev done : (v' : SeatView) × (v'.number ≡ v.number) × (r' : Ring z (set s0.words p (f (get_or s0.words p 0))) (put H.base.seats v.number v'))
      × Extends H.base.run.trace all H.base.ring.history v r'.history v' × fact v (get_or s0.words p 0) v'
  done = line s0.words H.base.seats H.base.ring its H.base.run.trace H.base.run.adds (knew_of z s0.words H.base.seats H.base.ring.history v its H.base.run)

  abbrev v' : SeatView
  v' = done.0

  abbrev hist : List Entry
  hist = H.base.ring.history

  abbrev extends : Extends H.base.run.trace all hist v done.2.history v'
  extends = done.3

  abbrev es : List Entry
  es = extends.added

  abbrev words' : List ℕ
  words' = set s.words p (f (get_or s.words p 0))

  legal : IsQueueRun (hist ++ es)
  legal = let after : Queue = record { values = done.2.values; shut = done.2.shut } in subst IsQueueRun extends.grown (after, done.2.leads)

  -- the run with this access
  runs : (more : Run z (set s0.words p (f (get_or s0.words p 0))) (put H.base.seats v.number v') done.2.history) × (more.trace ≡ accessed H.base.run.trace v.number (ran (get_or s0.words p 0) v' done.4).event)
  runs = run_on z s0.words H.base.seats hist v v' all done.2.history p (f (get_or s0.words p 0)) its H.base.run extends (ran (get_or s0.words p 0) v' done.4)

  -- the rule of the numbers after the step
  base0 : HoldsWith z (hist ++ es) record { words = set s0.words p (f (get_or s0.words p 0)); homes = []; views = set s0.views id (seated v') }
  base0 = (
    one_seat z s0 H.base id v mine0 v' (set s0.words p (f (get_or s0.words p 0))) done.1 done.2 runs.0 (ran (get_or s0.words p 0) v' done.4).event runs.1,
    extends.grown,
  )

  same_words : set s0.words p (f (get_or s0.words p 0)) ≡ take m words'
  same_words = sym (take-set-lt m s.words p (f (get_or s.words p 0)) within ∙ ap (λ (k : ℕ). set (take m s.words) p (f k)) (sym (get_or-take m s.words p 0 within)))

  flags : (i : ℕ) → flag_at m words' i ≡ flag_at m s.words i
  flags i = get_or-set_other s.words p (m + i) (f (get_or s.words p 0)) 0 (λ e. (let lt = within in omega (arith, e, lt)))

  -- whether the seat has then seen all
  abbrev sees : Bool
  sees = is_first extends.seen

  abbrev seat_after : List (Deed T) → maybe.Option ℕ → Beside T
  seat_after d h = record { plain = seated v'; deeds = if sees then rides.deeds ++ d else ds; hand = h; others = []; tries = ts; placing = pl }

  hands : (d : List (Deed T)) (h : maybe.Option ℕ) → Changes (hand_at s.views) (hand_at (set s.views id (seat_after d h))) id h
  hands d h = (ap hand_in (set_at s.views id w (seat_after d h) mine), λ i ne. ap hand_in (set_else s.views id i (seat_after d h) ne))

  same_hands : (d : List (Deed T)) (j : ℕ) → hand_at s.views j ≡ hand_at (set s.views id (seat_after d hd)) j
  same_hands d j = dite (ℕ_discrete j id)
      (λ same. ap (hand_at s.views) same ∙ (ap hand_in mine ∙ (sym (hands d hd).0 ∙ ap (hand_at (set s.views id (seat_after d hd))) (sym same))))
      (λ ne. sym ((hands d hd).1 j ne))

  fit : Begins rides.deeds w
  fit = H.values.known id w mine

  -- put together
  built : (d : List (Deed T)) (h : maybe.Option ℕ) (homes' : List (maybe.Option (Option T)))
      (r : Rides (hist ++ es) n (flag_at m words') (home_at homes') (hand_at (set s.views id (seat_after d h)))) → r.deeds ≡ rides.deeds ++ d
      → HoldsValues z record { words = words'; homes = homes'; views = set s.views id (seat_after d h) }
  built d h homes' r is = record { base = base.0; values = carried }
    where
      base : HoldsWith z (hist ++ es) (plain_state m (record { words = words'; homes = homes'; views = set s.views id (seat_after d h) }))
      base = subst (λ (y : List ℕ × List View). HoldsWith z (hist ++ es) (record { words = y.0; homes = []; views = y.1 }))
          (λ i. (same_words i, sym (map_set plain_of s.views id (seat_after d h)) i)) base0

      begins_by : (b : Bool) → (rest : List (Deed T)) × (rides.deeds ++ d ≡ (if b then rides.deeds ++ d else ds) ++ rest)
      begins_by true = ([], sym (append-nil (rides.deeds ++ d)))
      begins_by false = (fit.rest ++ d, ap (λ y. y ++ d) fit.begins ∙ append_assoc ds fit.rest d)

      matches_by : (b : Bool) → sees ≡ b → Matches v'.seen (if b then rides.deeds ++ d else ds)
      matches_by true e = let P : List Entry × List (Deed T) → Type 0 = λ y. Matches y.0 y.1 in subst P (λ i. (sym (the_first extends.seen e ∙ extends.grown) i, is i)) r.matches
      matches_by false e = subst (λ es. Matches es ds) (sym (the_second extends.seen e).1) (fit.matches v refl)

      here : Begins r.deeds (seat_after d h)
      here = record {
        rest = (begins_by sees).0;
        begins = is ∙ (begins_by sees).1;
        matches = λ o e. subst (λ (y : View). Matches (knows y).seen (seat_after d h).deeds) e (matches_by sees refl);
        pair = λ o u e same. cc;
        others = tt;
      }

      others_on : (j : ℕ) (o : Beside T) → get_elem? s.views j ≡ some o → Begins r.deeds o
      others_on j o at = let g = H.values.known j o at in record {
        rest = g.rest ++ d;
        begins =
            is ∙ (ap (λ y. y ++ d) g.begins ∙ append_assoc o.deeds g.rest d);
        matches = g.matches;
        pair = g.pair;
        others =
            all_on o.others rides.deeds d r.deeds is g.others;
      }

      known : (j : ℕ) (o : Beside T) → get_elem? (set s.views id (seat_after d h)) j ≡ some o → Begins r.deeds o
      known j o at = ⊎_elim
          (λ (e : (j ≡ id) × (seat_after d h ≡ o)). subst (Begins r.deeds) e.1 here)
          (λ (e : (j ≢ id) × (get_elem? s.views j ≡ some o)). others_on j o e.1)
          (at_set s.views id j (seat_after d h) o at)

      carried : Carried z base.0.ring.history record { words = words'; homes = homes'; views = set s.views id (seat_after d h) }
      carried = subst (λ (hs : List Entry). Carried z hs record { words = words'; homes = homes'; views = set s.views id (seat_after d h) }) (sym base.1)
          (record { rides = r; known = known; long = subst (λ (k : ℕ). m + n ≤ k) (sym (length-set s.words p (f (get_or s.words p 0)))) H.values.long })

  -- where the step adds something, all is seen
  all_seen : (d : List (Deed T)) → ¬ (es ≡ []) → (if sees then rides.deeds ++ d else ds) ≡ (ds ++ fit.rest) ++ d
  all_seen d some_entry = go sees refl
    where
      go : (b : Bool) → sees ≡ b → (if b then rides.deeds ++ d else ds) ≡ (ds ++ fit.rest) ++ d
      go true e = ap (λ y. y ++ d) fit.begins
      go false e = absurd (some_entry (the_second extends.seen e).0)

  grown : (if sees then rides.deeds ++ [] else ds) ≡ ds ++ (if sees then fit.rest else [])
  grown = go sees
    where
      go : (b : Bool) → (if b then rides.deeds ++ [] else ds) ≡ ds ++ (if b then fit.rest else [])
      go true = append-nil rides.deeds ∙ fit.begins
      go false = sym (append-nil ds)

  -- what the step tells, at the word that it found
  abbrev Told : (held : List (ℕ × Option T)) (k : ℕ) → Beside T × List (ℕ × Option T) → Type 0
  Told held k o = (o.0.plain ≡ seated (knows o.0.plain)) × fact v k (knows o.0.plain) × (o.0.placing ≡ pl)
      × ((fs : List Entry) × ((fs ≡ []) ⊎ (fs ≡ all)) × ((knows o.0.plain).mine ≡ v.mine ++ fs) × Effect v.number fs w held o.0 o.1)

  told0 : fact v (get_or s.words p 0) v'
  told0 = subst (λ (k : ℕ). fact v k v') (get_or-take m s.words p 0 within) done.4

  homes : (hs : List (maybe.Option (Option T))) (k : ℕ) (y : maybe.Option (Option T)) → k < length hs → Changes (home_at hs) (home_at (set hs k y)) k (some y)
  homes hs k y lt = (set_here hs k y lt, λ i ne. set_else hs k i y ne)

  -- what the step is to come to, with these slots in hand
  abbrev Result : List (ℕ × Option T) → Type 0
  Result held = (w' : Beside T) × (act : Act (Option T)) × Valid s.homes held act
      × HoldsValues z (stepped s p (f (get_or s.words p 0)) id held w' act) × Told held (get_or s.words p 0) (w', carried_after held act)

  some_entry : (e : Entry) → es ≡ e ∷ [] → ¬ (es ≡ [])
  some_entry e is none_there = let bad : 1 ≡ 0 = ap length (sym is ∙ none_there) in absurd (omega (arith, bad))

  abbrev At : List (Deed T) → maybe.Option ℕ → List (maybe.Option (Option T)) → List Entry → Type 0
  At d h homes' fs = (r : Rides (hist ++ fs) n (flag_at m words') (home_at homes') (hand_at (set s.views id (seat_after d h)))) × (r.deeds ≡ rides.deeds ++ d)

  which : (fs : List Entry) → es ≡ fs → (fs ≡ []) ⊎ (fs ≡ all)
  which fs is = ⊎_elim (λ (e : es ≡ []). inl (sym is ∙ e)) (λ (e : es ≡ all). inr (sym is ∙ e)) extends.which

  own : (fs : List Entry) → es ≡ fs → v'.mine ≡ v.mine ++ fs
  own fs is = extends.own ∙ ap (λ y. v.mine ++ y) is

  -- nothing is added, or a shut: no slot moves
  stays_put : (held : List (ℕ × Option T)) (d : List (Deed T)) (fs : List Entry) → es ≡ fs → At d hd s.homes fs → Effect v.number fs w held (seat_after d hd) held → Result held
  stays_put held d fs is r effect =
      let r' = subst (At d hd s.homes) (sym is) r in
      (seat_after d hd, keeps, tt, built d hd s.homes r'.0 r'.1, (refl, told0, refl, (fs, which fs is, own fs is, effect)))

  by_none : (held : List (ℕ × Option T)) → es ≡ [] → Result held
  by_none held is =
      let r = rides_same hist n (flag_at m s.words) (flag_at m words') (home_at s.homes) (hand_at s.views) (hand_at (set s.views id (seat_after [] hd))) rides (λ i. sym (flags i)) (same_hands []) in
      let r' : At [] hd s.homes [] = subst (λ (y : List Entry). (q : Rides y n (flag_at m words') (home_at s.homes)
      (hand_at (set s.views id (seat_after [] hd)))) × (q.deeds ≡ rides.deeds ++ [])) (sym (append-nil hist))
      (r.0, r.1 ∙ sym (append-nil rides.deeds)) in
      stays_put held [] [] is r' (refl, refl, ((if sees then fit.rest else []), grown))

  by_shut : (held : List (ℕ × Option T)) → es ≡ Shut v.number ∷ [] → Result held
  by_shut held is =
      let d = closed v.number ∷ [] in
      let one = rides_shut hist n (flag_at m s.words) (flag_at m s.words) (home_at s.homes) (home_at s.homes) (hand_at s.views)
      (hand_at s.views) id v.number rides (subst IsQueueRun (ap (λ y. hist ++ y) is) legal) in
      let two = rides_same (hist ++ Shut v.number ∷ []) n (flag_at m s.words) (flag_at m words') (home_at s.homes) (hand_at s.views)
      (hand_at (set s.views id (seat_after d hd))) one.0 (λ i. sym (flags i)) (same_hands d) in
      stays_put held d (Shut v.number ∷ []) is (two.0, two.1 ∙ one.1) (refl, refl, (fit.rest, all_seen d (some_entry (Shut v.number) is)))

  by_push : (b : ℕ) (y : T) → hd ≡ some b → b < n → es ≡ Push v.number b ∷ [] → Result ((b, Some y) ∷ [])
  by_push b y has lt is =
      let d = pushed v.number y ∷ [] in
      let homes' = set s.homes b (some (Some y)) in
      let r = rides_push hist n (flag_at m s.words) (flag_at m words') (home_at s.homes) (home_at homes') (hand_at s.views)
      (hand_at (set s.views id (seat_after d none))) id v.number rides b y (ap hand_in mine ∙ has)
      (subst IsQueueRun (ap (λ y. hist ++ y) is) legal)
      flags (homes s.homes b (some (Some y)) (omega (arith, lt, count))) (hands d none) in
      let r' = subst (At d none homes') (sym is) r in (
        seat_after d none,
        gives,
        tt,
        built d none homes' r'.0 r'.1,
        (refl, told0, refl, (Push v.number b ∷ [], which (Push v.number b ∷ []) is, own (Push v.number b ∷ []) is, (y, refl, refl, refl, (fit.rest, all_seen d (some_entry (Push v.number b) is))))),
      )

  by_pop : (t : Taken) (held : List (ℕ × Option T)) → hd ≡ none → es ≡ Pop v.number t ∷ [] → Result held
  by_pop t held empty is =
      let it = rides_pop hist n (flag_at m s.words) (home_at s.homes) (hand_at s.views) v.number rides t (subst IsQueueRun (ap (λ y. hist ++ y) is) legal) in
      let b = t.body in
      let d = popped v.number (item t.from it.0) ∷ [] in
      let homes' = set s.homes b none in
      let r = it.3 (flag_at m words') (home_at homes') (hand_at (set s.views id (seat_after d (some b)))) id (ap hand_in mine ∙ empty) flags
      (homes s.homes b none (let lt = it.1 in omega (arith, lt, count))) (hands d (some b)) in
      let after = subst (λ (y : List (Deed T)). Runs [] false y (map item_of r.0.q) r.0.shut) (r.1 ∙ ap (λ y. y ++ d) fit.begins) r.0.runs in
      let stood = runs_to_pop [] false (ds ++ fit.rest) [] v.number (item t.from it.0) (map item_of r.0.q) r.0.shut after in
      let r' = subst (At d (some b) homes') (sym is) r in (
        seat_after d (some b),
        takes b (Some it.0),
        it.2,
        built d (some b) homes' r'.0 r'.1,
        (refl, told0, refl, (Pop v.number t ∷ [], which (Pop v.number t ∷ []) is, own (Pop v.number t ∷ []) is, (it.0, refl, refl, (fit.rest, all_seen d (some_entry (Pop v.number t) is), stood)))),
      )

  -- whatever the line may add, the slots and the values go with it: a push gives the slot that the seat holds, a pop takes that of the
  -- front
  goes : (held : List (ℕ × Option T)) → IsReadyFor n v.number all w held → Result held
  goes held ready = ⊎_elim (by_none held) (by_all all ready) extends.which
    where
      by_all : (fs : List Entry) → IsReadyFor n v.number fs w held → es ≡ fs → Result held
      by_all [] ok is = by_none held is
      by_all (Push k b ∷ []) ok is = subst Result (sym ok.1.1) (by_push b ok.1.0 ok.1.2 ok.1.3 (is ∙ ap (λ y. Push y b ∷ []) ok.0))
      by_all (Pop k t ∷ []) ok is = by_pop t held ok.1 (is ∙ ap (λ y. Pop y t ∷ []) ok.0)
      by_all (Shut k ∷ []) ok is = by_shut held (is ∙ ap (λ y. Shut y ∷ []) ok)
      by_all (e ∷ g ∷ es) ok is = absurd ok

  -- what the seat then knows of the values is so
  pub keeps_values : (held : List (ℕ × Option T)) → IsReadyFor n v.number all w held
      → (w' : Beside T) × (act : Act (Option T)) × Valid s.homes held act × HoldsValues z (stepped s p (f (get_or s.words p 0)) id held w' act)
      × Told held (get_or s.words p 0) (w', carried_after held act) × KnowsValues z (knows w'.plain).seen w'
  keeps_values held ready =
      let q = goes held ready in
      let after = q.3.values in
      let there = set_at s.views id w q.0 mine in
      let its_fit = after.known id q.0 there in (
        q.0,
        q.1,
        q.2,
        q.3,
        q.4,
        knows_first z (knows q.0.plain).seen q.0 after.rides.deeds its_fit.rest its_fit.begins (its_fit.matches (knows q.0.plain) q.4.0)
            (map item_of after.rides.q) after.rides.shut after.rides.runs (λ i e. (after.rides.slotted.out id i (ap hand_in there ∙ e)).0),
      )

-- what a line tells of a seat of a table that carries values: what it tells of the numbers, what became of the slots and of the
-- history of values, and that what the seat then knows of these is so
abbrev pub TellsValues : {T : Type 0} (z : Layout) (v : SeatView) (w : Beside T) (held : List (ℕ × Option T)) (all : List Entry)
    → (SeatView → ℕ → SeatView → Type 0) → ℕ → Me (Option T) (Beside T) → Type 0
TellsValues z v w held all fact k o = ((o.0.plain ≡ seated (knows o.0.plain)) × fact v k (knows o.0.plain) × (o.0.placing ≡ w.placing)
    × ((fs : List Entry) × ((fs ≡ []) ⊎ (fs ≡ all)) × ((knows o.0.plain).mine ≡ v.mine ++ fs) × Effect v.number fs w held o.0 o.1))
    × KnowsValues z (knows o.0.plain).seen o.0

module _ {T : Type 0} (z : Layout) (id p : ℕ) (v : SeatView) (ds : List (Deed T)) (hd : maybe.Option ℕ) (os : List (List (Deed T))) (ts : List Try) (pl : Placing) (f : ℕ → ℕ)
    (all : List Entry) (fact : SeatView → ℕ → SeatView → Type 0) (line : Does z p v f all fact) (within : p < words_of z)
    (ran : (n : ℕ) (v' : SeatView) → fact v n v' → Made z p n (f n) v v') where
  abbrev before : Beside T
  before = record { plain = seated v; deeds = ds; hand = hd; others = os; tries = ts; placing = pl }

  -- what a line asks of a table that carries values
  pub allows_values : (held : List (ℕ × Option T)) → IsReadyFor z.slots v.number all before held
      → Allows {S = Option T} (HoldsValues z) z.slots id (before, held) p f (TellsValues z v before held all fact)
  allows_values held ready s H count mine small =
      let q = keeps_values z s H count id v ds hd os ts pl mine p f all fact line within ran held ready in
      (q.0, q.1, q.2, q.3, (q.4, q.5))

module _ {T : Type 0} (z : Layout) (id : ℕ) where
  -- another slot in the hand of a seat, with the words of the queue as they were
  same_base : (s : State (Option T) (Beside T)) (w w' : Beside T) (words' : List ℕ) (homes' : List (maybe.Option (Option T))) (H : HoldsValues z s)
      → get_elem? s.views id ≡ some w → w'.plain ≡ w.plain → take (words_of z) words' ≡ take (words_of z) s.words
      → HoldsWith z H.base.ring.history (plain_state (words_of z) (record { words = words'; homes = homes'; views = set s.views id w' }))
  same_base s w w' words' homes' H mine same words =
      let views : map plain_of s.views ≡ map plain_of (set s.views id w') = sym
      (map_set plain_of s.views id w' ∙ (ap (λ (u : View). set (map plain_of s.views) id u) same ∙ set_again (map plain_of s.views) id w.plain
      (at_map plain_of s.views id w mine))) in
      subst (λ (y : List ℕ × List View). HoldsWith z H.base.ring.history (record { words = y.0; homes = []; views = y.1 })) (λ i. (sym words i, views i)) (H.base, refl)

  -- what is known of the values, where a seat has another slot
  known_again : (s : State (Option T) (Beside T)) (w : Beside T) (hand' : maybe.Option ℕ) (ts' : List Try) (H : HoldsValues z s) → get_elem? s.views id ≡ some w
      → (j : ℕ) (o : Beside T) → get_elem? (set s.views id (record { plain = w.plain; deeds = w.deeds; hand = hand'; others = w.others; tries = ts'; placing = w.placing })) j ≡ some o
      → Begins H.values.rides.deeds o
  known_again s w hand' ts' H mine j o at = ⊎_elim
      (λ (e : (j ≡ id) × (record { plain = w.plain; deeds = w.deeds; hand = hand'; others = w.others; tries = ts'; placing = w.placing } ≡ o)). subst (Begins H.values.rides.deeds) e.1
      (let g = H.values.known id w mine in let h : Begins H.values.rides.deeds (record {
        plain = w.plain;
        deeds = w.deeds;
        hand = hand';
        others =
            w.others;
        tries = ts';
        placing = w.placing;
      }) = record { rest = g.rest; begins = g.begins; matches = g.matches; pair = g.pair; others = g.others } in h))
      (λ (e : (j ≢ id) × (get_elem? s.views j ≡ some o)). H.values.known j o e.1)
      (at_set s.views id j (record { plain = w.plain; deeds = w.deeds; hand = hand'; others = w.others; tries = ts'; placing = w.placing }) o at)

  -- the slots moved, and the history is as it was
  moved_slots : (s : State (Option T) (Beside T)) (w : Beside T) (hand' : maybe.Option ℕ) (ts' : List Try) (p x : ℕ) (homes' : List (maybe.Option (Option T)))
      (H : HoldsValues z s) → get_elem? s.views id ≡ some w → words_of z ≤ p
      → Slotted z.slots (flag_at (words_of z) (set s.words p x)) (home_at homes')
      (hand_at (set s.views id (record { plain = w.plain; deeds = w.deeds; hand = hand'; others = w.others; tries = ts'; placing = w.placing }))) H.values.rides.pops
      H.values.rides.q
      → HoldsValues z record { words = set s.words p x; homes = homes'; views = set s.views id (record { plain = w.plain; deeds = w.deeds; hand = hand'; others = w.others; tries = ts'; placing = w.placing }) }
  moved_slots s w hand' ts' p x homes' H mine behind slotted =
      let w' : Beside T = record { plain = w.plain; deeds = w.deeds; hand = hand'; others = w.others; tries = ts'; placing = w.placing } in
      let r = H.values.rides in
      let base = same_base s w w' (set s.words p x) homes' H mine refl (take-set-le (words_of z) s.words p x behind) in
      record {
        base = base.0;
        values = subst (λ (hs : List Entry). Carried z hs record { words = set s.words p x; homes = homes'; views = set s.views id w' }) (sym base.1) (record {
          rides = record { deeds = r.deeds; q = r.q; pops = r.pops; shut = r.shut; leads = r.leads; runs = r.runs; matches = r.matches; slotted = slotted };
          known = known_again s w hand' ts' H mine;
          long = subst (λ (k : ℕ). words_of z + z.slots ≤ k) (sym (length-set s.words p x)) H.values.long;
        });
      }

  -- a free slot is got, by its flag
  pub gets_slot : (w : Beside T) (ts' : List Try) (i : ℕ) → i < z.slots → w.hand ≡ none → (s : State (Option T) (Beside T)) (H : HoldsValues z s) → length s.homes ≡ z.slots
      → get_elem? s.views id ≡ some w → get_or s.words (words_of z + i) 0 ≡ 0
      → (get_elem? s.homes i ≡ some (some None)) × HoldsValues z (stepped s (words_of z + i) 1 id [] (record { plain = w.plain; deeds = w.deeds; hand = some i; others = w.others; tries = ts'; placing = w.placing }) (takes i None))
  gets_slot w ts' i lt empty s H count mine down =
      let w' : Beside T = record { plain = w.plain; deeds = w.deeds; hand = some i; others = w.others; tries = ts'; placing = w.placing } in
      let p = words_of z + i in
      let homes' = set s.homes i none in
      let r = H.values.rides in
      let long = H.values.long in
      let got = acquires z.slots (flag_at (words_of z) s.words) (flag_at (words_of z) (set s.words p 1)) (home_at s.homes) (home_at homes')
      (hand_at s.views) (hand_at (set s.views id w')) r.pops id i r.q r.slotted lt down (ap hand_in mine ∙ empty)
      (get_or-set_same s.words p 1 0 (omega (arith, lt, long)), λ j ne. get_or-set_other s.words p (words_of z + j) 1 0 (λ e. ne (omega (arith, e))))
      (set_here s.homes i none (omega (arith, lt, count)), λ j ne. set_else s.homes i j none ne)
      (ap hand_in (set_at s.views id w w' mine), λ j ne. ap hand_in (set_else s.views id j w' ne)) in
      (got.0, moved_slots s w (some i) ts' p 1 homes' H mine (omega arith) got.1)

  -- an empty slot is given back
  pub frees_slot : (w : Beside T) (k : ℕ) → k < z.slots → w.hand ≡ some k → (s : State (Option T) (Beside T)) (H : HoldsValues z s) → length s.homes ≡ z.slots → get_elem? s.views id ≡ some w
      → HoldsValues z (stepped s (words_of z + k) 0 id ((k, None) ∷ []) (record { plain = w.plain; deeds = w.deeds; hand = none; others = w.others; tries = w.tries; placing = w.placing }) gives)
  frees_slot w k lt hand s H count mine =
      let w' : Beside T = record { plain = w.plain; deeds = w.deeds; hand = none; others = w.others; tries = w.tries; placing = w.placing } in
      let p = words_of z + k in
      let homes' = set s.homes k (some None) in
      let r = H.values.rides in
      let long = H.values.long in
      moved_slots s w none w.tries p 0 homes' H mine (omega arith)
      (releases z.slots (flag_at (words_of z) s.words) (flag_at (words_of z) (set s.words p 0)) (home_at s.homes) (home_at homes') (hand_at s.views)
      (hand_at (set s.views id w')) r.pops id k r.q r.slotted (ap hand_in mine ∙ hand)
      (get_or-set_same s.words p 0 0 (omega (arith, lt, long)), λ j ne. get_or-set_other s.words p (words_of z + j) 0 0 (λ e. ne (omega (arith, e))))
      (set_here s.homes k (some None) (omega (arith, lt, count)), λ j ne. set_else s.homes k j (some None) ne)
      (ap hand_in (set_at s.views id w w' mine), λ j ne. ap hand_in (set_else s.views id j w' ne)))

  -- a try that missed: nothing changes but the seat's tries
  pub misses_slot : (w : Beside T) (ts' : List Try) (i : ℕ) (s : State (Option T) (Beside T)) (H : HoldsValues z s) → get_elem? s.views id ≡ some w
      → HoldsValues z (stepped s (words_of z + i) (get_or s.words (words_of z + i) 0) id [] (record { plain = w.plain; deeds = w.deeds; hand = w.hand; others = w.others; tries = ts'; placing = w.placing }) keeps)
  misses_slot w ts' i s H mine =
      let w' : Beside T = record { plain = w.plain; deeds = w.deeds; hand = w.hand; others = w.others; tries = ts'; placing = w.placing } in
      let p = words_of z + i in
      let r = H.values.rides in
      let flags : (j : ℕ) → flag_at (words_of z) s.words j ≡ flag_at (words_of z) (set s.words p (get_or s.words p 0)) j = λ j. ap (λ (ws : List ℕ). get_or ws (words_of z + j) 0) (sym (set-get_or s.words p 0)) in
      let hands : (j : ℕ) → hand_at s.views j ≡ hand_at (set s.views id w') j = λ j. dite (ℕ_discrete j id)
      (λ same. ap (hand_at s.views) same ∙ (ap hand_in mine ∙ (sym (ap hand_in (set_at s.views id w w' mine)) ∙ ap (hand_at (set s.views id w')) (sym same))))
      (λ ne. sym (ap hand_in (set_else s.views id j w' ne))) in
      let P : (ℕ → ℕ) × (ℕ → maybe.Option ℕ) → Type 0 = λ y. Slotted z.slots y.0 (home_at s.homes) y.1 r.pops r.q in
      moved_slots s w w.hand ts' p (get_or s.words p 0) s.homes H mine (omega arith) (subst P (λ d. ((λ j. flags j d), (λ j. hands j d))) r.slotted)
