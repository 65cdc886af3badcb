-- Each line of a ring keeps the rule of values whose words lie in their places: what it adds to the history of numbers, it adds to that
-- of values.
use Rattle.std.proofs.Common.{◌≡◌, ◌≢◌, ℕ, zero, suc, ◌+◌, ◌-◌, ◌%◌, ◌<◌, ◌≤◌, ◌⊎◌, inl, inr, Bool, true, false, if◌then◌else◌, List, [], ◌∷◌, ◌++◌, length, set, get_or, slice_get, Option, Some, sym, refl, ap, ◌∙◌, subst, arith, ⊎_elim, append-nil, append_assoc}
use Rattle.std.specs.List.{count_by}
use Rattle.std.proofs.lemmas.List.{append_cancel_left, get_or-set_other, length-set}
use Rattle.std.proofs.lemmas.List.Sums.{sum_by-append}
use Rattle.std.proofs.lemmas.Grind.{same_number_lists}
use Rattle.std.proofs.lemmas.Option.{none-some, same_Some}
use mathlib.Core.Option.{some, some-injective}
use mathlib.Core.Bool.{true≢false}
use mathlib.Core.Logic.{dite}
use native.Mathlib.Decide.{ℕ_discrete}
use lib.ListN.{get_elem?}
use Rattle.atomic_table.specs.Table.{State}
use Rattle.atomic_table.proofs.Lists.{at_map, at_set, set_else}
use Rattle.history.specs.declared.operations.Entry.{Entry}
use Rattle.history.specs.declared.operations.Entry.TheVariants.{Push, Pop, Shut}
use Rattle.history.specs.declared.operations.Taken.{Taken}
use Rattle.history.specs.Queue.{Queue}
use Rattle.history.specs.Entries.{is_pop, IsQueueRun}
use Rattle.node_arena.specs.Deeds.{Item, item, Deed, pushed, popped, closed, Runs, Matches}
use Rattle.node_arena.proofs.Lifts.{map_set}
use Rattle.node_arena.proofs.KnownRuns.{set_there}
use Rattle.node_arena.proofs.KnownValues.{all_on}
use Rattle.node_arena.proofs.Riding.{runs_first}
use Rattle.ring_queue.specs.Plans.{Layout, words_of, further_of}
use Rattle.ring_queue.specs.Knowledge.{Stage, claimed, found, SeatView, View, seated, knows}
use Rattle.ring_queue.specs.Paths.{accessed}
use Rattle.ring_queue.specs.Rule.{HasClaimed, Ring, Run, put}
use Rattle.ring_queue.specs.Moments.{head_in}
use Rattle.ring_queue.specs.Placed.{value_word, queue_words, pairs_of, Hand, free, storing, loading, PlacedView, queue_view, queue_state, part_at, HasPut, number_of, IsUnclaimed, Owes, Handles, BeginsPlaced, Said, Placed, HoldsPlaced, TellsSaid}
use Rattle.ring_queue.proofs.Tables.{HoldsWith, Extends, its_seat, it_fits, one_seat}
use Rattle.ring_queue.proofs.Puts.{got_snoc}
use Rattle.ring_queue.proofs.Saying.{said_push, said_pop, said_shut}
use Rattle.ring_queue.proofs.Calls.{Does}
use Rattle.ring_queue.proofs.Runs.{Made, run_on, knew_of}
use Rattle.ring_queue.proofs.Placing.{IsOwn, own_head, beside_own, queue_words-get, queue_words-set, its_view, handles_on, head_is, one_claimed, items_long, seat_of, front_unclaimed}

abbrev is_first : {A B : Type 0} → A ⊎ B → Bool
is_first (inl a) = true
is_first (inr b) = false

the_first : {A B : Type 0} (u : A ⊎ B) → is_first u ≡ true → A
the_first (inl a) e = a
the_first (inr b) e = absurd (true≢false (sym e))

the_second : {A B : Type 0} (u : A ⊎ B) → is_first u ≡ false → B
the_second (inl a) e = absurd (true≢false e)
the_second (inr b) e = b

-- the elements before others, and the last
got_before : {A : Type 0} (xs : List A) (a : A) (k : ℕ) (b : A) → slice_get xs k ≡ Some b → slice_get (xs ++ a ∷ []) k ≡ Some b
got_before [] a k b e = absurd (none-some b e)
got_before (x ∷ xs) a zero b e = e
got_before (x ∷ xs) a (suc k) b e = got_before xs a k b e

got_last : {A : Type 0} (xs : List A) (a : A) → slice_get (xs ++ a ∷ []) (length xs) ≡ Some a
got_last [] a = refl
got_last (x ∷ xs) a = got_last xs a

-- what a seat has at hand stays so, where a value is pushed
handles_more : (z : Layout) (words : List ℕ) (items : List (Item (List ℕ))) (new : Item (List ℕ)) (v : SeatView) (h : Hand) → Handles z words items v h → Handles z words (items ++ new ∷ []) v h
handles_more z words items new v free k = tt
handles_more z words items new v (storing value done) k =
    (k.0, (λ p x has. let t = k.1 p x has in (t.0, got_before items new (p - head_in words) (item v.number value) t.1)), k.2)
handles_more z words items new v (loading read) k = λ e. let t = k e in (t.0, got_before items new 0 t.0 t.1, t.2)

-- the same, where the value in front is popped, whose place the seat hasn't to fill, and which isn't that of its head
handles_less : (z : Layout) (words words' : List ℕ) (front : Item (List ℕ)) (rest : List (Item (List ℕ))) (v : SeatView) (h : Hand) → head_in words' ≡ head_in words + 1
    → ((q j : ℕ) → part_at z words' q j ≡ part_at z words q j) → ((x : Option Taken) → HasClaimed v.stage (head_in words) x → ⊥) → v.head ≤ head_in words
    → Handles z words (front ∷ rest) v h → Handles z words' rest v h
handles_less z words words' front rest v h head same none behind k = go h k
  where
    owes : (n : List ℕ) → Owes (head_in words) (front ∷ rest) v n → Owes (head_in words') rest v n
    owes n k p x has =
        let t = k p x has in
        let low = t.0 in
        let ne : p ≢ head_in words = λ e. none x (subst (λ q. HasClaimed v.stage q x) e has) in
        let at : p - head_in words ≡ suc (p - head_in words') = omega (arith, head, low, ne) in
        (omega (arith, head, low, ne), sym (ap (λ j. slice_get (front ∷ rest) j) at) ∙ t.1)

    go : (h : Hand) → Handles z words (front ∷ rest) v h → Handles z words' rest v h
    go free k = tt
    go (storing value done) k = (k.0, owes value k.1, λ q x has j lt. same q j ∙ k.2 q x has j lt)
    go (loading read) k = λ e. absurd (omega (arith, e, head, behind))

module _ (z : Layout) (s : State ℕ PlacedView) (H : HoldsPlaced z s) (id : ℕ) (v : SeatView) (ds : List (Deed (List ℕ))) (hand : Hand) (os : List (List (Deed (List ℕ))))
    (mine : get_elem? s.views id ≡ some (record { plain = seated v; deeds = ds; hand = hand; others = os })) (p : ℕ) (f : ℕ → ℕ) (all : List Entry)
    (fact : SeatView → ℕ → SeatView → Type 0) (line : Does z p v f all fact) (own : IsOwn (pairs_of z) p)
    (ran : (n : ℕ) (v' : SeatView) → fact v n v' → Made z p n (f n) v v') where
  abbrev w : PlacedView
  w = record { plain = seated v; deeds = ds; hand = hand; others = os }

  abbrev pub s0 : State ℕ View
  s0 = queue_state z s

  mine0 : get_elem? s0.views id ≡ some (seated v)
  mine0 = at_map queue_view s.views id w mine

  pub its : H.base.seats v.number ≡ v
  its = its_seat z s0 H.base id v mine0

  abbrev pub done : (v' : SeatView) × (v'.number ≡ v.number) × (r' : Ring z (set s0.words p (f (get_or s0.words p 0))) (put H.base.seats v.number v'))
      × Extends H.base.run.trace all H.base.ring.history v r'.history v' × fact v (get_or s0.words p 0) v'
  done = line s0.words H.base.seats H.base.ring its H.base.run.trace H.base.run.adds (knew_of z s0.words H.base.seats H.base.ring.history v its H.base.run)

  abbrev pub v' : SeatView
  v' = done.0

  abbrev pub hist : List Entry
  hist = H.base.ring.history

  abbrev pub extends : Extends H.base.run.trace all hist v done.2.history v'
  extends = done.3

  abbrev pub es : List Entry
  es = extends.added

  abbrev words' : List ℕ
  words' = set s.words p (f (get_or s.words p 0))

  -- the run with this access
  runs : (more : Run z (set s0.words p (f (get_or s0.words p 0))) (put H.base.seats v.number v') done.2.history) × (more.trace ≡ accessed H.base.run.trace v.number (ran (get_or s0.words p 0) v' done.4).event)
  runs = run_on z s0.words H.base.seats hist v v' all done.2.history p (f (get_or s0.words p 0)) its H.base.run extends (ran (get_or s0.words p 0) v' done.4)

  -- what was added, by what the seat's own entries are then
  pub added_is : (more : List Entry) → v'.mine ≡ v.mine ++ more → es ≡ more
  added_is more is = append_cancel_left v.mine es more (sym extends.own ∙ is)

  -- the rule of the numbers after the step
  base0 : HoldsWith z (hist ++ es) record { words = set s0.words p (f (get_or s0.words p 0)); homes = []; views = set s0.views id (seated v') }
  base0 = (
    one_seat z s0 H.base id v mine0 v' (set s0.words p (f (get_or s0.words p 0))) done.1 done.2 runs.0 (ran (get_or s0.words p 0) v' done.4).event runs.1,
    extends.grown,
  )

  same_words : set s0.words p (f (get_or s0.words p 0)) ≡ queue_words (pairs_of z) words'
  same_words = sym (queue_words-set (pairs_of z) s.words p (f (get_or s.words p 0)) own
      ∙ ap (λ (k : ℕ). set (queue_words (pairs_of z) s.words) p (f k)) (sym (queue_words-get (pairs_of z) s.words p own)))

  -- the values stay where they are
  values_on : (q j : ℕ) → part_at z words' q j ≡ part_at z s.words q j
  values_on q j = get_or-set_other s.words p (value_word z.slots (q % z.slots) j) (f (get_or s.words p 0)) 0
      (λ e. beside_own z (q % z.slots) j (subst (IsOwn (pairs_of z)) (sym e) own))

  -- so what lies in a place stays there
  puts_on : (q q' : ℕ) (value : List ℕ) (k : ℕ) → q' ≡ q → HasPut z s.words q value k → HasPut z words' q' value k
  puts_on q q' value k same put j lt = ap (λ (p : ℕ). part_at z words' p j) same ∙ (values_on q j ∙ put j lt)

  -- Head then, by the words
  head_then : head_in words' ≡ done.2.head
  head_then = sym (queue_words-get (pairs_of z) words' 16 (own_head z)) ∙ (ap (λ (ws : List ℕ). get_or ws 16 0) (sym same_words) ∙ done.2.head_is)

  -- whether the seat has then seen all
  abbrev sees : Bool
  sees = is_first extends.seen

  abbrev seat_after : List (Deed (List ℕ)) → Hand → PlacedView
  seat_after d h = record { plain = seated v'; deeds = if sees then H.values.said.deeds ++ d else ds; hand = h; others = [] }

  fit : BeginsPlaced H.values.said.deeds w
  fit = H.values.known id w mine

  -- put together
  built : (d : List (Deed (List ℕ))) (h : Hand) (g : Said (hist ++ es)) → g.deeds ≡ H.values.said.deeds ++ d
      → ((i : ℕ) (y : Item (List ℕ)) → slice_get g.items i ≡ Some y → length y.value ≡ z.width)
      → ((i : ℕ) (y : Item (List ℕ)) → slice_get g.items i ≡ Some y → IsUnclaimed (set s.views id (seat_after d h)) (head_in words' + i) → HasPut z words' (head_in words' + i) y.value z.width)
      → Handles z words' g.items v' h
      → ((j : ℕ) (o : PlacedView) (u : SeatView) → j ≢ id → get_elem? s.views j ≡ some o → o.plain ≡ seated u → Handles z words' g.items u o.hand)
      → HoldsPlaced z record { words = words'; homes = s.homes; views = set s.views id (seat_after d h) }
  built d h g is widths lies here others = record { base = base.0; values = placed }
    where
      base : HoldsWith z (hist ++ es) (queue_state z (record { words = words'; homes = s.homes; views = set s.views id (seat_after d h) }))
      base = subst (λ (y : List ℕ × List View). HoldsWith z (hist ++ es) (record { words = y.0; homes = []; views = y.1 }))
          (λ i. (same_words i, sym (map_set queue_view s.views id (seat_after d h)) i)) base0

      begins_by : (b : Bool) → (rest : List (Deed (List ℕ))) × (H.values.said.deeds ++ d ≡ (if b then H.values.said.deeds ++ d else ds) ++ rest)
      begins_by true = ([], sym (append-nil (H.values.said.deeds ++ d)))
      begins_by false = (fit.rest ++ d, ap (λ y. y ++ d) fit.begins ∙ append_assoc ds fit.rest d)

      matches_by : (b : Bool) → sees ≡ b → Matches v'.seen (if b then H.values.said.deeds ++ d else ds)
      matches_by true e = let P : List Entry × List (Deed (List ℕ)) → Type 0 = λ y. Matches y.0 y.1 in subst P (λ i. (sym (the_first extends.seen e ∙ extends.grown) i, is i)) g.matches
      matches_by false e = subst (λ es. Matches es ds) (sym (the_second extends.seen e).1) (fit.matches v refl)

      its_own : BeginsPlaced g.deeds (seat_after d h)
      its_own = record {
        rest = (begins_by sees).0;
        begins = is ∙ (begins_by sees).1;
        matches = λ o e. subst (λ (y : View). Matches (knows y).seen (seat_after d h).deeds) e (matches_by sees refl);
        pair = λ o u e same. cc;
        others = tt;
      }

      theirs : (o : PlacedView) → BeginsPlaced H.values.said.deeds o → BeginsPlaced g.deeds o
      theirs o b = record {
        rest = b.rest ++ d;
        begins = is ∙ (ap (λ y. y ++ d) b.begins ∙ append_assoc o.deeds b.rest d);
        matches = b.matches;
        pair = b.pair;
        others = all_on o.others H.values.said.deeds d g.deeds is b.others;
      }

      placed : Placed z base.0.ring.history words' (set s.views id (seat_after d h))
      placed = subst (λ (hs : List Entry). Placed z hs words' (set s.views id (seat_after d h))) (sym base.1) (record {
        said = g;
        widths = widths;
        lies = lies;
        hands = λ j o u at plain. ⊎_elim
            (λ (e : (j ≡ id) × (seat_after d h ≡ o)).
            subst (λ (y : SeatView × Hand). Handles z words' g.items y.0 y.1) (λ i. (its_view v' u (ap queue_view e.1 ∙ plain) i, ap (λ (b : PlacedView). b.hand) e.1 i)) here)
            (λ (e : (j ≢ id) × (get_elem? s.views j ≡ some o)). others j o u e.0 e.1 plain)
            (at_set s.views id j (seat_after d h) o at);
        known = λ j o at. ⊎_elim
            (λ (e : (j ≡ id) × (seat_after d h ≡ o)). subst (BeginsPlaced g.deeds) e.1 its_own)
            (λ (e : (j ≢ id) × (get_elem? s.views j ≡ some o)). theirs o (H.values.known j o e.1))
            (at_set s.views id j (seat_after d h) o at);
        long = subst (λ (k : ℕ). words_of z + further_of z ≤ k) (sym (length-set s.words p (f (get_or s.words p 0)))) H.values.long;
      })

  -- Head has gone on by as many pops as were added
  head_by : (k : ℕ) → count_by is_pop es ≡ k → head_in words' ≡ head_in s.words + k
  head_by k pops =
      let is = head_then in
      let was = head_is z s H in
      let now = done.2.taken in
      let old = H.base.ring.taken in
      let grown = ap (count_by is_pop) extends.grown ∙ sum_by-append (λ e. if is_pop e then 1 else 0) hist es in
      omega (arith, is, was, now, old, grown, pops)

  -- a place that nobody has to fill, and that the seat hadn't, had nobody to fill it
  unclaimed_then : (d : List (Deed (List ℕ))) (h : Hand) (q : ℕ) → ((x : Option Taken) → HasClaimed v.stage q x → ⊥) → IsUnclaimed (set s.views id (seat_after d h)) q → IsUnclaimed s.views q
  unclaimed_then d h q not_mine none j o u x at is has =
      dite (ℕ_discrete j id)
      (λ e.
      let same : v ≡ u = its_view v u (ap queue_view (some-injective w o (sym mine ∙ (ap (get_elem? s.views) (sym e) ∙ at))) ∙ is) in
      not_mine x (subst (λ (y : SeatView). HasClaimed y.stage q x) (sym same) has))
      (λ ne. none j o u x (set_else s.views id j (seat_after d h) ne ∙ at) is has)

  -- what others have at hand, where the values stay
  hands_stay : head_in words' ≡ head_in s.words → (j : ℕ) (o : PlacedView) (u : SeatView) → get_elem? s.views j ≡ some o → o.plain ≡ seated u → Handles z words' H.values.said.items u o.hand
  hands_stay head j o u at plain = handles_on z s.words words' H.values.said.items u o.hand head (λ q y has j lt. values_on q j) (H.values.hands j o u at plain)

  -- a line of a seat that has no place to fill, before or after, which adds neither a push nor a pop
  pub keeps_items : (d : List (Deed (List ℕ))) (g : Said (hist ++ es)) → g.deeds ≡ H.values.said.deeds ++ d → g.items ≡ H.values.said.items → count_by is_pop es ≡ 0
      → ((q : ℕ) (x : Option Taken) → HasClaimed v.stage q x → ⊥)
      → HoldsPlaced z record { words = words'; homes = s.homes; views = set s.views id (seat_after d free) }
  keeps_items d g is same pops not_before =
      let head : head_in words' ≡ head_in s.words = (let e = head_by 0 pops in omega (arith, e)) in
      built d free g is
      (λ i y got. H.values.widths i y (ap (λ its. slice_get its i) (sym same) ∙ got))
      (λ i y got none.
      let there : head_in words' + i ≡ head_in s.words + i = ap (λ k. k + i) head in
      puts_on (head_in s.words + i) (head_in words' + i) y.value z.width there
      (H.values.lies i y (ap (λ its. slice_get its i) (sym same) ∙ got) (unclaimed_then d free (head_in s.words + i) (not_before (head_in s.words + i)) (subst (IsUnclaimed (set s.views id (seat_after d free))) there none))))
      tt
      (λ j o u ne at plain. subst (λ (its : List (Item (List ℕ))). Handles z words' its u o.hand) (sym same) (hands_stay head j o u at plain))

  -- the line that fills the place in which the seat has stored its value
  pub fills_stored : (n : List ℕ) (place : ℕ) (x : Option Taken) → v.stage ≡ claimed place (x ∷ []) → hand ≡ storing n z.width → (g : Said (hist ++ es)) → g.deeds ≡ H.values.said.deeds ++ [] → g.items ≡ H.values.said.items
      → count_by is_pop es ≡ 0
      → HoldsPlaced z record { words = words'; homes = s.homes; views = set s.views id (seat_after [] free) }
  fills_stored n place x stands has_stored g is same pops =
      let head : head_in words' ≡ head_in s.words = (let e = head_by 0 pops in omega (arith, e)) in
      let owes : Handles z s.words H.values.said.items v (storing n z.width) = subst (Handles z s.words H.values.said.items v) has_stored (H.values.hands id w v mine refl) in
      let has : HasClaimed v.stage place x = subst (λ (u : Stage). HasClaimed u place x) (sym stands) (let e : place - place ≡ 0 = omega arith in (omega arith, ap (λ k. slice_get (x ∷ []) k) e)) in
      built [] free g is
      (λ i y got. H.values.widths i y (ap (λ its. slice_get its i) (sym same) ∙ got))
      (λ i y got none.
      let there : head_in words' + i ≡ head_in s.words + i = ap (λ k. k + i) head in
      let got_before : slice_get H.values.said.items i ≡ Some y = ap (λ its. slice_get its i) (sym same) ∙ got in
      puts_on (head_in s.words + i) (head_in words' + i) y.value z.width there
      (dite (ℕ_discrete (head_in s.words + i) place)
      (λ e.
      let from = owes.1 place x has in
      let at : place - head_in s.words ≡ i = omega (arith, e) in
      let its : n ≡ y.value = ap (λ (t : Item (List ℕ)). t.value) (same_Some (item v.number n) y (sym from.1 ∙ (ap (λ k. slice_get H.values.said.items k) at ∙ got_before))) in
      let put : HasPut z s.words place n z.width = owes.2 place x has in
      subst (λ (q : ℕ). HasPut z s.words q y.value z.width) (sym e) (subst (λ (w : List ℕ). HasPut z s.words place w z.width) its put))
      (λ ne. H.values.lies i y got_before (unclaimed_then [] free (head_in s.words + i) (λ u its. ne (one_claimed v.stage place (head_in s.words + i) x u stands its))
      (subst (IsUnclaimed (set s.views id (seat_after [] free))) there none)))))
      tt
      (λ j o u ne at plain. subst (λ (its : List (Item (List ℕ))). Handles z words' its u o.hand) (sym same) (hands_stay head j o u at plain))

  -- the line that claims a place for a value
  pub claims_value : (n : List ℕ) (place : ℕ) (x : Option Taken) → length n ≡ z.width → ((q : ℕ) (y : Option Taken) → HasClaimed v.stage q y → ⊥) → v'.stage ≡ claimed place (x ∷ []) → place ≡ H.base.ring.tail
      → (g : Said (hist ++ es)) → g.deeds ≡ H.values.said.deeds ++ pushed v.number n ∷ [] → g.items ≡ H.values.said.items ++ item v.number n ∷ [] → count_by is_pop es ≡ 0
      → HoldsPlaced z record { words = words'; homes = s.homes; views = set s.views id (seat_after (pushed v.number n ∷ []) (storing n 0)) }
  claims_value n place x wide not_before stands at_tail g is more pops =
      let d : List (Deed (List ℕ)) = pushed v.number n ∷ [] in
      let new : Item (List ℕ) = item v.number n in
      let items = H.values.said.items in
      let head : head_in words' ≡ head_in s.words = (let e = head_by 0 pops in omega (arith, e)) in
      let counted = H.base.ring.counted in
      let long = items_long z s H in
      let was = head_is z s H in
      let last : place ≡ head_in s.words + length items = omega (arith, at_tail, counted, long, was) in
      let has : HasClaimed v'.stage place x = subst (λ (u : Stage). HasClaimed u place x) (sym stands) (let e : place - place ≡ 0 = omega arith in (omega arith, ap (λ k. slice_get (x ∷ []) k) e)) in
      built d (storing n 0) g is
      (λ i y got. ⊎_elim
      (λ (old : slice_get items i ≡ Some y). H.values.widths i y old)
      (λ (late : (i ≡ length items) × (new ≡ y)). ap (λ (t : Item (List ℕ)). length t.value) (sym late.1) ∙ wide)
      (got_snoc items new y i (ap (λ its. slice_get its i) (sym more) ∙ got)))
      (λ i y got none.
      let there : head_in words' + i ≡ head_in s.words + i = ap (λ k. k + i) head in
      let none' : IsUnclaimed (set s.views id (seat_after d (storing n 0))) (head_in s.words + i) = subst (IsUnclaimed (set s.views id (seat_after d (storing n 0)))) there none in
      puts_on (head_in s.words + i) (head_in words' + i) y.value z.width there
      (⊎_elim
      (λ (old : slice_get items i ≡ Some y). H.values.lies i y old (unclaimed_then d (storing n 0) (head_in s.words + i) (not_before (head_in s.words + i)) none'))
      (λ (late : (i ≡ length items) × (new ≡ y)).
      let e : place ≡ head_in s.words + i = last ∙ ap (λ k. head_in s.words + k) (sym late.0) in
      absurd (none' id (seat_after d (storing n 0)) v' x (set_there s.views id w (seat_after d (storing n 0)) mine) refl (subst (λ k. HasClaimed v'.stage k x) e has)))
      (got_snoc items new y i (ap (λ its. slice_get its i) (sym more) ∙ got)))) (
        omega arith,
        (λ q y its.
            let e : q ≡ place = one_claimed v'.stage place q x y stands its in
            let at : q - head_in words' ≡ length items = omega (arith, e, last, head) in (
              omega (arith, e, last, head),
              ap (λ its. slice_get its (q - head_in words')) more ∙ (ap (λ k. slice_get (items ++ new ∷ []) k) at ∙ (got_last items new ∙ ap (λ k. Some (item k n)) (sym done.1))),
            )),
        λ q y its j lt. absurd (omega (arith, lt)),
      )
      (λ j o u ne at plain. subst (λ (its : List (Item (List ℕ))). Handles z words' its u o.hand) (sym more) (handles_more z words' items new u o.hand (hands_stay head j o u at plain)))

  -- the line that takes the value in front, which the seat has loaded
  pub takes_value : (word : ℕ) (n : List ℕ) → length n ≡ z.width → v.stage ≡ found (word ∷ []) → hand ≡ loading n → v.head ≡ H.base.ring.head
      → (front : Item (List ℕ)) (rest : List (Item (List ℕ))) → H.values.said.items ≡ front ∷ rest → (g : Said (hist ++ es)) → g.deeds ≡ H.values.said.deeds ++ popped v.number front ∷ [] → g.items ≡ rest
      → count_by is_pop es ≡ 1
      → (n ≡ front.value) × HoldsPlaced z record { words = words'; homes = s.homes; views = set s.views id (seat_after (popped v.number front ∷ []) free) }
  takes_value word n wide stands has_loaded at_head front rest items_are g is fewer pops =
      let d : List (Deed (List ℕ)) = popped v.number front ∷ [] in
      let items = H.values.said.items in
      let head : head_in words' ≡ head_in s.words + 1 = head_by 1 pops in
      let was = head_is z s H in
      let handled : Handles z s.words items v (loading n) = subst (Handles z s.words items v) has_loaded (H.values.hands id w v mine refl) in
      let mine_is = handled (at_head ∙ sym was) in
      let same : front ≡ mine_is.0 = same_Some front mine_is.0 (ap (λ its. slice_get its 0) (sym items_are) ∙ mine_is.1) in
      let nobody : IsUnclaimed s.views (head_in s.words) =
      (let e : H.base.ring.head + 0 ≡ head_in s.words = omega (arith, was) in subst (IsUnclaimed s.views) e (front_unclaimed z s H id v ds hand os mine word stands at_head)) in
      let not_mine : (q : ℕ) (x : Option Taken) → HasClaimed v.stage q x → ⊥ = λ q x has. subst (λ (u : Stage). HasClaimed u q x) stands has in
      let front_long : length front.value ≡ z.width = H.values.widths 0 front (ap (λ its. slice_get its 0) items_are) in
      let later : (i : ℕ) (y : Item (List ℕ)) → slice_get g.items i ≡ Some y → slice_get items (suc i) ≡ Some y =
      λ i y got. ap (λ its. slice_get its (suc i)) items_are ∙ (ap (λ its. slice_get its i) (sym fewer) ∙ got) in (
        same_number_lists n front.value (wide ∙ sym front_long) (subst (λ (t : Item (List ℕ)). (j : ℕ) → j < length n → get_or n j 0 ≡ get_or t.value j 0) (sym same) mine_is.2),
        built d free g is
            (λ i y got. H.values.widths (suc i) y (later i y got))
            (λ i y got none.
            let there : head_in words' + i ≡ head_in s.words + suc i = omega (arith, head) in
            puts_on (head_in s.words + suc i) (head_in words' + i) y.value z.width there
            (H.values.lies (suc i) y (later i y got) (unclaimed_then d free (head_in s.words + suc i) (not_mine (head_in s.words + suc i)) (subst (IsUnclaimed (set s.views id (seat_after d free))) there none))))
            tt
            (λ j o u ne at plain.
            let fits = it_fits z (queue_words (pairs_of z) s.words) H.base.seats H.base.ring u (seat_of z s H j o u at plain) in
            let behind = fits.behind in
            subst (λ (its : List (Item (List ℕ))). Handles z words' its u o.hand) (sym fewer)
            (handles_less z s.words words' front rest u o.hand head values_on (λ x has. nobody j o u x at plain has) (omega (arith, behind, was))
            (subst (λ (its : List (Item (List ℕ))). Handles z s.words its u o.hand) items_are (H.values.hands j o u at plain)))),
      )

  told0 : fact v (get_or s.words p 0) v'
  told0 = subst (λ (k : ℕ). fact v k v') (queue_words-get (pairs_of z) s.words p own) done.4

  legal : IsQueueRun (hist ++ es)
  legal = let after : Queue = record { values = done.2.values; shut = done.2.shut } in subst IsQueueRun extends.grown (after, done.2.leads)

  -- what the seat has seen of the values goes on
  grown : (d : List (Deed (List ℕ))) → (es ≡ [] → d ≡ []) → (between : List (Deed (List ℕ))) × ((if sees then H.values.said.deeds ++ d else ds) ≡ (ds ++ between) ++ d)
  grown d none = go sees refl
    where
      go : (b : Bool) → sees ≡ b → (between : List (Deed (List ℕ))) × ((if b then H.values.said.deeds ++ d else ds) ≡ (ds ++ between) ++ d)
      go true e = (fit.rest, ap (λ y. y ++ d) fit.begins)
      go false e =
          let no : d ≡ [] = none (the_second extends.seen e).0 in
          ([], sym (ap (λ y. (ds ++ []) ++ y) no ∙ (append-nil (ds ++ []) ∙ append-nil ds)))

  -- what the step is to come to
  abbrev After : List (Deed (List ℕ)) → Hand → Type 0
  After d h = (w' : PlacedView) × HoldsPlaced z record { words = words'; homes = s.homes; views = set s.views id w' } × TellsSaid fact d h (w, []) (get_or s.words p 0) (w', [])

  after : (d : List (Deed (List ℕ))) (h : Hand) → (es ≡ [] → d ≡ []) → HoldsPlaced z record { words = words'; homes = s.homes; views = set s.views id (seat_after d h) } → After d h
  after d h none G =
      let its_fit = G.values.known id (seat_after d h) (set_there s.views id w (seat_after d h) mine) in
      let said = G.values.said in
      let first = runs_first [] false (seat_after d h).deeds its_fit.rest said.items said.shut (subst (λ (y : List (Deed (List ℕ))). Runs [] false y said.items said.shut) its_fit.begins said.runs) in
      (seat_after d h, G, (refl, told0, (refl, grown d none), ∣ record { matches = its_fit.matches v' refl; values = first.0; shut = first.1; runs = first.2 } ∣₁))

  -- history and values as they were
  none_said : es ≡ [] → (g : Said (hist ++ es)) × (g.deeds ≡ H.values.said.deeds ++ []) × (g.items ≡ H.values.said.items)
  none_said is =
      subst (λ (y : List Entry). (g : Said y) × (g.deeds ≡ H.values.said.deeds ++ []) × (g.items ≡ H.values.said.items)) (sym (append-nil hist) ∙ ap (λ y. hist ++ y) (sym is))
      (H.values.said, sym (append-nil H.values.said.deeds), refl)

  some_entry : (e : Entry) → es ≡ e ∷ [] → ¬ (es ≡ [])
  some_entry e is none_there = let bad : 1 ≡ 0 = ap length (sym is ∙ none_there) in absurd (omega (arith, bad))

  -- a line that adds nothing, of a seat that has no place to fill
  pub by_none : es ≡ [] → ((q : ℕ) (x : Option Taken) → HasClaimed v.stage q x → ⊥) → After [] free
  by_none is not_before =
      let g = none_said is in
      after [] free (λ e. refl) (keeps_items [] g.0 g.1 g.2 (ap (count_by is_pop) is) not_before)

  -- a shut
  pub by_shut : es ≡ Shut v.number ∷ [] → ((q : ℕ) (x : Option Taken) → HasClaimed v.stage q x → ⊥) → After (closed v.number ∷ []) free
  by_shut is not_before =
      let d : List (Deed (List ℕ)) = closed v.number ∷ [] in
      let g = subst (λ (y : List Entry). (g : Said (hist ++ y)) × (g.deeds ≡ H.values.said.deeds ++ d) × (g.items ≡ H.values.said.items)) (sym is)
      (said_shut hist v.number H.values.said (subst (λ y. IsQueueRun (hist ++ y)) is legal)) in
      after d free (λ e. absurd (some_entry (Shut v.number) is e)) (keeps_items d g.0 g.1 g.2 (ap (count_by is_pop) is) not_before)

  -- the place in which the seat has stored its value is filled
  pub by_fill : (n : List ℕ) (place : ℕ) (x : Option Taken) → es ≡ [] → v.stage ≡ claimed place (x ∷ []) → hand ≡ storing n z.width → After [] free
  by_fill n place x is stands has_stored =
      let g = none_said is in
      after [] free (λ e. refl) (fills_stored n place x stands has_stored g.0 g.1 g.2 (ap (count_by is_pop) is))

  -- a place is claimed for a value
  pub by_push : (n : List ℕ) (place : ℕ) (x : Option Taken) → length n ≡ z.width → es ≡ Push v.number 0 ∷ [] → ((q : ℕ) (y : Option Taken) → HasClaimed v.stage q y → ⊥) → v'.stage ≡ claimed place (x ∷ []) → place ≡ H.base.ring.tail
      → After (pushed v.number n ∷ []) (storing n 0)
  by_push n place x wide is not_before stands at_tail =
      let d : List (Deed (List ℕ)) = pushed v.number n ∷ [] in
      let g = subst (λ (y : List Entry). (g : Said (hist ++ y)) × (g.deeds ≡ H.values.said.deeds ++ d) × (g.items ≡ H.values.said.items ++ item v.number n ∷ [])) (sym is)
      (said_push hist v.number H.values.said n (subst (λ y. IsQueueRun (hist ++ y)) is legal)) in
      after d (storing n 0) (λ e. absurd (some_entry (Push v.number 0) is e)) (claims_value n place x wide not_before stands at_tail g.0 g.1 g.2 (ap (count_by is_pop) is))

  -- the value in front is taken, which the seat has loaded
  pub by_pop : (word : ℕ) (n : List ℕ) (t : Taken) → length n ≡ z.width → es ≡ Pop v.number t ∷ [] → v.stage ≡ found (word ∷ []) → hand ≡ loading n → v.head ≡ H.base.ring.head
      → (front : Item (List ℕ)) × (number_of front ≡ t) × (n ≡ front.value) × After (popped v.number front ∷ []) free
  by_pop word n t wide is stands has_loaded at_head =
      let it = said_pop hist v.number H.values.said t (subst (λ y. IsQueueRun (hist ++ y)) is legal) in
      let front = it.0 in
      let d : List (Deed (List ℕ)) = popped v.number front ∷ [] in
      let g = subst (λ (y : List Entry). (g : Said (hist ++ y)) × (g.deeds ≡ H.values.said.deeds ++ d) × (g.items ≡ it.1)) (sym is) it.4 in
      let taken = takes_value word n wide stands has_loaded at_head front it.1 it.2 g.0 g.1 g.2 (ap (count_by is_pop) is) in
      (front, it.3, taken.0, after d free (λ e. absurd (some_entry (Pop v.number t) is e)) taken.1)
