-- What a table with slots that was closed leaves, in words of queues of values.
use Rattle.std.proofs.Common.{◌≡◌, ℕ, ◌+◌, ◌≤◌, Bool, true, false, cond, nat_eq, List, [], ◌∷◌, ◌++◌, map, length, Option, Some, None, IsSomeAnd}
use Rattle.std.proofs.Common.{slice_get, option_map, sym, refl, ap, subst, ◌∙◌, arith, append-nil, length-append}
use Rattle.std.specs.List.{All, count_by, sum_by}
use Rattle.std.proofs.lemmas.List.{length-map}
use Rattle.std.proofs.lemmas.List.Elements.{All-nil, All-cons, All-head, All-tail, All-map, All-weaker, filter-append}
use Rattle.std.proofs.lemmas.List.Sums.{sum_by-cons}
use Rattle.std.proofs.lemmas.Option.{slice_get-map}
use mathlib.Core.List.{IsPrefix}
use Rattle.history.specs.declared.operations.Entry.{Entry}
use Rattle.history.specs.declared.operations.Entry.TheVariants.{Push, Pop, Shut}
use Rattle.history.specs.declared.operations.Taken.{Taken}
use Rattle.history.specs.Entries.{seat_of, is_push, is_pop, is_shut, own_entries}
use Rattle.history.specs.declared.rests.Rest.{Rest}
use Rattle.history.specs.Seats.{Permit, Known}
use Rattle.history.specs.Ends.{Closes}
use Rattle.history.specs.Rests.{taken_of, whole_of, was_shut_of, left_of}
use Rattle.carriers.specs.declared.items.ItemOf.{ItemOf}
use Rattle.carriers.specs.Deeds.{Deed, did_push, did_pop, did_shut, doer_of, own_deeds, is_pushing, is_popping, is_shutting, Runs}
use Rattle.carriers.specs.Knowledge.{KnownOf}
use Rattle.carriers.specs.Ends.{IsOfOneOf, ClosesWith}
use Rattle.carriers.specs.DeedsOfNumbers.{Matches}
use Rattle.node_arena.specs.declared.leftovers.LeftValues.{LeftValues}
use Rattle.node_arena.specs.declared.seats.Seat.{Seat}
use Rattle.node_arena.specs.Arenas.{Arena}
use Rattle.node_arena.specs.Deeds as slots
use Rattle.node_arena.specs.Deeds.{Item, pushed, popped, closed}
use Rattle.node_arena.specs.Leftovers.{rest_in, values_in, ClosesValues}
use Rattle.node_arena.specs.AsMany.{pushers, pushers_of}
use Rattle.node_arena.proofs.AsMany.{as_many}
use Rattle.value_queue.specs.ValuesSeen.{told, left_by, shut_by}
use Rattle.value_queue.specs.Sights.{Sight, values_seen, IsClear, numbers_by, values_by}
use Rattle.value_queue.specs.Runs.{CanRun-Runs, Runs-told, left_by-Runs, Matches-told, told-append, as_item}
use Rattle.value_queue.specs.Matched.{length-own, permitted-Matches}
use Rattle.value_queue.specs.Sound.{nil}

module _ {A : Type 0} where
  -- as many deeds of a kind as entries of it
  pub count-Matches : (p : Entry → Bool) (q : Deed A → Bool) → ((e : Entry) (d : Deed A) → Matches (e ∷ []) (d ∷ []) → q d ≡ p e)
      → (es : List Entry) (ds : List (Deed A)) → Matches es ds → count_by q ds ≡ count_by p es
  count-Matches p q same [] [] m = refl
  count-Matches p q same (Push n b ∷ es) (did_push k x ∷ ds) m = one_more p q (Push n b) (did_push k x) es ds (same (Push n b) (did_push k x) (m.0, tt)) (count-Matches p q same es ds m.1)
    where
      one_more : (p : Entry → Bool) (q : Deed A → Bool) (e : Entry) (d : Deed A) (es : List Entry) (ds : List (Deed A)) → q d ≡ p e
          → count_by q ds ≡ count_by p es → count_by q (d ∷ ds) ≡ count_by p (e ∷ es)
      one_more p q e d es ds one more = sum_by-cons (λ x. cond (q x) 1 0) d ds ∙ (λ i. cond (one i) 1 0 + more i) ∙ sym (sum_by-cons (λ x. cond (p x) 1 0) e es)
  count-Matches p q same (Pop n t ∷ es) (did_pop k u ∷ ds) m = sum_by-cons (λ x. cond (q x) 1 0) (did_pop k u) ds ∙
      (λ i. cond (same (Pop n t) (did_pop k u) (m.0, m.1, tt) i) 1 0 + count-Matches p q same es ds m.2 i) ∙ sym
      (sum_by-cons (λ x. cond (p x) 1 0) (Pop n t) es)
  count-Matches p q same (Shut n ∷ es) (did_shut k ∷ ds) m = sum_by-cons (λ x. cond (q x) 1 0) (did_shut k) ds ∙
      (λ i. cond (same (Shut n) (did_shut k) (m.0, tt) i) 1 0 + count-Matches p q same es ds m.1 i) ∙ sym
      (sum_by-cons (λ x. cond (p x) 1 0) (Shut n) es)
  count-Matches p q same es ds m = absurd m

  pub pushing-is : (e : Entry) (d : Deed A) → Matches (e ∷ []) (d ∷ []) → is_pushing d ≡ is_push e
  pushing-is (Push n b) (did_push k x) m = refl
  pushing-is (Pop n t) (did_pop k u) m = refl
  pushing-is (Shut n) (did_shut k) m = refl
  pushing-is e d m = absurd m

  pub popping-is : (e : Entry) (d : Deed A) → Matches (e ∷ []) (d ∷ []) → is_popping d ≡ is_pop e
  popping-is (Push n b) (did_push k x) m = refl
  popping-is (Pop n t) (did_pop k u) m = refl
  popping-is (Shut n) (did_shut k) m = refl
  popping-is e d m = absurd m

  shutting-is : (e : Entry) (d : Deed A) → Matches (e ∷ []) (d ∷ []) → is_shutting d ≡ is_shut e
  shutting-is (Push n b) (did_push k x) m = refl
  shutting-is (Pop n t) (did_pop k u) m = refl
  shutting-is (Shut n) (did_shut k) m = refl
  shutting-is e d m = absurd m

  -- a seat's own deeds go one by one with its own entries
  own-Matches : (me : ℕ) (es : List Entry) (ds : List (Deed A)) → Matches es ds → Matches (own_entries me es) (own_deeds me ds)
  own-Matches me [] [] m = tt
  own-Matches me (Push n b ∷ es) (did_push k x ∷ ds) m = go (nat_eq k me) (nat_eq n me) (ap (λ j. nat_eq j me) m.0) (own-Matches me es ds m.1)
    where
      go : (b1 b2 : Bool) → b1 ≡ b2 → Matches (own_entries me es) (own_deeds me ds)
          → Matches (cond b2 (Push n b ∷ own_entries me es) (own_entries me es)) (cond b1 (did_push k x ∷ own_deeds me ds) (own_deeds me ds))
      go true true e h = (m.0, h)
      go false false e h = h
      go true false e h = absurd (let bad : true ≡ false = e in cc)
      go false true e h = absurd (let bad : false ≡ true = e in cc)
  own-Matches me (Pop n t ∷ es) (did_pop k u ∷ ds) m = go (nat_eq k me) (nat_eq n me) (ap (λ j. nat_eq j me) m.0) (own-Matches me es ds m.2)
    where
      go : (b1 b2 : Bool) → b1 ≡ b2 → Matches (own_entries me es) (own_deeds me ds)
          → Matches (cond b2 (Pop n t ∷ own_entries me es) (own_entries me es)) (cond b1 (did_pop k u ∷ own_deeds me ds) (own_deeds me ds))
      go true true e h = (m.0, m.1, h)
      go false false e h = h
      go true false e h = absurd (let bad : true ≡ false = e in cc)
      go false true e h = absurd (let bad : false ≡ true = e in cc)
  own-Matches me (Shut n ∷ es) (did_shut k ∷ ds) m = go (nat_eq k me) (nat_eq n me) (ap (λ j. nat_eq j me) m.0) (own-Matches me es ds m.1)
    where
      go : (b1 b2 : Bool) → b1 ≡ b2 → Matches (own_entries me es) (own_deeds me ds)
          → Matches (cond b2 (Shut n ∷ own_entries me es) (own_entries me es)) (cond b1 (did_shut k ∷ own_deeds me ds) (own_deeds me ds))
      go true true e h = (m.0, h)
      go false false e h = h
      go true false e h = absurd (let bad : true ≡ false = e in cc)
      go false true e h = absurd (let bad : false ≡ true = e in cc)
  own-Matches me es ds m = absurd m

  -- what is so of who made each entry is so of who did each deed
  all-Matches : (P : ℕ → Type 0) (es : List Entry) (ds : List (Deed A)) → Matches es ds → All (λ e. P (seat_of e)) es → All (λ d. P (doer_of d)) ds
  all-Matches P [] [] m h = All-nil (λ d. P (doer_of d))
  all-Matches P (Push n b ∷ es) (did_push k x ∷ ds) m h = All-cons (λ d. P (doer_of d)) (did_push k x) ds
      (subst P (sym m.0) (All-head (λ e. P (seat_of e)) (Push n b) es h)) (all-Matches P es ds m.1 (All-tail (λ e. P (seat_of e)) (Push n b) es h))
  all-Matches P (Pop n t ∷ es) (did_pop k u ∷ ds) m h = All-cons (λ d. P (doer_of d)) (did_pop k u) ds
      (subst P (sym m.0) (All-head (λ e. P (seat_of e)) (Pop n t) es h)) (all-Matches P es ds m.2 (All-tail (λ e. P (seat_of e)) (Pop n t) es h))
  all-Matches P (Shut n ∷ es) (did_shut k ∷ ds) m h = All-cons (λ d. P (doer_of d)) (did_shut k) ds
      (subst P (sym m.0) (All-head (λ e. P (seat_of e)) (Shut n) es h)) (all-Matches P es ds m.1 (All-tail (λ e. P (seat_of e)) (Shut n) es h))
  all-Matches P es ds m h = absurd m

  -- who does none of some further deeds has the same ones
  own-same : (n : ℕ) (ds es all : List (Deed A)) → ds ++ es ≡ all → length (own_deeds n all) ≡ length (own_deeds n ds) → own_deeds n all ≡ own_deeds n ds
  own-same n ds es all is long =
      let split = ap (own_deeds n) (sym is) ∙ filter-append (λ d. nat_eq (doer_of d) n) ds es in
      let none : 0 ≡ length (own_deeds n es) = (let l = ap length split in omega (arith, l, long, length-append (own_deeds n ds) (own_deeds n es))) in
      split ∙ (ap (λ ys. own_deeds n ds ++ ys) (nil (own_deeds n es) none) ∙ append-nil (own_deeds n ds))

-- whether deeds leave the queue shut
shut_by-Runs : {T : Type 0} (q : List (Item T)) (shut : Bool) (ds : List (slots.Deed T)) (q' : List (Item T)) (shut' : Bool) → slots.Runs q shut ds q' shut' → shut_by shut ds ≡ shut'
shut_by-Runs q shut [] q' shut' h = h.1
shut_by-Runs q shut (pushed n x ∷ ds) q' shut' h = shut_by-Runs (q ++ slots.item n x ∷ []) shut ds q' shut' h.1
shut_by-Runs q shut (popped n t ∷ ds) q' shut' h = shut_by-Runs h.0 shut ds q' shut' h.2
shut_by-Runs q shut (closed n ∷ ds) q' shut' h = shut_by-Runs q true ds q' shut' h.1

some_in : {X Y : Type 0} (f : X → Y) (P : Y → Type 0) (o : Option X) → IsSomeAnd (option_map f o) P → IsSomeAnd o (λ x. P (f x))
some_in f P (Some x) h = h
some_in f P None h = h

some_out : {X Y : Type 0} (f : X → Y) (P : Y → Type 0) (o : Option X) → IsSomeAnd o (λ x. P (f x)) → IsSomeAnd (option_map f o) P
some_out f P (Some x) h = h
some_out f P None h = h

module _ {T S : Type 0} (sight : S → Sight T) (seats : List S) (i : ℕ) where
  -- whose number is one of the seats', by entries and by deeds
  of_one : (n : ℕ) → IsSomeAnd (slice_get (map (numbers_by sight) seats) n) (λ k. i ≡ k.number) → IsSomeAnd (slice_get (map (values_by sight) seats) n) (λ k. i ≡ k.number)
  of_one n h =
      subst (λ o. IsSomeAnd o (λ k. i ≡ k.number)) (sym (slice_get-map (values_by sight) seats n))
      (some_out (values_by sight) (λ k. i ≡ k.number) (slice_get seats n) (some_in (numbers_by sight) (λ k. i ≡ k.number) (slice_get seats n)
      (subst (λ o. IsSomeAnd o (λ k. i ≡ k.number)) (slice_get-map (numbers_by sight) seats n) h)))

  numbered : (n : ℕ) → IsSomeAnd (slice_get (map (values_by sight) seats) n) (λ k. k.number ≡ i) → IsSomeAnd (slice_get (map (numbers_by sight) seats) n) (λ k. k.number ≡ i)
  numbered n h =
      subst (λ o. IsSomeAnd o (λ k. k.number ≡ i)) (sym (slice_get-map (numbers_by sight) seats n))
      (some_out (numbers_by sight) (λ k. k.number ≡ i) (slice_get seats n) (some_in (values_by sight) (λ k. k.number ≡ i) (slice_get seats n)
      (subst (λ o. IsSomeAnd o (λ k. k.number ≡ i)) (slice_get-map (values_by sight) seats n) h)))

module _ {T S : Type 0} (sight : S → Sight T) (IsIts : S → Type 0) (clear : (s : S) → IsIts s → IsClear (sight s)) where
  -- a seat's own deeds, and its own entries
  mine-Matches : (s : S) → IsIts s → Matches (sight s).known.mine (own_deeds (sight s).known.number (values_seen (sight s)))
  mine-Matches s is = let c = clear s is in subst (λ es. Matches es (own_deeds (sight s).known.number (values_seen (sight s)))) c.own
      (own-Matches (sight s).known.number (sight s).known.seen (values_seen (sight s)) c.matches)

  sums-Matches : (p : Entry → Bool) (q : Deed T → Bool) → ((e : Entry) (d : Deed T) → Matches (e ∷ []) (d ∷ []) → q d ≡ p e) → (seats : List S)
      → All IsIts seats → sum_by (λ (k : KnownOf T). count_by q k.mine) (map (values_by sight) seats) ≡ sum_by (λ (k : Known). count_by p k.mine)
      (map (numbers_by sight) seats)
  sums-Matches p q same [] h = refl
  sums-Matches p q same (s ∷ ss) h =
      sum_by-cons (λ (k : KnownOf T). count_by q k.mine) (values_by sight s) (map (values_by sight) ss)
      ∙ (λ i. count-Matches p q same (sight s).known.mine (own_deeds (sight s).known.number (values_seen (sight s))) (mine-Matches s (All-head IsIts s ss h)) i + sums-Matches p q same ss (All-tail IsIts s ss h) i)
      ∙ sym (sum_by-cons (λ (k : Known). count_by p k.mine) (numbers_by sight s) (map (numbers_by sight) ss))

  module _ (history : List Entry) (deeds : List (slots.Deed T)) (m : Matches history (told [] deeds)) where
    -- what a seat had seen begins the history
    begins-one : (s : S) → IsPrefix (sight s).deeds deeds → IsPrefix (values_seen (sight s)) (told [] deeds)
    begins-one s h = (told (left_by [] (sight s).deeds) h.0, sym (told-append [] (sight s).deeds h.0) ∙ ap (told []) h.1)

    -- which has no more deeds of the seat
    own-one : (s : S) → IsIts s → own_entries (sight s).known.number history ≡ (sight s).known.mine → IsPrefix (sight s).deeds deeds
        → own_deeds (sight s).known.number (told [] deeds) ≡ own_deeds (sight s).known.number (values_seen (sight s))
    own-one s is own h =
        let b = begins-one s h in
        own-same (sight s).known.number (values_seen (sight s)) b.0 (told [] deeds) b.1
        (length-own (sight s).known.number history (told [] deeds) m ∙ ap length own ∙ ap length (sym (clear s is).own) ∙
        sym (length-own (sight s).known.number (sight s).known.seen (values_seen (sight s)) (clear s is).matches))

    own-each : (seats : List S) → All IsIts seats → All (λ k. own_entries k.number history ≡ k.mine) (map (numbers_by sight) seats)
        → All (λ s. IsPrefix (sight s).deeds deeds) seats → All (λ (k : KnownOf T). own_deeds k.number (told [] deeds) ≡ k.mine) (map (values_by sight) seats)
    own-each [] is own h = All-nil (λ (k : KnownOf T). own_deeds k.number (told [] deeds) ≡ k.mine)
    own-each (s ∷ ss) is own h =
        All-cons (λ (k : KnownOf T). own_deeds k.number (told [] deeds) ≡ k.mine) (values_by sight s) (map (values_by sight) ss)
        (own-one s (All-head IsIts s ss is) (All-head (λ k. own_entries k.number history ≡ k.mine) (numbers_by sight s) (map (numbers_by sight) ss) own) (All-head (λ x. IsPrefix (sight x).deeds deeds) s ss h))
        (own-each ss (All-tail IsIts s ss is) (All-tail (λ k. own_entries k.number history ≡ k.mine) (numbers_by sight s) (map (numbers_by sight) ss) own) (All-tail (λ x. IsPrefix (sight x).deeds deeds) s ss h))

-- what seats closed as a queue of numbers, whose deeds go with it, they closed as a queue of values
pub closes-values : {T S : Type 0} (sight : S → Sight T) (IsIts : S → Type 0) → ((s : S) → IsIts s → IsClear (sight s)) → (permits : List Permit) (seats : List S)
    (rest : Rest) (values : List (Item T)) → All IsIts seats → (closes : Closes permits (map (numbers_by sight) seats) rest) (deeds : List (slots.Deed T))
    → slots.Matches closes.history deeds → slots.Runs [] false deeds values (was_shut_of rest) → All (λ s. IsPrefix (sight s).deeds deeds) seats
    → ClosesWith permits (map (values_by sight) seats) (map as_item values) (taken_of rest) (whole_of rest) (was_shut_of rest)
closes-values {T} sight IsIts clear permits seats rest values ready closes deeds matches runs begins =
    let es : List Entry = closes.history in
    let ds : List (Deed T) = told [] deeds in
    let shut : Bool = was_shut_of rest in
    let m : Matches es ds = Matches-told [] false es deeds values shut runs matches in
    let pushes = sums-Matches sight IsIts clear is_push is_pushing pushing-is seats ready in
    let pops = sums-Matches sight IsIts clear is_pop is_popping popping-is seats ready in
    let shuts = sums-Matches sight IsIts clear is_shut is_shutting shutting-is seats ready in
    let many : length (left_of rest) ≡ length (map as_item values) =
    sym (length-map (left_of rest) (λ (t : Taken). t.from)) ∙ ap length (as_many es deeds (left_of rest) values shut shut matches closes.leads runs).0
    ∙ length-map values (λ (x : Item T). x.from) ∙ sym (length-map values as_item) in
    record {
      history = ds;
      runs = subst (λ (y : List (ItemOf T) × Bool). Runs [] false ds y.0 y.1) (λ i. (
        left_by-Runs [] false deeds values shut runs i,
        shut_by-Runs [] false deeds values shut runs i,
      )) (Runs-told [] false deeds (CanRun-Runs [] false deeds values shut runs));
      permitted = permitted-Matches permits es ds m closes.permitted;
      begins = All-map (λ (k : KnownOf T). IsPrefix k.seen ds) (values_by sight) seats (All-weaker (λ s. IsPrefix (sight s).deeds deeds)
          (λ s. IsPrefix (values_seen (sight s)) ds) (begins-one sight IsIts clear es deeds m) seats begins);
      own = own-each sight IsIts clear es deeds m seats ready closes.own begins;
      counted = closes.counted ∙ sym (count-Matches is_pop is_popping popping-is es ds m);
      made_all = (
        λ whole. let made = closes.whole.0 whole in (pops ∙ made.0, pushes ∙ made.1 ∙ ap (λ n. taken_of rest + n) many, λ was. subst (λ n. 1 ≤ n) (sym shuts) (made.2 was)),
        λ made. closes.whole.1 (sym pops ∙ made.0, sym pushes ∙ made.1 ∙ ap (λ n. taken_of rest + n) (sym many), λ was. subst (λ n. 1 ≤ n) shuts (made.2 was)),
      );
      theirs = λ whole. All-weaker (λ d. (n : ℕ) × IsSomeAnd (slice_get (map (numbers_by sight) seats) n) (λ k. doer_of d ≡ k.number))
          (IsOfOneOf (map (values_by sight) seats)) (λ d h. (h.0, of_one sight seats (doer_of d) h.0 h.1)) ds
          (all-Matches (λ j. (n : ℕ) × IsSomeAnd (slice_get (map (numbers_by sight) seats) n) (λ k. j ≡ k.number)) es ds m (closes.theirs whole));
      all = λ every. closes.all (λ n low high. let h = every n low high in (h.0, numbered sight seats n h.0 h.1));
    }

-- the values left are of the seats of their numbers
pub pushers-values : {T : Type 0} (r : Arena) (seats : List (Seat T)) (left : LeftValues T) → ClosesValues r seats left → pushers (left_of (rest_in left)) ≡ pushers_of (values_in left)
pushers-values r seats left c = (as_many c.closes.history c.deeds (left_of (rest_in left)) (values_in left) (was_shut_of (rest_in left)) (was_shut_of (rest_in left)) c.matches c.closes.leads c.runs).0

-- and so in words of queues of values
pub pushers-items : {T : Type 0} (xs : List (Item T)) → pushers_of xs ≡ map (λ (x : ItemOf T). x.from) (map as_item xs)
pushers-items [] = refl
pushers-items (x ∷ xs) = ap (λ ys. x.from ∷ ys) (pushers-items xs)
