-- The end of a ring: with all its seats handed in each place that was claimed is filled.
use Rattle.std.proofs.Common.{◌≡◌, ℕ, zero, suc, ◌+◌, ◌-◌, ◌/◌, ◌%◌, ◌^◌, ◌<◌, ◌≤◌, ◌↔◌, Bool, true, false, if◌then◌else◌, nat_le, IsTrue, IsSomeAnd}
use Rattle.std.proofs.Common.{List, [], ◌∷◌, ◌++◌, length, map, Option, Some, None, slice_get, mod-lt, sym, refl, ap, ◌∙◌, subst, arith}
use Rattle.std.specs.List.{All, count_by}
use mathlib.Core.Option.{some}
use mathlib.Core.List.{IsPrefix}
use lib.ListN.{get_elem?}
use Rattle.std.proofs.lemmas.Bool.{le-leb, lt-leb}
use Rattle.std.proofs.lemmas.List.{length-map}
use Rattle.std.proofs.lemmas.List.Elements.{All-nil, All-cons}
use Rattle.std.proofs.lemmas.Option.{none-some, same_Some}
use Rattle.atomic_table.specs.Table.{Final, Seen}
use Rattle.history.specs.declared.operations.Taken.{Taken}
use Rattle.history.specs.declared.rests.Rest.{Rest}
use Rattle.history.specs.Entries.{own_entries, is_push, is_pop, is_shut, Leads}
use Rattle.history.specs.declared.operations.Entry.{Entry}
use Rattle.history.specs.Seats.{Known, Permit, IsPermitted}
use Rattle.history.specs.Rests.{left_of, taken_of, whole_of, was_shut_of}
use Rattle.history.specs.Ends.{pushes_of, pops_of, shuts_of, AreAll, Closes}
use Rattle.history.proofs.Sums.{AreApart, pushes-Leads, shut_by_one, made-all, made-le, theirs, closes}
use Rattle.ring_queue.specs.declared.seats.Seat.{Seat}
use Rattle.ring_queue.specs.Words.{payload, face, tail_word}
use Rattle.ring_queue.specs.Plans.{Layout, permit_of, permits_of}
use Rattle.ring_queue.specs.Knowledge.{SeatView, View, gathered}
use Rattle.ring_queue.specs.Rule.{FitsWord, Lies, FillerStands, Ring, Holds}
use Rattle.ring_queue.specs.Steps.{Rests, taken_in}
use Rattle.ring_queue.specs.Seats.{known_of, view}
use Rattle.ring_queue.specs.Moments.{head_in, tail_in}
use Rattle.ring_queue.specs.Remains.{word_of, values_from, HasWords, was_shut_in}
use Rattle.ring_queue.proofs.Numbers.{same_place, face_payload, payload_some}
use Rattle.ring_queue.proofs.Keeps.{none_claimed, some_slot}
use Rattle.ring_queue.proofs.Moments.{tail_is_in, small, room}

-- at the end the words are those of a ring whose seats are those handed in, no two of one number
pub record Ends {T : Type 0} (z : Layout) (seats : List (Seat T)) (words : List ℕ) : Type 0 where
  pub all : ℕ → SeatView
  pub ring : Ring z words all
  pub fits : (k : ℕ) (s : Seat T) → slice_get seats k ≡ Some s → all (view s).number ≡ view s
  pub apart : (k l : ℕ) (s t : Seat T) → slice_get seats k ≡ Some s → slice_get seats l ≡ Some t → (view s).number ≡ (view t).number → k ≡ l

pub got_map : {A B : Type 0} (f : A → B) (xs : List A) (k : ℕ) (x : A) → slice_get xs k ≡ Some x → get_elem? (map f xs) k ≡ some (f x)
got_map f [] k x e = cc
got_map f (y ∷ ys) zero x e = let same : y ≡ x = cc in ap (λ z. some (f z)) same
got_map f (y ∷ ys) (suc k) x e = got_map f ys k x e

pub ends_at : {T : Type 0} (z : Layout) (seats : List (Seat T)) (id : ℕ) (words slots : List ℕ) → Final (Seen (Holds z) id (gathered (map view seats))) words slots → Ends z seats words
ends_at z seats id words slots t =
    let h : Holds z t.0 = t.1.0 in
    let u : View = gathered (map view seats) in
    let at_id : get_elem? t.0.views id ≡ some u = t.1.1 in
    record {
      all = h.seats;
      ring = subst (λ ws. Ring z ws h.seats) t.2 h.ring;
      fits = λ k s got. h.fits id k u (view s) at_id (got_map view seats k s got);
      apart = λ k l a b x y e. ap (λ (q : ℕ × ℕ). q.1) (sym (h.owned id k u (view a) at_id (got_map view seats k a x)).0 ∙
          (ap h.owner e ∙ (h.owned id l u (view b) at_id (got_map view seats l b y)).0));
    }

seat_at : {T : Type 0} (seats : List (Seat T)) (i : ℕ) (k : Known) → slice_get (map known_of seats) i ≡ Some k → (s : Seat T) × (slice_get seats i ≡ Some s) × (known_of s ≡ k)
seat_at [] i k e = absurd (none-some k e)
seat_at (s ∷ ss) zero k e = (s, refl, same_Some (known_of s) k e)
seat_at (s ∷ ss) (suc i) k e = seat_at ss i k e

-- the seat of a number is among those handed in
seat_with : {T : Type 0} (seats : List (Seat T)) (i n : ℕ) → IsSomeAnd (slice_get (map known_of seats) i) (λ k. k.number ≡ n) → (s : Seat T) × (slice_get seats i ≡ Some s) × ((view s).number ≡ n)
seat_with [] i n h = absurd h
seat_with (s ∷ ss) zero n h = (s, refl, h)
seat_with (s ∷ ss) (suc i) n h = seat_with ss i n h

-- what holds of each seat that is handed in
pub at_place : {T : Type 0} (P : (Seat T) → Type 0) (seats : List (Seat T)) (i : ℕ) (s : Seat T) → All P seats → slice_get seats i ≡ Some s → P s
at_place {T} P seats i s all got = go seats i all got
  where
    go : (xs : List (Seat T)) (j : ℕ) → All P xs → slice_get xs j ≡ Some s → P s
    go [] j h e = absurd (none-some s e)
    go (x ∷ xs) zero h e = subst P (same_Some x s e) (h 0 s (omega arith))
    go (x ∷ xs) (suc j) h e = go xs j (λ k d lt. h (suc k) d (omega (arith, lt))) e

-- what is told of a ring that is closed by seats, whose own history that is
closes_in : (permits : List Permit) (ks : List Known) (rest : Rest) (es : List Entry) → Leads es (was_shut_of rest) (left_of rest)
    → All (IsPermitted permits) es → All (λ k. IsPrefix k.seen es) ks → All (λ k. own_entries k.number es ≡ k.mine) ks → AreApart ks
    → taken_of rest ≡ count_by is_pop es
    → (IsTrue (whole_of rest) ↔ ((pops_of ks ≡ taken_of rest) × (pushes_of ks ≡ taken_of rest + length (left_of rest))
    × (IsTrue (was_shut_of rest) → 1 ≤ shuts_of ks))) → (c : Closes permits ks rest) × (c.history ≡ es)
closes_in permits ks rest es leads permitted begins own apart counted whole = (
  record {
    history = es;
    leads = leads;
    permitted = permitted;
    begins = begins;
    own = own;
    counted = counted;
    whole = whole;
    theirs = λ t. let h = whole.0 t in theirs ks es apart own (h.0 ∙ counted) (let pushed =
        pushes-Leads es (was_shut_of rest) (left_of rest) leads in omega (arith, h.1, counted, pushed))
        (one_shut (was_shut_of rest) _ _ (shut_by_one es (was_shut_of rest) (left_of rest) leads) (made-le ks es apart own is_shut) h.2);
    all = (closes permits ks rest es leads permitted begins own apart counted whole).all;
  },
  refl,
)
  where
    one_shut : (shut : Bool) (made all : ℕ) → all ≡ (if shut then 1 else 0) → made ≤ all → (IsTrue shut → 1 ≤ made) → made ≡ all
    one_shut true made all e low one = omega (arith, e, low, one refl)
    one_shut false made all e low one = omega (arith, e, low)

module _ {T : Type 0} (z : Layout) (words : List ℕ) (seats : List (Seat T)) (e : Ends z seats words) (at_rest : All (λ s. Rests (view s).stage) seats)
    (every : AreAll (permits_of z) (map known_of seats)) where
  abbrev r : Ring z words e.all
  r = e.ring

  -- no seat stands with a place claimed
  pub none_claims : (n : ℕ) → 1 ≤ n → n ≤ length z.roles → Rests (e.all n).stage
  none_claims n from to =
      let i = every n from (let l : length (permits_of z) ≡ length z.roles = length-map z.roles permit_of in omega (arith, to, l)) in
      let s = seat_with seats i.0 n i.1 in
      let is : e.all n ≡ view s.0 = ap e.all (sym s.2) ∙ e.fits i.0 s.0 s.1 in
      subst (λ (v : SeatView). Rests v.stage) (sym is) (at_place (λ x. Rests (view x).stage) seats i.0 s.0 at_rest s.1)

  -- so each place that was claimed is filled
  filled : (p : ℕ) → r.head ≤ p → p < r.tail → word_of z.slots words p ≡ face z.slots p (r.log p)
  filled p from to =
      let i : ℕ = p % z.slots in
      let pos = some_slot z words e.all r in
      let near : i < z.slots = mod-lt p pos in
      let ok = r.each_cell i near in
      let far = room z words e.all r in
      let claimed_at = ok.claimed in
      let last = ok.last in
      let here : (r.cells i).place ≡ p = same_place z.slots (r.cells i).place p pos ok.slot (omega (arith, claimed_at, far, from)) (omega (arith, last, to)) in
      go (r.cells i).place (r.cells i).filler here ok.lies (r.filling i near)
    where
      go : (q : ℕ) (f : Option ℕ) → q ≡ p → Lies z.slots r.head r.log (word_of z.slots words p) q f → FillerStands (length z.roles) r.log e.all q f → word_of z.slots words p ≡ face z.slots p (r.log p)
      go q None here lies fills = lies ∙ ap (λ x. face z.slots x (r.log x)) here
      go q (Some n) here lies fills = absurd (none_claimed (e.all n).stage q (r.log q) (none_claims n fills.0 fills.1) fills.2)

  -- the words from a place on tell the values from there on
  told_from : (vs : List Taken) (place : ℕ) → place + length vs ≡ r.tail → r.head ≤ place → ((i : ℕ) (v : Taken) → slice_get vs i ≡ Some v → r.log (place + i) ≡ Some v)
      → values_from z.slots words place (length vs) ≡ vs
  told_from [] place to from logged = refl
  told_from (v ∷ vs) place to from logged =
      let more : length (v ∷ vs) ≡ length vs + 1 = (let q : suc (length vs) ≡ length vs + 1 = omega arith in q) in
      let lt : place < r.tail = omega (arith, to, more) in
      let some_is : r.log place ≡ Some v = ap r.log (let q : place ≡ place + 0 = omega arith in q) ∙ logged 0 v refl in
      let w : ℕ = word_of z.slots words place in
      let says : w % 2 ^ 63 ≡ payload (r.log place) = ap (λ x. x % 2 ^ 63) (filled place from lt) ∙ face_payload z.slots place (r.log place) (r.fits place) in
      let fit : FitsWord (Some v) = subst FitsWord some_is (r.fits place) in
      let one : 0 < payload (r.log place) = subst (λ x. 0 < payload x) (sym some_is) (let low = fit.0 in omega (arith, low)) in
      let value : taken_in w ≡ v = same_Some (taken_in w) v (sym (payload_some (r.log place) (r.fits place) one ∙ ap
      (λ x. Some (record { from = x / 2 ^ 48; body = x % 2 ^ 48 })) (sym says)) ∙ some_is) in
      λ i. value i ∷ told_from vs (place + 1) (omega (arith, to, more)) (omega (arith, from)) (λ k u at. ap r.log (let q : place + 1 + k ≡ place + suc k = omega arith in q) ∙ logged (suc k) u at) i

  head_is : head_in words ≡ r.head
  head_is = r.head_is

  tail_is : tail_in words ≡ r.tail
  tail_is = ap (λ t. t % 2 ^ 62) r.tail_is ∙ tail_is_in r.tail r.shut (small z words e.all r)

  pub values_are : values_from z.slots words (head_in words) (tail_in words - head_in words) ≡ r.values
  values_are =
      let c = r.counted in
      ap (λ (y : ℕ × ℕ). values_from z.slots words y.0 (y.1 - y.0)) (λ i. (head_is i, tail_is i))
      ∙ (ap (values_from z.slots words r.head) (let q : r.tail - r.head ≡ length r.values = omega (arith, c) in q) ∙ told_from r.values r.head c (omega arith) r.logged)

  pub shut_is : was_shut_in words ≡ r.shut
  shut_is = ap (nat_le (2 ^ 62)) r.tail_is ∙ go r.shut
    where
      go : (b : Bool) → nat_le (2 ^ 62) (tail_word r.tail b) ≡ b
      go true = le-leb (2 ^ 62) (r.tail + 2 ^ 62) (omega arith)
      go false = lt-leb (2 ^ 62) r.tail (small z words e.all r)

  own_each : {T : Type 0} (xs : List (Seat T)) → ((k : ℕ) (s : Seat T) → slice_get xs k ≡ Some s → e.all (view s).number ≡ view s)
      → All (λ k. own_entries k.number r.history ≡ k.mine) (map known_of xs)
  own_each [] f = All-nil (λ (k : Known). own_entries k.number r.history ≡ k.mine)
  own_each (s ∷ ss) f =
      let n : ℕ = (view s).number in
      All-cons (λ (k : Known). own_entries k.number r.history ≡ k.mine) (known_of s) (map known_of ss)
      ((r.each_seat n).own ∙ ap (λ (v : SeatView). v.mine) (f 0 s refl)) (own_each ss (λ k. f (suc k)))

  begins_each : {T : Type 0} (xs : List (Seat T)) → ((k : ℕ) (s : Seat T) → slice_get xs k ≡ Some s → e.all (view s).number ≡ view s) → All (λ k. IsPrefix k.seen r.history) (map known_of xs)
  begins_each [] f = All-nil (λ (k : Known). IsPrefix k.seen r.history)
  begins_each (s ∷ ss) f =
      let seat = r.each_seat (view s).number in
      All-cons (λ (k : Known). IsPrefix k.seen r.history) (known_of s) (map known_of ss)
      (seat.rest, sym (seat.begins ∙ ap (λ (v : SeatView). v.seen ++ seat.rest) (f 0 s refl))) (begins_each ss (λ k. f (suc k)))

  numbers_apart : AreApart (map known_of seats)
  numbers_apart i j k l a b same =
      let s = seat_at seats i k a in
      let t = seat_at seats j l b in
      e.apart i j s.0 t.0 s.1 t.1 (ap (λ x. x.number) s.2 ∙ same ∙ ap (λ x. x.number) (sym t.2))

  some_shut : (b : Bool) (made : ℕ) → made ≡ (if b then 1 else 0) → IsTrue b → 1 ≤ made
  some_shut true made is t = omega (arith, is)
  some_shut false made is t = absurd (let f : false ≡ true = t in cc)

  -- the ring is closed, by that history
  pub closes_all : (rest : Rest) → left_of rest ≡ values_from z.slots words (head_in words) (tail_in words - head_in words)
      → taken_of rest + z.slots ≡ head_in words → whole_of rest ≡ true → was_shut_of rest ≡ was_shut_in words
      → (c : Closes (permits_of z) (map known_of seats) rest) × (c.history ≡ r.history)
  closes_all rest left taken whole shut =
      let ks : List Known = map known_of seats in
      let left_is : left_of rest ≡ r.values = left ∙ values_are in
      let was : was_shut_of rest ≡ r.shut = shut ∙ shut_is in
      let leads : Leads r.history (was_shut_of rest) (left_of rest) = subst (λ (y : Bool × List Taken). Leads r.history y.0 y.1) (λ i. (sym was i, sym left_is i)) r.leads in
      let counted : taken_of rest ≡ count_by is_pop r.history = let t = r.taken in omega (arith, taken, head_is, t) in
      let own = own_each seats e.fits in
      let pops : pops_of ks ≡ count_by is_pop r.history = made-all ks r.history numbers_apart own (permits_of z) r.permitted every is_pop in
      let pushes : pushes_of ks ≡ count_by is_push r.history = made-all ks r.history numbers_apart own (permits_of z) r.permitted every is_push in
      let shuts : shuts_of ks ≡ count_by is_shut r.history = made-all ks r.history numbers_apart own (permits_of z) r.permitted every is_shut in
      let pushed = pushes-Leads r.history (was_shut_of rest) (left_of rest) leads in
      closes_in (permits_of z) ks rest r.history leads r.permitted (begins_each seats e.fits) own numbers_apart counted (
        λ _. (pops ∙ sym counted, omega (arith, pushes, pushed, counted), some_shut (was_shut_of rest) (shuts_of ks) (shuts ∙ shut_by_one r.history (was_shut_of rest) (left_of rest) leads)),
        λ _. whole,
      )

  -- its words are those of a table with slots, and its values have room in a list with room for a value of each
  pub has_words : HasWords z.slots words
  has_words = record { some = some_slot z words e.all r; wide = let wide = r.wide in omega (arith, wide) }

  pub head_is_low : z.slots ≤ head_in words
  head_is_low = let t = r.taken in omega (arith, head_is, t)

  pub few_left : tail_in words - head_in words ≤ z.slots
  few_left = let far = room z words e.all r in omega (arith, head_is, tail_is, far)
