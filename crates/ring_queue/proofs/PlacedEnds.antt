-- The end of a ring whose values lie in their places: with all its seats handed in nobody has a place to fill, so in each place of the
-- queue lies its value, and these are the values to which their history leads.
use Rattle.std.proofs.Common.{◌≡◌, ℕ, zero, suc, ◌+◌, ◌-◌, ◌%◌, ◌^◌, ◌<◌, ◌≤◌, Bool, true, false, nat_le, List, [], ◌∷◌, ◌++◌, length, map, get_or, mod-lt, Option, Some, slice_get, sym, refl, ap, ◌∙◌, subst, arith}
use Rattle.std.specs.List.{All}
use Rattle.std.proofs.lemmas.Option.{slice_get-get_or}
use mathlib.Core.Option.{some}
use lib.ListN.{get_elem?}
use Rattle.atomic_table.specs.Table.{Final, Seen}
use Rattle.atomic_table.proofs.Lists.{at_map}
use Rattle.history.specs.declared.operations.Entry.{Entry}
use Rattle.history.specs.declared.operations.Taken.{Taken}
use Rattle.history.specs.declared.rests.Rest.{Rest}
use Rattle.history.specs.Entries.{Leads}
use Rattle.history.specs.Rests.{left_of, taken_of, whole_of, was_shut_of}
use Rattle.history.specs.Ends.{AreAll}
use Rattle.node_arena.specs.Beside.{AllBegin}
use Rattle.node_arena.specs.Deeds.{Deed, Item, Runs, Matches}
use Rattle.ring_queue.specs.declared.queue.RingQueue.{RingQueue}
use Rattle.ring_queue.specs.declared.seats.Seat.{Seat}
use Rattle.ring_queue.specs.Words.{slot_word}
use Rattle.ring_queue.specs.Plans.{Layout, words_of, further_of, permits_of}
use Rattle.ring_queue.specs.Knowledge.{SeatView, View, gathered}
use Rattle.ring_queue.specs.Rule.{Cell, FillerStands, HasClaimed, Ring}
use Rattle.ring_queue.specs.Steps.{Rests, taken_in}
use Rattle.ring_queue.specs.Seats.{known_of, view}
use Rattle.ring_queue.specs.Moments.{head_in, tail_in}
use Rattle.ring_queue.specs.Ends.{ClosesWords, EachSaid}
use Rattle.ring_queue.specs.Remains.{word_of, values_from, was_shut_in}
use Rattle.ring_queue.specs.Placed.{queue_words, pairs_of, value_word, PlacedView, queue_view, part_at, HasPut, parts_from, beside_from, parts_of, number_of, Said, HoldsPlaced}
use Rattle.ring_queue.proofs.Keeps.{none_claimed, some_slot}
use Rattle.ring_queue.proofs.Moments.{its_cell}
use Rattle.ring_queue.proofs.Placing.{own_tail, own_head, own_slot, queue_words-get, seat_of}
use Rattle.ring_queue.proofs.RingEnds.{Ends, got_map, none_claims, closes_all}
use Rattle.ring_queue.proofs.ValueEnds.{leads_one}

-- nobody has a place to fill
abbrev pub NobodyFills : (ℕ → SeatView) → (place : ℕ) → Type 0
NobodyFills seats place = (n : ℕ) (x : Option Taken) → HasClaimed (seats n).stage place x → ⊥

-- what is left at the end of a table whose words were these, by a token that gathered seats: in each place of the queue that nobody
-- has to fill lies its value, and what each seat had seen of the values begins their history
pub record PlacedEnd {T : Type 0} (z : Layout) (seats : List (Seat T)) (words : List ℕ) (w : PlacedView) : Type 0 where
  pub ends : Ends z seats (queue_words (pairs_of z) words)
  pub said : Said ends.ring.history
  pub widths : (i : ℕ) (x : Item (List ℕ)) → slice_get said.items i ≡ Some x → length x.value ≡ z.width
  pub lies : (i : ℕ) (x : Item (List ℕ)) → slice_get said.items i ≡ Some x → NobodyFills ends.all (head_in words + i) → HasPut z words (head_in words + i) x.value z.width
  pub long : words_of z + further_of z ≤ length words
  pub others : AllBegin w.others said.deeds

pub placed_end : {T : Type 0} (z : Layout) (seats : List (Seat T)) (id : ℕ) (w : PlacedView) (words slots : List ℕ) → w.plain ≡ gathered (map view seats)
    → Final {S = ℕ} (Seen (HoldsPlaced z) id w) words slots → PlacedEnd z seats words w
placed_end z seats id w words slots is f =
    let s = f.0 in
    let H : HoldsPlaced z s = f.1.0 in
    let u : View = gathered (map view seats) in
    let at_id : get_elem? (map queue_view s.views) id ≡ some u = at_map queue_view s.views id w f.1.1 ∙ ap some is in
    subst (λ (ws : List ℕ). PlacedEnd z seats ws w) f.2 (record {
      ends = record {
        all = H.base.seats;
        ring = H.base.ring;
        fits = λ k x got. H.base.fits id k u (view x) at_id (got_map view seats k x got);
        apart = λ k l a b x y e. ap (λ (q : ℕ × ℕ). q.1) (sym (H.base.owned id k u (view a) at_id (got_map view seats k a x)).0 ∙
            (ap H.base.owner e ∙ (H.base.owned id l u (view b) at_id (got_map view seats l b y)).0));
      };
      said = H.values.said;
      widths = H.values.widths;
      lies = λ i x got nobody. H.values.lies i x got
          (λ j o v y at plain has. nobody v.number y (subst (λ (b : SeatView). HasClaimed b.stage (head_in s.words + i) y) (sym (seat_of z s H j o v at plain)) has));
      long = H.values.long;
      others = (H.values.known id w f.1.1).others;
    })

abbrev behind_first : List Taken → List Taken
behind_first [] = []
behind_first (x ∷ xs) = xs

-- the words of a place tell the value that lies there
parts_read : (slots : ℕ) (words : List ℕ) (place : ℕ) (value : List ℕ) (from : ℕ)
    → ((j : ℕ) → j < length value → get_or words (value_word slots (place % slots) (from + j)) 0 ≡ get_or value j 0) → parts_from slots words place from (length value) ≡ value
parts_read slots words place [] from lie = refl
parts_read slots words place (v ∷ vs) from lie =
    let here : from ≡ from + 0 = omega arith in
    let first : get_or words (value_word slots (place % slots) from) 0 ≡ v =
    ap (λ (k : ℕ). get_or words (value_word slots (place % slots) k) 0) here ∙ lie 0 (let g : 0 < suc (length vs) = omega arith in g) in
    let rest = parts_read slots words place vs (from + 1)
    (λ j lt. ap (λ (k : ℕ). get_or words (value_word slots (place % slots) k) 0) (let q : from + 1 + j ≡ from + suc j = omega arith in q)
    ∙ lie (suc j) (let g : suc j < suc (length vs) = omega (arith, lt) in g)) in
    (λ i. first i ∷ rest i)

module _ {T : Type 0} (z : Layout) (seats : List (Seat T)) (words : List ℕ) (w : PlacedView) (e : PlacedEnd z seats words w)
    (at_rest : All (λ s. Rests (view s).stage) seats) (every : AreAll (permits_of z) (map known_of seats)) where
  abbrev r : Ring z (queue_words (pairs_of z) words) e.ends.all
  r = e.ends.ring

  -- nobody has a place to fill then
  nobody_fills : (place : ℕ) → NobodyFills e.ends.all place
  nobody_fills place n x has =
      let near : place % z.slots < z.slots = mod-lt place (some_slot z (queue_words (pairs_of z) words) e.ends.all r) in
      let filler : FillerStands (length z.roles) r.log e.ends.all place (Some n) =
      subst (λ (c : Cell). FillerStands (length z.roles) r.log e.ends.all c.place c.filler) (its_cell z (queue_words (pairs_of z) words) e.ends.all r n place x has) (r.filling (place % z.slots) near) in
      none_claimed (e.ends.all n).stage place x (none_claims z (queue_words (pairs_of z) words) seats e.ends at_rest every n filler.0 filler.1) has

  -- so in each place of the queue lies its value
  pub each_lies : (i : ℕ) (x : Item (List ℕ)) → slice_get e.said.items i ≡ Some x → HasPut z words (head_in words + i) x.value z.width
  each_lies i x got = e.lies i x got (nobody_fills (head_in words + i))

  -- the words of the queue alone say the same
  pub head_same : head_in (queue_words (pairs_of z) words) ≡ head_in words
  head_same = queue_words-get (pairs_of z) words 16 (own_head z)

  pub tail_same : tail_in (queue_words (pairs_of z) words) ≡ tail_in words
  tail_same = ap (λ n. n % 2 ^ 62) (queue_words-get (pairs_of z) words 0 (own_tail z))

  pub values_same : (place k : ℕ) → values_from z.slots (queue_words (pairs_of z) words) place k ≡ values_from z.slots words place k
  values_same place zero = refl
  values_same place (suc k) =
      let one : word_of z.slots (queue_words (pairs_of z) words) place ≡ word_of z.slots words place =
      queue_words-get (pairs_of z) words (slot_word (place % z.slots)) (own_slot z (place % z.slots) (mod-lt place (some_slot z (queue_words (pairs_of z) words) e.ends.all r))) in
      (λ i. taken_in (one i) ∷ values_same (place + 1) k i)

  -- a place tells the value that lies there
  told_one : (place : ℕ) (value : List ℕ) → length value ≡ z.width → HasPut z words place value z.width → parts_from z.slots words place 0 z.width ≡ value
  told_one place value long put =
      ap (λ (k : ℕ). parts_from z.slots words place 0 k) (sym long)
      ∙ parts_read z.slots words place value 0 (λ j lt. ap (λ (k : ℕ). part_at z words place k) (let q : 0 + j ≡ j = omega arith in q) ∙ put j (omega (arith, lt, long)))

  -- places tell the values that lie there
  told_from : (xs : List (Item (List ℕ))) (place k : ℕ) → values_from z.slots words place k ≡ map number_of xs
      → ((i : ℕ) (x : Item (List ℕ)) → slice_get xs i ≡ Some x → length x.value ≡ z.width)
      → ((i : ℕ) (x : Item (List ℕ)) → slice_get xs i ≡ Some x → HasPut z words (place + i) x.value z.width) → beside_from z.slots z.width words place k ≡ parts_of xs
  told_from [] place zero says wide lie = refl
  told_from [] place (suc k) says wide lie = absurd (let bad : suc (length (values_from z.slots words (place + 1) k)) ≡ 0 = ap length says in omega (arith, bad))
  told_from (x ∷ xs) place zero says wide lie = absurd (let bad : 0 ≡ suc (length (map number_of xs)) = ap length says in omega (arith, bad))
  told_from (x ∷ xs) place (suc k) says wide lie =
      let value = told_one place x.value (wide 0 x refl) (subst (λ (q : ℕ). HasPut z words q x.value z.width) (let q : place + 0 ≡ place = omega arith in q) (lie 0 x refl)) in
      let rest = told_from xs (place + 1) k (ap behind_first says) (λ i y got. wide (suc i) y got)
      (λ i y got. subst (λ (q : ℕ). HasPut z words q y.value z.width) (let q : place + suc i ≡ place + 1 + i = omega arith in q) (lie (suc i) y got)) in
      (λ i. value i ++ rest i)

  -- the numbers that are left
  numbers : (rest : Rest) → Leads r.history (was_shut_of rest) (left_of rest) → (map number_of e.said.items ≡ left_of rest) × (e.said.shut ≡ was_shut_of rest)
  numbers rest leads = leads_one r.history e.said.shut (was_shut_of rest) (map number_of e.said.items) (left_of rest) e.said.leads leads

  -- the words of the values left, one value after another, are those of the values to which their history leads
  pub items_are : (rest : Rest) → Leads r.history (was_shut_of rest) (left_of rest) → left_of rest ≡ values_from z.slots words (head_in words) (tail_in words - head_in words)
      → beside_from z.slots z.width words (head_in words) (tail_in words - head_in words) ≡ parts_of e.said.items
  items_are rest leads left = told_from e.said.items (head_in words) (tail_in words - head_in words) (sym left ∙ sym (numbers rest leads).0) e.widths each_lies

-- there are as many values as places
values_long : (slots : ℕ) (words : List ℕ) (place k : ℕ) → length (values_from slots words place k) ≡ k
values_long slots words place zero = refl
values_long slots words place (suc k) = ap (λ n. suc n) (values_long slots words (place + 1) k)

-- the ring is closed so, where that is told of its end
pub closes_placed : {T : Type 0} (q : RingQueue T) (seats : List (Seat T)) (words : List ℕ) (w : PlacedView) (e : PlacedEnd q.plan seats words w)
    → All (λ s. Rests (view s).stage) seats → AreAll (permits_of q.plan) (map known_of seats) → (rest : Rest) (values : List ℕ)
    → ((ds : List (Deed (List ℕ))) → AllBegin w.others ds → EachSaid seats ds) → tail_in words - head_in words ≤ q.plan.slots
    → left_of rest ≡ values_from q.plan.slots words (head_in words) (tail_in words - head_in words) → taken_of rest + q.plan.slots ≡ head_in words → whole_of rest ≡ true → was_shut_of rest ≡ was_shut_in words
    → values ≡ beside_from q.plan.slots q.plan.width words (head_in words) (tail_in words - head_in words) → ClosesWords q seats rest values
closes_placed q seats words w e at_rest every rest values begin few left taken whole shut read =
    let z = q.plan in
    let head = head_same z seats words w e at_rest every in
    let tail = tail_same z seats words w e at_rest every in
    let same = (λ i. values_from z.slots (queue_words (pairs_of z) words) (head i) (tail i - head i)) ∙ values_same z seats words w e at_rest every (head_in words) (tail_in words - head_in words) in
    let c = closes_all z (queue_words (pairs_of z) words) seats e.ends at_rest every rest (left ∙ sym same) (taken ∙ sym head) whole
    (shut ∙ sym (ap (λ (n : ℕ). nat_le (2 ^ 62) n) (queue_words-get (pairs_of z) words 0 (own_tail z)))) in
    let leads = subst (λ (es : List Entry). Leads es (was_shut_of rest) (left_of rest)) c.1 c.0.leads in
    let said = leads_one e.ends.ring.history e.said.shut (was_shut_of rest) (map number_of e.said.items) (left_of rest) e.said.leads leads in
    let items = items_are z seats words w e at_rest every rest leads left in
    record {
      closes = c.0;
      deeds = e.said.deeds;
      items = e.said.items;
      matches = subst (λ (es : List Entry). Matches es e.said.deeds) (sym c.1) e.said.matches;
      runs = subst (λ (b : Bool). Runs [] false e.said.deeds e.said.items b) said.1 e.said.runs;
      begins = begin e.said.deeds e.others;
      numbers = sym said.0;
      few = (let long : length (left_of rest) ≡ tail_in words - head_in words = ap length left ∙ values_long z.slots words (head_in words) (tail_in words - head_in words) in omega (arith, few, long));
      told = read ∙ items;
      widths = λ k d lt. e.widths k (get_or e.said.items k d) (slice_get-get_or e.said.items k d lt);
    }
