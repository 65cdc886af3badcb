-- Values whose words lie in their places: a store of a word into a place that its seat claimed, and a load of a word of the value at a
-- seat's head, keep the rule.
use Rattle.std.proofs.Common.{◌≡◌, ◌≢◌, ℕ, zero, suc, ◌+◌, ◌-◌, ◌*◌, ◌%◌, ◌<◌, ◌≤◌, List, [], ◌∷◌, ◌++◌, length, map, set, get_or, slice_get, Option, Some, None, sym, refl, ap, ◌∙◌, subst, arith, ⊎_elim, mod-lt}
use Rattle.std.proofs.lemmas.List.{get_or-set_other, get_or-set_same, set-get_or, length-map, length-set}
use Rattle.std.proofs.lemmas.Option.{slice_get_within, slice_get-get_or, none-some, same_Some}
use mathlib.Core.Option.{some, some-injective}
use mathlib.Core.Logic.{dite}
use native.Mathlib.Decide.{ℕ_discrete}
use lib.ListN.{get_elem?}
use Rattle.atomic_table.specs.Table.{State, Me}
use Rattle.atomic_table.proofs.Lists.{at_map, at_set, set_again, set_else}
use Rattle.history.specs.declared.operations.Entry.{Entry}
use Rattle.history.specs.declared.operations.Taken.{Taken}
use Rattle.history.proofs.Sums.{pushes-Leads}
use Rattle.node_arena.specs.Deeds.{Item, item, Deed}
use Rattle.node_arena.proofs.Lifts.{map_set}
use Rattle.node_arena.proofs.KnownRuns.{set_there}
use Rattle.ring_queue.specs.Words.{slot_word}
use Rattle.ring_queue.specs.Plans.{Layout, words_of, further_for, further_of}
use Rattle.ring_queue.specs.Knowledge.{Stage, claimed, found, SeatView, View, seated, knows}
use Rattle.ring_queue.specs.Rule.{Cell, HasClaimed, IsFilled, Lies, Stands, Ring}
use Rattle.ring_queue.specs.Moments.{head_in}
use Rattle.ring_queue.specs.Placed.{value_word, queue_words, pairs_of, Hand, free, storing, loading, HasRead, PlacedView, queue_view, queue_state, part_at, HasPut, number_of, IsUnclaimed, Owes, Handles, BeginsPlaced, Placed, HoldsPlaced, with_value}
use Rattle.ring_queue.proofs.Numbers.{same_place}
use Rattle.ring_queue.proofs.Keeps.{cell, some_slot}
use Rattle.ring_queue.proofs.Tables.{HoldsWith, it_fits}
use Rattle.ring_queue.proofs.Moments.{its_cell}

-- in any state of the rule a seat with this view makes a step that moves no slot and keeps the rule, which tells this
abbrev pub Keeping : Layout → (id : ℕ) → PlacedView → (p : ℕ) → (ℕ → ℕ) → (ℕ → Me ℕ PlacedView → Type 0) → Type 0
Keeping z id w p f told = (s : State ℕ PlacedView) → HoldsPlaced z s → get_elem? s.views id ≡ some w
    → (w' : PlacedView) × HoldsPlaced z record { words = set s.words p (f (get_or s.words p 0)); homes = s.homes; views = set s.views id w' } × told (get_or s.words p 0) (w', [])

-- an index of a word of the queue, of which there are so many, with one beside each
abbrev pub IsOwn : (pairs p : ℕ) → Type 0
IsOwn zero p = ⊥
IsOwn (suc n) zero = Unit {0}
IsOwn (suc n) (suc zero) = ⊥
IsOwn (suc n) (suc (suc p)) = IsOwn n p

own_at : (n k : ℕ) → k < n → IsOwn n (k + k)
own_at zero k lt = absurd (omega (arith, lt))
own_at (suc n) zero lt = tt
own_at (suc n) (suc k) lt = let e : suc (suc (k + k)) ≡ suc k + suc k = omega arith in subst (IsOwn (suc n)) e (own_at n k (omega (arith, lt)))

own_half : (n p : ℕ) → IsOwn n p → (k : ℕ) × (p ≡ k + k) × (k < n)
own_half zero p own = absurd own
own_half (suc n) zero own = (0, refl, omega arith)
own_half (suc n) (suc zero) own = absurd own
own_half (suc n) (suc (suc p)) own =
    let h = own_half n p own in
    let half = h.1 in
    let few = h.2 in
    (suc h.0, omega (arith, half), omega (arith, few))

-- the words of Tail, of Head and of the slots are the queue's own
pub own_tail : (z : Layout) → IsOwn (pairs_of z) 0
own_tail z = own_at (pairs_of z) 0 (omega arith)

pub own_head : (z : Layout) → IsOwn (pairs_of z) 16
own_head z = own_at (pairs_of z) 8 (omega arith)

pub own_slot : (z : Layout) (slot : ℕ) → slot < z.slots → IsOwn (pairs_of z) (slot_word slot)
own_slot z slot lt =
    let e : (16 + slot) + (16 + slot) ≡ 32 + 2 * slot = omega arith in
    subst (IsOwn (pairs_of z)) e (own_at (pairs_of z) (16 + slot) (omega (arith, lt)))

-- no word of a value is
pub beside_own : (z : Layout) (slot j : ℕ) → IsOwn (pairs_of z) (value_word z.slots slot j) → ⊥
beside_own z slot zero own =
    let h = own_half (pairs_of z) (value_word z.slots slot 0) own in
    let half = h.1 in
    omega (arith, half)
beside_own z slot (suc j) own =
    let h = own_half (pairs_of z) (value_word z.slots slot (suc j)) own in
    let half = h.1 in
    let few = h.2 in
    omega (arith, half, few)

-- two words of values lie at one index only if they are one word of one slot
pub one_part : (slots a b i j : ℕ) → a < slots → b < slots → i < 3 → j < 3 → value_word slots a i ≡ value_word slots b j → (a ≡ b) × (i ≡ j)
one_part slots a b zero zero la lb li lj e = (omega (arith, e), refl)
one_part slots a b zero (suc j) la lb li lj e = absurd (omega (arith, e, la))
one_part slots a b (suc i) zero la lb li lj e = absurd (omega (arith, e, lb))
one_part slots a b (suc i) (suc j) la lb li lj e =
    let p : (a ≡ b) = omega (arith, e, li, lj) in
    (p, omega (arith, e, p))

-- how many words they are behind those of the queue
pub none_further : (width slots : ℕ) → width < 2 → further_for width slots ≡ 0
none_further zero slots lt = refl
none_further (suc zero) slots lt = refl
none_further (suc (suc w)) slots lt = absurd (omega (arith, lt))

pub two_further : (width slots : ℕ) → 2 ≤ width → further_for width slots ≡ 2 * slots
two_further zero slots le = absurd (omega (arith, le))
two_further (suc zero) slots le = absurd (omega (arith, le))
two_further (suc (suc w)) slots le = refl

-- each word of a value lies within the table
pub parts_within : (slots width slot j : ℕ) → slot < slots → j < width → width ≤ 3 → value_word slots slot j < 32 + 2 * slots + further_for width slots
parts_within slots width slot zero lt few thin = omega (arith, lt)
parts_within slots zero slot (suc j) lt few thin = absurd (omega (arith, few))
parts_within slots (suc zero) slot (suc j) lt few thin = absurd (omega (arith, few))
parts_within slots (suc (suc w)) slot (suc j) lt few thin = omega (arith, lt, few, thin)

-- the words of the queue are as they were found
pub queue_words-get : (n : ℕ) (ws : List ℕ) (p : ℕ) → IsOwn n p → get_or (queue_words n ws) p 0 ≡ get_or ws p 0
queue_words-get zero ws p own = absurd own
queue_words-get (suc n) [] p own = refl
queue_words-get (suc n) (w ∷ []) p own = refl
queue_words-get (suc n) (w ∷ x ∷ ws) zero own = refl
queue_words-get (suc n) (w ∷ x ∷ ws) (suc zero) own = absurd own
queue_words-get (suc n) (w ∷ x ∷ ws) (suc (suc p)) own = queue_words-get n ws p own

pub queue_words-length : (n : ℕ) (ws : List ℕ) → n + n ≤ length ws → length (queue_words n ws) ≡ n + n
queue_words-length zero ws le = refl
queue_words-length (suc n) [] le = absurd (let g : suc n + suc n ≤ 0 = le in omega (arith, g))
queue_words-length (suc n) (w ∷ []) le = absurd (let g : suc n + suc n ≤ 1 = le in omega (arith, g))
queue_words-length (suc n) (w ∷ x ∷ ws) le =
    let g : suc n + suc n ≤ suc (suc (length ws)) = le in
    let h = queue_words-length n ws (omega (arith, g)) in
    let goal : suc (suc (length (queue_words n ws))) ≡ suc n + suc n = omega (arith, h) in
    goal

-- a word of the queue is written
pub queue_words-set : (n : ℕ) (ws : List ℕ) (p k : ℕ) → IsOwn n p → queue_words n (set ws p k) ≡ set (queue_words n ws) p k
queue_words-set zero ws p k own = absurd own
queue_words-set (suc n) [] p k own = refl
queue_words-set (suc n) (w ∷ []) zero k own = refl
queue_words-set (suc n) (w ∷ []) (suc p) k own = refl
queue_words-set (suc n) (w ∷ x ∷ ws) zero k own = refl
queue_words-set (suc n) (w ∷ x ∷ ws) (suc zero) k own = absurd own
queue_words-set (suc n) (w ∷ x ∷ ws) (suc (suc p)) k own = ap (λ us. w ∷ 0 ∷ us) (queue_words-set n ws p k own)

-- another word is written
pub queue_words-beside : (n : ℕ) (ws : List ℕ) (p k : ℕ) → (IsOwn n p → ⊥) → queue_words n (set ws p k) ≡ queue_words n ws
queue_words-beside zero ws p k other = refl
queue_words-beside (suc n) [] p k other = refl
queue_words-beside (suc n) (w ∷ []) zero k other = absurd (other tt)
queue_words-beside (suc n) (w ∷ []) (suc p) k other = refl
queue_words-beside (suc n) (w ∷ x ∷ ws) zero k other = absurd (other tt)
queue_words-beside (suc n) (w ∷ x ∷ ws) (suc zero) k other = refl
queue_words-beside (suc n) (w ∷ x ∷ ws) (suc (suc p)) k other = ap (λ us. w ∷ 0 ∷ us) (queue_words-beside n ws p k other)

-- a seat that has one place to fill has no other
pub one_claimed : (st : Stage) (p q : ℕ) (x y : Option Taken) → st ≡ claimed p (x ∷ []) → HasClaimed st q y → q ≡ p
one_claimed st p q x y is has = let h = subst (λ (u : Stage). HasClaimed u q y) is has in at (q - p) refl h.0 h.1
  where
    at : (k : ℕ) → q - p ≡ k → p ≤ q → slice_get (x ∷ []) k ≡ Some y → q ≡ p
    at zero e le got = omega (arith, e, le)
    at (suc k) e le got = absurd (none-some y got)

-- the seat of a view
pub its_view : (v u : SeatView) → seated v ≡ seated u → v ≡ u
its_view v u e = ap (λ (y : View). knows y) e

-- what a seat has at hand stays so, where Head and the values of the places that it claimed do
pub handles_on : (z : Layout) (words words' : List ℕ) (items : List (Item (List ℕ))) (v : SeatView) (h : Hand) → head_in words' ≡ head_in words
    → ((q : ℕ) (x : Option Taken) → HasClaimed v.stage q x → (j : ℕ) → j < z.width → part_at z words' q j ≡ part_at z words q j) → Handles z words items v h → Handles z words' items v h
handles_on z words words' items v free head same k = tt
handles_on z words words' items v (storing value done) head same k = (
  k.0,
  subst (λ hd. Owes hd items v value) (sym head) k.1,
  λ q x has j lt. let few = k.0 in same q x has j (omega (arith, few, lt)) ∙ k.2 q x has j lt,
)
handles_on z words words' items v (loading read) head same k = λ e. k (e ∙ head)

module _ (z : Layout) (s : State ℕ PlacedView) (H : HoldsPlaced z s) where
  abbrev r : Ring z (queue_words (pairs_of z) s.words) H.base.seats
  r = H.base.ring

  -- Head, by all the words
  pub head_is : head_in s.words ≡ r.head
  head_is = sym (queue_words-get (pairs_of z) s.words 16 (own_head z)) ∙ r.head_is

  -- there are as many values as the ring has
  pub items_long : length H.values.said.items ≡ length r.values
  items_long =
      let a = pushes-Leads r.history r.shut r.values r.leads in
      let b = pushes-Leads r.history H.values.said.shut (map number_of H.values.said.items) H.values.said.leads in
      let c : length (map number_of H.values.said.items) ≡ length H.values.said.items = length-map H.values.said.items number_of in
      omega (arith, a, b, c)

  -- the seat of a view is that of its number
  pub seat_of : (j : ℕ) (w : PlacedView) (v : SeatView) → get_elem? s.views j ≡ some w → w.plain ≡ seated v → H.base.seats v.number ≡ v
  seat_of j w v at is = H.base.fits j 0 (seated v) v (at_map queue_view s.views j w at ∙ ap some is) refl

  -- a place that a seat has to fill is its cell's
  cell_of : (j : ℕ) (w : PlacedView) (v : SeatView) (p : ℕ) (x : Option Taken) → get_elem? s.views j ≡ some w → w.plain ≡ seated v → HasClaimed v.stage p x
      → r.cells (p % z.slots) ≡ cell p (Some v.number)
  cell_of j w v p x at is has =
      its_cell z (queue_words (pairs_of z) s.words) H.base.seats r v.number p x (subst (λ (u : SeatView). HasClaimed u.stage p x) (sym (seat_of j w v at is)) has)

  module _ (id : ℕ) (v : SeatView) (ds : List (Deed (List ℕ))) (hand : Hand) (os : List (List (Deed (List ℕ))))
      (mine : get_elem? s.views id ≡ some (record { plain = seated v; deeds = ds; hand = hand; others = os })) where
    abbrev w : PlacedView
    w = record { plain = seated v; deeds = ds; hand = hand; others = os }

    -- the rule of the numbers, where a word beside theirs is written, and the seat has another value at hand
    same_queue : (slot part n : ℕ) (h : Hand)
        → HoldsWith z r.history (queue_state z record { words = set s.words (value_word z.slots slot part) n; homes = s.homes; views = set s.views id (with_value w h) })
    same_queue slot part n h =
        let views : map queue_view s.views ≡ map queue_view (set s.views id (with_value w h)) =
        sym (map_set queue_view s.views id (with_value w h) ∙ set_again (map queue_view s.views) id (seated v) (at_map queue_view s.views id w mine)) in
        subst (λ (y : List ℕ × List View). HoldsWith z r.history (record { words = y.0; homes = []; views = y.1 }))
        (λ i. (sym (queue_words-beside (pairs_of z) s.words (value_word z.slots slot part) n (beside_own z slot part)) i, views i)) (H.base, refl)

    -- nothing more is known of the values
    known_on : (h : Hand) (j : ℕ) (o : PlacedView) → get_elem? (set s.views id (with_value w h)) j ≡ some o → BeginsPlaced H.values.said.deeds o
    known_on h j o at = ⊎_elim
        (λ (e : (j ≡ id) × (with_value w h ≡ o)). subst (BeginsPlaced H.values.said.deeds) e.1
        (let g = H.values.known id w mine in let b : BeginsPlaced H.values.said.deeds (with_value w h) = record { rest = g.rest; begins = g.begins; matches = g.matches; pair = g.pair; others = g.others } in b))
        (λ (e : (j ≢ id) × (get_elem? s.views j ≡ some o)). H.values.known j o e.1)
        (at_set s.views id j (with_value w h) o at)

    -- a place that nobody has to fill had nobody to fill it
    unclaimed_before : (h : Hand) (q : ℕ) → IsUnclaimed (set s.views id (with_value w h)) q → IsUnclaimed s.views q
    unclaimed_before h q none j o u x at is has =
        dite (ℕ_discrete j id)
        (λ e. none id (with_value w h) u x (set_there s.views id w (with_value w h) mine) (ap queue_view (some-injective w o (sym mine ∙ (ap (get_elem? s.views) (sym e) ∙ at))) ∙ is) has)
        (λ ne. none j o u x (set_else s.views id j (with_value w h) ne ∙ at) is has)

    -- another seat has another place to fill, in another slot
    apart : (p : ℕ) (x : Option Taken) → HasClaimed v.stage p x → (j : ℕ) (o : PlacedView) (u : SeatView) → j ≢ id → get_elem? s.views j ≡ some o → o.plain ≡ seated u
        → (q : ℕ) (y : Option Taken) → HasClaimed u.stage q y → q % z.slots ≢ p % z.slots
    apart p x has j o u ne at is q y its e =
        let one = cell_of id w v p x mine refl has in
        let two = cell_of j o u q y at is its in
        let same : u.number ≡ v.number = same_Some u.number v.number (ap (λ (c : Cell). c.filler) (sym two ∙ (ap r.cells e ∙ one))) in
        let own = H.base.owned id 0 (seated v) v (at_map queue_view s.views id w mine) refl in
        let theirs = H.base.owned j 0 (seated u) u (at_map queue_view s.views j o at ∙ ap some is) refl in
        ne (ap (λ (c : ℕ × ℕ). c.0) (sym theirs.0 ∙ (ap H.base.owner same ∙ own.0)))

    -- a place in the queue that another has to fill, or nobody, lies in another slot than one that the seat has to fill
    other_slot : (p : ℕ) (x : Option Taken) → HasClaimed v.stage p x → (i : ℕ) (y : Item (List ℕ)) → slice_get H.values.said.items i ≡ Some y → r.head + i ≢ p → (r.head + i) % z.slots ≢ p % z.slots
    other_slot p x has i y got ne e =
        let pos = some_slot z (queue_words (pairs_of z) s.words) H.base.seats r in
        let near : p % z.slots < z.slots = mod-lt p pos in
        let ok = subst (λ (c : Cell). (c.place < r.tail) × (r.tail ≤ c.place + z.slots) × Lies z.slots r.head r.log (get_or (queue_words (pairs_of z) s.words) (slot_word (p % z.slots)) 0) c.place c.filler)
        (cell_of id w v p x mine refl has)
        (let c = r.each_cell (p % z.slots) near in (c.claimed, c.last, c.lies)) in
        let below = ok.0 in
        let last = ok.1 in
        let above = ok.2.2 in
        let within = slice_get_within H.values.said.items i y got in
        let long = items_long in
        let counted = r.counted in
        let roomy = r.roomy in
        let room = r.planned.room in
        ne (same_place z.slots (r.head + i) p pos e (omega (arith, within, long, counted, last)) (omega (arith, below, roomy, room, above)))

    -- where all that is beside the numbers goes on
    goes_on : (slot part n : ℕ) (h : Hand)
        → ((i : ℕ) (x : Item (List ℕ)) → slice_get H.values.said.items i ≡ Some x
        → IsUnclaimed (set s.views id (with_value w h)) (head_in (set s.words (value_word z.slots slot part) n) + i)
        → HasPut z (set s.words (value_word z.slots slot part) n) (head_in (set s.words (value_word z.slots slot part) n) + i) x.value z.width)
        → ((j : ℕ) (o : PlacedView) (u : SeatView) → get_elem? (set s.views id (with_value w h)) j ≡ some o → o.plain ≡ seated u
        → Handles z (set s.words (value_word z.slots slot part) n) H.values.said.items u o.hand)
        → HoldsPlaced z record { words = set s.words (value_word z.slots slot part) n; homes = s.homes; views = set s.views id (with_value w h) }
    goes_on slot part n h lies hands =
        let base = same_queue slot part n h in
        let g = H.values in
        let at : ℕ = value_word z.slots slot part in
        record {
          base = base.0;
          values = subst (λ (es : List Entry). Placed z es (set s.words at n) (set s.views id (with_value w h))) (sym base.1) (record {
            said = g.said;
            widths = g.widths;
            lies = lies;
            hands = hands;
            known = known_on h;
            long = subst (λ (k : ℕ). words_of z + further_of z ≤ k) (sym (length-set s.words at n)) g.long;
          });
        }

    -- Head is as it was, where a word of a value is stored
    head_on : (slot part n : ℕ) → head_in (set s.words (value_word z.slots slot part) n) ≡ head_in s.words
    head_on slot part n = get_or-set_other s.words (value_word z.slots slot part) 16 n 0 (λ e. beside_own z slot part (subst (IsOwn (pairs_of z)) e (own_head z)))

    -- the words of another value are as they were, and another word of the same
    part_on : (slot part n q j : ℕ) → slot < z.slots → part < z.width → j < z.width → ((q % z.slots ≡ slot) × (j ≡ part) → ⊥)
        → part_at z (set s.words (value_word z.slots slot part) n) q j ≡ part_at z s.words q j
    part_on slot part n q j near low lt other =
        let thin = r.planned.thin in
        let pos = some_slot z (queue_words (pairs_of z) s.words) H.base.seats r in
        let within : q % z.slots < z.slots = mod-lt q pos in
        get_or-set_other s.words (value_word z.slots slot part) (value_word z.slots (q % z.slots) j) n 0
        (λ e. other (one_part z.slots (q % z.slots) slot j part within near (omega (arith, lt, thin)) (omega (arith, low, thin)) e))

-- a seat stores the next word of its value in the place that it claimed
module _ (z : Layout) (s : State ℕ PlacedView) (H : HoldsPlaced z s) (id : ℕ) (v : SeatView) (ds : List (Deed (List ℕ))) (value : List ℕ) (part : ℕ) (os : List (List (Deed (List ℕ))))
    (mine : get_elem? s.views id ≡ some (record { plain = seated v; deeds = ds; hand = storing value part; others = os })) (p : ℕ) (x : Option Taken)
    (stands : v.stage ≡ claimed p (x ∷ [])) (low : part < z.width) where
  abbrev before : PlacedView
  before = record { plain = seated v; deeds = ds; hand = storing value part; others = os }

  abbrev next : Hand
  next = storing value (part + 1)

  abbrev at_place : ℕ
  at_place = p % z.slots

  abbrev n : ℕ
  n = get_or value part 0

  abbrev words' : List ℕ
  words' = set s.words (value_word z.slots at_place part) n

  has_it : HasClaimed v.stage p x
  has_it = subst (λ (u : Stage). HasClaimed u p x) (sym stands) (let e : p - p ≡ 0 = omega arith in (omega arith, ap (λ k. slice_get (x ∷ []) k) e))

  near : at_place < z.slots
  near = mod-lt p (some_slot z (queue_words (pairs_of z) s.words) H.base.seats H.base.ring)

  -- the word lies within the table
  within_words : value_word z.slots at_place part < length s.words
  within_words =
      let thin = H.base.ring.planned.thin in
      let long = H.values.long in
      let lt = parts_within z.slots z.width at_place part near low thin in
      omega (arith, lt, long)

  -- one word more of the value lies in its place
  puts_more : (q : ℕ) → q ≡ p → HasPut z s.words q value part → HasPut z words' q value (part + 1)
  puts_more q same put j lt = dite (ℕ_discrete j part)
      (λ e.
      let here : part_at z words' p part ≡ n = get_or-set_same s.words (value_word z.slots at_place part) n 0 within_words in
      ap (λ (k : ℕ). part_at z words' k j) same ∙ (ap (λ (k : ℕ). part_at z words' p k) e ∙ (here ∙ ap (λ (k : ℕ). get_or value k 0) (sym e))))
      (λ ne. part_on z s H id v ds (storing value part) os mine at_place part n q j near low (omega (arith, lt, low)) (λ e. ne e.1) ∙ put j (omega (arith, lt, ne)))

  pub stores_value : HoldsPlaced z record { words = words'; homes = s.homes; views = set s.views id (with_value before next) }
  stores_value = goes_on z s H id v ds (storing value part) os mine at_place part n next lies hands
    where
      head : head_in words' ≡ head_in s.words
      head = head_on z s H id v ds (storing value part) os mine at_place part n

      is : head_in s.words ≡ H.base.ring.head
      is = head_is z s H

      lies : (i : ℕ) (y : Item (List ℕ)) → slice_get H.values.said.items i ≡ Some y → IsUnclaimed (set s.views id (with_value before next)) (head_in words' + i)
          → HasPut z words' (head_in words' + i) y.value z.width
      lies i y got none j lt =
          let there : head_in words' + i ≡ head_in s.words + i = ap (λ k. k + i) head in
          let none' : IsUnclaimed (set s.views id (with_value before next)) (head_in s.words + i) = subst (IsUnclaimed (set s.views id (with_value before next))) there none in
          let ne : H.base.ring.head + i ≢ p = λ e. none' id (with_value before next) v x (set_there s.views id before (with_value before next) mine) refl
          (subst (λ k. HasClaimed v.stage k x) (sym (ap (λ k. k + i) is ∙ e)) has_it) in
          let apart_slot : (head_in s.words + i) % z.slots ≢ at_place =
          subst (λ k. (k + i) % z.slots ≢ at_place) (sym is) (other_slot z s H id v ds (storing value part) os mine p x has_it i y got ne) in
          ap (λ (k : ℕ). part_at z words' k j) there
          ∙ (part_on z s H id v ds (storing value part) os mine at_place part n (head_in s.words + i) j near low lt (λ e. apart_slot e.0)
          ∙ H.values.lies i y got (unclaimed_before z s H id v ds (storing value part) os mine next (head_in s.words + i) none') j lt)

      hands : (j : ℕ) (o : PlacedView) (u : SeatView) → get_elem? (set s.views id (with_value before next)) j ≡ some o → o.plain ≡ seated u
          → Handles z words' H.values.said.items u o.hand
      hands j o u at plain = ⊎_elim
          (λ (e : (j ≡ id) × (with_value before next ≡ o)).
          let seat : v ≡ u = its_view v u (ap queue_view e.1 ∙ plain) in
          let owes = H.values.hands id before v mine refl in
          let here : Handles z words' H.values.said.items v next = (
            omega (arith, low),
            subst (λ hd. Owes hd H.values.said.items v value) (sym head) owes.1,
            λ q y has. puts_more q (one_claimed v.stage p q x y stands has) (owes.2 q y has),
          ) in
          subst (λ (y : SeatView × Hand). Handles z words' H.values.said.items y.0 y.1) (λ i. (seat i, ap (λ (b : PlacedView). b.hand) e.1 i)) here)
          (λ (e : (j ≢ id) × (get_elem? s.views j ≡ some o)).
          handles_on z s.words words' H.values.said.items u o.hand head
          (λ q y has i lt. part_on z s H id v ds (storing value part) os mine at_place part n q i near low lt
          (λ f. apart z s H id v ds (storing value part) os mine p x has_it j o u e.0 e.1 plain q y has f.0))
          (H.values.hands j o u e.1 plain))
          (at_set s.views id j (with_value before next) o at)

-- the words before and one more
read_more : (read value : List ℕ) (n : ℕ) → n ≡ get_or value (length read) 0 → ((j : ℕ) → j < length read → get_or read j 0 ≡ get_or value j 0)
    → (j : ℕ) → j < length (read ++ n ∷ []) → get_or (read ++ n ∷ []) j 0 ≡ get_or value j 0
read_more [] value n is same zero lt = is
read_more [] value n is same (suc j) lt = absurd (let g : suc j < 1 = lt in omega (arith, g))
read_more (w ∷ ws) [] n is same zero lt = same 0 (let g : 0 < suc (length ws) = omega arith in g)
read_more (w ∷ ws) (y ∷ ys) n is same zero lt = same 0 (let g : 0 < suc (length ws) = omega arith in g)
read_more (w ∷ ws) [] n is same (suc j) lt =
    read_more ws [] n is (λ k low. same (suc k) (let g : suc k < suc (length ws) = omega (arith, low) in g)) j (let g : suc j < suc (length (ws ++ n ∷ [])) = lt in omega (arith, g))
read_more (w ∷ ws) (y ∷ ys) n is same (suc j) lt =
    read_more ws ys n is (λ k low. same (suc k) (let g : suc k < suc (length ws) = omega (arith, low) in g)) j (let g : suc j < suc (length (ws ++ n ∷ [])) = lt in omega (arith, g))

-- a seat that found the word of its place loads the next word of the value there
module _ (z : Layout) (s : State ℕ PlacedView) (H : HoldsPlaced z s) (id : ℕ) (v : SeatView) (ds : List (Deed (List ℕ))) (hand : Hand) (os : List (List (Deed (List ℕ))))
    (mine : get_elem? s.views id ≡ some (record { plain = seated v; deeds = ds; hand = hand; others = os })) (word : ℕ)
    (stands : v.stage ≡ found (word ∷ [])) where
  abbrev its : PlacedView
  its = record { plain = seated v; deeds = ds; hand = hand; others = os }

  -- where Head is at its place, this is filled
  pub front_filled : v.head ≡ H.base.ring.head → (H.base.ring.head + 0 < H.base.ring.tail) × (H.base.ring.cells ((H.base.ring.head + 0) % z.slots) ≡ cell (H.base.ring.head + 0) None)
  front_filled e =
      let r = H.base.ring in
      let fits = it_fits z (queue_words (pairs_of z) s.words) H.base.seats r v (seat_of z s H id its v mine refl) in
      let filled : IsFilled z.slots r.tail r.log r.cells (r.head + 0) word = subst (λ (u : Stage). Stands z.slots r.head r.tail r.log r.cells v u) stands fits.stage e 0 word refl in
      (filled.0, filled.2)

  -- so nobody has it to fill
  pub front_unclaimed : v.head ≡ H.base.ring.head → IsUnclaimed s.views (H.base.ring.head + 0)
  front_unclaimed e j o u x at is has =
      none-some u.number (ap (λ (c : Cell). c.filler) (sym (front_filled e).1 ∙ cell_of z s H j o u (H.base.ring.head + 0) x at is has))

  module _ (read : List ℕ) (has_read : HasRead hand read) (low : length read < z.width) where
    abbrev part : ℕ
    part = length read

    abbrev found_part : ℕ
    found_part = part_at z s.words v.head part

    abbrev then_read : Hand
    then_read = loading (read ++ found_part ∷ [])

    same_words : set s.words (value_word z.slots (v.head % z.slots) part) found_part ≡ s.words
    same_words = set-get_or s.words (value_word z.slots (v.head % z.slots) part) 0

    -- what was loaded before begins the value in front, if Head is still at its place
    read_before : (front : Item (List ℕ)) → v.head ≡ head_in s.words → slice_get H.values.said.items 0 ≡ Some front → (j : ℕ) → j < length read → get_or read j 0 ≡ get_or front.value j 0
    read_before front e got = go read has_read
      where
        go : (ws : List ℕ) → HasRead hand ws → (j : ℕ) → j < length ws → get_or ws j 0 ≡ get_or front.value j 0
        go [] has j lt = absurd (let g : j < 0 = lt in omega (arith, g))
        go (y ∷ ys) has j lt =
            let k : Handles z s.words H.values.said.items v (loading (y ∷ ys)) = subst (Handles z s.words H.values.said.items v) has (H.values.hands id its v mine refl) in
            let t = k e in
            let same : t.0 ≡ front = same_Some t.0 front (sym t.1 ∙ got) in
            t.2 j lt ∙ ap (λ (x : Item (List ℕ)). get_or x.value j 0) same

    -- and so with the word that is loaded
    front_value : Handles z s.words H.values.said.items v then_read
    front_value e =
        let is = head_is z s H in
        let there : head_in s.words + 0 ≡ v.head = (let k : head_in s.words + 0 ≡ head_in s.words = omega arith in k ∙ sym e) in
        let lt = (front_filled (e ∙ is)).0 in
        let long = items_long z s H in
        let counted = H.base.ring.counted in
        let front : Item (List ℕ) = get_or H.values.said.items 0 (item 0 []) in
        let got : slice_get H.values.said.items 0 ≡ Some front = slice_get-get_or H.values.said.items 0 (item 0 []) (omega (arith, lt, long, counted)) in
        let this : found_part ≡ get_or front.value part 0 = ap (λ (k : ℕ). part_at z s.words k part) (sym there)
        ∙ H.values.lies 0 front got (subst (λ k. IsUnclaimed s.views (k + 0)) (sym is) (front_unclaimed (e ∙ is))) part low in
        (front, got, read_more read front.value found_part this (read_before front e got))

    pub loads_value : HoldsPlaced z record { words = set s.words (value_word z.slots (v.head % z.slots) part) found_part; homes = s.homes; views = set s.views id (with_value its then_read) }
    loads_value = goes_on z s H id v ds hand os mine (v.head % z.slots) part found_part then_read
        (λ i y got none. subst (λ (ws : List ℕ). HasPut z ws (head_in ws + i) y.value z.width) (sym same_words)
        (H.values.lies i y got (unclaimed_before z s H id v ds hand os mine then_read (head_in s.words + i)
        (subst (λ (ws : List ℕ). IsUnclaimed (set s.views id (with_value its then_read)) (head_in ws + i)) same_words none))))
        (λ j o u at plain. subst (λ (ws : List ℕ). Handles z ws H.values.said.items u o.hand) (sym same_words) (⊎_elim
        (λ (e : (j ≡ id) × (with_value its then_read ≡ o)).
        subst (λ (y : SeatView × Hand). Handles z s.words H.values.said.items y.0 y.1) (λ i. (its_view v u (ap queue_view e.1 ∙ plain) i, ap (λ (b : PlacedView). b.hand) e.1 i)) front_value)
        (λ (e : (j ≢ id) × (get_elem? s.views j ≡ some o)). H.values.hands j o u e.1 plain)
        (at_set s.views id j (with_value its then_read) o at)))
