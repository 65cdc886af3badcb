-- A seat gets a slot by its flag, and gives it back: the rule holds, and nothing else that the seat knows changes.
use Rattle.std.proofs.Common.{zero, ◌++◌, append-nil, append_assoc, length-append, ◌≡◌, ◌≢◌, ℕ, suc, ◌+◌, ◌-◌, ◌%◌, ◌<◌, Bool, true, false, if◌then◌else◌, nat_eq, List, [], ◌∷◌, length, get_or, Option, None, sym, refl, ap, ◌∙◌, subst, arith}
use Rattle.std.proofs.Math.Logic.{∥∥₁_map}
use mathlib.Core.Bool.{true≢false}
use mathlib.Core.Option.{some, none, some-injective, some-ne-none}
use mathlib.Core.Option as maybe
use mathlib.Core.Logic.{dite}
use native.Mathlib.Decide.{ℕ_discrete}
use prog.Atomic.{either}
use Rattle.atomic_table.specs.Table.{State, Me, Act, keeps, takes, gives, Allows, carried_after, stepped, Valid}
use Rattle.atomic_table.specs.Seated.{TableId}
use Rattle.atomic_table.specs.declared.shared.Seat.{Seat as Token}
use Rattle.atomic_table.proofs.Lists.{exchanged}
use Rattle.history.specs.Seats.{IsSound}
use Rattle.node_arena.specs.Beside.{slots_in}
use Rattle.node_arena.proofs.Lifts.{none_held, none_hand}
use Rattle.ring_queue.specs.declared.seats.Seat.{Seat}
use Rattle.ring_queue.specs.Plans.{Layout, IsTable, words_of, slots_of, permits_of}
use Rattle.ring_queue.specs.Knowledge.{SeatView, seated, knows, known_by}
use Rattle.ring_queue.specs.Paths.{Try}
use Rattle.ring_queue.specs.Steps.{Rests}
use Rattle.ring_queue.specs.Beside.{Beside, CarriedBy, HoldsAs, HoldsValues, HoldsBy, KnowsBy, KnowsNow, SaidBy, with_hand, with_try}
use Rattle.ring_queue.specs.Seats.{IsReady, HasNoSlot, view}
use Rattle.ring_queue.specs.Hands.{HasSlot, KeepsKnown, WasTaken, AllTaken, IsMissed, WereUp, HasTried, tries_of}
use Rattle.ring_queue.proofs.PlacedKinds.{slotted, not_placed}
use Rattle.ring_queue.proofs.Carrying.{gets_slot, misses_slot, frees_slot}

-- what a try of the flag at a word tells: the slot is out with the seat, empty, or its flag was up
abbrev pub Tries : {T : Type 0} → Layout → (word : ℕ) → Me (Option T) (Beside T) → ℕ → Me (Option T) (Beside T) → Type 0
Tries z word me n me' = (n ≡ 0 → me' ≡ (with_try me.0 (some (word - words_of z)) (word - words_of z) 0, (word - words_of z, None) ∷ []))
    × (n ≢ 0 → (me' ≡ (with_try me.0 me.0.hand (word - words_of z) n, me.1)) × ∥ WasTaken z me.0 (word - words_of z) ∥₁)

-- what the store into a flag tells: no slot is out with the seat
abbrev pub Frees : {T : Type 0} → Me (Option T) (Beside T) → Me (Option T) (Beside T) → Type 0
Frees me me' = me' ≡ (with_hand me.0 none, [])

module _ {T : Type 0} (z : Layout) (carries : z.carries ≡ true) where
  inside : (s : State (Option T) (Beside T)) → HoldsBy z s → HoldsValues z s
  inside s k = let h = slotted z carries s k in record { base = h.base; values = subst (λ (b : Bool). CarriedBy b z h.base.ring.history s) carries h.values }

  back : (s : State (Option T) (Beside T)) → HoldsValues z s → HoldsBy z s
  back s h = subst (λ (b : Bool). HoldsAs b z s) (sym (not_placed z carries h.base.ring.planned))
      (record { base = h.base; values = subst (λ (b : Bool). CarriedBy b z h.base.ring.history s) (sym carries) h.values })

  gets : (id i : ℕ) (w : Beside T) → i < z.slots → w.hand ≡ none → Allows {S = Option T} (HoldsBy z) z.slots id (w, []) (words_of z + i) (λ n. either (nat_eq n 0) 1 n) (Tries z (words_of z + i) (w, []))
  gets id i w lt empty s h count mine small =
      let m : ℕ = words_of z in
      let p : ℕ = m + i in
      let n : ℕ = get_or s.words p 0 in
      let is : i ≡ p - m = omega arith in
      let F : ℕ → Type 0 = λ k. (w' : Beside T) × (a : Act (Option T)) × Valid s.homes [] a × HoldsBy z (stepped s p k id [] w' a) × Tries z p (w, []) n (w', carried_after [] a) in
      exchanged n 0 1 F
      (λ down.
      let got = gets_slot z id w (w.tries ++ record { slot = i; found = 0 } ∷ []) i lt empty s (inside s h) count mine down in (
        with_try w (some i) i 0,
        takes i None,
        got.0,
        back (stepped s p 1 id [] (with_try w (some i) i 0) (takes i None)) got.1,
        (λ e. ap (λ (y : ℕ). (with_try w (some y) y 0, (y, None) ∷ [])) is, λ ne. absurd (ne down)),
      ))
      (λ ne. (
        with_try w w.hand i n,
        keeps,
        tt,
        back (stepped s p n id [] (with_try w w.hand i n) keeps) (misses_slot z id w (w.tries ++ record { slot = i; found = n } ∷ []) i s (inside s h) mine),
        (λ e. absurd (ne e), λ e. (ap (λ (y : ℕ). (with_try w w.hand y n, [])) is, ∣ subst (WasTaken z w) is (record { state = s; holds = h; id = id; its = w; seat = mine; same = refl; up = ne }) ∣₁)),
      ))

  frees : (id k : ℕ) (w : Beside T) → k < z.slots → w.hand ≡ some k → Allows {S = Option T} (HoldsBy z) z.slots id (w, (k, None) ∷ []) (words_of z + k) (λ _. 0) (λ _ m. Frees (w, (k, None) ∷ []) m)
  frees id k w lt hand s h count mine small =
      let p : ℕ = words_of z + k in
      (with_hand w none, gives, tt, back (stepped s p 0 id ((k, None) ∷ []) (with_hand w none) gives) (frees_slot z id w k lt hand s (inside s h) count mine), refl)

-- the same at the names of a call
module _ {T : Type 0} (z about : Layout) (t : TableId) (s : Seat T) (slot word : ℕ) (laid : IsTable z about t) (is : IsReady z t s) where
  all_slots : z.carries ≡ true → t.slots ≡ z.slots
  all_slots carries = laid.slots ∙ ap (λ (b : Bool). if b then z.slots else 0) carries

  pub asks_try : z.carries ≡ true → HasNoSlot s → slot < z.slots → word ≡ words_of z + slot
      → (s.token.table_id ≡ t) × (word < t.words) × Allows {S = Option T} (HoldsBy about) t.slots s.token.id s.token.me word (λ n. either (nat_eq n 0) 1 n) (Tries about word s.token.me)
  asks_try carries none_out lt at =
      let all : slots_of z ≡ z.slots = ap (λ (b : Bool). if b then z.slots else 0) carries in
      let words = laid.words in
      let P : Layout × ℕ × Me (Option T) (Beside T) × ℕ → Type 0 = λ y. Allows {S = Option T} (HoldsBy y.0) y.1 s.token.id y.2 y.3 (λ n. either (nat_eq n 0) 1 n) (Tries y.0 y.3 y.2) in (
        is.sits.table,
        omega (arith, at, lt, all, words),
        subst P (λ i. (sym laid.key i, sym (all_slots carries) i, (s.token.me.0, sym (none_held s.token.me.1 none_out.0) i), sym at i)) (gets z carries s.token.id slot s.token.me.0 lt (none_hand s.token.me.0.hand none_out.1)),
      )

  pub asks_free : HasSlot z s slot None → word ≡ words_of z + slot
      → (s.token.table_id ≡ t) × (word < t.words) × Allows {S = Option T} (HoldsBy about) t.slots s.token.id s.token.me word (λ _. 0) (λ _ m. Frees s.token.me m)
  asks_free has at =
      let all : slots_of z ≡ z.slots = ap (λ (b : Bool). if b then z.slots else 0) has.carries in
      let words = laid.words in
      let there = has.there in
      let P : Layout × ℕ × Me (Option T) (Beside T) × ℕ → Type 0 = λ y. Allows {S = Option T} (HoldsBy y.0) y.1 s.token.id y.2 y.3 (λ _. 0) (λ _ m. Frees y.2 m) in (
        is.sits.table,
        omega (arith, at, there, all, words),
        subst P (λ i. (sym laid.key i, sym (all_slots has.carries) i, (s.token.me.0, sym has.out i), sym at i)) (frees z has.carries s.token.id slot s.token.me.0 there has.hand),
      )

-- a seat with this slot, or none, and these tries
abbrev handed : {T : Type 0} → Beside T → maybe.Option ℕ → List Try → Beside T
handed w h ts = record { plain = w.plain; deeds = w.deeds; hand = h; others = w.others; tries = ts; placing = w.placing }

-- a seat with another slot, or none, that stores and knows the same
module _ {T : Type 0} (z : Layout) (t : TableId) (s : Seat T) (k : Token (Option T) (Beside T)) (h : maybe.Option ℕ) (ts : List Try) (is : IsReady z t s)
    (carries : z.carries ≡ true) (here : k.table_id ≡ s.token.table_id) (same : k.me.0 ≡ handed s.token.me.0 h ts)
    (there : (i : ℕ) → h ≡ some i → i < z.slots) where
  knows_same : knows k.me.0.plain ≡ view s
  knows_same = ap (λ (w : Beside T). knows w.plain) same

  known : (b : Bool) → KnowsBy b z (view s).seen s.token.me.0 → KnowsBy b z (view s).seen (handed s.token.me.0 h ts)
  known true o = record { matches = o.matches; values = o.values; shut = o.shut; runs = o.runs; there = there }
  known false o = said z.placed o
    where
      said : (c : Bool) → SaidBy c (view s).seen s.token.me.0 → SaidBy c (view s).seen (handed s.token.me.0 h ts)
      said true o = record { matches = o.matches; values = o.values; shut = o.shut; runs = o.runs }
      said false o = tt

  pub still_ready : IsReady z t (record s { token = k })
  still_ready =
      let sits = is.sits in
      record {
        sits = record {
          table = here ∙ sits.table;
          seat = ap (λ (w : Beside T). w.plain) same ∙ (sits.seat ∙ ap seated (sym knows_same));
          none_out = λ e. absurd (true≢false (sym carries ∙ e));
          number = sits.number ∙ ap (λ (v : SeatView). v.number) (sym knows_same);
          from = sits.from;
          role = sits.role;
          head = sits.head ∙ ap (λ (v : SeatView). v.head) (sym knows_same);
          below = sits.below;
          tail = sits.tail ∙ ap (λ (v : SeatView). v.tail) (sym knows_same);
          tail_below = sits.tail_below;
          sound = subst (λ (v : SeatView). IsSound (permits_of z) (known_by v)) (sym knows_same) sits.sound;
          valued = subst (λ (w : Beside T). ∥ KnowsNow z.carries z w ∥₁) (sym same) (∥∥₁_map sits.valued (known z.carries));
        };
        rests = subst (λ (v : SeatView). Rests v.stage) (sym knows_same) is.rests;
        unplaced = is.unplaced;
      }

  pub still_known : KeepsKnown s (record s { token = k })
  still_known = record { number = refl; role = refl; head = refl; tail = refl; view = knows_same; deeds = ap (λ (w : Beside T). w.deeds) same }

-- what a try leaves, by whether the flag was down
module _ {T : Type 0} (z about : Layout) (t : TableId) (s : Seat T) (k : Token (Option T) (Beside T)) (slot word n : ℕ) (key : about ≡ z)
    (is : IsReady z t s) (carries : z.carries ≡ true) (none_out : HasNoSlot s) (lt : slot < z.slots) (at : word ≡ words_of z + slot)
    (told : (k.table_id ≡ s.token.table_id) × (k.id ≡ s.token.id) × Tries about word s.token.me n k.me) where
  at_slot : word - words_of about ≡ slot
  at_slot = let same = ap (λ (y : Layout). words_of y) key in omega (arith, same, at)

  no_hand : s.token.me.0.hand ≡ none
  no_hand = none_hand s.token.me.0.hand none_out.1

  abbrev Left : Type 0
  Left = IsReady z t (record s { token = k }) × KeepsKnown s (record s { token = k }) × (n ≡ 0 → HasSlot z (record s { token = k }) slot None × (k.me.0.tries ≡ s.token.me.0.tries ++ record { slot = slot; found = 0 } ∷ [])) × (n ≢ 0 → IsMissed z s (record s { token = k }) slot)

  left_by : (h : maybe.Option ℕ) (ts : List Try) → k.me.0 ≡ handed s.token.me.0 h ts → ((i : ℕ) → h ≡ some i → i < z.slots)
      → (n ≡ 0 → HasSlot z (record s { token = k }) slot None × (k.me.0.tries ≡ s.token.me.0.tries ++ record { slot = slot; found = 0 } ∷ [])) → (n ≢ 0 → IsMissed z s (record s { token = k }) slot) → Left
  left_by h ts same there hit miss = (still_ready z t s k h ts is carries told.0 same there, still_known z t s k h ts is carries told.0 same there, hit, miss)

  pub tried : Left
  tried =
      dite (ℕ_discrete n 0)
      (λ down.
      let got = told.2.0 down in
      let now : k.me ≡ (with_try s.token.me.0 (some slot) slot 0, (slot, None) ∷ []) = got ∙ ap (λ (y : ℕ). (with_try s.token.me.0 (some y) y 0, (y, None) ∷ [])) at_slot in
      left_by (some slot) (s.token.me.0.tries ++ record { slot = slot; found = 0 } ∷ []) (ap (λ y. y.0) now) (λ i e. subst (λ (m : ℕ). m < z.slots) (some-injective slot i e) lt)
      (λ e. (record { carries = carries; there = lt; out = ap (λ y. y.1) now; hand = ap (λ y. y.0.hand) now }, ap (λ y. y.0.tries) now)) (λ ne. absurd (ne down)))
      (λ up.
      let missed = told.2.1 up in
      let now : k.me ≡ (with_try s.token.me.0 s.token.me.0.hand slot n, s.token.me.1) = missed.0 ∙ ap (λ (y : ℕ). (with_try s.token.me.0 s.token.me.0.hand y n, s.token.me.1)) at_slot in
      left_by none (s.token.me.0.tries ++ record { slot = slot; found = n } ∷ []) (ap (λ y. y.0) now ∙ ap (λ (h : maybe.Option ℕ). with_try s.token.me.0 h slot n) no_hand) (λ i e. absurd (some-ne-none i (sym e))) (λ e. absurd (up e))
      (λ ne. record {
        none = (ap (λ y. length y.1) now ∙ none_out.0, ap (λ y. slots_in y.0.hand) now ∙ none_out.1);
        same = ap (λ y. y.0.plain) now;
        found = n;
        up = ne;
        tried = ap (λ y. y.0.tries) now;
        taken = (let P : Layout × ℕ → Type 0 = λ y. ∥ WasTaken y.0 s.token.me.0 y.1 ∥₁ in subst P (λ i. (key i, at_slot i)) missed.1);
      }))

-- what a slot that was given back leaves
module _ {T : Type 0} (z : Layout) (t : TableId) (s : Seat T) (k : Token (Option T) (Beside T)) (slot : ℕ) (is : IsReady z t s)
    (has : HasSlot z s slot None) (told : (k.table_id ≡ s.token.table_id) × (k.id ≡ s.token.id) × Frees s.token.me k.me) where
  abbrev now_none : k.me.0 ≡ with_hand s.token.me.0 none
  now_none = ap (λ (y : Me (Option T) (Beside T)). y.0) told.2

  pub freed : IsReady z t (record s { token = k }) × KeepsKnown s (record s { token = k }) × HasNoSlot (record s { token = k })
  freed =
      let there : (i : ℕ) → none ≡ some i → i < z.slots = λ i e. absurd (some-ne-none i (sym e)) in (
        still_ready z t s k none s.token.me.0.tries is has.carries told.0 now_none there,
        still_known z t s k none s.token.me.0.tries is has.carries told.0 now_none there,
        (ap (λ y. length y.1) told.2, ap (λ y. slots_in y.0.hand) told.2),
      )

-- a seat keeps what it knows over two calls
pub then_known : {T : Type 0} (s t u : Seat T) → KeepsKnown s t → KeepsKnown t u → KeepsKnown s u
then_known s t u f g = record { number = g.number ∙ f.number; role = g.role ∙ f.role; head = g.head ∙ f.head; tail = g.tail ∙ f.tail; view = g.view ∙ f.view; deeds = g.deeds ∙ f.deeds }

-- one more slot was taken
pub one_more_taken : {T : Type 0} (z : Layout) (w w' : Beside T) (first slot next failed : ℕ) → w'.plain ≡ w.plain → ∥ WasTaken z w' slot ∥₁
    → next ≡ (slot + 1) % z.slots → ((m : ℕ) → AllTaken z w slot m → AllTaken z w first (failed + m)) → (m : ℕ) → AllTaken z w next m
    → AllTaken z w first (failed + 1 + m)
one_more_taken z w w' first slot next failed same taken is before m all =
    let e : failed + suc m ≡ failed + 1 + m = omega arith in
    subst (AllTaken z w first) e (before (suc m) (∥∥₁_map taken (λ (x : WasTaken z w' slot). let y : WasTaken z w slot = record { state = x.state; holds = x.holds; id = x.id; its = x.its; seat = x.seat; same = x.same ∙ same; up = x.up } in y), subst (λ (k : ℕ). AllTaken z w k m) is all))

-- the slot so many behind another
abbrev pub slot_on : Layout → (slot count : ℕ) → ℕ
slot_on z slot zero = slot
slot_on z slot (suc k) = slot_on z ((slot + 1) % z.slots) k

-- slots that were up, and one more
up_more : (z : Layout) (first : ℕ) (xs : List Try) (x : Try) → WereUp z first xs → WereUp z (slot_on z first (length xs)) (x ∷ []) → WereUp z first (xs ++ x ∷ [])
up_more z first [] x h g = g
up_more z first (y ∷ ys) x h g = (h.0, h.1, up_more z ((first + 1) % z.slots) ys x h.2 g)

pub slot_next : (z : Layout) (slot count : ℕ) → slot_on z slot (suc count) ≡ (slot_on z slot count + 1) % z.slots
slot_next z slot zero = refl
slot_next z slot (suc k) = slot_next z ((slot + 1) % z.slots) k

-- one try more that missed
pub tried_more : {T : Type 0} (z : Layout) (s t u : Seat T) (first slot count : ℕ) → slot_on z first count ≡ slot → HasTried z s t first count [] → IsMissed z t u slot → HasTried z s u first (count + 1) []
tried_more z s t u first slot count at h m =
    let x : Try = record { slot = slot; found = m.found } in
    let long = h.count in
    record {
      missed = h.missed ++ x ∷ [];
      count = length-append h.missed (x ∷ []) ∙ (let e : length h.missed + 1 ≡ count + 1 = omega (arith, long) in e);
      tried = m.tried ∙ (ap (λ es. es ++ x ∷ []) (h.tried ∙ ap (λ es. tries_of s ++ es) (append-nil h.missed)) ∙ (append_assoc (tries_of s) h.missed (x ∷ []) ∙ ap (λ es. tries_of s ++ es) (sym (append-nil (h.missed ++ x ∷ [])))));
      up = up_more z first h.missed x h.up (sym at ∙ ap (slot_on z first) (sym long), m.up, tt);
    }

-- and one that didn't
pub tried_last : {T : Type 0} (z : Layout) (s t u : Seat T) (first count : ℕ) (x : Try) → HasTried z s t first count [] → tries_of u ≡ tries_of t ++ x ∷ [] → HasTried z s u first count (x ∷ [])
tried_last z s t u first count x h e = record {
  missed = h.missed;
  count = h.count;
  tried = e ∙ (ap (λ es. es ++ x ∷ []) (h.tried ∙ ap (λ es. tries_of s ++ es) (append-nil h.missed)) ∙ append_assoc (tries_of s) h.missed (x ∷ []));
  up = h.up;
}

pub tried_none : {T : Type 0} (z : Layout) (s : Seat T) (first : ℕ) → HasTried z s s first 0 []
tried_none z s first = record { missed = []; count = refl; tried = sym (append-nil (tries_of s)); up = tt }
