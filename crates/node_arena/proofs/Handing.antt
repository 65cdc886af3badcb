-- A seat gets a slot by its flag, and gives it back: the rule holds, and nothing else that the seat knows changes.
use Rattle.std.proofs.Common.{◌≡◌, ◌≢◌, ℕ, suc, ◌+◌, ◌-◌, ◌*◌, ◌<◌, ◌≤◌, Bool, true, false, if◌then◌else◌, nat_lt, nat_eq, List, [], ◌∷◌, length}
use Rattle.std.proofs.Common.{zero, ◌++◌, append-nil, append_assoc, length-append, get_or, Option, None, sym, refl, ap, ◌∙◌, subst, arith}
use Rattle.std.proofs.Math.Logic.{∥∥₁_map}
use Rattle.std.proofs.lemmas.Bool.{ltb-true}
use Rattle.std.proofs.lemmas.List.{length-set}
use mathlib.Core.Option.{some, none, some-injective, some-ne-none}
use mathlib.Core.Option as maybe
use mathlib.Core.Logic.{dite}
use native.Mathlib.Decide.{ℕ_discrete}
use prog.Atomic.{either}
use Rattle.atomic_table.specs.Table.{State, Me, Act, keeps, takes, gives, Allows, carried_after, stepped, Valid}
use Rattle.atomic_table.specs.declared.shared.Seat.{Seat as Token}
use Rattle.atomic_table.proofs.Lists.{exchanged}
use Rattle.node_arena.specs.declared.seats.Seat.{Seat}
use Rattle.node_arena.specs.Arenas.{Arena}
use Rattle.node_arena.specs.Plans.{Layout, slots_of}
use Rattle.node_arena.specs.Prologues.{at_rest}
use Rattle.node_arena.specs.Knowledge.{SeatView, seated, knows}
use Rattle.node_arena.specs.Rule.{Fitted}
use Rattle.history.specs.Entries.{is_push, is_pop, is_shut}
use Rattle.std.specs.List.{count_by}
use Rattle.node_arena.specs.Slots.{Try}
use Rattle.node_arena.specs.Beside.{Beside, words_of, CarriedBy, HoldsFor, KnowsBy, KnowsNow, with_hand, with_tries, one_more_try, slots_in}
use Rattle.node_arena.specs.Seats.{IsSeat, IsReady, HasNoSlot, carries_of, view}
use Rattle.node_arena.specs.Hands.{HasSlot, KeepsKnown, KeepsTries, WasTaken, AllTaken, WereUp, HasTried, GotAt, IsMissed, hitting, tries_of, first_slot, next_slot}
use Rattle.node_arena.proofs.Paths.{then_stored}
use Rattle.node_arena.proofs.Lifts.{none_held, none_hand}
use Rattle.node_arena.proofs.Lifting.{HoldsBeside, handed, gets_beside, misses_beside, frees_beside}

-- what a try of the flag at a word tells: the slot is out with the seat, empty, or its flag was up; the seat has tried it
abbrev pub Tries : {T : Type 0} → Layout → (word : ℕ) → Me (Option T) (Beside T) → ℕ → Me (Option T) (Beside T) → Type 0
Tries z word me n me' = (n ≡ 0 → me' ≡ (handed me.0 (some (word - words_of z)) (one_more_try me.0 (word - words_of z) 0), (word - words_of z, None) ∷ []))
    × (n ≢ 0 → (me' ≡ (with_tries me.0 (one_more_try me.0 (word - words_of z) n), me.1)) × ∥ WasTaken z me.0 (word - words_of z) ∥₁)

-- what the store into a flag tells: no slot is out with the seat
abbrev pub Frees : {T : Type 0} → Me (Option T) (Beside T) → Me (Option T) (Beside T) → Type 0
Frees me me' = me' ≡ (with_hand me.0 none, [])

module _ {T : Type 0} (z : Layout) (carries : z.carries ≡ true) where
  beside : (s : State (Option T) (Beside T)) → HoldsFor z s → HoldsBeside z (words_of z) z.setup.size s
  beside s h = let c = subst (λ (b : Bool). CarriedBy b z h.base.trace.history s) carries h.values in record { base = h.base; rides = c.rides; known = c.known }

  long : (s : State (Option T) (Beside T)) → HoldsFor z s → words_of z + z.setup.size ≤ length s.words
  long s h = (subst (λ (b : Bool). CarriedBy b z h.base.trace.history s) carries h.values).long

  back : (s : State (Option T) (Beside T)) → HoldsBeside z (words_of z) z.setup.size s → words_of z + z.setup.size ≤ length s.words → HoldsFor z s
  back s h far = record { base = h.base; values = subst (λ (b : Bool). CarriedBy b z h.base.trace.history s) (sym carries) (record { rides = h.rides; known = h.known; long = far }) }

  gets : (id i : ℕ) (w : Beside T) → i < z.setup.size → w.hand ≡ none
      → Allows {S = Option T} (HoldsFor z) z.setup.size id (w, []) (words_of z + i) (λ n. either (nat_eq n 0) 1 n) (Tries z (words_of z + i) (w, []))
  gets id i w lt has_none s h count mine small =
      let m : ℕ = words_of z in
      let p : ℕ = m + i in
      let n : ℕ = get_or s.words p 0 in
      let is : i ≡ p - m = omega arith in
      let F : ℕ → Type 0 = λ k. (w' : Beside T) × (a : Act (Option T)) × Valid s.homes [] a × HoldsFor z (stepped s p k id [] w' a) × Tries z p (w, []) n (w', carried_after [] a) in
      exchanged n 0 1 F
      (λ down.
      let ts : List Try = one_more_try w i 0 in
      let got = gets_beside z m z.setup.size id w ts i lt has_none s (beside s h) count (long s h) mine down in (
        handed w (some i) ts,
        takes i None,
        got.0,
        back (stepped s p 1 id [] (handed w (some i) ts) (takes i None)) got.1 (subst (λ (k : ℕ). m + z.setup.size ≤ k) (sym (length-set s.words p 1)) (long s h)),
        (λ e. ap (λ (y : ℕ). (handed w (some y) (one_more_try w y 0), (y, None) ∷ [])) is, λ ne. absurd (ne down)),
      ))
      (λ ne.
      let ts : List Try = one_more_try w i n in (
        with_tries w ts,
        keeps,
        tt,
        back (stepped s p n id [] (with_tries w ts) keeps) (misses_beside z m z.setup.size id w ts i s (beside s h) mine)
            (subst (λ (k : ℕ). m + z.setup.size ≤ k) (sym (length-set s.words p n)) (long s h)),
        (
          λ e. absurd (ne e),
          λ e. (
            ap (λ (y : ℕ). (with_tries w (one_more_try w y n), [])) is,
            ∣ subst (WasTaken z w) is (record { state = s; holds = h; id = id; tries = w.tries; seat = mine; up = ne }) ∣₁,
          ),
        ),
      ))

  frees : (id k : ℕ) (w : Beside T) → k < z.setup.size → w.hand ≡ some k → Allows {S = Option T} (HoldsFor z) z.setup.size id (w, (k, None) ∷ [])
      (words_of z + k) (λ _. 0) (λ _ m. Frees (w, (k, None) ∷ []) m)
  frees id k w lt hand s h count mine small =
      let p : ℕ = words_of z + k in (
        with_hand w none,
        gives,
        tt,
        back (stepped s p 0 id ((k, None) ∷ []) (with_hand w none) gives) (frees_beside z (words_of z) z.setup.size id w k lt hand s
            (beside s h) count (long s h) mine) (subst (λ (n : ℕ). words_of z + z.setup.size ≤ n) (sym (length-set s.words p 0)) (long s h)),
        refl,
      )

-- the same at the names of a call
pub asks_try : {T : Type 0} (r : Arena) (s : Seat T) (slot word : ℕ) → IsSeat r s → carries_of r ≡ true → HasNoSlot s → slot < r.plan.setup.size → word ≡ 48 + 2 * r.plan.setup.size + slot
    → (s.token.table_id ≡ r.id) × (word < r.id.words) × Allows {S = Option T} (HoldsFor r.key) r.id.slots s.token.id s.token.me word (λ n. either (nat_eq n 0) 1 n) (Tries r.key word s.token.me)
asks_try {T} r s slot word is carries none_out lt at =
    let all : slots_of r.plan ≡ r.plan.setup.size = ap (λ (b : Bool). if b then r.plan.setup.size else 0) carries in
    let P : Layout × ℕ × Me (Option T) (Beside T) × ℕ → Type 0 = λ y. Allows {S = Option T} (HoldsFor y.0) y.1 s.token.id y.2 y.3 (λ n. either (nat_eq n 0) 1 n) (Tries y.0 y.3 y.2) in (
      is.sits.table,
      omega (arith, at, lt, all, is.arena.words),
      subst P (λ i. (sym is.arena.key i, sym (is.arena.slots ∙ all) i, (s.token.me.0, sym (none_held s.token.me.1 none_out.0) i), sym at i))
          (gets r.plan carries s.token.id slot s.token.me.0 lt (none_hand s.token.me.0.hand none_out.1)),
    )

pub asks_free : {T : Type 0} (r : Arena) (s : Seat T) (slot word : ℕ) → IsSeat r s → HasSlot r s slot None → word ≡ 48 + 2 * r.plan.setup.size + slot
    → (s.token.table_id ≡ r.id) × (word < r.id.words) × Allows {S = Option T} (HoldsFor r.key) r.id.slots s.token.id s.token.me word (λ _. 0) (λ _ m. Frees s.token.me m)
asks_free {T} r s slot word is has at =
    let all : slots_of r.plan ≡ r.plan.setup.size = ap (λ (b : Bool). if b then r.plan.setup.size else 0) has.carries in
    let P : Layout × ℕ × Me (Option T) (Beside T) × ℕ → Type 0 = λ y. Allows {S = Option T} (HoldsFor y.0) y.1 s.token.id y.2 y.3 (λ _. 0) (λ _ m. Frees y.2 m) in (
      is.sits.table,
      omega (arith, at, has.there, all, is.arena.words),
      subst P (λ i. (sym is.arena.key i, sym (is.arena.slots ∙ all) i, (s.token.me.0, sym has.out i), sym at i)) (frees r.plan has.carries s.token.id slot s.token.me.0 has.there has.hand),
    )

-- a seat with another slot, or none, and these tries, that stores and knows the same
module _ {T : Type 0} (r : Arena) (s : Seat T) (t : Token (Option T) (Beside T)) (h : maybe.Option ℕ) (ts : List Try) (is : IsSeat r s)
    (carries : carries_of r ≡ true) (here : t.table_id ≡ s.token.table_id) (same : t.me.0 ≡ handed s.token.me.0 h ts)
    (there : (i : ℕ) → h ≡ some i → i < r.plan.setup.size) where
  knows_same : knows t.me.0.plain ≡ view s
  knows_same = ap (λ (w : Beside T). knows w.plain) same

  no_case : {X : Type 0} → r.plan.carries ≡ false → X
  no_case e = absurd (true_false (sym carries ∙ e))
    where
      true_false : true ≡ false → ⊥
      true_false q = cc

  known : (b : Bool) → KnowsBy b r.plan (view s).seen s.token.me.0 → KnowsBy b r.plan (view s).seen (handed s.token.me.0 h ts)
  known true k = record { matches = k.matches; values = k.values; shut = k.shut; runs = k.runs; there = there }
  known false k = tt

  pub still_seat : IsSeat r (record s { token = t })
  still_seat =
      record {
        arena = is.arena;
        sits = record {
          table = here ∙ is.sits.table;
          seat = ap (λ (w : Beside T). w.plain) same ∙ (is.sits.seat ∙ ap seated (sym knows_same));
          none_out = λ e. no_case e;
          number = is.sits.number ∙ ap (λ (v : SeatView). v.number) (sym knows_same);
          role = is.sits.role;
          pushes = is.sits.pushes ∙ ap (λ (v : SeatView). count_by is_push v.mine) (sym knows_same);
          pops = is.sits.pops ∙ ap (λ (v : SeatView). count_by is_pop v.mine) (sym knows_same);
          shut = is.sits.shut ∙ ap (λ (v : SeatView). nat_lt 0 (count_by is_shut v.mine)) (sym knows_same);
          fitted = subst (λ (v : SeatView). ∥ Fitted r.plan v ∥₁) (sym knows_same) is.sits.fitted;
          valued = subst (λ (w : Beside T). ∥ KnowsNow r.plan w ∥₁) (sym same) (∥∥₁_map is.sits.valued (known r.plan.carries));
        };
      }

  pub still_ready : IsReady r s → IsReady r (record s { token = t })
  still_ready i =
      record {
        seat = still_seat;
        free = ap (λ (v : SeatView). (at_rest v.actor).line) knows_same ∙ i.free;
        pocket = i.pocket ∙ ap (λ (v : SeatView). (at_rest v.actor).pocket) (sym knows_same);
      }

  pub still_known : KeepsKnown s (record s { token = t })
  still_known = record { stored = record { number = refl; role = refl; keeps = refl; pocket = refl; failed = refl }; view = knows_same; deeds = ap (λ (w : Beside T). w.deeds) same }

-- what a try leaves, by whether the flag was down
module _ {T : Type 0} (r : Arena) (s : Seat T) (t : Token (Option T) (Beside T)) (slot word n : ℕ) (is : IsSeat r s) (carries : carries_of r ≡ true)
    (none_out : HasNoSlot s) (lt : slot < r.plan.setup.size) (at : word ≡ 48 + 2 * r.plan.setup.size + slot)
    (told : (t.table_id ≡ s.token.table_id) × (t.id ≡ s.token.id) × Tries r.key word s.token.me n t.me) where
  at_slot : word - words_of r.key ≡ slot
  at_slot = let same = ap (λ (z : Layout). words_of z) is.arena.key in omega (arith, same, at)

  no_hand : s.token.me.0.hand ≡ none
  no_hand = none_hand s.token.me.0.hand none_out.1

  -- the slot came out with the seat at its try
  abbrev Hit : Type 0
  Hit = HasSlot r (record s { token = t }) slot None × GotAt s (record s { token = t }) slot

  abbrev Left : Type 0
  Left = IsSeat r (record s { token = t }) × (IsReady r s → IsReady r (record s { token = t })) × KeepsKnown s (record s { token = t })
      × (n ≡ 0 → Hit) × (n ≢ 0 → IsMissed r s (record s { token = t }) slot)

  left_by : (h : maybe.Option ℕ) (ts : List Try) → t.me.0 ≡ handed s.token.me.0 h ts → ((i : ℕ) → h ≡ some i → i < r.plan.setup.size)
      → (n ≡ 0 → Hit) → (n ≢ 0 → IsMissed r s (record s { token = t }) slot) → Left
  left_by h ts same there hit miss = (
    still_seat r s t h ts is carries told.0 same there,
    still_ready r s t h ts is carries told.0 same there,
    still_known r s t h ts is carries told.0 same there,
    hit,
    miss,
  )

  pub tried : Left
  tried =
      dite (ℕ_discrete n 0)
      (λ down.
      let got = told.2.0 down in
      let now : t.me ≡ (handed s.token.me.0 (some slot) (one_more_try s.token.me.0 slot 0), (slot, None) ∷ []) = got ∙ ap
      (λ (y : ℕ). (handed s.token.me.0 (some y) (one_more_try s.token.me.0 y 0), (y, None) ∷ [])) at_slot in
      left_by (some slot) (one_more_try s.token.me.0 slot 0) (ap (λ y. y.0) now) (λ i e. subst (λ (k : ℕ). k < r.plan.setup.size) (some-injective slot i e) lt)
      (λ e. (record { carries = carries; there = lt; out = ap (λ y. y.1) now; hand = ap (λ y. y.0.hand) now }, ap (λ y. y.0.tries) now)) (λ ne. absurd (ne down)))
      (λ up.
      let missed = told.2.1 up in
      let now : t.me ≡ (with_tries s.token.me.0 (one_more_try s.token.me.0 slot n), s.token.me.1) = missed.0 ∙ ap
      (λ (y : ℕ). (with_tries s.token.me.0 (one_more_try s.token.me.0 y n), s.token.me.1)) at_slot in
      left_by none (one_more_try s.token.me.0 slot n)
      (ap (λ y. y.0) now ∙ ap (λ (h : maybe.Option ℕ). handed s.token.me.0 h (one_more_try s.token.me.0 slot n)) no_hand)
      (λ i e. absurd (some-ne-none i (sym e))) (λ e. absurd (up e))
      (λ ne. record {
        none = (ap (λ y. length y.1) now ∙ none_out.0, ap (λ y. slots_in y.0.hand) now ∙ none_out.1);
        found = n;
        up = ne;
        same = ap (λ y. y.0) now;
        taken = (let P : Layout × ℕ → Type 0 = λ y. ∥ WasTaken y.0 s.token.me.0 y.1 ∥₁ in subst P (λ i. (is.arena.key i, at_slot i)) missed.1);
      }))

-- what a slot that was given back leaves
module _ {T : Type 0} (r : Arena) (s : Seat T) (t : Token (Option T) (Beside T)) (slot : ℕ) (is : IsSeat r s) (has : HasSlot r s slot None)
    (told : (t.table_id ≡ s.token.table_id) × (t.id ≡ s.token.id) × Frees s.token.me t.me) where
  abbrev now_none : t.me.0 ≡ with_hand s.token.me.0 none
  now_none = ap (λ (y : Me (Option T) (Beside T)). y.0) told.2

  pub freed : IsSeat r (record s { token = t }) × (IsReady r s → IsReady r (record s { token = t })) × KeepsKnown s (record s { token = t }) × HasNoSlot (record s { token = t })
      × KeepsTries s (record s { token = t })
  freed =
      let there : (i : ℕ) → none ≡ some i → i < r.plan.setup.size = λ i e. absurd (some-ne-none i (sym e)) in (
        still_seat r s t none s.token.me.0.tries is has.carries told.0 now_none there,
        still_ready r s t none s.token.me.0.tries is has.carries told.0 now_none there,
        still_known r s t none s.token.me.0.tries is has.carries told.0 now_none there,
        (ap (λ y. length y.1) told.2, ap (λ y. slots_in y.0.hand) told.2),
        ap (λ y. y.0.tries) told.2,
      )

-- a slot that is tried first, or next, is one of the table's
pub slot_there : (slots node slot : ℕ) → 0 < slots → slot ≡ first_slot slots node → slot < slots
slot_there slots node slot some_there is = subst (λ (k : ℕ). k < slots) (sym is) (go (nat_lt node slots) refl)
  where
    go : (b : Bool) → nat_lt node slots ≡ b → (if b then node else 0) < slots
    go true e = ltb-true node slots e
    go false e = some_there

-- a seat keeps what it knows over two calls
pub then_known : {T : Type 0} (s t u : Seat T) → KeepsKnown s t → KeepsKnown t u → KeepsKnown s u
then_known s t u f g = record { stored = then_stored s t u f.stored g.stored; view = g.view ∙ f.view; deeds = g.deeds ∙ f.deeds }

-- it was taken whichever other ones the seat had tried
tried_before : {T : Type 0} (z : Layout) (w : Beside T) (ts : List Try) (slot : ℕ) → WasTaken z (with_tries w ts) slot → WasTaken z w slot
tried_before z w ts slot x = record { state = x.state; holds = x.holds; id = x.id; tries = x.tries; seat = x.seat; up = x.up }

-- one more slot was taken
pub one_more_taken : {T : Type 0} (z : Layout) (w w' : Beside T) (first slot next failed : ℕ) → w' ≡ with_tries w w'.tries → ∥ WasTaken z w' slot ∥₁
    → next ≡ next_slot z.setup.size slot → ((m : ℕ) → AllTaken z w slot m → AllTaken z w first (failed + m)) → (m : ℕ) → AllTaken z w next m
    → AllTaken z w first (failed + 1 + m)
one_more_taken z w w' first slot next failed same taken is before m all =
    let e : failed + suc m ≡ failed + 1 + m = omega arith in
    let so : ∥ WasTaken z w slot ∥₁ = ∥∥₁_map (subst (λ (x : Beside _). ∥ WasTaken z x slot ∥₁) same taken) (tried_before z w w'.tries slot) in
    subst (AllTaken z w first) e (before (suc m) (so, subst (λ (k : ℕ). AllTaken z w k m) is all))

-- a seat that knows the same after a try more
pub same_behind : {T : Type 0} (w x y : Beside T) (ts : List Try) → x ≡ with_tries w x.tries → y ≡ with_tries x ts → y ≡ with_tries w y.tries
same_behind w x y ts same is =
    let so : y ≡ with_tries w ts = is ∙ ap (λ (o : Beside _). with_tries o ts) same in
    so ∙ ap (with_tries w) (sym (ap (λ (o : Beside _). o.tries) is))

-- the slot so many behind another
abbrev pub slot_on : (slots slot count : ℕ) → ℕ
slot_on slots slot zero = slot
slot_on slots slot (suc k) = slot_on slots (next_slot slots slot) k

pub slot_next : (slots slot count : ℕ) → slot_on slots slot (suc count) ≡ next_slot slots (slot_on slots slot count)
slot_next slots slot zero = refl
slot_next slots slot (suc k) = slot_next slots (next_slot slots slot) k

-- slots that were up, and one more
up_more : (slots first : ℕ) (xs : List Try) (x : Try) → WereUp slots first xs → WereUp slots (slot_on slots first (length xs)) (x ∷ []) → WereUp slots first (xs ++ x ∷ [])
up_more slots first [] x h g = g
up_more slots first (y ∷ ys) x h g = (h.0, h.1, up_more slots (next_slot slots first) ys x h.2 g)

-- one try more, behind those that a seat had made
behind_tries : {T : Type 0} (s t u : Seat T) (missed : List Try) (x : Try) → tries_of t ≡ tries_of s ++ (missed ++ []) → tries_of u ≡ tries_of t ++ x ∷ []
    → tries_of u ≡ tries_of s ++ (missed ++ x ∷ [])
behind_tries s t u missed x before is =
    is ∙ (ap (λ es. es ++ x ∷ []) (before ∙ ap (λ es. tries_of s ++ es) (append-nil missed)) ∙ append_assoc (tries_of s) missed (x ∷ []))

-- one try more that missed
pub tried_more : {T : Type 0} (r : Arena) (s t u : Seat T) (first slot count : ℕ) → slot_on r.plan.setup.size first count ≡ slot → HasTried r.plan s t first count []
    → IsMissed r t u slot → HasTried r.plan s u first (count + 1) []
tried_more r s t u first slot count at h m =
    let x : Try = record { slot = slot; found = m.found } in
    let long = h.count in
    record {
      missed = h.missed ++ x ∷ [];
      count = length-append h.missed (x ∷ []) ∙ (let e : length h.missed + 1 ≡ count + 1 = omega (arith, long) in e);
      tried = behind_tries s t u h.missed x h.tried (ap (λ (o : Beside _). o.tries) m.same) ∙ ap (λ es. tries_of s ++ es) (sym (append-nil (h.missed ++ x ∷ [])));
      up = up_more r.plan.setup.size first h.missed x h.up (sym at ∙ ap (slot_on r.plan.setup.size first) (sym long), m.up, tt);
    }

-- and one that didn't
pub tried_last : {T : Type 0} (r : Arena) (s t u : Seat T) (first count slot : ℕ) → HasTried r.plan s t first count [] → GotAt t u slot → HasTried r.plan s u first count (hitting slot)
tried_last r s t u first count slot h e = record {
  missed = h.missed;
  count = h.count;
  tried = behind_tries s t u h.missed (record { slot = slot; found = 0 }) h.tried e;
  up = h.up;
}

-- no try
pub tried_none : {T : Type 0} (r : Arena) (s : Seat T) (first : ℕ) → HasTried r.plan s s first 0 []
tried_none r s first = record { missed = []; count = refl; tried = sym (append-nil (tries_of s)); up = tt }
