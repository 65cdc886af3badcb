-- The opening keeps the rule, and so does a seat that is dealt.
use Rattle.std.proofs.Common.{◌≡◌, ◌≢◌, ◌⊎◌, ℕ, ◌+◌, ◌*◌, ◌/◌, ◌%◌, ◌^◌, ◌<◌, Bool, false, List, [], ◌∷◌, ◌++◌, zero, suc, length, get_or, set}
use Rattle.std.proofs.Common.{Some, None, slice_get, sym, refl, ap, ◌∙◌, subst, ⊎_elim, inl, inr, arith}
use Rattle.std.proofs.Math.Arith.{digits_div, digits_mod}
use Rattle.std.proofs.lemmas.Option.{none-some}
use Rattle.std.proofs.lemmas.List.Elements.{All-nil}
use mathlib.Core.Option.{some, some-injective, some-ne-none}
use lib.ListN.{get_elem?}
use Rattle.atomic_table.specs.Table.{Splits, opening}
use Rattle.atomic_table.proofs.Lists.{at_set}
use Rattle.history.specs.declared.operations.Entry.{Entry}
use Rattle.history.specs.Seats.{IsNoted, IsPermitted, IsSound}
use Rattle.atomic_table.specs.Seated.{TableId}
use Rattle.ring_queue.specs.declared.roles.Role.{Role}
use Rattle.ring_queue.specs.declared.queue.RingQueue.{RingQueue}
use Rattle.ring_queue.specs.declared.seats.Seat.{Seat}
use Rattle.ring_queue.specs.NewRings.{IsFresh, AreFresh, HasSlots, IsMade, IsMadeFor, IsMadeOf}
use Rattle.ring_queue.specs.Words.{parity, slot_word}
use Rattle.ring_queue.specs.Plans.{Layout, IsPlanned, permits_of}
use Rattle.ring_queue.specs.Knowledge.{SeatView, View, keeper, seated, members, knowing, new_seat, known_by, dealt_left, dealt_right}
use Rattle.ring_queue.specs.Rule.{put, Ring, Run, Holds, first_view}
use Rattle.node_arena.proofs.KnownRuns.{one_of, there_kept}
use Rattle.node_arena.proofs.KnownRuns as known_runs
use Rattle.ring_queue.specs.Paths.{Step}
use Rattle.ring_queue.proofs.Runs.{run_none}
use Rattle.ring_queue.proofs.Puts.{put_here, put_else}
use Rattle.ring_queue.proofs.Keeps.{cell}
use Rattle.ring_queue.proofs.Puts.{got_snoc}
use Rattle.ring_queue.proofs.Tables.{HoldsWith}

pub at_end : {A : Type 0} (l : List A) (a b : A) (j : ℕ) → get_elem? (l ++ a ∷ []) j ≡ some b → (get_elem? l j ≡ some b) ⊎ ((j ≡ length l) × (a ≡ b))
at_end [] a b zero e = inr (refl, some-injective a b e)
at_end [] a b (suc j) e = absurd (some-ne-none b (sym e))
at_end (x ∷ xs) a b zero e = inl e
at_end (x ∷ xs) a b (suc j) e = ⊎_elim (λ t. inl t) (λ (t : (j ≡ length xs) × (a ≡ b)). inr (ap suc t.0, t.1)) (at_end xs a b j e)

none_at : {A : Type 0} {X : Type 0} (i : ℕ) (b : A) → get_elem? {A = A} [] i ≡ some b → X
none_at i b e = absurd (some-ne-none b (sym e))

lone : (u w : View) (j : ℕ) → get_elem? (u ∷ []) j ≡ some w → (j ≡ 0) × (u ≡ w)
lone u w zero e = (refl, some-injective u w e)
lone u w (suc j) e = none_at j w e

-- a place of the first lap is its own slot's, and of parity 0
first_slot : (m i : ℕ) → i < m → i % m ≡ i
first_slot m i lt = ap (λ x. x % m) (let e : i ≡ 0 * m + i = omega arith in e) ∙ digits_mod 0 {m = m} {r = i} lt

first_parity : (m i : ℕ) → i < m → parity m i ≡ 0
first_parity m i lt = ap (λ x. x % 2) (ap (λ x. x / m) (let e : i ≡ 0 * m + i = omega arith in e) ∙ digits_div 0 {m = m} {r = i} lt)

-- the words at the start are those of an empty ring, whose places of the first lap count as taken
pub first_ring : (z : Layout) (words : List ℕ) → IsPlanned z → length words ≡ 32 + 2 * z.slots → get_or words 0 0 ≡ z.slots → get_or words 16 0 ≡ z.slots
    → ((i : ℕ) → i < z.slots → get_or words (slot_word i) 0 ≡ 0) → Ring z words (new_seat z.slots)
first_ring z words planned wide tail head blank =
    let from = planned.from in
    record {
      planned = planned;
      head = z.slots;
      tail = z.slots;
      shut = false;
      values = [];
      history = [];
      log = λ p. None;
      cells = λ i. cell i None;
      wide = wide;
      tail_is = tail;
      head_is = head;
      leads = refl;
      taken = omega arith;
      permitted = All-nil (IsPermitted (permits_of z));
      counted = omega arith;
      roomy = omega arith;
      limited = omega (arith, from);
      logged = λ i v at. absurd (none-some v at);
      first_lap = λ p _. refl;
      in_order = λ i lt. absurd (omega (arith, lt));
      fits = λ p. tt;
      each_cell = λ i lt. record {
        slot = first_slot z.slots i lt;
        claimed = lt;
        last = omega arith;
        lies = blank i lt ∙ (let p = first_parity z.slots i lt in let e : 0 ≡ parity z.slots i * 2 ^ 63 + 0 = omega (arith, p) in e);
      };
      filling = λ i lt. tt;
      each_seat = λ n. record {
        number = refl;
        behind = omega arith;
        under = omega arith;
        rest = [];
        begins = refl;
        own = refl;
        known = refl;
        noted = All-nil (IsNoted []);
        stage = tt;
      };
    }

-- the rule holds of a new table, in which such words lie
pub opens : (z : Layout) (words : List ℕ) (ring : Ring z words (new_seat z.slots)) → (run : Run z words (new_seat z.slots) ring.history) → run.trace ≡ [] → Holds z (opening {S = ℕ} words [] (first_view z))
opens z words ring run none = record {
  seats = new_seat z.slots;
  ring = ring;
  run = run;
  dealt = 1;
  home = 0;
  owner = λ p. (0, 0);
  fits = λ j i u v a b. let q = lone (keeper z.slots 1) u j a in none_at i v (ap (λ (y : View). get_elem? (members y) i) q.1 ∙ b);
  owned = λ j i u v a b. let q = lone (keeper z.slots 1) u j a in none_at i v (ap (λ (y : View). get_elem? (members y) i) q.1 ∙ b);
  kept = λ j m n a. let q = lone (keeper z.slots 1) (keeper m n) j a in let f = q.1 in (q.0, cc, cc);
  undealt = λ n over. refl;
  there = λ n. inl (record { rest = []; begins = none; others = All-nil (λ (e : Step). e.by ≢ n) });
}

-- nothing was done in it
pub opened : (z : Layout) (words : List ℕ) → IsPlanned z → length words ≡ 32 + 2 * z.slots → get_or words 0 0 ≡ z.slots → get_or words 16 0 ≡ z.slots
    → ((i : ℕ) → i < z.slots → get_or words (slot_word i) 0 ≡ 0) → (h : Holds z (opening {S = ℕ} words [] (first_view z))) × (h.ring.history ≡ [])
unfolding opens first_ring
opened z words planned wide tail head blank =
    let run = run_none z words (new_seat z.slots) (record { wide = wide; tail = tail; head = head; blank = blank }) (λ n. refl) (λ n. refl) in
    (opens z words (first_ring z words planned wide tail head blank) run.0 run.1, refl)

-- a seat is dealt
pub deals : (z : Layout) (es : List Entry) (id n : ℕ) → Splits {S = ℕ} (HoldsWith z es) id (keeper z.slots n) (dealt_left (keeper z.slots n)) (dealt_right (keeper z.slots n))
deals z es id n s whole mine =
    let h : Holds z s = whole.0 in
    let k = h.kept id z.slots n mine in
    let dealt : n ≡ h.dealt = k.1 in
    let l : ℕ = length (set s.views id (keeper z.slots (n + 1))) in
    let own : ℕ → ℕ × ℕ = put h.owner n (l, 0) in
    let P : ℕ → ℕ → SeatView → Type 0 = λ j i o. (h.seats o.number ≡ o) × (own o.number ≡ (j, i)) × (o.number < n + 1) in
    let new : P l 0 (new_seat z.slots n) = (h.undealt n (omega (arith, dealt)), put_here h.owner n n (l, 0) refl, omega arith) in
    let old : (j i : ℕ) (u : View) (o : SeatView) → get_elem? s.views j ≡ some u → get_elem? (members u) i ≡ some o → P j i o = λ j i u o a b.
    let t = h.owned j i u o a b in
    let lt : o.number < n = let x = t.1 in omega (arith, x, dealt) in
    (h.fits j i u o a b, put_else h.owner n o.number (l, 0) (λ e. omega (arith, e, lt)) ∙ t.0, omega (arith, lt)) in
    let all : (j i : ℕ) (u : View) (o : SeatView) → get_elem? (set s.views id (keeper z.slots (n + 1)) ++ seated (new_seat z.slots n) ∷ []) j ≡ some u
    → get_elem? (members u) i ≡ some o → P j i o = λ j i u o a b.
    ⊎_elim
    (λ (t : get_elem? (set s.views id (keeper z.slots (n + 1))) j ≡ some u).
    ⊎_elim (λ (q : (j ≡ id) × (keeper z.slots (n + 1) ≡ u)). none_at i o (ap (λ (y : View). get_elem? (members y) i) q.1 ∙ b))
    (λ (q : (j ≢ id) × (get_elem? s.views j ≡ some u)). old j i u o q.1 b)
    (at_set s.views id j (keeper z.slots (n + 1)) u t))
    (λ (t : (j ≡ l) × (seated (new_seat z.slots n) ≡ u)). let q = one_of (new_seat z.slots n) o i (ap (λ (y : View). get_elem? (members y) i) t.1 ∙ b)
    in subst (λ (y : ℕ × ℕ × SeatView). P y.0 y.1 y.2) (λ c. (sym t.0 c, sym q.0 c, q.1 c)) new)
    (at_end (set s.views id (keeper z.slots (n + 1))) (seated (new_seat z.slots n)) u j a) in (
      record {
        seats = h.seats;
        ring = h.ring;
        run = h.run;
        dealt = n + 1;
        home = h.home;
        owner = own;
        fits = λ j i u o a b. (all j i u o a b).0;
        owned = λ j i u o a b. let t = all j i u o a b in (t.1, t.2);
        kept = λ j p m a. ⊎_elim
            (λ (t : get_elem? (set s.views id (keeper z.slots (n + 1))) j ≡ some (keeper p m)).
            ⊎_elim (λ (q : (j ≡ id) × (keeper z.slots (n + 1) ≡ keeper p m)). let e = q.1 in (q.0 ∙ k.0, cc, cc))
            (λ (q : (j ≢ id) × (get_elem? s.views j ≡ some (keeper p m))). absurd (q.0 ((h.kept j p m q.1).0 ∙ sym k.0)))
            (at_set s.views id j (keeper z.slots (n + 1)) (keeper p m) t))
            (λ (t : (j ≡ l) × (seated (new_seat z.slots n) ≡ keeper p m)). let e = t.1 in cc)
            (at_end (set s.views id (keeper z.slots (n + 1))) (seated (new_seat z.slots n)) (keeper p m) j a);
        undealt = λ p over. h.undealt p (omega (arith, over, dealt));
        there = λ p. there_kept knowing s.views (set s.views id (keeper z.slots (n + 1)) ++ seated (new_seat z.slots n) ∷ []) h.run.trace
            (known_runs.deals knowing s.views id (keeper z.slots n) (keeper z.slots (n + 1)) (seated (new_seat z.slots n)) mine refl) p (h.there p);
      },
      whole.1,
    )

-- what a new seat knows is sound
pub new_is_sound : (z : Layout) (n : ℕ) → IsSound (permits_of z) (known_by (new_seat z.slots n))
new_is_sound z n = record { legal = (_, refl); permitted = All-nil (IsPermitted (permits_of z)); own = refl; noted = All-nil (IsNoted []) }

-- a seat more that was just dealt
pub one_more : {T : Type 0} (z : Layout) (t : TableId) (xs : List (Seat T)) (n : ℕ) (s : Seat T) → length xs ≡ n → AreFresh z t xs → IsFresh z t (n + 1) s → AreFresh z t (xs ++ s ∷ [])
one_more {T} z t xs n s len all new k y got = ⊎_elim (λ (h : slice_get xs k ≡ Some y). all k y h)
    (λ (h : (k ≡ length xs) × (s ≡ y)). subst (λ (q : ℕ × (Seat T)). IsFresh z t (q.0 + 1) q.1) (λ i. (sym (h.0 ∙ len) i, h.1 i)) new)
    (got_snoc xs s y k got)

-- what is built of a plan is a ring of its sizes
pub made : {T : Type 0} (carries placed : Bool) (width most limit slots : ℕ) (roles copied : List Role) (q : RingQueue T) (seats : List (Seat T)) → copied ≡ roles → HasSlots carries most roles slots
    → q.plan ≡ record { slots = slots; most = most; limit = limit; roles = copied; carries = carries; placed = placed; width = width } → length seats ≡ length copied
    → AreFresh record { slots = slots; most = most; limit = limit; roles = copied; carries = carries; placed = placed; width = width } q.table.shared.table_id
    seats → IsMadeOf carries placed width most limit roles q seats
made carries placed width most limit slots roles copied q seats same has is count dealt_all =
    record {
      full_at = ap (λ (z : Layout). z.most) is;
      goes_to = ap (λ (z : Layout). z.limit) is;
      deals = ap (λ (z : Layout). z.roles) is ∙ same;
      values = ap (λ (z : Layout). z.carries) is;
      words = ap (λ (z : Layout). z.placed) is;
      width = ap (λ (z : Layout). z.width) is;
      slots = subst (HasSlots carries most roles) (sym (ap (λ (z : Layout). z.slots) is)) has;
      count = count ∙ ap length same;
      each = subst (λ (z : Layout). AreFresh z q.table.shared.table_id seats) (sym is) dealt_all;
    }

-- one whose values aren't words in their places
pub made_for : {T : Type 0} (carries : Bool) (most limit : ℕ) (roles : List Role) (q : RingQueue T) (seats : List (Seat T))
    → IsMadeOf carries false 0 most limit roles q seats → IsMadeFor carries most limit roles q seats
made_for carries most limit roles q seats m = record {
  full_at = m.full_at;
  goes_to = m.goes_to;
  deals = m.deals;
  values = m.values;
  slots = m.slots;
  count = m.count;
  each = λ k s got. let d = m.each k s got in
      record { ready = record { sits = d.ready.sits; rests = d.ready.rests; unplaced = m.words }; view = d.view; none_done = d.none_done; none_out = d.none_out; near = d.near };
}

-- one that carries no values is a ring of numbers
pub made_numbers : {T : Type 0} (most limit : ℕ) (roles : List Role) (q : RingQueue T) (seats : List (Seat T))
    → IsMadeFor false most limit roles q seats → IsMade most limit roles q seats
made_numbers most limit roles q seats m = record {
  full_at = m.full_at;
  goes_to = m.goes_to;
  deals = m.deals;
  numbers = m.values;
  slots = m.slots;
  count = m.count;
  each = λ k s got. let d = m.each k s got in record { ready = record { numbers = m.values; ready = d.ready }; view = d.view };
}
