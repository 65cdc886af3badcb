-- The opening keeps the rule, and so does a seat that is dealt.
use Rattle.std.proofs.Common.{Bool, true, false, take, get_or, ◌≡◌, ◌≢◌, ◌⊎◌, ℕ, ◌+◌, ◌-◌, ◌*◌, ◌<◌, ◌≤◌, if◌then◌else◌, List, [], ◌∷◌, ◌++◌, zero}
use Rattle.std.proofs.Common.{suc, length, replicate, set, sym, refl, ap, ◌∙◌, subst, ⊎_elim, inl, inr, arith, slice_get, Option, Some, None, ne_eqb}
use Rattle.std.proofs.Common.{nat_lt}
use Rattle.std.specs.List.{count_by}
use Rattle.std.proofs.lemmas.List.Elements.{All-nil}
use Rattle.std.proofs.Math.ListN.{length-replicate}
use Rattle.std.proofs.lemmas.List.{length-set, take-replicate, take_all, get_or-set_other}
use Rattle.std.proofs.Math.Seq.{take-set-lt}
use mathlib.Core.Option.{some, some-injective, some-ne-none}
use lib.ListN.{get_elem?}
use Rattle.atomic_table.specs.Table.{Me, Splits, opening}
use Rattle.atomic_table.specs.Seated.{TableId}
use Rattle.atomic_table.specs.declared.shared.Seat.{Seat as Token}
use Rattle.node_arena.specs.declared.roles.Role.{Role}
use Rattle.node_arena.specs.Beside.{Beside, HasNone, HoldsFor, words_of, first_beside, left_dealt, right_dealt}
use Rattle.atomic_table.proofs.Lists.{at_set}
use Rattle.line_steps.specs.declared.actors.Setup.{Setup}
use Rattle.line_steps.specs.Memory.{blank}
use Rattle.counted_ref.specs.Ref.{ref, ref_word}
use Rattle.counted_ref.specs.Splits.{null_word}
use Rattle.step_machine.specs.Words.{memory_words, node_words}
use Rattle.step_machine.specs.Machine.{idle, actor_of}
use Rattle.step_machine.specs.Machine as machine
use Rattle.node_arena.specs.declared.seats.Seat.{Seat}
use Rattle.node_arena.proofs.Lifts.{HoldsWith, at_end, lift_splits, lift_opens}
use Rattle.node_arena.proofs.Vacant.{lift_vacant}
use Rattle.node_arena.specs.Traces.{Traced, first_trace, changed}
use Rattle.node_arena.specs.Arenas.{Arena}
use Rattle.node_arena.specs.Prologues.{at_rest}
use Rattle.history.specs.Entries.{is_push, is_pop, is_shut}
use Rattle.history.specs.Seats.{IsNoted}
use Rattle.history.specs.declared.operations.Entry.{Entry}
use Rattle.node_arena.specs.Deeds.{Matches}
use Rattle.node_arena.specs.Seats.{IsArena}
use Rattle.node_arena.specs.Knowledge.{SeatView, View, keeper, seated, paired, members, knows, new_seat, dealt_left, dealt_right}
use Rattle.node_arena.specs.Places.{place, shared_words}
use Rattle.node_arena.specs.Plans.{Layout, IsPlanned, RolesPermit, IsTable, slots_of}
use Rattle.node_arena.specs.Rule.{knowing, Holds, Fitted, first_view}
use Rattle.node_arena.specs.NewArenas.{first_memory_words, LieFirst, IsDealt, AreDealt, IsNewSeat}
use Rattle.node_arena.proofs.Placed.{length-shared_words, shared_words-set, shared_words-blank}
use Rattle.node_arena.proofs.Tracing.{changed_here, changed_else}
use Rattle.node_arena.proofs.PrologueTraces.{ran_all}
use Rattle.node_arena.proofs.KnownRuns.{one_of, there_kept}
use Rattle.node_arena.proofs.Quiet as quiet
use Rattle.node_arena.proofs.Meets.{FitsAll, both}
use Rattle.node_arena.proofs.KnownValues.{knows_none}

none_at : {A : Type 0} {X : Type 0} (i : ℕ) (b : A) → get_elem? {A = A} [] i ≡ some b → X
none_at i b e = absurd (some-ne-none b (sym e))

lone : (u w : View) (j : ℕ) → get_elem? (u ∷ []) j ≡ some w → (j ≡ 0) × (u ≡ w)
lone u w zero e = (refl, some-injective u w e)
lone u w (suc j) e = none_at j w e

-- each node that was never used has two words, both 0
blank_words : (bits k m : ℕ) → 2 * k ≡ m → node_words bits (replicate k blank) ≡ replicate m 0
blank_words bits zero zero e = refl
blank_words bits zero (suc m) e = absurd (omega arith)
blank_words bits (suc k) zero e = absurd (omega arith)
blank_words bits (suc k) (suc zero) e = absurd (omega arith)
blank_words bits (suc k) (suc (suc m)) e = λ i. null_word bits i ∷ 0 ∷ blank_words bits k m (omega arith) i

first_word : (bits : ℕ) → ref_word bits (ref 1 0) ≡ 1
first_word bits = omega arith

-- the words of a table that is 0 but at the places of Fresh, Head and Tail, which are 1
pub lie_first : (nodes p q r : ℕ) (table : List ℕ) → table ≡ replicate (48 + 2 * nodes) 0 → p ≡ place 0 → q ≡ place 2 → r ≡ place 3
    → shared_words (set (set (set table p 1) q 1) r 1) ≡ first_memory_words nodes
lie_first nodes p q r table blank fresh head tail =
    let words : ℕ = 48 + 2 * nodes in
    let one : List ℕ = set (replicate words 0) (place 0) 1 in
    let two : List ℕ = set one (place 2) 1 in
    let a : length (replicate {A = ℕ} words 0) ≡ words = length-replicate words 0 in
    let b : length one ≡ words = length-set (replicate words 0) (place 0) 1 ∙ a in
    let c : length two ≡ words = length-set one (place 2) 1 ∙ b in
    (λ i. shared_words (set (set (set (blank i) (fresh i) 1) (head i) 1) (tail i) 1)) ∙
    (shared_words-set two 3 1 (omega (arith, c)) ∙
    (ap (λ ws. set ws 3 1) (shared_words-set one 2 1 (omega (arith, b))) ∙
    (ap (λ ws. set (set ws 2 1) 3 1) (shared_words-set (replicate words 0) 0 1 (omega (arith, a))) ∙
    (ap (λ ws. set (set (set ws 0 1) 2 1) 3 1) (shared_words-blank words (6 + 2 * nodes) (omega arith)) ∙
    begins (2 * nodes)))))
  where
    begins : (n : ℕ) → set (set (set (replicate {A = ℕ} (6 + n) 0) 0 1) 2 1) 3 1 ≡ 1 ∷ 0 ∷ 1 ∷ 1 ∷ 0 ∷ 0 ∷ replicate n 0
    begins n = ap (λ k. set (set (set (replicate {A = ℕ} k 0) 0 1) 2 1) 3 1) (let h : 6 + n ≡ suc (suc (suc (suc (suc (suc n))))) = omega arith in h)

-- the same where so many flags follow, all of which are down
pub lie_with_flags : (nodes flags p q r : ℕ) (table : List ℕ) → table ≡ replicate (48 + 2 * nodes + flags) 0 → p ≡ place 0 → q ≡ place 2 → r ≡ place 3
    → LieFirst nodes flags (set (set (set table p 1) q 1) r 1)
lie_with_flags nodes flags p q r table blank fresh head tail =
    let m : ℕ = 48 + 2 * nodes in
    let one : List ℕ = set table p 1 in
    let two : List ℕ = set one q 1 in
    let three : List ℕ = set two r 1 in
    let long : length table ≡ m + flags = ap length blank ∙ length-replicate {A = ℕ} (m + flags) 0 in
    let a : length one ≡ length table = length-set table p 1 in
    let b : length two ≡ length one = length-set one q 1 in
    let c : length three ≡ length two = length-set two r 1 in
    let low : p < m = omega (arith, fresh) in
    let mid : q < m = omega (arith, head) in
    let high : r < m = omega (arith, tail) in
    let first : take m table ≡ replicate m 0 = ap (take m) blank ∙ take-replicate m (m + flags) 0 (omega arith) in
    let words : take m three ≡ set (set (set (take m table) p 1) q 1) r 1 =
    take-set-lt m two r 1 high ∙ (ap (λ ws. set ws r 1) (take-set-lt m one q 1 mid) ∙ ap (λ ws. set (set ws q 1) r 1) (take-set-lt m table p 1 low)) in
    record {
      count = omega (arith, a, b, c, long);
      words = ap shared_words words ∙ lie_first nodes p q r (take m table) first fresh head tail;
      down = λ i. get_or-set_other two r (m + i) 1 0 (λ e. omega (arith, e, high)) ∙
          (get_or-set_other one q (m + i) 1 0 (λ e. omega (arith, e, mid)) ∙ (get_or-set_other table p (m + i) 1 0 (λ e. omega (arith, e, low)) ∙
          (ap (λ ws. get_or ws (m + i) 0) blank ∙ blank_at (m + flags) (m + i))));
    }
  where
    blank_at : (n k : ℕ) → get_or {A = ℕ} (replicate n 0) k 0 ≡ 0
    blank_at zero k = refl
    blank_at (suc n) zero = refl
    blank_at (suc n) (suc k) = blank_at n k

-- where no flag follows, these are all words
pub none_follow : (nodes : ℕ) (table : List ℕ) → LieFirst nodes 0 table → shared_words table ≡ first_memory_words nodes
none_follow nodes table f = ap shared_words (sym (take_all (48 + 2 * nodes) table (omega (arith, f.count)))) ∙ f.words

opening_words : (s : Setup) (actors : ℕ) → first_memory_words s.size ≡ memory_words s.bits (machine.opening s actors).shared
opening_words s actors = sym (λ i. 1 ∷ null_word s.bits i ∷ first_word s.bits i ∷ first_word s.bits i ∷ 0 ∷ 0 ∷ blank_words s.bits s.size (2 * s.size) refl i)

idle_at : (n k : ℕ) → k < n → slice_get (replicate n idle) k ≡ Some idle
idle_at zero k h = absurd (omega arith)
idle_at (suc n) zero h = refl
idle_at (suc n) (suc k) h = idle_at n k (omega arith)

idle_actor : (s : Setup) (n k : ℕ) → 1 ≤ k → k ≤ n → actor_of (machine.opening s n) k ≡ Some idle
idle_actor s n k from_one few = ap (λ b. if b then None else slice_get (replicate n idle) (k - 1)) (ne_eqb k 0 (omega arith)) ∙ idle_at n (k - 1) (omega arith)

-- the rule holds of a new table, in which the first words lie
pub opens : (z : Layout) (words : List ℕ) → IsPlanned z → shared_words words ≡ first_memory_words z.setup.size → HoldsWith z [] (opening {S = ℕ} words [] (first_view z))
opens z words size e =
    let t : Traced = first_trace z.setup (length z.roles) in (
      record {
        sized = size;
        trace = t;
        reached = record { actors = length z.roles; moves = []; sized = size; led = refl };
        setup = refl;
        actors = length-replicate (length z.roles) idle;
        words = e ∙ opening_words z.setup (length z.roles);
        permitted = λ k d h. absurd (omega arith);
        dealt = 1;
        home = 0;
        owner = λ p. (0, 0);
        fits = λ j i u v a b. let q = lone (keeper 1) u j a in none_at i v (ap (λ (y : View). get_elem? (members y) i) q.1 ∙ b);
        owned = λ j i u v a b. let q = lone (keeper 1) u j a in none_at i v (ap (λ (y : View). get_elem? (members y) i) q.1 ∙ b);
        kept = λ j n a. let q = lone (keeper 1) (keeper n) j a in let f = q.1 in (q.0, cc);
        undealt = λ n some few. record { actor = idle_actor z.setup (length z.roles) n some few; path = refl; own = refl };
        peopled = refl;
        ran = λ j i u v a b. let q = lone (keeper 1) u j a in none_at i v (ap (λ (y : View). get_elem? (members y) i) q.1 ∙ b);
        unmoved = λ n over. ran_all [] n;
        there = λ n. inl (ran_all [] n);
      },
      refl,
    )

pub deals : (z : Layout) (es : List Entry) (id n : ℕ) → n ≤ length z.roles → Splits {S = ℕ} (HoldsWith z es) id (keeper n) (dealt_left (keeper n)) (dealt_right (keeper n))
deals z es id n few s hs mine =
    let h : Holds z s = hs.0 in
    let k = h.kept id n mine in
    let l : ℕ = length (set s.views id (keeper (n + 1))) in
    let own : ℕ → ℕ × ℕ = changed h.owner n (l, 0) in
    let P : ℕ → ℕ → SeatView → Type 0 = λ j i o. FitsAll h o × (own o.number ≡ (j, i)) × (o.number < n + 1) in
    let fresh = h.undealt n (let e = k.1 in omega arith) few in
    let kept = quiet.deals s.views id n (n + 1) (seated (new_seat n)) mine in
    let new : P l 0 (new_seat n) = (
      (
        record {
          actor = fresh.actor;
          path = fresh.path;
          rest = h.trace.history;
          begins = refl;
          own = fresh.own;
          known =
              refl;
          noted = All-nil (IsNoted []);
          saw = tt;
        },
        h.unmoved n (let e = k.1 in omega arith),
      ),
      changed_here h.owner n (l, 0),
      omega arith,
    ) in
    let old : (j i : ℕ) (u : View) (o : SeatView) → get_elem? s.views j ≡ some u → get_elem? (members u) i ≡ some o → P j i o = λ j i u o a b.
    let t = h.owned j i u o a b in let lt : o.number < n = let x = t.1 in let e =
    k.1 in omega arith in (both z s h j i u o a b, changed_else h.owner n (l, 0) o.number (λ e. omega arith) ∙ t.0, omega arith) in
    let all : (j i : ℕ) (u : View) (o : SeatView) → get_elem? (set s.views id (keeper (n + 1)) ++ seated (new_seat n) ∷ []) j ≡ some u → get_elem? (members u) i ≡ some o → P j i o = λ j i u o a b.
    ⊎_elim
    (λ (t : get_elem? (set s.views id (keeper (n + 1))) j ≡ some u).
    ⊎_elim (λ (q : (j ≡ id) × (keeper (n + 1) ≡ u)). subst (λ x. P x i o) (sym q.0) (old id i (keeper n) o mine (ap (λ (y : View). get_elem? (members y) i) q.1 ∙ b)))
    (λ (q : (j ≢ id) × (get_elem? s.views j ≡ some u)). old j i u o q.1 b)
    (at_set s.views id j (keeper (n + 1)) u t))
    (λ (t : (j ≡ l) × (seated (new_seat n) ≡ u)). let q = one_of (new_seat n) o i (ap (λ (y : View). get_elem? (members y) i) t.1 ∙ b) in subst
    (λ (y : ℕ × ℕ × SeatView). P y.0 y.1 y.2) (λ c. (sym t.0 c, sym q.0 c, q.1 c)) new)
    (at_end (set s.views id (keeper (n + 1))) (seated (new_seat n)) u j a) in (
      record {
        sized = h.sized;
        trace = h.trace;
        reached = h.reached;
        setup = h.setup;
        actors = h.actors;
        words = h.words;
        permitted = h.permitted;
        dealt = n + 1;
        home = h.home;
        owner = own;
        fits = λ j i u o a b. (all j i u o a b).0.0;
        peopled = h.peopled;
        ran = λ j i u o a b. (all j i u o a b).0.1;
        unmoved = λ p over. h.unmoved p (let e = k.1 in omega arith);
        there = λ p. there_kept knowing s.views (set s.views id (keeper (n + 1)) ++ seated (new_seat n) ∷ []) h.reached.moves kept p (h.there p);
        owned = λ j i u o a b. let t = all j i u o a b in (t.1, t.2);
        kept = λ j m a. ⊎_elim
            (λ (t : get_elem? (set s.views id (keeper (n + 1))) j ≡ some (keeper m)).
            ⊎_elim (λ (q : (j ≡ id) × (keeper (n + 1) ≡ keeper m)). let e = q.1 in (q.0 ∙ k.0, cc))
            (λ (q : (j ≢ id) × (get_elem? s.views j ≡ some (keeper m))). absurd (q.0 ((h.kept j m q.1).0 ∙ sym k.0)))
            (at_set s.views id j (keeper (n + 1)) (keeper m) t))
            (λ (t : (j ≡ l) × (seated (new_seat n) ≡ keeper m)). let e = t.1 in cc)
            (at_end (set s.views id (keeper (n + 1))) (seated (new_seat n)) (keeper m) j a);
        undealt = λ p over within. h.undealt p (let e = k.1 in omega arith) within;
      },
      hs.1,
    )

-- the same of views that know of values, at the names of a call
pub deals_at : {T : Type 0} (z about : Layout) (id n : ℕ) (me : Me (Option T) (Beside T)) → about ≡ z → me.0.plain ≡ keeper n → n ≤ length z.roles
    → Splits {S = Option T} (HoldsFor about) id me.0 (left_dealt me.0) (right_dealt me.0)
deals_at {T} z about id n me same is few =
    lift_splits about id me.0 (left_dealt me.0) (right_dealt me.0)
    (λ es. subst (λ (y : View). Splits {S = ℕ} (HoldsWith about es) id y (dealt_left y) (dealt_right y)) (sym is) (deals about es id n (subst (λ x. n ≤ length x.roles) (sym same) few)))
    refl refl
    (λ ds b. (
      record {
        rest = b.rest;
        begins = b.begins;
        matches = λ v e. absurd (not_seated v (ap dealt_left (sym is) ∙ e));
        pair =
            λ v u e y. absurd (not_paired v u (ap dealt_left (sym is) ∙ e));
        others = b.others;
      },
      record {
        rest = ds;
        begins = refl;
        matches = λ v e. subst (λ (y : View). Matches {T = T} (knows y).seen []) (ap dealt_right (sym is) ∙ e) tt;
        pair = λ v u e y. absurd (new_alone v u (ap dealt_right (sym is) ∙ e));
        others = tt;
      },
    ))
  where
    not_seated : (v : SeatView) → dealt_left (keeper n) ≡ seated v → ⊥
    not_seated v e = cc

    not_paired : (v u : SeatView) → dealt_left (keeper n) ≡ paired v u → ⊥
    not_paired v u e = cc

    new_alone : (v u : SeatView) → dealt_right (keeper n) ≡ paired v u → ⊥
    new_alone v u e = cc

-- the rule of a new table, which carries no values
pub opens_alone : (T : Type 0) (z : Layout) (words : List ℕ) → z.carries ≡ false → IsPlanned z → shared_words words ≡ first_memory_words z.setup.size
    → HoldsFor z (opening {S = Option T} words [] (first_beside z))
opens_alone T z words none_carried size e =
    let n : length (replicate {A = ℕ} (2 * z.setup.size) 0) ≡ 2 * z.setup.size = length-replicate {A = ℕ} (2 * z.setup.size) 0 in
    lift_opens T z words none_carried (omega (arith, n, ap length e, length-shared_words words)) (opens z words size e).0

-- the rule of a new table that carries values: all slots are free
pub opens_vacant : (T : Type 0) (z : Layout) (words : List ℕ) → z.carries ≡ true → IsPlanned z → LieFirst z.setup.size z.setup.size words
    → HoldsFor z (opening {S = Option T} words (replicate {A = Option T} z.setup.size None) (first_beside z))
opens_vacant T z words carries size f =
    let h = opens z (take (words_of z) words) size f.words in
    lift_vacant T z words carries f.count f.down h.0 h.1

got_snoc : {A : Type 0} (xs : List A) (a b : A) (k : ℕ) → slice_get (xs ++ a ∷ []) k ≡ Some b → (slice_get xs k ≡ Some b) ⊎ ((k ≡ length xs) × (a ≡ b))
got_snoc [] a b zero e = inr (refl, cc)
got_snoc [] a b (suc k) e = cc
got_snoc (x ∷ xs) a b zero e = inl e
got_snoc (x ∷ xs) a b (suc k) e = ⊎_elim (λ t. inl t) (λ (t : (k ≡ length xs) × (a ≡ b)). inr (ap suc t.0, t.1)) (got_snoc xs a b k e)

-- a seat more that was just dealt
pub one_more : {T : Type 0} (z : Layout) (t : TableId) (xs : List (Seat T)) (n : ℕ) (s : Seat T) → length xs ≡ n → AreDealt z t xs → IsDealt z t (n + 1) s → AreDealt z t (xs ++ s ∷ [])
one_more {T} z t xs n s len all new k y got = ⊎_elim (λ (h : slice_get xs k ≡ Some y). all k y h)
    (λ (h : (k ≡ length xs) × (s ≡ y)). subst (λ (q : ℕ × Seat T). IsDealt z t (q.0 + 1) q.1) (λ i. (sym (h.0 ∙ len) i, h.1 i)) new)
    (got_snoc xs s y k got)

-- a seat that was dealt is a new seat of the arena
pub new_seats : {T : Type 0} (r : Arena) (seats : List (Seat T)) → IsArena r → AreDealt r.plan r.id seats → (k : ℕ) (s : Seat T) → slice_get seats k ≡ Some s → IsNewSeat r (k + 1) s
new_seats r seats arena all k s got =
    let d = all k s got in
    record {
      ready = record { seat = record { arena = arena; sits = d.seat }; free = ap (λ v. (at_rest v.actor).line) d.view; pocket = d.pocket ∙ sym (ap (λ v. (at_rest v.actor).pocket) d.view) };
      view = d.view;
      number = d.number;
      pocket = d.pocket;
      failed = d.failed;
      keeps = d.keeps;
      none_out = d.none_out;
      deeds = d.deeds;
    }

-- a table in which the first words lie, made about a plan, is laid out for it
pub laid : (z about inside : Layout) (t : TableId) (words table : List ℕ) → z.carries ≡ false → IsPlanned z → about ≡ z → inside ≡ z
    → t.words ≡ length table → table ≡ words → shared_words words ≡ first_memory_words inside.setup.size → t.slots ≡ 0 → IsTable z about t
laid z about inside t words table alone sized key same count is first slots =
    let e : length (replicate {A = ℕ} (2 * z.setup.size) 0) ≡ 2 * z.setup.size = length-replicate {A = ℕ} (2 * z.setup.size) 0 in
    let none_there : slots_of z ≡ 0 = ap (λ (b : Bool). if b then z.setup.size else 0) alone in
    let now : shared_words table ≡ first_memory_words z.setup.size = ap shared_words is ∙ (first ∙ ap (λ (y : Layout). first_memory_words y.setup.size) same) in
    record { sized = sized; key = key; words = omega (arith, count, e, ap length now, length-shared_words table, none_there); slots = slots ∙ sym none_there }

-- the same of a table with flags and slots
pub laid_with_slots : (z about inside : Layout) (t : TableId) (words table : List ℕ) → z.carries ≡ true → IsPlanned z → about ≡ z → inside ≡ z
    → t.words ≡ length table → table ≡ words → LieFirst inside.setup.size inside.setup.size words → t.slots ≡ inside.setup.size → IsTable z about t
laid_with_slots z about inside t words table carries sized key same count is first slots =
    let all : slots_of z ≡ z.setup.size = ap (λ (b : Bool). if b then z.setup.size else 0) carries in
    let size = ap (λ (y : Layout). y.setup.size) same in
    record { sized = sized; key = key; words = omega (arith, count, ap length is, first.count, size, all); slots = slots ∙ (size ∙ sym all) }

-- a new seat fits to the world in which nothing happened yet
newly : (z : Layout) (n : ℕ) → IsPlanned z → 1 ≤ n → n ≤ length z.roles → Fitted z (new_seat n)
newly z n sized least few =
    record {
      trace = first_trace z.setup (length z.roles);
      run = refl;
      reached = record { actors = length z.roles; moves = []; sized = sized; led = refl };
      setup = refl;
      permitted = All-nil (RolesPermit z.roles);
      fits = record { actor = idle_actor z.setup (length z.roles) n least few; path = refl; rest = []; begins = refl; own = refl; known = refl; noted = All-nil (IsNoted []); saw = tt };
    }

-- a seat with the token of a number that was dealt
pub dealt : {T : Type 0} (z : Layout) (t : TableId) (n : ℕ) (role : Role) (k : Token (Option T) (Beside T)) → IsPlanned z → 1 ≤ n → n ≤ length z.roles
    → slice_get z.roles (n - 1) ≡ Some role → k.table_id ≡ t → k.me.0.plain ≡ seated (new_seat n) → HasNone k.me → k.me.0.deeds ≡ []
    → IsDealt z t n record { token = k; number = n; role = role; full = false; held = record { node = 0; mark = 0 }; failed = 0; pushes = 0; pops = 0; shut = false; keeps = false }
dealt z t n role k sized least few permits table me held deeds =
    let is : knows k.me.0.plain ≡ new_seat n = ap knows me in
    record {
      seat = record {
        table = table;
        seat = me ∙ ap seated (sym is);
        none_out = λ c. held;
        number = sym (ap (λ v. v.number) is);
        role = permits;
        pushes = ap (λ (v : SeatView). count_by is_push v.mine) (sym is);
        pops = ap (λ (v : SeatView). count_by is_pop v.mine) (sym is);
        shut = ap (λ (v : SeatView). nat_lt 0 (count_by is_shut v.mine)) (sym is);
        fitted = ∣ subst (Fitted z) (sym is) (newly z n sized least few) ∣₁;
        valued = ∣ knows_none z k.me.0 (ap (λ (v : SeatView). v.seen) is) deeds held.1 ∣₁;
      };
      view = is;
      number = refl;
      pocket = refl;
      failed = refl;
      keeps = refl;
      none_out = held;
      deeds = deeds;
    }
