-- The rule of a new table: nothing was done, and where values are carried each slot is free.
use Rattle.std.proofs.Common.{◌≡◌, ℕ, zero, suc, ◌+◌, ◌*◌, ◌<◌, Bool, true, false, if◌then◌else◌, List, [], ◌∷◌, length, map, take, get_or, replicate, Option, None, sym, refl, ap, ◌∙◌, subst, arith}
use Rattle.std.proofs.lemmas.List.{get_or-take, length-take-le}
use mathlib.Core.Option.{some, some-injective, some-ne-none}
use lib.ListN.{get_elem?}
use Rattle.atomic_table.specs.Table.{opening}
use Rattle.atomic_table.specs.Seated.{TableId}
use Rattle.history.specs.declared.operations.Entry.{Entry}
use Rattle.node_arena.specs.Slots.{free}
use Rattle.node_arena.specs.Beside.{flag_at}
use Rattle.ring_queue.specs.Words.{slot_word}
use Rattle.ring_queue.specs.Plans.{Layout, IsPlanned, IsTable, words_of, further_of, slots_of}
use Rattle.ring_queue.specs.Knowledge.{SeatView, keeper, seated, paired}
use Rattle.ring_queue.specs.Rule.{Holds, first_view}
use Rattle.ring_queue.specs.NewRings.{AreFirst}
use Rattle.ring_queue.specs.Beside.{Beside, hand_at, Begins, CarriedBy, HoldsBy, first_beside}
use Rattle.ring_queue.specs.Placed.{queue_words, pairs_of, queue_state, first_placed}
use Rattle.ring_queue.proofs.Tables.{HoldsWith}
use Rattle.ring_queue.proofs.Placing.{IsOwn, own_tail, own_head, own_slot, queue_words-get, queue_words-length}
use Rattle.ring_queue.proofs.PlacedViews.{placed_start}
use Rattle.ring_queue.proofs.PlacedKinds.{by_kind}
use Rattle.ring_queue.proofs.Deals.{opened}

module _ (T : Type 0) (z : Layout) where
  no_hand : (j i : ℕ) → hand_at {T = T} (first_beside z ∷ []) j ≡ some i → ⊥
  no_hand zero i e = some-ne-none i (sym e)
  no_hand (suc j) i e = some-ne-none i (sym e)

  empties : (n i : ℕ) → i < n → get_elem? (map some (replicate {A = Option T} n None)) i ≡ some (some None)
  empties zero i lt = absurd (omega arith)
  empties (suc n) zero lt = refl
  empties (suc n) (suc i) lt = empties n i (omega arith)

  one_view : (j : ℕ) (w : Beside T) → get_elem? (first_beside z ∷ []) j ≡ some w → Begins {T = T} [] w
  one_view zero w e = subst (Begins {T = T} []) (some-injective (first_beside z) w e)
      (record { rest = []; begins = refl; matches = λ v is. absurd (not_seated v is); pair = λ v u is same. absurd (not_paired v u is); others = tt })
    where
      not_seated : (v : SeatView) → keeper z.slots 1 ≡ seated v → ⊥
      not_seated v is = cc

      not_paired : (v u : SeatView) → keeper z.slots 1 ≡ paired v u → ⊥
      not_paired v u is = cc
  one_view (suc j) w e = absurd (some-ne-none w (sym e))

-- the rule holds of a new table, in which such words lie, with so many slots
pub opens_first : (T : Type 0) (z : Layout) (slots flags behind : ℕ) (words given : List ℕ) → IsPlanned z → slots ≡ z.slots → flags ≡ slots_of z → behind ≡ further_of z + flags
    → given ≡ words → AreFirst slots behind words → HoldsBy {T = T} z (opening {S = Option T} given (replicate {A = Option T} flags None)
    (first_beside z))
opens_first T z slots flags behind words given planned same flagged count is first = by_kind {T = T} z (λ H. H (opening {S = Option T} given (replicate {A = Option T} flags None) (first_beside z)))
    (λ _. record {
      base = h.0;
      values = subst (λ (es : List Entry). CarriedBy {T = T} z.carries z es
          (opening {S = Option T} given (replicate {A = Option T} flags None) (first_beside z))) (sym h.1) (go z.carries flagged);
    })
    (λ _. placed_start z given (omega (arith, long)) in_places)
  where
    m : ℕ
    m = words_of z

    long : length given ≡ (m + (further_of z + flags))
    long = let wide = first.wide in let all = ap length is in omega (arith, wide, same, all, count)

    word : (i n : ℕ) → i < m → get_or words i 0 ≡ n → get_or (take m given) i 0 ≡ n
    word i n lt e = get_or-take m given i 0 lt ∙ (ap (λ (ws : List ℕ). get_or ws i 0) is ∙ e)

    h : (o : Holds z (opening {S = ℕ} (take m given) [] (first_view z))) × (o.ring.history ≡ [])
    h = opened z (take m given) planned (length-take-le m given (omega (arith, long))) (word 0 z.slots (omega arith) (first.tail ∙ same)) (word 16 z.slots (omega arith) (first.head ∙ same))
        (λ i lt. word (slot_word i) 0 (omega (arith, lt)) (first.blank i (omega (arith, lt, same))))

    -- the words of the queue are those of a new ring
    in_places : HoldsWith z [] (queue_state z (record { words = given; homes = []; views = first_placed z ∷ [] }))
    in_places =
        let n : ℕ = pairs_of z in
        let at : (i k : ℕ) → IsOwn n i → get_or words i 0 ≡ k → get_or (queue_words n given) i 0 ≡ k =
        λ i k own e. queue_words-get n given i own ∙ (ap (λ (ws : List ℕ). get_or ws i 0) is ∙ e) in
        opened z (queue_words n given) planned (queue_words-length n given (omega (arith, long)) ∙ (let l : n + n ≡ 32 + 2 * z.slots = omega arith in l)) (at 0 z.slots (own_tail z) (first.tail ∙ same))
        (at 16 z.slots (own_head z) (first.head ∙ same)) (λ i lt. at (slot_word i) 0 (own_slot z i lt) (first.blank i (omega (arith, lt, same))))

    down : (i : ℕ) → flag_at m given i ≡ 0
    down i = ap (λ (ws : List ℕ). get_or ws (m + i) 0) is ∙ (ap (λ (k : ℕ). get_or words (32 + 2 * k + i) 0) (sym same) ∙ first.down i)

    go : (b : Bool) → flags ≡ (if b then z.slots else 0) → CarriedBy {T = T} b z [] (opening {S = Option T} given (replicate {A = Option T} flags None) (first_beside z))
    go false e = tt
    go true e = record {
      rides = record {
        deeds = [];
        q = [];
        pops = 0;
        shut = false;
        leads = refl;
        runs = (refl, refl);
        matches = tt;
        slotted = record {
          place = λ i. free;
          stands = λ i lt. (down i, empties T z flags i (omega (arith, lt, e)));
          lies = λ k l at. absurd (some-ne-none l (sym at));
          out = λ j i at. absurd (no_hand T z j i at);
          why = λ i lt up. absurd (up (down i));
        };
      };
      known = one_view T z;
      long = omega (arith, long, e);
    }

-- it is laid out for its plan
pub laid_first : (z about : Layout) (slots flags behind : ℕ) (t : TableId) (words given : List ℕ) → IsPlanned z → about ≡ z → slots ≡ z.slots
    → flags ≡ slots_of z → behind ≡ further_of z + flags → t.words ≡ length given → given ≡ words → AreFirst slots behind words → t.slots ≡ flags → IsTable z about t
laid_first z about slots flags behind t words given planned key same flagged more count is first there =
    let wide = first.wide in
    let all = ap length is in
    record { planned = planned; key = key; words = omega (arith, wide, all, same, flagged, more, count); slots = there ∙ flagged }
