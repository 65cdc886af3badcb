-- What calls ask of a ring's table beside steps, at their names.
use Rattle.std.proofs.Common.{◌≡◌, ℕ, ◌-◌, ◌*◌, ◌≤◌, Bool, true, false, if◌then◌else◌, List, [], ◌∷◌, ◌++◌, length, map, take, Option, Some, slice_get, sym, refl, ap, ◌∙◌, subst, arith}
use Rattle.std.specs.List.{All}
use Rattle.std.proofs.lemmas.List.Elements.{All-append, All-cons, All-nil}
use mathlib.Core.List.{IsPrefix}
use mathlib.Core.Option.{none}
use mathlib.Core.List.{map-append}
use Rattle.atomic_table.specs.Table.{State, Me, Splits, Joins, Allows, Enters, Final, Seen, carried_after}
use Rattle.atomic_table.specs.Seated.{TableId}
use Rattle.atomic_table.specs.declared.shared.Seat.{Seat as Token}
use Rattle.history.specs.declared.operations.Entry.{Entry}
use Rattle.history.specs.Seats.{IsSound}
use Rattle.node_arena.specs.Deeds.{Deed, Matches}
use Rattle.node_arena.specs.Beside.{AllBegin}
use Rattle.node_arena.proofs.Lifts.{none_hand, take_full}
use Rattle.ring_queue.specs.declared.roles.Role.{Role}
use Rattle.ring_queue.specs.declared.queue.RingQueue.{RingQueue}
use Rattle.ring_queue.specs.declared.seats.Seat.{Seat}
use Rattle.ring_queue.specs.Plans.{Layout, IsPlanned, IsTable, words_of, further_for, further_of, slots_of, permits_of}
use Rattle.ring_queue.specs.Knowledge.{SeatView, View, keeper, gathered, seated, paired, spent, new_seat, knows, known_by, both_of, first_of, second_of, dealt_left, dealt_right}
use Rattle.ring_queue.specs.Rule.{Holds}
use Rattle.ring_queue.specs.Steps.{Rests}
use Rattle.ring_queue.specs.Placed.{MeetsPlaced, placed_view}
use Rattle.ring_queue.specs.Beside.{Beside, HasNone, HoldsAs, HoldsBy, HoldsFor, placed_of, MeetsBeside, OpensBeside, left_dealt, right_dealt, left_as_it_is, knows_nothing, both_beside, first_beside_of, second_beside_of}
use Rattle.ring_queue.specs.NewRings.{IsFresh}
use Rattle.ring_queue.specs.Ends.{HasToken, HasGathered}
use Rattle.ring_queue.specs.Seats.{HasNoSlot, deeds_of, view}
use Rattle.ring_queue.specs.Queues.{IsNumberSeat, IsRingSeat}
use Rattle.ring_queue.specs.PlacedSeats.{IsWordSeat, said_by}
use Rattle.ring_queue.proofs.Tables.{HoldsWith}
use Rattle.ring_queue.proofs.Deals.{deals, new_is_sound}
use Rattle.ring_queue.proofs.Meets.{pairs, parts, spares}
use Rattle.ring_queue.proofs.Gathers.{gathers, enters_with}
use Rattle.ring_queue.proofs.RingEnds.{Ends, ends_at}
use Rattle.ring_queue.proofs.KnownValues.{knows_none}
use Rattle.ring_queue.proofs.Lifts.{lift_splits, lift_joins, lift_enters, lift_final, lift_meets}
use Rattle.ring_queue.proofs.Placing.{Keeping}
use Rattle.ring_queue.proofs.PlacedViews.{rests_no_place, placed_splits, placed_joins, placed_enters, placed_meets}
use Rattle.ring_queue.proofs.Placing.{own_tail}
use Rattle.ring_queue.proofs.PlacedKinds.{by_kind, plain_rule, in_places_splits, in_places_joins, in_places_enters, in_places, meets_of}

keeper_not_seated : (m n : ℕ) (v : SeatView) → keeper m n ≡ seated v → ⊥
keeper_not_seated m n v e = cc

not_seated : (m n : ℕ) (v : SeatView) → dealt_left (keeper m n) ≡ seated v → ⊥
not_seated m n v e = cc

not_paired : (m n : ℕ) (v u : SeatView) → dealt_left (keeper m n) ≡ paired v u → ⊥
not_paired m n v u e = cc

new_alone : (m n : ℕ) (v u : SeatView) → dealt_right (keeper m n) ≡ paired v u → ⊥
new_alone m n v u e = cc

one_not_two : (v a b : SeatView) → seated v ≡ paired a b → ⊥
one_not_two v a b e = cc

two_not_one : (a b v : SeatView) → paired a b ≡ seated v → ⊥
two_not_one a b v e = cc

-- a seat is dealt
pub deals_at : {T : Type 0} (z about : Layout) (id n : ℕ) (me : Me (Option T) (Beside T)) → about ≡ z → me.0.plain ≡ keeper z.slots n
    → Splits {S = Option T} (HoldsBy about) id me.0 (left_dealt me.0) (right_dealt me.0)
deals_at {T} z about id n me same is = by_kind about (λ H. Splits {S = Option T} H id me.0 (left_dealt me.0) (right_dealt me.0)) (λ _.
    lift_splits about.carries about id me.0 (left_dealt me.0) (right_dealt me.0)
    (λ es. subst (λ (y : Layout × View). Splits {S = ℕ} (HoldsWith y.0 es) id y.1 (dealt_left y.1) (dealt_right y.1)) (λ i. (sym same i, sym is i)) (deals z es id n))
    refl refl
    (λ ds b. (
      record {
        rest = b.rest;
        begins = b.begins;
        matches = λ v e. absurd (not_seated z.slots n v (ap dealt_left (sym is) ∙ e));
        pair =
            λ v u e y. absurd (not_paired z.slots n v u (ap dealt_left (sym is) ∙ e));
        others = b.others;
      },
      record {
        rest = ds;
        begins = refl;
        matches = λ v e. subst (λ (y : View). Matches {T = T} (knows y).seen []) (ap dealt_right (sym is) ∙ e) tt;
        pair = λ v u e y. absurd (new_alone z.slots n v u (ap dealt_right (sym is) ∙ e));
        others = tt;
      },
    )))
    (λ _. in_places_splits about id me.0 (left_dealt me.0) (right_dealt me.0) (placed_splits about id (placed_of me.0) (placed_of (left_dealt me.0)) (placed_of (right_dealt me.0))
    (λ es. subst (λ (y : Layout × View). Splits {S = ℕ} (HoldsWith y.0 es) id y.1 (dealt_left y.1) (dealt_right y.1)) (λ i. (sym same i, sym is i)) (deals z es id n))
    refl refl
    (λ v q x e has. absurd (keeper_not_seated z.slots n v (sym is ∙ e)))
    (λ ds b. (
      record {
        rest = b.rest;
        begins = b.begins;
        matches = λ v e. absurd (not_seated z.slots n v (ap dealt_left (sym is) ∙ e));
        pair = λ v u e y. absurd (not_paired z.slots n v u (ap dealt_left (sym is) ∙ e));
        others = b.others;
      },
      record {
        rest = ds;
        begins = refl;
        matches = λ v e. subst (λ (y : View). Matches {T = List ℕ} (knows y).seen []) (ap dealt_right (sym is) ∙ e) tt;
        pair = λ v u e y. absurd (new_alone z.slots n v u (ap dealt_right (sym is) ∙ e));
        others = tt;
      },
    ))))

-- a seat with the token of a number that was dealt
pub dealt : {T : Type 0} (z : Layout) (t : TableId) (n : ℕ) (role : Role) (k : Token (Option T) (Beside T)) (place near : ℕ) → IsPlanned z
    → place ≡ z.slots → 1 ≤ n → slice_get z.roles (n - 1) ≡ Some role → k.table_id ≡ t → k.me.0.plain ≡ seated (new_seat z.slots n)
    → k.me.0.deeds ≡ [] → HasNone k.me → near ≡ 64 * n → k.me.0.placing.deeds ≡ []
    → IsFresh z t n record { token = k; number = n; role = role; head = place; tail = place; near = near }
dealt z t n role k place near planned first least permits table me none_done none_out apart none_said =
    let is : knows k.me.0.plain ≡ new_seat z.slots n = ap knows me in
    record {
      ready = record {
        sits = record {
          table = table;
          seat = me ∙ ap seated (sym is);
          none_out = λ _. none_out;
          number = sym (ap (λ v. v.number) is);
          from = least;
          role = permits;
          head = first ∙ sym (ap (λ v. v.head) is);
          below = let from = planned.from in let limit = planned.limited in omega (arith, first, from, limit);
          tail = first ∙ sym (ap (λ v. v.tail) is);
          tail_below = let from = planned.from in let limit = planned.limited in omega (arith, first, from, limit);
          sound = subst (λ v. IsSound (permits_of z) (known_by v)) (sym is) (new_is_sound z n);
          valued = ∣ knows_none z.carries z k.me.0 (ap (λ v. v.seen) is) none_done none_out.1 none_said ∣₁;
        };
        rests = subst (λ (v : SeatView). Rests v.stage) (sym is) tt;
      };
      view = is;
      none_done = none_done;
      none_said = none_said;
      none_out = none_out;
      near = apart;
    }

-- a spare token
pub spares_at : {T : Type 0} (key : Layout) (id : ℕ) (me : Me (Option T) (Beside T)) (v : SeatView) → me.0.plain ≡ seated v → Rests v.stage
    → Splits {S = Option T} (HoldsBy key) id me.0 (left_as_it_is me.0) knows_nothing
spares_at {T} key id me v is rested = by_kind key (λ H. Splits {S = Option T} H id me.0 (left_as_it_is me.0) knows_nothing) (λ _.
    lift_splits key.carries key id me.0 (left_as_it_is me.0) knows_nothing
    (λ es. subst (λ (y : View). Splits {S = ℕ} (HoldsWith key es) id y y spent) (sym is) (spares key es id v)) refl refl
    (λ ds b. (
      record { rest = b.rest; begins = b.begins; matches = b.matches; pair = b.pair; others = b.others },
      record { rest = ds; begins = refl; matches = λ v e. cc; pair = λ v u e y. cc; others = tt },
    )))
    (λ _. in_places_splits key id me.0 (left_as_it_is me.0) knows_nothing (placed_splits key id (placed_of me.0) (placed_of (left_as_it_is me.0)) (placed_of {T = T} knows_nothing)
    (λ es. subst (λ (y : View). Splits {S = ℕ} (HoldsWith key es) id y y spent) (sym is) (spares key es id v)) refl refl
    (rests_no_place (placed_of me.0) v is rested)
    (λ ds b. (
      record { rest = b.rest; begins = b.begins; matches = b.matches; pair = b.pair; others = b.others },
      record { rest = ds; begins = refl; matches = λ v e. cc; pair = λ v u e y. cc; others = tt },
    ))))

-- two seats become one
pub pairs_at : {T : Type 0} (key : Layout) (id other : ℕ) (me him : Me (Option T) (Beside T)) (v w : SeatView) → me.0.plain ≡ seated v
    → him.0.plain ≡ seated w → him.0.hand ≡ none → Rests v.stage → Rests w.stage → Joins {S = Option T} (HoldsBy key) id me.0 other him.0 (both_beside me.0 him.0) knows_nothing
pairs_at {T} key id other me him v w is his none_out rested his_rests =
    let both : both_of me.0.plain him.0.plain ≡ paired v w = λ i. both_of (is i) (his i) in
    by_kind key (λ H. Joins {S = Option T} H id me.0 other him.0 (both_beside me.0 him.0) knows_nothing) (λ _.
    lift_joins key.carries key id other me.0 him.0 (both_beside me.0 him.0) knows_nothing
    (λ es. subst (λ (y : View × View). Joins {S = ℕ} (HoldsWith key es) id y.0 other y.1 (both_of y.0 y.1) spent) (λ i. (sym is i, sym his i)) (pairs key es id other v w)) refl (sym none_out)
    (λ ds b c. (
      record {
        rest = b.rest;
        begins = b.begins;
        matches = λ o e. absurd (two_not_one v w o (sym both ∙ e));
        pair = λ o u e y. subst (λ (k : SeatView). Matches k.seen me.0.deeds) (ap knows (sym both ∙ e)) (b.matches v is);
        others = ((c.rest, c.begins), b.others);
      },
      record { rest = ds; begins = refl; matches = λ o e. cc; pair = λ o u e y. cc; others = tt },
    )))
    (λ _. in_places_joins key id other me.0 him.0 (both_beside me.0 him.0) knows_nothing
    (placed_joins key id other (placed_of me.0) (placed_of him.0) (placed_of (both_beside me.0 him.0)) (placed_of {T = T} knows_nothing)
    (λ es. subst (λ (y : View × View). Joins {S = ℕ} (HoldsWith key es) id y.0 other y.1 (both_of y.0 y.1) spent) (λ i. (sym is i, sym his i)) (pairs key es id other v w)) refl refl
    (rests_no_place (placed_of me.0) v is rested) (rests_no_place (placed_of him.0) w his his_rests)
    (λ ds b c. (
      record {
        rest = b.rest;
        begins = b.begins;
        matches = λ o e. absurd (two_not_one v w o (sym both ∙ e));
        pair = λ o u e y. subst (λ (k : SeatView). Matches k.seen me.0.placing.deeds) (ap knows (sym both ∙ e)) (b.matches v is);
        others = ((c.rest, c.begins), b.others);
      },
      record { rest = ds; begins = refl; matches = λ o e. cc; pair = λ o u e y. cc; others = tt },
    ))))

-- two seats that are one have seen all
pub meets_at : {T : Type 0} (key : Layout) (slots id : ℕ) (me : Me (Option T) (Beside T)) (v w : SeatView) → me.0.plain ≡ paired v w
    → Allows {S = Option T} (HoldsBy key) slots id me 0 (λ n. n) (λ n m. MeetsBeside key.carries key me m)
meets_at {T} key slots id me v w is = by_kind key (λ H. Allows {S = Option T} H slots id me 0 (λ n. n) (λ n m. MeetsBeside key.carries key me m)) plain placed
  where
    at : Me (Option T) (Beside T)
    at = (record { plain = paired v w; deeds = me.0.deeds; hand = me.0.hand; others = me.0.others; tries = me.0.tries; placing = me.0.placing }, me.1)

    back : at ≡ me
    back i = (record { plain = sym is i; deeds = me.0.deeds; hand = me.0.hand; others = me.0.others; tries = me.0.tries; placing = me.0.placing }, me.1)

    plain : key.placed ≡ false → Allows {S = Option T} (HoldsFor key.carries key) slots id me 0 (λ n. n) (λ n m. MeetsBeside key.carries key me m)
    plain e = subst (λ (y : Me (Option T) (Beside T)). Allows {S = Option T} (HoldsFor key.carries key) slots id y 0 (λ n. n) (λ n m. MeetsBeside key.carries key y m)) back
        (lift_meets key slots id v w me.0.deeds me.0.hand me.0.others me.0.tries me.0.placing me.1 key.carries e)

    placed : key.placed ≡ true → Allows {S = Option T} (HoldsAs true key) slots id me 0 (λ n. n) (λ n m. MeetsBeside key.carries key me m)
    placed e s h count mine small =
        let lined = subst (λ (u : View). Keeping key id (placed_view u me.0.placing) 0 (λ n. n) (λ n o. MeetsPlaced key (placed_view u me.0.placing, []) o)) (sym is)
        (placed_meets key id v w me.0.placing.deeds me.0.placing.hand me.0.placing.others) in
        let q = in_places key slots id 0 (λ n. n) me.0 me.1 (λ n o. MeetsPlaced key (placed_of me.0, []) o) lined s h count mine small in
        (q.0, q.1, q.2, q.3, meets_of key me (q.0, carried_after me.1 q.1) e (h.base.ring.planned.apart e) q.4.0 q.4.1)

-- one seat becomes two
pub parts_at : {T : Type 0} (key : Layout) (id : ℕ) (me : Me (Option T) (Beside T)) (v w : SeatView) → me.0.plain ≡ paired v w → v.seen ≡ w.seen
    → Splits {S = Option T} (HoldsBy key) id me.0 (first_beside_of me.0) (second_beside_of me.0)
parts_at {T} key id me v w is met = by_kind key (λ H. Splits {S = Option T} H id me.0 (first_beside_of me.0) (second_beside_of me.0)) (λ _.
    lift_splits key.carries key id me.0 (first_beside_of me.0) (second_beside_of me.0)
    (λ es. subst (λ (y : View). Splits {S = ℕ} (HoldsWith key es) id y (first_of y) (second_of y)) (sym is) (parts key es id v w)) refl refl
    (λ ds b. (
      record {
        rest = b.rest;
        begins = b.begins;
        matches = λ o e. subst (λ (k : SeatView). Matches k.seen me.0.deeds)
            (ap knows (ap first_of (sym is) ∙ e)) (b.pair v w is met);
        pair = λ o u e y. absurd (one_not_two v o u (ap first_of (sym is) ∙ e));
        others =
            b.others;
      },
      record {
        rest = b.rest;
        begins = b.begins;
        matches = λ o e. subst (λ (k : SeatView). Matches k.seen me.0.deeds)
            (ap knows (ap second_of (sym is) ∙ e)) (subst (λ (x : List Entry). Matches x me.0.deeds) met (b.pair v w is met));
        pair =
            λ o u e y. absurd (one_not_two w o u (ap second_of (sym is) ∙ e));
        others = tt;
      },
    )))
    (λ _. in_places_splits key id me.0 (first_beside_of me.0) (second_beside_of me.0) (placed_splits key id (placed_of me.0) (placed_of (first_beside_of me.0)) (placed_of (second_beside_of me.0))
    (λ es. subst (λ (y : View). Splits {S = ℕ} (HoldsWith key es) id y (first_of y) (second_of y)) (sym is) (parts key es id v w)) refl refl
    (λ o q x e has. absurd (two_not_one v w o (sym is ∙ e)))
    (λ ds b. (
      record {
        rest = b.rest;
        begins = b.begins;
        matches = λ o e. subst (λ (k : SeatView). Matches k.seen me.0.placing.deeds) (ap knows (ap first_of (sym is) ∙ e)) (b.pair v w is met);
        pair = λ o u e y. absurd (one_not_two v o u (ap first_of (sym is) ∙ e));
        others = b.others;
      },
      record {
        rest = b.rest;
        begins = b.begins;
        matches = λ o e. subst (λ (k : SeatView). Matches k.seen me.0.placing.deeds)
            (ap knows (ap second_of (sym is) ∙ e)) (subst (λ (x : List Entry). Matches x me.0.placing.deeds) met (b.pair v w is met));
        pair = λ o u e y. absurd (one_not_two w o u (ap second_of (sym is) ∙ e));
        others = tt;
      },
    ))))

-- the token that two others joined into
joined_is : {T : Type 0} (j one tok : Me (Option T) (Beside T)) (v w : SeatView) → one.0.plain ≡ seated v → tok.0.plain ≡ seated w → j ≡ (both_beside one.0 tok.0, one.1) → j.0.plain ≡ paired v w
joined_is j one tok v w a b e = ap (λ y. y.0.plain) e ∙ (λ i. both_of (a i) (b i))

-- the same where that token is what was put in the place of one that was left as it is
pub joined_as : {T : Type 0} (j one him was tok : Me (Option T) (Beside T)) (v w : SeatView) → one.0.plain ≡ seated v → was.0.plain ≡ seated w
    → him ≡ was → tok ≡ him → j ≡ (both_beside one.0 tok.0, one.1) → j.0.plain ≡ paired v w
joined_as j one him was tok v w a b left put e = joined_is j one tok v w a (ap (λ m. m.0.plain) put ∙ (ap (λ m. m.0.plain) left ∙ b)) e

-- and what grew from the token that two joined into grew from the two
pub grown_as : {T : Type 0} (Grows : Bool → Beside T → Beside T → Type 0) (has : Bool) (j one him was tok : Me (Option T) (Beside T)) (now : Beside T) → has ≡ true → him ≡ was
    → tok ≡ him → j ≡ (both_beside one.0 tok.0, one.1) → Grows has j.0 now → Grows true (both_beside one.0 was.0) now
grown_as {T} Grows has j one him was tok now is left put e grown =
    subst (λ (w : Beside T). Grows true w now)
    (ap (λ (m : Me (Option T) (Beside T)). m.0) e ∙ ap (λ (m : Me (Option T) (Beside T)). both_beside one.0 m.0) (put ∙ left))
    (subst (λ (b : Bool). Grows b j.0 now) is grown)

-- a new token gathers
pub enters : (T : Type 0) (key : Layout) (slots : ℕ) → Enters {S = Option T} (HoldsBy key) slots 0 (λ n w. OpensBeside (w, []))
enters T key slots = by_kind key (λ H. Enters {S = Option T} H slots 0 (λ n w. OpensBeside (w, [])))
    (λ _. opens (HoldsFor key.carries key) (lift_enters {T = T} key.carries key slots 0 (omega arith) (λ es. enters_with key es 0 0)))
    (λ _. opens (HoldsAs true key) (in_places_enters key slots 0 (placed_enters key 0 (own_tail key) (λ es. enters_with key es 0 0))))
  where
    opens : (H : State (Option T) (Beside T) → Type 0) → Enters {S = Option T} H slots 0 (λ n w. w.plain ≡ gathered []) → Enters {S = Option T} H slots 0 (λ n w. OpensBeside (w, []))
    opens H come s h count small = let q = come s h count small in (q.0, q.1, ap (λ u. (u, [])) q.2)

-- a token that gathers takes in one of a seat
pub gathers_token : {T : Type 0} (key : Layout) (t : TableId) (k : Token (Option T) (Beside T)) (s : Seat T) (seats : List (Seat T))
    → HasGathered t k seats → HasToken t s → Joins {S = Option T} (HoldsBy key) k.id k.me.0 s.token.id s.token.me.0 (both_beside k.me.0 s.token.me.0)
    knows_nothing
gathers_token {T} key t k s seats g has =
    let vs = map view seats in
    let both : both_of k.me.0.plain s.token.me.0.plain ≡ gathered (vs ++ view s ∷ []) = λ i. both_of (g.seat i) (has.seat i) in
    by_kind key (λ H. Joins {S = Option T} H k.id k.me.0 s.token.id s.token.me.0 (both_beside k.me.0 s.token.me.0) knows_nothing) (λ _.
    lift_joins key.carries key k.id s.token.id k.me.0 s.token.me.0 (both_beside k.me.0 s.token.me.0) knows_nothing
    (λ es. subst (λ (y : View × View). Joins {S = ℕ} (HoldsWith key es) k.id y.0 s.token.id y.1 (both_of y.0 y.1) spent)
    (λ i. (sym g.seat i, sym has.seat i)) (gathers key es k.id s.token.id vs (view s))) refl (sym (none_hand s.token.me.0.hand has.none_out.1))
    (λ ds b c. (
      record {
        rest = b.rest;
        begins = b.begins;
        matches = λ v e. absurd (many_not_one (vs ++ view s ∷ []) v (sym both ∙ e));
        pair =
            λ v u e y. absurd (many_not_two (vs ++ view s ∷ []) v u (sym both ∙ e));
        others = ((c.rest, c.begins), b.others);
      },
      record { rest = ds; begins = refl; matches = λ v e. cc; pair = λ v u e y. cc; others = tt },
    )))
    (λ _. in_places_joins key k.id s.token.id k.me.0 s.token.me.0 (both_beside k.me.0 s.token.me.0) knows_nothing
    (placed_joins key k.id s.token.id (placed_of k.me.0) (placed_of s.token.me.0) (placed_of (both_beside k.me.0 s.token.me.0)) (placed_of {T = T} knows_nothing)
    (λ es. subst (λ (y : View × View). Joins {S = ℕ} (HoldsWith key es) k.id y.0 s.token.id y.1 (both_of y.0 y.1) spent)
    (λ i. (sym g.seat i, sym has.seat i)) (gathers key es k.id s.token.id vs (view s))) refl refl
    (λ v q x e has. absurd (many_not_one vs v (sym g.seat ∙ e))) (rests_no_place (placed_of s.token.me.0) (view s) has.seat has.rests)
    (λ ds b c. (
      record {
        rest = b.rest;
        begins = b.begins;
        matches = λ v e. absurd (many_not_one (vs ++ view s ∷ []) v (sym both ∙ e));
        pair = λ v u e y. absurd (many_not_two (vs ++ view s ∷ []) v u (sym both ∙ e));
        others = ((c.rest, c.begins), b.others);
      },
      record { rest = ds; begins = refl; matches = λ v e. cc; pair = λ v u e y. cc; others = tt },
    ))))
  where
    many_not_one : (us : List SeatView) (v : SeatView) → gathered us ≡ seated v → ⊥
    many_not_one us v e = cc

    many_not_two : (us : List SeatView) (v u : SeatView) → gathered us ≡ paired v u → ⊥
    many_not_two us v u e = cc

-- a token that took in one more
pub took_in : {T : Type 0} (t : TableId) (k k' : Token (Option T) (Beside T)) (seats : List (Seat T)) (s : Seat T) → HasGathered t k seats
    → HasToken t s → k'.table_id ≡ k.table_id → k'.me ≡ (both_beside k.me.0 s.token.me.0, k.me.1) → HasGathered t k' (seats ++ s ∷ [])
took_in {T} t k k' seats s g has same is =
    record {
      table = same ∙ g.table;
      seat = ap (λ y. y.0.plain) is ∙ (λ i. both_of (g.seat i) (has.seat i)) ∙ ap gathered (sym (map-append view seats (s ∷ [])));
      held = ap (λ y. y.1) is ∙ g.held;
      others = λ ds all.
          let both : AllBegin (deeds_of s ∷ k.me.0.others) ds = subst (λ (o : List (List (Deed T))). AllBegin o ds) (ap (λ y. y.0.others) is) all in
          let P : Seat T → Type 0 = λ x. IsPrefix (deeds_of x) ds in
          All-append P seats (s ∷ []) (g.others ds both.1) (All-cons P s [] (both.0.0, sym both.0.1) (All-nil P));
      said = λ ds all.
          let both : AllBegin (said_by s ∷ k.me.0.placing.others) ds = subst (λ (o : List (List (Deed (List ℕ)))). AllBegin o ds) (ap (λ y. y.0.placing.others) is) all in
          let P : Seat T → Type 0 = λ x. IsPrefix (said_by x) ds in
          All-append P seats (s ∷ []) (g.said ds both.1) (All-cons P s [] (both.0.0, sym both.0.1) (All-nil P));
    }

-- a new token has taken in none
pub took_none : {T : Type 0} (t : TableId) (k : Token (Option T) (Beside T)) → k.table_id ≡ t → k.me.1 ≡ [] → OpensBeside k.me → HasGathered t k []
took_none {T} t k table held opened = record { table = table; seat = ap (λ y. y.0) opened; held = held; others = λ ds all. All-nil (λ (x : Seat T). IsPrefix (deeds_of x) ds); said = λ ds all. All-nil (λ (x : Seat T). IsPrefix (said_by x) ds) }

-- each seat of a ring that carries no values brings a token of its table
pub have_tokens : {T : Type 0} (q : RingQueue T) (seats : List (Seat T)) → All (IsNumberSeat q) seats → All (HasToken q.table.shared.table_id) seats
have_tokens q seats ready = λ k d lt. let h = ready k d lt in record { table = h.ready.sits.table; seat = h.ready.sits.seat; none_out = h.ready.sits.none_out h.numbers; rests = h.ready.rests }

-- so does each of a ring that carries values, of which no slot is out
pub bring_tokens : {T : Type 0} (q : RingQueue T) (seats : List (Seat T)) → All (IsRingSeat q) seats → All HasNoSlot seats → All (HasToken q.table.shared.table_id) seats
bring_tokens q seats ready apart = λ k d lt. let h = ready k d lt in record { table = h.sits.table; seat = h.sits.seat; none_out = apart k d lt; rests = h.rests }

-- so does each of a ring whose values lie in their places
pub word_tokens : {T : Type 0} (q : RingQueue T) (seats : List (Seat T)) → All (IsWordSeat q) seats → All (HasToken q.table.shared.table_id) seats
word_tokens q seats ready = λ k d lt.
    let h = ready k d lt in
    record { table = h.ready.sits.table; seat = h.ready.sits.seat; none_out = h.ready.sits.none_out (q.laid.planned.apart h.placed); rests = h.ready.rests }

-- at the end the words of the queue are those of a ring whose seats are those handed in
pub ends : {T : Type 0} (z key : Layout) (seats : List (Seat T)) (id : ℕ) (w : Beside T) (words : List ℕ) (slots : List (Option T)) → key ≡ z → z.placed ≡ false
    → w.plain ≡ gathered (map view seats) → Final {S = Option T} (Seen (HoldsBy key) id w) words slots → Ends z seats (take (words_of z) words)
ends {T} z key seats id w words slots same unplaced is t =
    let plain = lift_final key.carries key id w words slots (t.0, (plain_rule key (ap (λ (y : Layout). y.placed) same ∙ unplaced) t.0 t.1.0, t.1.1), t.2, t.3, t.4) in
    ends_at z seats id (take (words_of z) words) [] (subst (λ (y : Layout × View). Final {S = ℕ} (Seen (Holds y.0) id y.1) (take (words_of y.0) words) []) (λ i. (same i, is i)) plain)

-- the same of a table that carries no values: its words are the queue's
pub ends_alone : {T : Type 0} (z key : Layout) (t : TableId) (seats : List (Seat T)) (id : ℕ) (w : Beside T) (words : List ℕ)
    (slots : List (Option T)) → IsTable z key t → z.carries ≡ false → z.placed ≡ false → length words ≡ t.words → w.plain ≡ gathered (map view seats)
    → Final {S = Option T} (Seen (HoldsBy key) id w) words slots → Ends z seats words
ends_alone z key t seats id w words slots laid numbers unplaced count is f =
    let none_of : slots_of z ≡ 0 = ap (λ (b : Bool). if b then z.slots else 0) numbers in
    let none_more : further_of z ≡ 0 = ap (λ (k : ℕ). further_for k z.slots) (laid.planned.elsewhere unplaced) in
    let all = laid.words in
    subst (Ends z seats) (take_full (words_of z) words (omega (arith, count, all, none_of, none_more))) (ends z key seats id w words slots laid.key unplaced is f)

-- a ring with a seat that is one of a ring that carries no values carries none
pub carries_none : {T : Type 0} (q : RingQueue T) (seats : List (Seat T)) → All (IsNumberSeat q) seats → 1 ≤ length seats → q.plan.carries ≡ false
carries_none q [] all some = absurd (omega (arith, some))
carries_none q (s ∷ ss) all some = (all 0 s (omega arith)).numbers

-- nor are its values words in their places
pub placed_none : {T : Type 0} (q : RingQueue T) (seats : List (Seat T)) → All (IsNumberSeat q) seats → 1 ≤ length seats → q.plan.placed ≡ false
placed_none q [] all some = absurd (omega (arith, some))
placed_none q (s ∷ ss) all some = (all 0 s (omega arith)).ready.unplaced
