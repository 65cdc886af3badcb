-- What the rule of the queue alone asks and allows, said of a table with slots: no slot moves.
use Rattle.std.proofs.Common.{◌≡◌, ◌≢◌, ◌⊎◌, ℕ, ◌+◌, ◌<◌, ◌≤◌, Bool, true, false, inl, inr, ⊎_elim, List, [], ◌∷◌, ◌++◌, zero, suc, length, map, take}
use Rattle.std.proofs.Common.{set, get_or, Option, sym, refl, ap, ◌∙◌, subst, arith, append-nil}
use Rattle.std.proofs.lemmas.List.{get_or-take, set-get_or, length-set}
use Rattle.std.proofs.Math.Seq.{take-set-lt}
use mathlib.Core.List.{map-append}
use mathlib.Core.Option.{some, none, some-injective, some-ne-none}
use mathlib.Core.Option as maybe
use lib.ListN.{get_elem?}
use Rattle.atomic_table.specs.Table.{State, Me, Act, keeps, takes, gives, chain, Valid, carried_after, homes_after, stepped, Allows, Splits, Joins, Enters, opening, Final, Seen}
use Rattle.atomic_table.proofs.Lists.{at_map, at_set, set_else}
use Rattle.history.specs.declared.operations.Entry.{Entry}
use Rattle.node_arena.specs.Places.{shared_words}
use Rattle.node_arena.specs.Knowledge.{SeatView, View, seated, paired, knows}
use Rattle.node_arena.proofs.Riding.{rides_same}
use Rattle.node_arena.proofs.KnownValues.{knows_values}
use Rattle.node_arena.specs.Plans.{Layout}
use Rattle.node_arena.specs.Rule.{IsThere, Holds, first_view}
use Rattle.node_arena.specs.Deeds.{Deed, Matches}
use Rattle.node_arena.specs.Slots.{item_of}
use Rattle.node_arena.specs.Beside.{Beside, words_of, plain_of, plain_state, flag_at, slots_in, hand_in, hand_at, home_at, Begins, Carried, CarriedBy}
use Rattle.node_arena.specs.Beside.{HoldsFor, KnowsBy, KnowsNow, GrowsBy, alone, onward, first_beside}

-- no act moves a slot where there is none
pub none_moved : (a : Act ℕ) → Valid {S = ℕ} [] [] a → (carried_after {S = ℕ} [] a ≡ []) × (homes_after {S = ℕ} [] [] a ≡ [])
none_moved keeps v = (refl, refl)
none_moved (takes k y) v = absurd (some-ne-none (some y) (sym v))
none_moved gives v = (refl, refl)
none_moved (chain a b) v =
    let one = none_moved a v.0 in
    let two = none_moved b (subst (λ (q : List (maybe.Option ℕ) × List (ℕ × ℕ)). Valid {S = ℕ} q.0 q.1 b) (λ i. (one.1 i, one.0 i)) v.1) in
    (ap (λ (c : List (ℕ × ℕ)). carried_after c b) one.0 ∙ two.0, (λ i. homes_after (one.1 i) (one.0 i) b) ∙ two.1)

-- no slot is out
pub none_hand : (h : maybe.Option ℕ) → slots_in h ≡ 0 → h ≡ none
none_hand none e = refl
none_hand (some i) e = absurd (omega (arith, e))

pub none_held : {X : Type 0} (xs : List X) → length xs ≡ 0 → xs ≡ []
none_held [] e = refl
none_held (x ∷ xs) e = absurd (omega (arith, e))

pub map_set : {A B : Type 0} (f : A → B) (l : List A) (i : ℕ) (a : A) → map f (set l i a) ≡ set (map f l) i (f a)
map_set f [] i a = refl
map_set f (x ∷ xs) zero a = refl
map_set f (x ∷ xs) (suc i) a = ap (λ y. f x ∷ y) (map_set f xs i a)

pub take_full : {A : Type 0} (n : ℕ) (xs : List A) → length xs ≡ n → take n xs ≡ xs
take_full {A} n xs e = subst (λ (k : ℕ). take k xs ≡ xs) e (go xs)
  where
    go : (ys : List A) → take (length ys) ys ≡ ys
    go [] = refl
    go (y ∷ ys) = ap (λ l. y ∷ l) (go ys)

-- the rule for another table with the same words and views
abbrev pub moved : (z : Layout) (s s' : State ℕ View) (h : Holds z s) → s'.words ≡ s.words → s'.views ≡ s.views → Holds z s'
moved z s s' h words views =
    record {
      sized = h.sized;
      trace = h.trace;
      reached = h.reached;
      setup = h.setup;
      actors = h.actors;
      words = ap shared_words words ∙ h.words;
      permitted = h.permitted;
      dealt = h.dealt;
      home = h.home;
      owner = h.owner;
      fits = λ j i u o there which. h.fits j i u o (ap (λ l. get_elem? l j) (sym views) ∙ there) which;
      owned = λ j i u o there which. h.owned j i u o (ap (λ l. get_elem? l j) (sym views) ∙ there) which;
      kept = λ j k there. h.kept j k (ap (λ l. get_elem? l j) (sym views) ∙ there);
      undealt = h.undealt;
      peopled = h.peopled;
      ran = λ j i u o there which. h.ran j i u o (ap (λ l. get_elem? l j) (sym views) ∙ there) which;
      unmoved = h.unmoved;
      there = λ n. subst (λ vs. IsThere vs h.reached.moves n) (sym views) (h.there n);
    }

-- the rule of the queue, with this history
abbrev pub HoldsWith : Layout → List Entry → State ℕ View → Type 0
HoldsWith z es s = (h : Holds z s) × (h.trace.history ≡ es)

-- the rule of the queue alone, of a table with slots
abbrev pub PlainFor : {T : Type 0} → Layout → State (Option T) (Beside T) → Type 0
PlainFor z s = Holds z (plain_state (words_of z) s)

pub at_end : {A : Type 0} (l : List A) (a b : A) (j : ℕ) → get_elem? (l ++ a ∷ []) j ≡ some b → (get_elem? l j ≡ some b) ⊎ ((j ≡ length l) × (a ≡ b))
at_end [] a b zero e = inr (refl, some-injective a b e)
at_end [] a b (suc j) e = absurd (some-ne-none b (sym e))
at_end (x ∷ xs) a b zero e = inl e
at_end (x ∷ xs) a b (suc j) e = ⊎_elim (λ t. inl t) (λ (t : (j ≡ length xs) × (a ≡ b)). inr (ap suc t.0, t.1)) (at_end xs a b j e)

module _ {T : Type 0} (z : Layout) where
  -- a step on a word of the queue
  pub lift_allows : (slots id : ℕ) (w : Beside T) (held : List (ℕ × Option T)) (p : ℕ) (f : ℕ → ℕ) (then : ℕ → Me ℕ View → Type 0) → p < words_of z
      → Allows {S = ℕ} (Holds z) 0 id (w.plain, []) p f then
      → Allows {S = Option T} (PlainFor z) slots id (w, held) p f (λ n o. then n (o.0.plain, []) × ((o.1 ≡ held) × (o.0.hand ≡ w.hand) × (o.0.deeds ≡ w.deeds) × (o.0.tries ≡ w.tries)))
  lift_allows slots id w held p f then within allows s h count mine small =
      let m : ℕ = words_of z in
      let same : get_or (take m s.words) p 0 ≡ get_or s.words p 0 = get_or-take m s.words p 0 within in
      let q = allows (plain_state m s) h refl (at_map plain_of s.views id w mine) (subst (λ (k : ℕ). k < 18446744073709551616) (sym same) small) in
      let w' : Beside T = onward (λ _. q.0) w in (
        w',
        keeps,
        tt,
        moved z (stepped (plain_state m s) p (f (get_or (take m s.words) p 0)) id [] q.0 q.1) (plain_state m (stepped s p (f (get_or s.words p 0)) id held w' keeps)) q.3
            (take-set-lt m s.words p (f (get_or s.words p 0)) within ∙ ap (λ (k : ℕ). set (take m s.words) p (f k)) (sym same)) (map_set plain_of s.views id w'),
        (subst (λ (y : ℕ × List (ℕ × ℕ)). then y.0 (q.0, y.1)) (λ i. (same i, (none_moved q.1 q.2).0 i)) q.4, (refl, refl, refl, refl)),
      )

module _ {T : Type 0} where
  -- a view that comes last, and has no slot
  hand_end : (views : List (Beside T)) (r : Beside T) → r.hand ≡ none → (j : ℕ) → hand_at views j ≡ hand_at (views ++ r ∷ []) j
  hand_end [] r e zero = sym e
  hand_end [] r e (suc j) = refl
  hand_end (x ∷ xs) r e zero = refl
  hand_end (x ∷ xs) r e (suc j) = hand_end xs r e j

  -- another view with the same slot
  pub hand_set : (views : List (Beside T)) (id : ℕ) (w l : Beside T) → get_elem? views id ≡ some w → l.hand ≡ w.hand → (j : ℕ) → hand_at views j ≡ hand_at (set views id l) j
  hand_set [] id w l got same j = refl
  hand_set (x ∷ xs) zero w l got same zero = ap hand_in got ∙ sym same
  hand_set (x ∷ xs) zero w l got same (suc j) = refl
  hand_set (x ∷ xs) (suc id) w l got same zero = refl
  hand_set (x ∷ xs) (suc id) w l got same (suc j) = hand_set xs id w l got same j

  -- each view knows a beginning of these deeds
  abbrev AllBegin : List (Deed T) → List (Beside T) → Type 0
  AllBegin ds views = (j : ℕ) (w : Beside T) → get_elem? views j ≡ some w → Begins ds w

  -- other views, where the slots are as they were
  pub recarried : (z : Layout) (es : List Entry) (s : State (Option T) (Beside T)) (words : List ℕ) (views : List (Beside T)) (c : Carried z es s)
      → ((i : ℕ) → flag_at (words_of z) s.words i ≡ flag_at (words_of z) words i) → ((j : ℕ) → hand_at s.views j ≡ hand_at views j)
      → AllBegin c.rides.deeds views → length words ≡ length s.words
      → Carried z es record { words = words; homes = s.homes; views = views }
  recarried z es s words views c flags hands known same =
      let r = rides_same es z.setup.size (flag_at (words_of z) s.words) (flag_at (words_of z) words) (home_at s.homes) (hand_at s.views) (hand_at views) c.rides flags hands in
      record { rides = r.0; known = subst (λ (ds : List (Deed T)). AllBegin ds views) (sym r.1) known; long = subst (λ (k : ℕ). words_of z + z.setup.size ≤ k) (sym same) c.long }

  -- the same, where the queue's history is as it was
  pub revalued : (z : Layout) (s : State (Option T) (Beside T)) (words : List ℕ) (views : List (Beside T)) (h : HoldsFor z s)
      (b : HoldsWith z h.base.trace.history (plain_state (words_of z) (record { words = words; homes = s.homes; views = views })))
      → ((i : ℕ) → flag_at (words_of z) s.words i ≡ flag_at (words_of z) words i) → ((j : ℕ) → hand_at s.views j ≡ hand_at views j)
      → ((ds : List (Deed T)) → AllBegin ds s.views → AllBegin ds views) → length words ≡ length s.words
      → HoldsFor z record { words = words; homes = s.homes; views = views }
  revalued z s words views h b flags hands known same =
      record {
        base = b.0;
        values = subst (λ (es : List Entry). CarriedBy z.carries z es (record { words = words; homes = s.homes; views = views })) (sym b.1) (go z.carries h.values);
      }
    where
      go : (b : Bool) → CarriedBy b z h.base.trace.history s → CarriedBy b z h.base.trace.history (record { words = words; homes = s.homes; views = views })
      go true c = recarried z h.base.trace.history s words views c flags hands (known c.rides.deeds c.known) same
      go false c = tt

module _ {T : Type 0} (z : Layout) where
  -- a view is cut in two
  pub lift_splits : (id : ℕ) (w l r : Beside T) → ((es : List Entry) → Splits {S = ℕ} (HoldsWith z es) id w.plain l.plain r.plain) → l.hand ≡ w.hand
      → r.hand ≡ none → ((ds : List (Deed T)) → Begins ds w → Begins ds l × Begins ds r) → Splits {S = Option T} (HoldsFor z) id w l r
  lift_splits id w l r splits left right knows s h mine =
      let m : ℕ = words_of z in
      let b = splits h.base.trace.history (plain_state m s) (h.base, refl) (at_map plain_of s.views id w mine) in
      let views : List (Beside T) = set s.views id l ++ r ∷ [] in
      revalued z s s.words views h (
        moved z (record { words = take m s.words; homes = []; views = set (map plain_of s.views) id l.plain ++ r.plain ∷ [] })
            (plain_state m (record { words = s.words; homes = s.homes; views = views })) b.0 refl
            (map-append plain_of (set s.views id l) (r ∷ []) ∙ ap (λ vs. vs ++ r.plain ∷ []) (map_set plain_of s.views id l)),
        b.1,
      )
      (λ i. refl)
      (λ j. hand_set s.views id w l mine left j ∙ hand_end (set s.views id l) r right j)
      (λ ds all j o got. let two = knows ds (all id w mine) in ⊎_elim
      (λ (t : get_elem? (set s.views id l) j ≡ some o). ⊎_elim (λ (q : (j ≡ id) × (l ≡ o)). subst (Begins ds) q.1 two.0)
      (λ (q : (j ≢ id) × (get_elem? s.views j ≡ some o)). all j o q.1) (at_set s.views id j l o t))
      (λ (t : (j ≡ length (set s.views id l)) × (r ≡ o)). subst (Begins ds) t.1 two.1)
      (at_end (set s.views id l) r o j got))
      refl

  -- two views become one
  pub lift_joins : (id other : ℕ) (v w both gone : Beside T) → ((es : List Entry)
      → Joins {S = ℕ} (HoldsWith z es) id v.plain other w.plain both.plain gone.plain) → both.hand ≡ v.hand → gone.hand ≡ w.hand
      → ((ds : List (Deed T)) → Begins ds v → Begins ds w → Begins ds both × Begins ds gone)
      → Joins {S = Option T} (HoldsFor z) id v other w both gone
  lift_joins id other v w both gone joins left right knows s h mine ne his =
      let m : ℕ = words_of z in
      let b = joins h.base.trace.history (plain_state m s) (h.base, refl) (at_map plain_of s.views id v mine) ne
      (subst (λ (vs : List View). get_elem? vs other ≡ some w.plain) (map_set plain_of s.views id both)
      (at_map plain_of (set s.views id both) other w his)) in
      let views : List (Beside T) = set (set s.views id both) other gone in
      revalued z s s.words views h (
        moved z (record { words = take m s.words; homes = []; views = set (set (map plain_of s.views) id both.plain) other gone.plain })
            (plain_state m (record { words = s.words; homes = s.homes; views = views })) b.0 refl
            (map_set plain_of (set s.views id both) other gone ∙ ap (λ vs. set vs other gone.plain) (map_set plain_of s.views id both)),
        b.1,
      )
      (λ i. refl)
      (λ j. hand_set s.views id v both mine left j ∙ hand_set (set s.views id both) other w gone his right j)
      (λ ds all j o got. let two = knows ds (all id v mine) (all other w (sym (set_else s.views id other both ne) ∙ his)) in ⊎_elim
      (λ (q : (j ≡ other) × (gone ≡ o)). subst (Begins ds) q.1 two.1)
      (λ (t : (j ≢ other) × (get_elem? (set s.views id both) j ≡ some o)). ⊎_elim (λ (q : (j ≡ id) × (both ≡ o)). subst (Begins ds) q.1 two.0)
      (λ (q : (j ≢ id) × (get_elem? s.views j ≡ some o)). all j o q.1) (at_set s.views id j both o t.1))
      (at_set (set s.views id both) other j gone o got))
      refl

  -- a new seat, by a load of a word of the queue
  pub lift_enters : (slots p : ℕ) (then : ℕ → View → Type 0) → p < words_of z
      → ((es : List Entry) → Enters {S = ℕ} (HoldsWith z es) 0 p (λ n w. then n w × ((v : SeatView) → w ≢ seated v)
      × ((v u : SeatView) → w ≢ paired v u))) → Enters {S = Option T} (HoldsFor z) slots p (λ n w. then n w.plain)
  lift_enters slots p then within enters s h count small =
      let m : ℕ = words_of z in
      let same : get_or (take m s.words) p 0 ≡ get_or s.words p 0 = get_or-take m s.words p 0 within in
      let q = enters h.base.trace.history (plain_state m s) (h.base, refl) refl (subst (λ (k : ℕ). k < 18446744073709551616) (sym same) small) in
      let views : List (Beside T) = s.views ++ alone q.0 ∷ [] in
      let new : (ds : List (Deed T)) → Begins ds (alone q.0) = λ ds. record { rest = ds; begins = refl; matches = λ v e. absurd (q.2.1 v e); pair = λ v u e y. absurd (q.2.2 v u e); others = tt } in (
        alone q.0,
        revalued z s s.words views h (
          moved z (record { words = take m s.words; homes = []; views = map plain_of s.views ++ q.0 ∷ [] })
              (plain_state m (record { words = s.words; homes = s.homes; views = views })) q.1.0 refl
              (map-append plain_of s.views (alone q.0 ∷ [])),
          q.1.1,
        )
            (λ i. refl) (hand_end s.views (alone q.0) refl)
            (λ ds all j o got. ⊎_elim (λ (t : get_elem? s.views j ≡ some o). all j o t)
            (λ (t : (j ≡ length s.views) × (alone q.0 ≡ o)). subst (Begins ds) t.1 (new ds)) (at_end s.views (alone q.0) o j got))
            refl,
        subst (λ (k : ℕ). then k q.0) same q.2.0,
      )

  -- the end of a table, as one of the words of the queue
  pub lift_final : (id : ℕ) (w : Beside T) (words : List ℕ) (slots : List (Option T)) → Final {S = Option T} (Seen (HoldsFor z) id w) words slots
      → Final {S = ℕ} (Seen (Holds z) id w.plain) (take (words_of z) words) []
  lift_final id w words slots f = (plain_state (words_of z) f.0, (f.1.0.base, at_map plain_of f.0.views id w f.1.1), ap (take (words_of z)) f.2, refl, λ k y e. absurd (some-ne-none (some y) (sym e)))

-- what a seat has seen, or two that are one have, is this history
abbrev pub Learns : List Entry → View → Type 0
Learns es u = ((v : SeatView) → u ≡ seated v → v.seen ≡ es) × ((v o : SeatView) → u ≡ paired v o → v.seen ≡ es) × ((knows u).seen ≡ es)

-- a load of a word of the queue by a view that has then seen the whole history: it knows the whole history of the values
module _ {T : Type 0} (key : Layout) (slots id : ℕ) (w : Beside T) (held : List (ℕ × Option T)) (p : ℕ) (told : ℕ → View → Type 0) where
  pub lift_learns : p < words_of key → ((es : List Entry) → Allows {S = ℕ} (HoldsWith key es) 0 id (w.plain, []) p (λ n. n)
      (λ n o. told n o.0 × Learns es o.0)) → Allows {S = Option T} (HoldsFor key) slots id (w, held) p (λ n. n)
      (λ n o. told n o.0.plain × (o.1 ≡ held) × (o.0.hand ≡ w.hand) × KnowsNow key o.0 × GrowsBy key.carries w o.0 × (o.0.tries ≡ w.tries))
  lift_learns within learns s h count mine small =
      let m : ℕ = words_of key in
      let es : List Entry = h.base.trace.history in
      let same : get_or (take m s.words) p 0 ≡ get_or s.words p 0 = get_or-take m s.words p 0 within in
      let q = learns es (plain_state m s) (h.base, refl) refl (at_map plain_of s.views id w mine) (subst (λ (k : ℕ). k < 18446744073709551616) (sym same) small) in
      let words : List ℕ = set s.words p (get_or s.words p 0) in
      let after : List (Deed T) → Beside T = λ ds. record { plain = q.0; deeds = ds; hand = w.hand; others = []; tries = w.tries } in
      let base : (ds : List (Deed T)) → HoldsWith key es (plain_state m (record { words = words; homes = s.homes; views = set s.views id (after ds) })) = λ ds. (
        moved key (stepped (plain_state m s) p (get_or (take m s.words) p 0) id [] q.0 q.1) (plain_state m (record { words = words; homes = s.homes; views = set s.views id (after ds) })) q.3.0
            (take-set-lt m s.words p (get_or s.words p 0) within ∙ ap (λ (k : ℕ). set (take m s.words) p k) (sym same)) (map_set plain_of s.views id (after ds)),
        q.3.1,
      ) in
      let tells : told (get_or s.words p 0) q.0 = subst (λ (n : ℕ). told n q.0) same q.4.0 in
      let Out : Type 0 = (w' : Beside T) × (a : Act (Option T)) × Valid s.homes held a × HoldsFor key (stepped s p (get_or s.words p 0) id held w' a)
      × (told (get_or s.words p 0) w'.plain × (carried_after held a ≡ held) × (w'.hand ≡ w.hand) × KnowsNow key w' × GrowsBy key.carries w w' × (w'.tries ≡ w.tries)) in
      let plainly : key.carries ≡ false → Out = λ e. (
        after w.deeds,
        keeps,
        tt,
        record { base = (base w.deeds).0; values = subst (λ (b : Bool). CarriedBy b key (base w.deeds).0.trace.history (stepped s p (get_or s.words p 0) id held (after w.deeds) keeps)) (sym e) tt },
        (tells, refl, refl, subst (λ (b : Bool). KnowsBy b key (knows q.0).seen (after w.deeds)) (sym e) tt, subst (λ (b : Bool). GrowsBy b w (after w.deeds)) (sym e) refl, refl),
      ) in
      let carrying : key.carries ≡ true → Out = λ e.
      let c = subst (λ (b : Bool). CarriedBy b key es s) e h.values in
      let ds = c.rides.deeds in
      let new : Begins ds (after ds) = record {
        rest = [];
        begins = sym (append-nil ds);
        matches = λ v k. subst (λ (x : List Entry). Matches x ds) (sym (q.4.1.0 v k)) c.rides.matches;
        pair = λ v o k y. subst (λ (x : List Entry). Matches x ds) (sym (q.4.1.1 v o k)) c.rides.matches;
        others = tt;
      } in (
        after ds,
        keeps,
        tt,
        record {
          base = (base ds).0;
          values = subst (λ (b : Bool). CarriedBy b key (base ds).0.trace.history (stepped s p (get_or s.words p 0) id held (after ds) keeps)) (sym e)
              (subst (λ (x : List Entry). Carried key x (record { words = words; homes = s.homes; views = set s.views id (after ds) })) (sym (base ds).1)
              (recarried key es s words (set s.views id (after ds)) c (λ i. ap (λ (ws : List ℕ). get_or ws (m + i) 0) (sym (set-get_or s.words p 0)))
              (λ j. hand_set s.views id w (after ds) mine refl j)
              (λ j o got. ⊎_elim (λ (k : (j ≡ id) × (after ds ≡ o)). subst (Begins ds) k.1 new)
              (λ (k : (j ≢ id) × (get_elem? s.views j ≡ some o)). c.known j o k.1) (at_set s.views id j (after ds) o got))
              (length-set s.words p (get_or s.words p 0))));
        },
        (
          tells,
          refl,
          refl,
          subst (λ (b : Bool). KnowsBy b key (knows q.0).seen (after ds)) (sym e)
              (knows_values key (knows q.0).seen (after ds) ds [] (map item_of c.rides.q) c.rides.shut (sym (append-nil ds)) c.rides.runs
              (subst (λ (x : List Entry). Matches x ds) (sym q.4.1.2) c.rides.matches)
              (λ i k. (c.rides.slotted.out id i (ap hand_in mine ∙ k)).0)),
          subst (λ (b : Bool). GrowsBy b w (after ds)) (sym e) (let f = c.known id w mine in ((f.rest, f.begins), f.others)),
          refl,
        ),
      ) in
      by_bool plainly carrying
    where
      by_bool : {X : Type 0} → (key.carries ≡ false → X) → (key.carries ≡ true → X) → X
      by_bool {X} f t = go key.carries refl
        where
          go : (b : Bool) → key.carries ≡ b → X
          go true e = t e
          go false e = f e

-- a new table that carries no values
pub lift_opens : (T : Type 0) (z : Layout) (words : List ℕ) → z.carries ≡ false → length words ≡ words_of z
    → Holds z (opening {S = ℕ} words [] (first_view z)) → HoldsFor z (opening {S = Option T} words [] (first_beside z))
lift_opens T z words none_carried long h = record {
  base = moved z (opening {S = ℕ} words [] (first_view z)) (plain_state (words_of z) (opening {S = Option T} words [] (first_beside z))) h (take_full (words_of z) words long) refl;
  values = subst (λ (b : Bool). CarriedBy b z h.trace.history (opening {S = Option T} words [] (first_beside z))) (sym none_carried) tt;
}
