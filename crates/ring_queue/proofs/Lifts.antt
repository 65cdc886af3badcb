-- What the rule of the queue alone asks and allows, said of a table with slots: no slot moves.
use Rattle.std.proofs.Common.{◌≡◌, ◌≢◌, ℕ, ◌+◌, ◌<◌, ◌≤◌, Bool, true, false, ⊎_elim, List, [], ◌∷◌, ◌++◌, zero, suc, length, map, take, set, get_or, Option, sym, refl, ap, ◌∙◌, subst, append-nil}
use Rattle.std.proofs.lemmas.List.{get_or-take, set-get_or, length-set}
use Rattle.std.proofs.Math.Seq.{take-set-lt}
use mathlib.Core.List.{map-append}
use mathlib.Core.Option.{some, none, some-ne-none}
use mathlib.Core.Option as maybe
use lib.ListN.{get_elem?}
use Rattle.atomic_table.specs.Table.{State, Me, Act, keeps, Valid, carried_after, stepped, Allows, Splits, Joins, Enters, Final, Seen}
use Rattle.atomic_table.proofs.Lists.{at_map, at_set, set_else}
use Rattle.history.specs.declared.operations.Entry.{Entry}
use Rattle.node_arena.specs.Beside.{flag_at, home_at}
use Rattle.node_arena.specs.Deeds.{Deed, Matches}
use Rattle.node_arena.specs.Slots.{item_of}
use Rattle.node_arena.proofs.Lifts.{map_set}
use Rattle.node_arena.proofs.Riding.{rides_same}
use Rattle.ring_queue.specs.Plans.{Layout, words_of}
use Rattle.ring_queue.specs.Knowledge.{SeatView, View, gathered, seated, paired, knows}
use Rattle.ring_queue.specs.Rule.{Holds}
use Rattle.ring_queue.specs.Beside.{Beside, plain_of, plain_state, hand_in, hand_at, Begins, Carried, CarriedBy, HoldsFor, HoldsValues, IsReadyBy, SaidBy}
use Rattle.ring_queue.specs.Beside.{GrowsPlaced, TellsBeside, MeetsBeside, alone, first_beside_of, second_beside_of}
use Rattle.ring_queue.specs.Meets.{learned}
use Rattle.ring_queue.specs.Paths.{Try}
use Rattle.ring_queue.specs.Placed.{Placing}
use Rattle.ring_queue.proofs.Tables.{HoldsWith, its_seat, one_seat}
use Rattle.ring_queue.proofs.Calls.{Does}
use Rattle.ring_queue.proofs.Runs.{Made, run_on, knew_of}
use Rattle.ring_queue.proofs.Deals.{at_end}
use Rattle.ring_queue.proofs.Meets.{meets_now}
use Rattle.ring_queue.proofs.Carrying.{allows_values, knows_first}

-- the rule for a table with other words and views that are the same
abbrev moved : (z : Layout) (es : List Entry) (ws ws' : List ℕ) (vs vs' : List View) → ws' ≡ ws → vs' ≡ vs
    → HoldsWith z es (record { words = ws; homes = []; views = vs }) → HoldsWith z es (record { words = ws'; homes = []; views = vs' })
moved z es ws ws' vs vs' words views h = subst (λ (y : List ℕ × List View). HoldsWith z es (record { words = y.0; homes = []; views = y.1 })) (λ i. (sym words i, sym views i)) h

module _ {T : Type 0} where
  -- a view that comes last, and has no slot
  hand_end : (views : List (Beside T)) (r : Beside T) → r.hand ≡ none → (j : ℕ) → hand_at views j ≡ hand_at (views ++ r ∷ []) j
  hand_end [] r e zero = sym e
  hand_end [] r e (suc j) = refl
  hand_end (x ∷ xs) r e zero = refl
  hand_end (x ∷ xs) r e (suc j) = hand_end xs r e j

  -- another view with the same slot
  pub hand_set : (views : List (Beside T)) (id : ℕ) (w l : Beside T) → get_elem? views id ≡ some w → l.hand ≡ w.hand → (j : ℕ) → hand_at views j ≡ hand_at (set views id l) j
  hand_set [] id w l got same j = refl
  hand_set (x ∷ xs) zero w l got same zero = ap hand_in got ∙ sym same
  hand_set (x ∷ xs) zero w l got same (suc j) = refl
  hand_set (x ∷ xs) (suc id) w l got same zero = refl
  hand_set (x ∷ xs) (suc id) w l got same (suc j) = hand_set xs id w l got same j

  -- each view knows a beginning of these deeds
  abbrev AllBegun : List (Deed T) → List (Beside T) → Type 0
  AllBegun ds views = (j : ℕ) (w : Beside T) → get_elem? views j ≡ some w → Begins ds w

  -- other views, where the slots are as they were
  pub recarried : (z : Layout) (es : List Entry) (s : State (Option T) (Beside T)) (words : List ℕ) (views : List (Beside T)) (c : Carried z es s)
      → ((i : ℕ) → flag_at (words_of z) s.words i ≡ flag_at (words_of z) words i) → ((j : ℕ) → hand_at s.views j ≡ hand_at views j)
      → AllBegun c.rides.deeds views → length words ≡ length s.words
      → Carried z es record { words = words; homes = s.homes; views = views }
  recarried z es s words views c flags hands known same =
      let r = rides_same es z.slots (flag_at (words_of z) s.words) (flag_at (words_of z) words) (home_at s.homes) (hand_at s.views) (hand_at views) c.rides flags hands in
      record { rides = r.0; known = subst (λ (ds : List (Deed T)). AllBegun ds views) (sym r.1) known; long = subst (λ (k : ℕ). words_of z + z.slots ≤ k) (sym same) c.long }

  -- the same, where the queue's history is as it was
  pub revalued : (b : Bool) (z : Layout) (s : State (Option T) (Beside T)) (words : List ℕ) (views : List (Beside T)) (h : HoldsFor b z s)
      (n : HoldsWith z h.base.ring.history (plain_state (words_of z) (record { words = words; homes = s.homes; views = views })))
      → ((i : ℕ) → flag_at (words_of z) s.words i ≡ flag_at (words_of z) words i) → ((j : ℕ) → hand_at s.views j ≡ hand_at views j)
      → ((ds : List (Deed T)) → AllBegun ds s.views → AllBegun ds views) → length words ≡ length s.words
      → HoldsFor b z record { words = words; homes = s.homes; views = views }
  revalued b z s words views h n flags hands known same =
      record {
        base = n.0;
        values = subst (λ (es : List Entry). CarriedBy b z es (record { words = words; homes = s.homes; views = views })) (sym n.1) (go b h.base.ring.history h.values);
      }
    where
      go : (c : Bool) (es : List Entry) → CarriedBy c z es s → CarriedBy c z es (record { words = words; homes = s.homes; views = views })
      go true es c = recarried z es s words views c flags hands (known c.rides.deeds c.known) same
      go false es c = tt

module _ {T : Type 0} (b : Bool) (z : Layout) where
  -- a view is cut in two
  pub lift_splits : (id : ℕ) (w l r : Beside T) → ((es : List Entry) → Splits {S = ℕ} (HoldsWith z es) id w.plain l.plain r.plain) → l.hand ≡ w.hand
      → r.hand ≡ none → ((ds : List (Deed T)) → Begins ds w → Begins ds l × Begins ds r) → Splits {S = Option T} (HoldsFor b z) id w l r
  lift_splits id w l r splits left right knows s h mine =
      let m : ℕ = words_of z in
      let es : List Entry = h.base.ring.history in
      let n = splits es (plain_state m s) (h.base, refl) (at_map plain_of s.views id w mine) in
      let views : List (Beside T) = set s.views id l ++ r ∷ [] in
      revalued b z s s.words views h
      (moved z es (take m s.words) (take m s.words) (set (map plain_of s.views) id l.plain ++ r.plain ∷ []) (map plain_of views) refl
      (map-append plain_of (set s.views id l) (r ∷ []) ∙ ap (λ vs. vs ++ r.plain ∷ []) (map_set plain_of s.views id l)) n)
      (λ i. refl)
      (λ j. hand_set s.views id w l mine left j ∙ hand_end (set s.views id l) r right j)
      (λ ds all j o got. let two = knows ds (all id w mine) in ⊎_elim
      (λ (t : get_elem? (set s.views id l) j ≡ some o). ⊎_elim (λ (q : (j ≡ id) × (l ≡ o)). subst (Begins ds) q.1 two.0)
      (λ (q : (j ≢ id) × (get_elem? s.views j ≡ some o)). all j o q.1) (at_set s.views id j l o t))
      (λ (t : (j ≡ length (set s.views id l)) × (r ≡ o)). subst (Begins ds) t.1 two.1)
      (at_end (set s.views id l) r o j got))
      refl

  -- two views become one
  pub lift_joins : (id other : ℕ) (v w both gone : Beside T) → ((es : List Entry)
      → Joins {S = ℕ} (HoldsWith z es) id v.plain other w.plain both.plain gone.plain) → both.hand ≡ v.hand → gone.hand ≡ w.hand
      → ((ds : List (Deed T)) → Begins ds v → Begins ds w → Begins ds both × Begins ds gone)
      → Joins {S = Option T} (HoldsFor b z) id v other w both gone
  lift_joins id other v w both gone joins left right knows s h mine ne his =
      let m : ℕ = words_of z in
      let es : List Entry = h.base.ring.history in
      let n = joins es (plain_state m s) (h.base, refl) (at_map plain_of s.views id v mine) ne
      (subst (λ (vs : List View). get_elem? vs other ≡ some w.plain) (map_set plain_of s.views id both)
      (at_map plain_of (set s.views id both) other w his)) in
      let views : List (Beside T) = set (set s.views id both) other gone in
      revalued b z s s.words views h
      (moved z es (take m s.words) (take m s.words) (set (set (map plain_of s.views) id both.plain) other gone.plain) (map plain_of views) refl
      (map_set plain_of (set s.views id both) other gone ∙ ap (λ vs. set vs other gone.plain) (map_set plain_of s.views id both)) n)
      (λ i. refl)
      (λ j. hand_set s.views id v both mine left j ∙ hand_set (set s.views id both) other w gone his right j)
      (λ ds all j o got. let two = knows ds (all id v mine) (all other w (sym (set_else s.views id other both ne) ∙ his)) in ⊎_elim
      (λ (q : (j ≡ other) × (gone ≡ o)). subst (Begins ds) q.1 two.1)
      (λ (t : (j ≢ other) × (get_elem? (set s.views id both) j ≡ some o)). ⊎_elim (λ (q : (j ≡ id) × (both ≡ o)). subst (Begins ds) q.1 two.0)
      (λ (q : (j ≢ id) × (get_elem? s.views j ≡ some o)). all j o q.1) (at_set s.views id j both o t.1))
      (at_set (set s.views id both) other j gone o got))
      refl

  -- a new seat, by a load of a word of the queue
  pub lift_enters : (slots p : ℕ) → p < words_of z → ((es : List Entry) → Enters {S = ℕ} (HoldsWith z es) 0 p (λ n w. w ≡ gathered []))
      → Enters {S = Option T} (HoldsFor b z) slots p (λ n w. w.plain ≡ gathered [])
  lift_enters slots p within enters s h count small =
      let m : ℕ = words_of z in
      let es : List Entry = h.base.ring.history in
      let same : get_or (take m s.words) p 0 ≡ get_or s.words p 0 = get_or-take m s.words p 0 within in
      let q = enters es (plain_state m s) (h.base, refl) refl (subst (λ (k : ℕ). k < 18446744073709551616) (sym same) small) in
      let views : List (Beside T) = s.views ++ alone q.0 ∷ [] in
      let new : (ds : List (Deed T)) → Begins ds (alone q.0) = λ ds. record {
        rest = ds;
        begins = refl;
        matches = λ v e. absurd (let f : gathered [] ≡ seated v = sym q.2 ∙ e in cc);
        pair = λ v u e y. absurd (let f : gathered [] ≡ paired v u = sym q.2 ∙ e in cc);
        others = tt;
      } in (
        alone q.0,
        revalued b z s s.words views h
            (moved z es (take m s.words) (take m s.words) (map plain_of s.views ++ q.0 ∷ []) (map plain_of views) refl (map-append plain_of s.views (alone q.0 ∷ [])) q.1)
            (λ i. refl) (hand_end s.views (alone q.0) refl)
            (λ ds all j o got. ⊎_elim (λ (t : get_elem? s.views j ≡ some o). all j o t)
            (λ (t : (j ≡ length s.views) × (alone q.0 ≡ o)). subst (Begins ds) t.1 (new ds)) (at_end s.views (alone q.0) o j got))
            refl,
        q.2,
      )

  -- the end of a table, as one of the words of the queue
  pub lift_final : (id : ℕ) (w : Beside T) (words : List ℕ) (slots : List (Option T)) → Final {S = Option T} (Seen (HoldsFor b z) id w) words slots
      → Final {S = ℕ} (Seen (Holds z) id w.plain) (take (words_of z) words) []
  lift_final id w words slots f = (plain_state (words_of z) f.0, (f.1.0.base, at_map plain_of f.0.views id w f.1.1), ap (take (words_of z)) f.2, refl, λ k y e. absurd (some-ne-none (some y) (sym e)))

-- a load of the first word by two seats that are one: both have seen the whole history, and that of the values
module _ {T : Type 0} (key : Layout) (slots id : ℕ) (v u : SeatView) (ds : List (Deed T)) (hd : maybe.Option ℕ) (os : List (List (Deed T))) (ts : List Try) (pl : Placing) (held : List (ℕ × Option T)) where
  abbrev pair : Beside T
  pair = record { plain = paired v u; deeds = ds; hand = hd; others = os; tries = ts; placing = pl }

  pub lift_meets : (b : Bool) → key.placed ≡ false → Allows {S = Option T} (HoldsFor b key) slots id (pair, held) 0 (λ n. n) (λ n o. MeetsBeside b key (pair, held) o)
  lift_meets b unplaced s h count mine small = go b h.base h.values
    where
      unseen : (w : Beside T) → GrowsPlaced key.placed pair w
      unseen w = subst (λ (c : Bool). GrowsPlaced c pair w) (sym unplaced) tt

      unsaid : (w : Beside T) (seen : List Entry) → SaidBy key.placed seen w
      unsaid w seen = subst (λ (c : Bool). SaidBy c seen w) (sym unplaced) tt

      m : ℕ
      m = words_of key

      words : List ℕ
      words = set s.words 0 (get_or s.words 0 0)

      same_words : words ≡ s.words
      same_words = set-get_or s.words 0 0

      Out : (b : Bool) → Type 0
      Out b = (w' : Beside T) × (a : Act (Option T)) × Valid s.homes held a × HoldsFor b key (stepped s 0 (get_or s.words 0 0) id held w' a) × MeetsBeside b key (pair, held) (w', carried_after held a)

      go : (b : Bool) (base : Holds key (plain_state m s)) → CarriedBy b key base.ring.history s → Out b
      go false base c =
          let q = meets_now key (plain_state m s) base id v u (at_map plain_of s.views id pair mine) in
          let es : List Entry = base.ring.history in
          let w' : Beside T = record { plain = paired (learned es base.run.trace v) (learned es base.run.trace u); deeds = ds; hand = hd; others = []; tries = ts; placing = pl } in
          let n = moved key es (take m s.words) (take m words) (set (map plain_of s.views) id w'.plain) (map plain_of (set s.views id w'))
          (ap (take m) same_words) (map_set plain_of s.views id w') q.0 in
          (w', keeps, tt, record { base = n.0; values = tt }, (q.1, refl, refl, ∣ unsaid (first_beside_of w') _ ∣₁, ∣ unsaid (second_beside_of w') _ ∣₁, refl, unseen w'))
      go true base c =
          let q = meets_now key (plain_state m s) base id v u (at_map plain_of s.views id pair mine) in
          let es : List Entry = base.ring.history in
          let all : List (Deed T) = c.rides.deeds in
          let w' : Beside T = record { plain = paired (learned es base.run.trace v) (learned es base.run.trace u); deeds = all; hand = hd; others = []; tries = ts; placing = pl } in
          let n = moved key es (take m s.words) (take m words) (set (map plain_of s.views) id w'.plain) (map plain_of (set s.views id w'))
          (ap (take m) same_words) (map_set plain_of s.views id w') q.0 in
          let new : Begins all w' = record {
            rest = [];
            begins = sym (append-nil all);
            matches = λ o k. cc;
            pair = λ o x k y. subst (λ (p : View). Matches (knows p).seen all) k c.rides.matches;
            others = tt;
          } in
          let fit = c.known id pair mine in (
            w',
            keeps,
            tt,
            record {
              base = n.0;
              values = subst (λ (es : List Entry). Carried key es (record { words = words; homes = s.homes; views = set s.views id w' })) (sym n.1)
                  (recarried key es s words (set s.views id w') c (λ i. ap (λ (ws : List ℕ). get_or ws (m + i) 0) (sym same_words)) (λ j. hand_set s.views id pair w' mine refl j)
                  (λ j o got. ⊎_elim (λ (k : (j ≡ id) × (w' ≡ o)). subst (Begins all) k.1 new) (λ (k : (j ≢ id) × (get_elem? s.views j ≡ some o)). c.known j o k.1) (at_set s.views id j w' o got))
                  (length-set s.words 0 (get_or s.words 0 0)));
            },
            (
              q.1,
              refl,
              refl,
              ∣ knows_first key es (first_beside_of w') all [] (sym (append-nil all)) c.rides.matches (map item_of c.rides.q) c.rides.shut
                  c.rides.runs (λ i k. (c.rides.slotted.out id i (ap hand_in mine ∙ k)).0) ∣₁,
              ∣ knows_first key es (second_beside_of w') all [] (sym (append-nil all)) c.rides.matches (map item_of c.rides.q) c.rides.shut c.rides.runs (λ i k. absurd (some-ne-none i (sym k))) ∣₁,
              ((fit.rest, fit.begins), fit.others),
              unseen w',
            ),
          )

-- what a line asks of a table, whether it carries values or not
module _ {T : Type 0} (z : Layout) (slots id p : ℕ) (v : SeatView) (ds : List (Deed T)) (hd : maybe.Option ℕ) (os : List (List (Deed T))) (ts : List Try) (pl : Placing)
    (held : List (ℕ × Option T)) (f : ℕ → ℕ) (all : List Entry) (fact : SeatView → ℕ → SeatView → Type 0) (line : Does z p v f all fact)
    (within : p < words_of z) (ran : (n : ℕ) (v' : SeatView) → fact v n v' → Made z p n (f n) v v') where
  abbrev before : Me (Option T) (Beside T)
  before = (record { plain = seated v; deeds = ds; hand = hd; others = os; tries = ts; placing = pl }, held)

  pub allows_beside : (b : Bool) → z.placed ≡ false → (b ≡ true → slots ≡ z.slots) → IsReadyBy b z.slots v.number all before
      → Allows {S = Option T} (HoldsFor b z) slots id before p f (λ n o. TellsBeside b z all fact before n o)
  allows_beside b unplaced sized ready s h count mine small = go b sized ready h.base h.values
    where
      unsaid : (w : Beside T) (seen : List Entry) → SaidBy z.placed seen w
      unsaid w seen = subst (λ (c : Bool). SaidBy c seen w) (sym unplaced) tt

      m : ℕ
      m = words_of z

      Out : (b : Bool) → Type 0
      Out b = (w' : Beside T) × (a : Act (Option T)) × Valid s.homes held a × HoldsFor b z (stepped s p (f (get_or s.words p 0)) id held w' a)
          × TellsBeside b z all fact before (get_or s.words p 0) (w', carried_after held a)

      go : (b : Bool) → (b ≡ true → slots ≡ z.slots) → IsReadyBy b z.slots v.number all before → (base : Holds z (plain_state m s)) → CarriedBy b z base.ring.history s → Out b
      go true sized ready base c =
          let H : HoldsValues z s = record { base = base; values = c } in
          let q = allows_values z id p v ds hd os ts pl f all fact line within ran held ready s H (count ∙ sized refl) mine small in (
            q.0,
            q.1,
            q.2,
            record { base = q.3.base; values = q.3.values },
            (
              q.4.0.0,
              q.4.0.1,
              (q.4.0.3.0, q.4.0.3.1, q.4.0.3.2, q.4.0.3.3, ([], ap (λ (y : Placing). y.deeds) q.4.0.2 ∙ sym (append-nil pl.deeds))),
              ∣ q.4.1 ∣₁,
            ),
          )
      go false sized ready base c =
          let mine0 = at_map plain_of s.views id before.0 mine in
          let same : get_or (take m s.words) p 0 ≡ get_or s.words p 0 = get_or-take m s.words p 0 within in
          let its = its_seat z (plain_state m s) base id v mine0 in
          let q = line (take m s.words) base.seats base.ring its base.run.trace base.run.adds (knew_of z (take m s.words) base.seats base.ring.history v its base.run) in
          let made = ran (get_or (take m s.words) p 0) q.0 q.4 in
          let runs = run_on z (take m s.words) base.seats base.ring.history v q.0 all q.2.history p (f (get_or (take m s.words) p 0)) its base.run q.3 made in
          let w' : Beside T = record { plain = seated q.0; deeds = ds; hand = hd; others = os; tries = ts; placing = pl } in
          let words = set s.words p (f (get_or s.words p 0)) in
          let n = moved z q.2.history (set (take m s.words) p (f (get_or (take m s.words) p 0))) (take m words) (set (map plain_of s.views) id (seated q.0)) (map plain_of (set s.views id w'))
          (take-set-lt m s.words p (f (get_or s.words p 0)) within ∙ ap (λ (k : ℕ). set (take m s.words) p (f k)) (sym same)) (map_set plain_of s.views id w') (
            one_seat z (plain_state m s) base id v mine0 q.0 (set (take m s.words) p (f (get_or (take m s.words) p 0))) q.1 q.2 runs.0 made.event runs.1,
            refl,
          ) in (
            w',
            keeps,
            tt,
            record { base = n.0; values = tt },
            (refl, subst (λ (k : ℕ). fact v k q.0) same q.4, (q.3.added, q.3.which, q.3.own, (refl, refl, refl), ([], sym (append-nil pl.deeds))), ∣ unsaid w' (knows w'.plain).seen ∣₁),
          )
