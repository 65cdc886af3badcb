-- Where seats are dealt, meet, part or are taken in, values that lie in their places stay where they are.
use Rattle.std.proofs.Common.{◌≡◌, ◌≢◌, ℕ, zero, suc, ◌⊎◌, inl, inr, ⊎_elim, List, [], ◌∷◌, ◌++◌, length, map, set, get_or, Option, sym, refl, ap, ◌∙◌, subst, append-nil, ◌+◌, ◌<◌, ◌≤◌, false}
use mathlib.Core.List.{map-append}
use mathlib.Core.Option.{some, some-injective, some-ne-none}
use mathlib.Core.Logic.{dite}
use native.Mathlib.Decide.{ℕ_discrete}
use lib.ListN.{get_elem?}
use Rattle.atomic_table.specs.Table.{State, Splits, Joins, Enters}
use Rattle.atomic_table.proofs.Lists.{at_map, at_set, set_else}
use Rattle.history.specs.declared.operations.Entry.{Entry}
use Rattle.history.specs.declared.operations.Taken.{Taken}
use Rattle.node_arena.specs.Deeds.{Deed, Matches}
use Rattle.node_arena.proofs.Lifts.{map_set}
use Rattle.ring_queue.specs.Plans.{Layout, words_of, further_of}
use Rattle.ring_queue.specs.Knowledge.{SeatView, View, keeper, gathered, seated, paired, knows}
use Rattle.ring_queue.specs.Rule.{HasClaimed}
use Rattle.ring_queue.specs.Placed.{queue_words, pairs_of, Hand, free, PlacedView, queue_view, queue_state, IsUnclaimed, Handles, BeginsPlaced, Placed, HoldsPlaced, MeetsPlaced, first_placed}
use Rattle.ring_queue.proofs.Tables.{HoldsWith}
use Rattle.ring_queue.proofs.Deals.{at_end}
use Rattle.ring_queue.proofs.Meets.{meets_now}
use Rattle.ring_queue.proofs.Keeps.{none_claimed}
use Rattle.ring_queue.proofs.Placing.{Keeping, IsOwn, its_view, queue_words-get}
use Rattle.ring_queue.specs.Meets.{learned}
use Rattle.ring_queue.specs.Steps.{Rests}
use Rattle.std.proofs.lemmas.List.{set-get_or}
use Rattle.std.proofs.lemmas.Option.{none-some}

-- a view of a seat that has a place to fill
abbrev pub HasNoPlace : PlacedView → Type 0
HasNoPlace w = (v : SeatView) (q : ℕ) (x : Option Taken) → w.plain ≡ seated v → HasClaimed v.stage q x → ⊥

-- a seat in no call has none
pub rests_no_place : (w : PlacedView) (v : SeatView) → w.plain ≡ seated v → Rests v.stage → HasNoPlace w
rests_no_place w v is rested u q x e has = none_claimed u.stage q x (subst (λ (y : SeatView). Rests y.stage) (its_view v u (sym is ∙ e)) rested) has

-- the rule for views that are the same
moved_views : (z : Layout) (es : List Entry) (ws : List ℕ) (vs vs' : List View) → vs' ≡ vs
    → HoldsWith z es (record { words = ws; homes = []; views = vs }) → HoldsWith z es (record { words = ws; homes = []; views = vs' })
moved_views z es ws vs vs' views h = subst (λ (y : List View). HoldsWith z es (record { words = ws; homes = []; views = y })) (sym views) h

-- other views, of which each is one of those before, or has nothing at hand
pub regrouped : (z : Layout) (s : State ℕ PlacedView) (H : HoldsPlaced z s) (views' : List PlacedView)
    → HoldsWith z H.base.ring.history (queue_state z (record { words = s.words; homes = s.homes; views = views' }))
    → ((q : ℕ) → IsUnclaimed views' q → IsUnclaimed s.views q)
    → ((j : ℕ) (w : PlacedView) → get_elem? views' j ≡ some w → (w.hand ≡ free) ⊎ ((i : ℕ) × (get_elem? s.views i ≡ some w)))
    → ((j : ℕ) (w : PlacedView) → get_elem? views' j ≡ some w → BeginsPlaced H.values.said.deeds w)
    → HoldsPlaced z record { words = s.words; homes = s.homes; views = views' }
regrouped z s H views' base claims hands known = record {
  base = base.0;
  values = subst (λ (es : List Entry). Placed z es s.words views') (sym base.1) (record {
    said = H.values.said;
    widths = H.values.widths;
    long = H.values.long;
    lies = λ i x got none. H.values.lies i x got (claims _ none);
    hands = λ j w v at is. ⊎_elim
        (λ (e : w.hand ≡ free). subst (Handles z s.words H.values.said.items v) (sym e) tt)
        (λ (e : (i : ℕ) × (get_elem? s.views i ≡ some w)). H.values.hands e.0 w v e.1 is)
        (hands j w at);
    known = known;
  });
}

-- a view before the last
at_before : (views : List PlacedView) (r : PlacedView) (j : ℕ) (o : PlacedView) → get_elem? views j ≡ some o → get_elem? (views ++ r ∷ []) j ≡ some o
at_before [] r j o e = absurd (some-ne-none o (sym e))
at_before (y ∷ ys) r zero o e = e
at_before (y ∷ ys) r (suc j) o e = at_before ys r j o e

module _ (z : Layout) where
  -- a view is cut in two
  pub placed_splits : (id : ℕ) (w l r : PlacedView) → ((es : List Entry) → Splits {S = ℕ} (HoldsWith z es) id w.plain l.plain r.plain) → l.hand ≡ free → r.hand ≡ free → HasNoPlace w
      → ((ds : List (Deed (List ℕ))) → BeginsPlaced ds w → BeginsPlaced ds l × BeginsPlaced ds r) → Splits {S = ℕ} (HoldsPlaced z) id w l r
  placed_splits id w l r splits left right no_place knows s H mine =
      let views : List PlacedView = set s.views id l ++ r ∷ [] in
      let n = splits H.base.ring.history (queue_state z s) (H.base, refl) (at_map queue_view s.views id w mine) in
      let two = knows H.values.said.deeds (H.values.known id w mine) in
      regrouped z s H views
      (moved_views z H.base.ring.history (queue_words (pairs_of z) s.words) (set (map queue_view s.views) id l.plain ++ r.plain ∷ []) (map queue_view views)
      (map-append queue_view (set s.views id l) (r ∷ []) ∙ ap (λ vs. vs ++ r.plain ∷ []) (map_set queue_view s.views id l)) n)
      (λ q none j o u x at is has. dite (ℕ_discrete j id)
      (λ e. no_place u q x (ap queue_view (some-injective w o (sym mine ∙ (ap (get_elem? s.views) (sym e) ∙ at))) ∙ is) has)
      (λ ne. none j o u x (at_before (set s.views id l) r j o (set_else s.views id j l ne ∙ at)) is has))
      (λ j o got. ⊎_elim
      (λ (t : get_elem? (set s.views id l) j ≡ some o). ⊎_elim (λ (e : (j ≡ id) × (l ≡ o)). inl (ap (λ (y : PlacedView). y.hand) (sym e.1) ∙ left))
      (λ (e : (j ≢ id) × (get_elem? s.views j ≡ some o)). inr (j, e.1)) (at_set s.views id j l o t))
      (λ (t : (j ≡ length (set s.views id l)) × (r ≡ o)). inl (ap (λ (y : PlacedView). y.hand) (sym t.1) ∙ right))
      (at_end (set s.views id l) r o j got))
      (λ j o got. ⊎_elim
      (λ (t : get_elem? (set s.views id l) j ≡ some o). ⊎_elim (λ (e : (j ≡ id) × (l ≡ o)). subst (BeginsPlaced H.values.said.deeds) e.1 two.0)
      (λ (e : (j ≢ id) × (get_elem? s.views j ≡ some o)). H.values.known j o e.1) (at_set s.views id j l o t))
      (λ (t : (j ≡ length (set s.views id l)) × (r ≡ o)). subst (BeginsPlaced H.values.said.deeds) t.1 two.1)
      (at_end (set s.views id l) r o j got))

  -- two views become one
  pub placed_joins : (id other : ℕ) (v w both gone : PlacedView) → ((es : List Entry) → Joins {S = ℕ} (HoldsWith z es) id v.plain other w.plain both.plain gone.plain)
      → both.hand ≡ free → gone.hand ≡ free → HasNoPlace v → HasNoPlace w
      → ((ds : List (Deed (List ℕ))) → BeginsPlaced ds v → BeginsPlaced ds w → BeginsPlaced ds both × BeginsPlaced ds gone)
      → Joins {S = ℕ} (HoldsPlaced z) id v other w both gone
  placed_joins id other v w both gone joins left right no_place none_other knows s H mine ne his =
      let views : List PlacedView = set (set s.views id both) other gone in
      let n = joins H.base.ring.history (queue_state z s) (H.base, refl) (at_map queue_view s.views id v mine) ne
      (subst (λ (vs : List View). get_elem? vs other ≡ some w.plain) (map_set queue_view s.views id both) (at_map queue_view (set s.views id both) other w his)) in
      let was : get_elem? s.views other ≡ some w = sym (set_else s.views id other both ne) ∙ his in
      let two = knows H.values.said.deeds (H.values.known id v mine) (H.values.known other w was) in
      regrouped z s H views
      (moved_views z H.base.ring.history (queue_words (pairs_of z) s.words) (set (set (map queue_view s.views) id both.plain) other gone.plain) (map queue_view views)
      (map_set queue_view (set s.views id both) other gone ∙ ap (λ vs. set vs other gone.plain) (map_set queue_view s.views id both)) n)
      (λ q none j o u x at is has. dite (ℕ_discrete j other)
      (λ e. none_other u q x (ap queue_view (some-injective w o (sym was ∙ (ap (get_elem? s.views) (sym e) ∙ at))) ∙ is) has)
      (λ apart. dite (ℕ_discrete j id)
      (λ e. no_place u q x (ap queue_view (some-injective v o (sym mine ∙ (ap (get_elem? s.views) (sym e) ∙ at))) ∙ is) has)
      (λ far. none j o u x (set_else (set s.views id both) other j gone apart ∙ (set_else s.views id j both far ∙ at)) is has)))
      (λ j o got. ⊎_elim
      (λ (e : (j ≡ other) × (gone ≡ o)). inl (ap (λ (y : PlacedView). y.hand) (sym e.1) ∙ right))
      (λ (t : (j ≢ other) × (get_elem? (set s.views id both) j ≡ some o)). ⊎_elim (λ (e : (j ≡ id) × (both ≡ o)). inl (ap (λ (y : PlacedView). y.hand) (sym e.1) ∙ left))
      (λ (e : (j ≢ id) × (get_elem? s.views j ≡ some o)). inr (j, e.1)) (at_set s.views id j both o t.1))
      (at_set (set s.views id both) other j gone o got))
      (λ j o got. ⊎_elim
      (λ (e : (j ≡ other) × (gone ≡ o)). subst (BeginsPlaced H.values.said.deeds) e.1 two.1)
      (λ (t : (j ≢ other) × (get_elem? (set s.views id both) j ≡ some o)). ⊎_elim (λ (e : (j ≡ id) × (both ≡ o)). subst (BeginsPlaced H.values.said.deeds) e.1 two.0)
      (λ (e : (j ≢ id) × (get_elem? s.views j ≡ some o)). H.values.known j o e.1) (at_set s.views id j both o t.1))
      (at_set (set s.views id both) other j gone o got))

  -- a new seat, by a load of a word of the queue
  pub placed_enters : (p : ℕ) → IsOwn (pairs_of z) p → ((es : List Entry) → Enters {S = ℕ} (HoldsWith z es) 0 p (λ n w. w ≡ gathered [])) → Enters {S = ℕ} (HoldsPlaced z) 0 p (λ n w. w.plain ≡ gathered [])
  placed_enters p own enters s H count small =
      let same : get_or (queue_words (pairs_of z) s.words) p 0 ≡ get_or s.words p 0 = queue_words-get (pairs_of z) s.words p own in
      let q = enters H.base.ring.history (queue_state z s) (H.base, refl) refl (subst (λ (k : ℕ). k < 18446744073709551616) (sym same) small) in
      let new : PlacedView = record { plain = q.0; deeds = []; hand = free; others = [] } in
      let its : BeginsPlaced H.values.said.deeds new = record {
        rest = H.values.said.deeds;
        begins = refl;
        matches = λ v e. absurd (let f : gathered [] ≡ seated v = sym q.2 ∙ e in cc);
        pair = λ v u e y. absurd (let f : gathered [] ≡ paired v u = sym q.2 ∙ e in cc);
        others = tt;
      } in (
        new,
        regrouped z s H (s.views ++ new ∷ [])
            (moved_views z H.base.ring.history (queue_words (pairs_of z) s.words) (map queue_view s.views ++ q.0 ∷ []) (map queue_view (s.views ++ new ∷ [])) (map-append queue_view s.views (new ∷ [])) q.1)
            (λ k none j o u x at is has. none j o u x (at_before s.views new j o at) is has)
            (λ j o got. ⊎_elim (λ (t : get_elem? s.views j ≡ some o). inr (j, t)) (λ (t : (j ≡ length s.views) × (new ≡ o)). inl (ap (λ (y : PlacedView). y.hand) (sym t.1))) (at_end s.views new o j got))
            (λ j o got. ⊎_elim (λ (t : get_elem? s.views j ≡ some o). H.values.known j o t) (λ (t : (j ≡ length s.views) × (new ≡ o)). subst (BeginsPlaced H.values.said.deeds) t.1 its) (at_end s.views new o j got)),
        q.2,
      )

-- a load of the first word by two seats that are one: both have seen the whole history, and that of the values
module _ (z : Layout) (id : ℕ) (v u : SeatView) (ds : List (Deed (List ℕ))) (hand : Hand) (os : List (List (Deed (List ℕ)))) where
  abbrev pair : PlacedView
  pair = record { plain = paired v u; deeds = ds; hand = hand; others = os }

  pub placed_meets : Keeping z id pair 0 (λ n. n) (λ n o. MeetsPlaced z (pair, []) o)
  placed_meets s H mine =
      let base = H.base in
      let es : List Entry = base.ring.history in
      let said = H.values.said in
      let q = meets_now z (queue_state z s) base id v u (at_map queue_view s.views id pair mine) in
      let v' : SeatView = learned es base.run.trace v in
      let u' : SeatView = learned es base.run.trace u in
      let w' : PlacedView = record { plain = paired v' u'; deeds = said.deeds; hand = free; others = [] } in
      let views : List PlacedView = set s.views id w' in
      let new : BeginsPlaced said.deeds w' = record {
        rest = [];
        begins = sym (append-nil said.deeds);
        matches = λ o k. cc;
        pair = λ o x k y. subst (λ (p : View). Matches (knows p).seen said.deeds) k said.matches;
        others = tt;
      } in
      let fit = H.values.known id pair mine in
      let G : HoldsPlaced z record { words = s.words; homes = s.homes; views = views } =
      regrouped z s H views
      (moved_views z es (queue_words (pairs_of z) s.words) (set (map queue_view s.views) id w'.plain) (map queue_view views) (map_set queue_view s.views id w') q.0)
      (λ k none j o a x at is has. dite (ℕ_discrete j id)
      (λ e. absurd (let f : paired v u ≡ seated a = ap queue_view (some-injective pair o (sym mine ∙ (ap (get_elem? s.views) (sym e) ∙ at))) ∙ is in cc))
      (λ ne. none j o a x (set_else s.views id j w' ne ∙ at) is has))
      (λ j o got. ⊎_elim (λ (e : (j ≡ id) × (w' ≡ o)). inl (ap (λ (y : PlacedView). y.hand) (sym e.1))) (λ (e : (j ≢ id) × (get_elem? s.views j ≡ some o)). inr (j, e.1)) (at_set s.views id j w' o got))
      (λ j o got. ⊎_elim (λ (e : (j ≡ id) × (w' ≡ o)). subst (BeginsPlaced said.deeds) e.1 new) (λ (e : (j ≢ id) × (get_elem? s.views j ≡ some o)). H.values.known j o e.1) (at_set s.views id j w' o got)) in (
        w',
        subst (λ (ws : List ℕ). HoldsPlaced z record { words = ws; homes = s.homes; views = views }) (sym (set-get_or s.words 0 0)) G,
        (
          q.1,
          refl,
          ∣ record { matches = said.matches; values = said.items; shut = said.shut; runs = said.runs } ∣₁,
          ((fit.rest, fit.begins), fit.others),
        ),
      )

-- a new table: nothing lies in it, and its first view deals number 1 first
pub placed_start : (z : Layout) (words : List ℕ) → words_of z + further_of z ≤ length words → HoldsWith z [] (queue_state z (record { words = words; homes = []; views = first_placed z ∷ [] }))
    → HoldsPlaced z record { words = words; homes = []; views = first_placed z ∷ [] }
placed_start z words long base = record {
  base = base.0;
  values = subst (λ (es : List Entry). Placed z es words (first_placed z ∷ [])) (sym base.1) (record {
    said = record { deeds = []; items = []; shut = false; leads = refl; runs = (refl, refl); matches = tt };
    widths = λ i x got. absurd (none-some x got);
    long = long;
    lies = λ i x got none. absurd (none-some x got);
    hands = λ j w v at is. absurd (let f : keeper z.slots 1 ≡ seated v = ap queue_view (only j w at) ∙ is in cc);
    known = λ j w at. subst (BeginsPlaced []) (only j w at) (record { rest = []; begins = refl; matches = λ v e. cc; pair = λ v u e y. cc; others = tt });
  });
}
  where
    only : (j : ℕ) (w : PlacedView) → get_elem? (first_placed z ∷ []) j ≡ some w → first_placed z ≡ w
    only zero w e = some-injective (first_placed z) w e
    only (suc j) w e = absurd (some-ne-none w (sym e))
