-- The rule of a table by its kind: what is so of a table of numbers or of slots, and of one whose values lie in their places, is
-- so of any; and what the rule of the latter allows, said of a table's own state.
use Rattle.std.proofs.Common.{◌≡◌, ℕ, Bool, true, false, List, [], ◌∷◌, ◌++◌, set, get_or, Option, sym, refl, ap, ◌∙◌, subst, append-nil, append_assoc}
use Rattle.std.proofs.Math.Logic.{∥∥₁_map}
use mathlib.Core.Bool.{true≢false}
use mathlib.Core.List.{map-append}
use mathlib.Core.Option.{some, none}
use lib.ListN.{get_elem?}
use Rattle.atomic_table.specs.Table.{State, Me, keeps, Allows, Splits, Joins, Enters}
use Rattle.atomic_table.proofs.Lists.{at_map}
use Rattle.history.specs.declared.operations.Entry.{Entry}
use Rattle.node_arena.specs.Deeds.{Deed, Matches, Runs}
use Rattle.node_arena.proofs.Lifts.{map_set}
use Rattle.ring_queue.specs.Plans.{Layout, IsPlanned}
use Rattle.ring_queue.specs.Knowledge.{SeatView, View, gathered, knows, knows_second, first_of, second_of}
use Rattle.ring_queue.specs.Beside.{Beside, HoldsAs, HoldsBy, GrowsPlaced, HoldsFor, MeetsBeside, SaidBy, TellsQuiet, first_beside_of, second_beside_of, placed_of, placed_state}
use Rattle.ring_queue.specs.Placed.{Hand, PlacedView, HoldsPlaced, KnowsSaid, MeetsPlaced, TellsSaid}
use Rattle.ring_queue.specs.Meets.{learned}
use Rattle.ring_queue.specs.Knowledge.{paired}
use Rattle.ring_queue.proofs.Placing.{Keeping}

-- where values lie in slots they aren't words in their places
pub not_placed : (z : Layout) → z.carries ≡ true → IsPlanned z → z.placed ≡ false
not_placed z carries planned = go z.placed refl
  where
    go : (b : Bool) → z.placed ≡ b → b ≡ false
    go true e = absurd (true≢false (sym carries ∙ planned.apart e))
    go false e = refl

module _ {T : Type 0} (z : Layout) where
  -- by the kind of a plan
  pub by_kind : (P : (State (Option T) (Beside T) → Type 0) → Type 0) → (z.placed ≡ false → P (HoldsFor z.carries z)) → (z.placed ≡ true → P (HoldsAs true z)) → P (HoldsBy z)
  by_kind P plain placed = go z.placed refl
    where
      go : (b : Bool) → z.placed ≡ b → P (HoldsAs b z)
      go true e = placed e
      go false e = plain e

  -- so a table with slots has their rule
  pub slotted : z.carries ≡ true → (s : State (Option T) (Beside T)) → HoldsBy z s → HoldsFor z.carries z s
  slotted carries s h = go z.placed refl h
    where
      go : (b : Bool) → z.placed ≡ b → HoldsAs b z s → HoldsFor z.carries z s
      go true e k = absurd (true≢false (sym carries ∙ k.base.ring.planned.apart e))
      go false e k = k

  -- and a table of another kind than that of words in their places
  pub plain_rule : z.placed ≡ false → (s : State (Option T) (Beside T)) → HoldsBy z s → HoldsFor z.carries z s
  plain_rule unplaced s h = subst (λ (b : Bool). HoldsAs b z s) unplaced h

  -- a view is cut in two
  pub in_places_splits : (id : ℕ) (w l r : Beside T) → Splits {S = ℕ} (HoldsPlaced z) id (placed_of w) (placed_of l) (placed_of r) → Splits {S = Option T} (HoldsAs true z) id w l r
  in_places_splits id w l r splits s h mine =
      subst (λ (vs : List PlacedView). HoldsPlaced z (record { words = s.words; homes = []; views = vs }))
      (sym (map-append placed_of (set s.views id l) (r ∷ []) ∙ ap (λ vs. vs ++ placed_of r ∷ []) (map_set placed_of s.views id l)))
      (splits (placed_state s) h (at_map placed_of s.views id w mine))

  -- two views become one
  pub in_places_joins : (id other : ℕ) (v w both gone : Beside T) → Joins {S = ℕ} (HoldsPlaced z) id (placed_of v) other (placed_of w) (placed_of both) (placed_of gone)
      → Joins {S = Option T} (HoldsAs true z) id v other w both gone
  in_places_joins id other v w both gone joins s h mine ne his =
      subst (λ (vs : List PlacedView). HoldsPlaced z (record { words = s.words; homes = []; views = vs }))
      (sym (map_set placed_of (set s.views id both) other gone ∙ ap (λ vs. set vs other (placed_of gone)) (map_set placed_of s.views id both)))
      (joins (placed_state s) h (at_map placed_of s.views id v mine) ne
      (subst (λ (vs : List PlacedView). get_elem? vs other ≡ some (placed_of w)) (map_set placed_of s.views id both) (at_map placed_of (set s.views id both) other w his)))

  -- what a view of a table's own becomes, as one of these
  abbrev pub back_to : Beside T → PlacedView → Beside T
  back_to w v = record { plain = v.plain; deeds = w.deeds; hand = w.hand; others = w.others; tries = w.tries; placing = record { deeds = v.deeds; hand = v.hand; others = v.others } }

  -- a new seat comes in
  pub in_places_enters : (slots p : ℕ) → Enters {S = ℕ} (HoldsPlaced z) 0 p (λ n w. w.plain ≡ gathered []) → Enters {S = Option T} (HoldsAs true z) slots p (λ n w. w.plain ≡ gathered [])
  in_places_enters slots p enters s h count small =
      let q = enters (placed_state s) h refl small in
      let new : Beside T = record { plain = q.0.plain; deeds = []; hand = none; others = []; tries = []; placing = record { deeds = q.0.deeds; hand = q.0.hand; others = q.0.others } } in
      (new, subst (λ (vs : List PlacedView). HoldsPlaced z (record { words = s.words; homes = []; views = vs })) (sym (map-append placed_of s.views (new ∷ []))) q.1, q.2)

  -- a step that moves no slot
  pub in_places : (slots id p : ℕ) (f : ℕ → ℕ) (w : Beside T) (held : List (ℕ × Option T)) (told : ℕ → Me ℕ PlacedView → Type 0) → Keeping z id (placed_of w) p f told
      → Allows {S = Option T} (HoldsAs true z) slots id (w, held) p f (λ n o. told n (placed_of o.0, []) × (o ≡ (back_to w (placed_of o.0), held)))
  in_places slots id p f w held told line s h count mine small =
      let q = line (placed_state s) h (at_map placed_of s.views id w mine) in (
        back_to w q.0,
        keeps,
        tt,
        subst (λ (vs : List PlacedView). HoldsPlaced z (record { words = set s.words p (f (get_or s.words p 0)); homes = []; views = vs })) (sym (map_set placed_of s.views id (back_to w q.0))) q.1,
        (q.2, refl),
      )

  -- what such a step tells that adds no deed, or some
  pub quiet_of : (fact : SeatView → ℕ → SeatView → Type 0) (ds : List (Deed (List ℕ))) (h : Hand) (me : Me (Option T) (Beside T)) (n : ℕ) (o : Me (Option T) (Beside T)) → z.placed ≡ true → z.carries ≡ false
      → TellsSaid fact ds h (placed_of me.0, []) n (placed_of o.0, []) → o ≡ (back_to me.0 (placed_of o.0), me.1) → TellsQuiet z.carries z fact me n o
  quiet_of fact ds h me n o placed none_carried told same =
      let says = told.2.1 in
      let knows_it : ∥ SaidBy z.placed (knows o.0.plain).seen o.0 ∥₁ = subst (λ (b : Bool). ∥ SaidBy b (knows o.0.plain).seen o.0 ∥₁) (sym placed) told.3 in
      subst (λ (b : Bool). TellsQuiet b z fact me n o) (sym none_carried) (
        told.0,
        told.1,
        record {
          held = ap (λ (y : Me (Option T) (Beside T)). y.1) same;
          hand = ap (λ (y : Me (Option T) (Beside T)). y.0.hand) same;
          between = [];
          deeds = ap (λ (y : Me (Option T) (Beside T)). y.0.deeds) same ∙ sym (append-nil me.0.deeds);
          said = (says.0 ++ ds, says.1 ∙ append_assoc me.0.placing.deeds says.0 ds);
        },
        knows_it,
      )

  -- what two seats that are one are told when they meet
  pub meets_of : (me o : Me (Option T) (Beside T)) → z.placed ≡ true → z.carries ≡ false → MeetsPlaced z (placed_of me.0, []) (placed_of o.0, []) → o ≡ (back_to me.0 (placed_of o.0), me.1)
      → MeetsBeside z.carries z me o
  meets_of me o placed none_carried told same =
      let is : o.0.plain ≡ paired (learned told.0.all told.0.run (knows me.0.plain)) (learned told.0.all told.0.run (knows_second me.0.plain)) = ap (λ (y : Me ℕ View). y.0) told.0.seats in
      let first : ∥ SaidBy z.placed (knows (first_beside_of o.0).plain).seen (first_beside_of o.0) ∥₁ = said (first_beside_of o.0)
      (ap (λ (u : View). (knows (first_of u)).seen) is ∙ sym (ap (λ (u : View). (knows u).seen) is)) refl told.2 in
      let second : ∥ SaidBy z.placed (knows (second_beside_of o.0).plain).seen (second_beside_of o.0) ∥₁ = said (second_beside_of o.0)
      (ap (λ (u : View). (knows (second_of u)).seen) is ∙ sym (ap (λ (u : View). (knows u).seen) is)) refl told.2 in
      subst (λ (b : Bool). MeetsBeside b z me o) (sym none_carried) (
        told.0,
        ap (λ (y : Me (Option T) (Beside T)). y.1) same,
        ap (λ (y : Me (Option T) (Beside T)). y.0.hand) same,
        first,
        second,
        ap (λ (y : Me (Option T) (Beside T)). y.0.deeds) same,
        subst (λ (b : Bool). GrowsPlaced b me.0 o.0) (sym placed) told.3,
      )
    where
      said : (w : Beside T) → (knows w.plain).seen ≡ (knows o.0.plain).seen → w.placing.deeds ≡ o.0.placing.deeds → ∥ KnowsSaid (knows o.0.plain).seen (placed_of o.0) ∥₁
          → ∥ SaidBy z.placed (knows w.plain).seen w ∥₁
      said w seen deeds known = subst (λ (b : Bool). ∥ SaidBy b (knows w.plain).seen w ∥₁) (sym placed)
          (∥∥₁_map known (λ (k : KnowsSaid (knows o.0.plain).seen (placed_of o.0)). let r : KnowsSaid (knows w.plain).seen (placed_of w) = record {
            matches = (let P : List Entry × List (Deed (List ℕ)) → Type 0 = λ y. Matches y.0 y.1 in subst P (λ i. (sym seen i, sym deeds i)) k.matches);
            values = k.values;
            shut = k.shut;
            runs = subst (λ (ds : List (Deed (List ℕ))). Runs [] false ds k.values k.shut) (sym deeds) k.runs;
          } in r))
