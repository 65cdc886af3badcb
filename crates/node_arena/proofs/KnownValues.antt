-- What a seat knows of values is so.
use Rattle.std.proofs.Common.{◌≡◌, ℕ, ◌<◌, Bool, true, false, List, [], ◌++◌, sym, refl, ap, ◌∙◌, subst, arith, append_assoc, ◌∷◌}
use mathlib.Core.Option.{some, none, some-ne-none}
use Rattle.history.specs.declared.operations.Entry.{Entry}
use Rattle.node_arena.specs.Knowledge.{SeatView, paired, knows, first_of, second_of}
use Rattle.node_arena.specs.Plans.{Layout}
use Rattle.node_arena.specs.Deeds.{Item, Deed, Runs, Matches}
use Rattle.node_arena.specs.Beside.{Beside, AllBegin, slots_in, KnowsValues, KnowsBy, KnowsNow, first_beside_of, second_beside_of}
use Rattle.node_arena.proofs.Riding.{runs_first}

-- what begins deeds begins them where they go on
pub all_on : {T : Type 0} (os : List (List (Deed T))) (ds d all : List (Deed T)) → all ≡ ds ++ d → AllBegin os ds → AllBegin os all
all_on [] ds d all is h = tt
all_on (o ∷ os) ds d all is h = ((h.0.0 ++ d, is ∙ (ap (λ y. y ++ d) h.0.1 ∙ append_assoc o h.0.0 d)), all_on os ds d all is h.1)

module _ {T : Type 0} (z : Layout) where
  -- what begins deeds that run runs
  pub knows_values : (seen : List Entry) (w : Beside T) (ds rest : List (Deed T)) (q : List (Item T)) (shut : Bool) → ds ≡ w.deeds ++ rest
      → Runs [] false ds q shut → Matches seen w.deeds → ((i : ℕ) → w.hand ≡ some i → i < z.setup.size) → KnowsValues z seen w
  knows_values seen w ds rest q shut begins runs matches there =
      let first = runs_first [] false w.deeds rest q shut (subst (λ (y : List (Deed T)). Runs [] false y q shut) begins runs) in
      record { matches = matches; values = first.0; shut = first.1; runs = first.2; there = there }

  -- by whether values are carried
  pub knows_by : (b : Bool) (seen : List Entry) (w : Beside T) → (b ≡ true → KnowsValues z seen w) → KnowsBy b z seen w
  knows_by true seen w h = h refl
  knows_by false seen w h = tt

  -- the same of another view with the same deeds, and no other slot
  pub knows_again : (b : Bool) (seen seen' : List Entry) (w w' : Beside T) → seen ≡ seen' → w.deeds ≡ w'.deeds
      → ((i : ℕ) → w'.hand ≡ some i → w.hand ≡ some i) → KnowsBy b z seen w → KnowsBy b z seen' w'
  knows_again true seen seen' w w' same deeds hand k =
      record {
        matches = (let P : List Entry × List (Deed T) → Type 0 = λ y. Matches y.0 y.1 in subst P (λ i. (same i, deeds i)) k.matches);
        values = k.values;
        shut = k.shut;
        runs = subst (λ (ds : List (Deed T)). Runs [] false ds k.values k.shut) deeds k.runs;
        there = λ i e. k.there i (hand i e);
      }
  knows_again false seen seen' w w' same deeds hand k = tt

  -- a seat that has seen nothing
  pub knows_none : (w : Beside T) → (knows w.plain).seen ≡ [] → w.deeds ≡ [] → slots_in w.hand ≡ 0 → KnowsNow z w
  knows_none w none_seen none_done none_out =
      knows_by z.carries (knows w.plain).seen w
      (λ c. record {
        matches = (let P : List Entry × List (Deed T) → Type 0 = λ y. Matches y.0 y.1 in subst P (λ i. (sym none_seen i, sym none_done i)) tt);
        values = [];
        shut = false;
        runs = subst (λ (ds : List (Deed T)). Runs [] false ds [] false) (sym none_done) (refl, refl);
        there = λ i e. let one : 1 ≡ 0 = ap slots_in (sym e) ∙ none_out in absurd (omega (arith, one));
      })

  -- two seats that are one
  pub knows_parted : (w : Beside T) (v u : SeatView) → w.plain ≡ paired v u → v.seen ≡ u.seen → KnowsNow z w → KnowsNow z (first_beside_of w) × KnowsNow z (second_beside_of w)
  knows_parted w v u is met k = (
    knows_again z.carries (knows w.plain).seen (knows (first_of w.plain)).seen w (first_beside_of w) ((λ i. (knows (is i)).seen) ∙ (λ i. (knows (first_of (sym is i))).seen)) refl (λ i e. e) k,
    knows_again z.carries (knows w.plain).seen (knows (second_of w.plain)).seen w (second_beside_of w)
        ((λ i. (knows (is i)).seen) ∙ (met ∙ (λ i. (knows (second_of (sym is i))).seen))) refl (λ i e. none_there i e) k,
  )
    where
      none_there : {X : Type 0} (i : ℕ) → none ≡ some i → X
      none_there i e = absurd (some-ne-none i (sym e))
