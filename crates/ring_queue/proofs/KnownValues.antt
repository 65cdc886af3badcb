-- What a seat knows of values is so.
use Rattle.std.proofs.Common.{◌≡◌, ℕ, Bool, true, false, List, [], sym, refl, ap, ◌∙◌, subst, arith}
use Rattle.history.specs.declared.operations.Entry.{Entry}
use Rattle.node_arena.specs.Beside.{slots_in}
use Rattle.node_arena.specs.Deeds.{Deed, Runs, Matches}
use Rattle.ring_queue.specs.Plans.{Layout}
use Rattle.ring_queue.specs.Knowledge.{knows}
use Rattle.ring_queue.specs.Beside.{Beside, KnowsBy, KnowsNow, SaidBy}

-- a seat that has seen nothing
pub knows_none : {T : Type 0} (b : Bool) (z : Layout) (w : Beside T) → (knows w.plain).seen ≡ [] → w.deeds ≡ [] → slots_in w.hand ≡ 0 → w.placing.deeds ≡ [] → KnowsNow b z w
knows_none {T} b z w none_seen none_done none_out none_said = go b
  where
    go : (c : Bool) → KnowsBy c z (knows w.plain).seen w
    go true = record {
      matches = (let P : List Entry × List (Deed T) → Type 0 = λ y. Matches y.0 y.1 in subst P (λ i. (sym none_seen i, sym none_done i)) tt);
      values = [];
      shut = false;
      runs = subst (λ (ds : List (Deed T)). Runs [] false ds [] false) (sym none_done) (refl, refl);
      there = λ i e. let one : 1 ≡ 0 = ap slots_in (sym e) ∙ none_out in absurd (omega (arith, one));
    }
    go false = said z.placed
      where
        said : (c : Bool) → SaidBy c (knows w.plain).seen w
        said true = record {
          matches = (let P : List Entry × List (Deed (List ℕ)) → Type 0 = λ y. Matches y.0 y.1 in subst P (λ i. (sym none_seen i, sym none_said i)) tt);
          values = [];
          shut = false;
          runs = subst (λ (ds : List (Deed (List ℕ))). Runs [] false ds [] false) (sym none_said) (refl, refl);
        }
        said false = tt
