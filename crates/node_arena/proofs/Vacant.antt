-- The rule of a new table that carries values: nothing was done, and each slot is free.
use Rattle.std.proofs.Common.{◌≡◌, ℕ, zero, suc, ◌+◌, ◌<◌, Bool, true, false, List, [], ◌∷◌, length, map, take, replicate, Option, None, sym, refl, subst, arith}
use mathlib.Core.Option.{some, some-injective, some-ne-none}
use lib.ListN.{get_elem?}
use Rattle.atomic_table.specs.Table.{opening}
use Rattle.history.specs.Entries.{Leads}
use Rattle.node_arena.specs.Knowledge.{SeatView, keeper, seated, paired}
use Rattle.node_arena.specs.Plans.{Layout}
use Rattle.node_arena.specs.Rule.{Holds, first_view}
use Rattle.node_arena.specs.Deeds.{Matches}
use Rattle.node_arena.specs.Slots.{free}
use Rattle.node_arena.specs.Beside.{Beside, words_of, plain_state, flag_at, hand_at, Begins, CarriedBy, HoldsFor, first_beside}
use Rattle.node_arena.proofs.Lifts.{moved}

module _ (T : Type 0) (z : Layout) where
  no_hand : (j i : ℕ) → hand_at {T = T} (first_beside z ∷ []) j ≡ some i → ⊥
  no_hand zero i e = some-ne-none i (sym e)
  no_hand (suc j) i e = some-ne-none i (sym e)

  empties : (n i : ℕ) → i < n → get_elem? (map some (replicate {A = Option T} n None)) i ≡ some (some None)
  empties zero i lt = absurd (omega arith)
  empties (suc n) zero lt = refl
  empties (suc n) (suc i) lt = empties n i (omega arith)

  one_view : (j : ℕ) (w : Beside T) → get_elem? (first_beside z ∷ []) j ≡ some w → Begins {T = T} [] w
  one_view zero w e = subst (Begins {T = T} []) (some-injective (first_beside z) w e)
      (record { rest = []; begins = refl; matches = λ v is. absurd (not_seated v is); pair = λ v u is same. absurd (not_paired v u is); others = tt })
    where
      not_seated : (v : SeatView) → keeper 1 ≡ seated v → ⊥
      not_seated v is = cc

      not_paired : (v u : SeatView) → keeper 1 ≡ paired v u → ⊥
      not_paired v u is = cc
  one_view (suc j) w e = absurd (some-ne-none w (sym e))

-- nothing was done in it, of which these words and slots are the first
pub lift_vacant : (T : Type 0) (z : Layout) (words : List ℕ) → z.carries ≡ true → length words ≡ words_of z + z.setup.size
    → ((i : ℕ) → flag_at (words_of z) words i ≡ 0) → (h : Holds z (opening {S = ℕ} (take (words_of z) words) [] (first_view z)))
    → h.trace.history ≡ []
    → HoldsFor z (opening {S = Option T} words (replicate {A = Option T} z.setup.size None) (first_beside z))
lift_vacant T z words carries long down h nothing = record {
  base = moved z (opening {S = ℕ} (take (words_of z) words) [] (first_view z))
      (plain_state (words_of z) (opening {S = Option T} words (replicate {A = Option T} z.setup.size None) (first_beside z))) h refl refl;
  values = subst (λ (b : Bool). CarriedBy b z h.trace.history (opening {S = Option T} words (replicate {A = Option T} z.setup.size None) (first_beside z))) (sym carries) (record {
    rides = record {
      deeds = [];
      q = [];
      pops = 0;
      shut = false;
      leads = subst (λ es. Leads es false []) (sym nothing) refl;
      runs = (refl, refl);
      matches = subst (λ es. Matches {T = T} es []) (sym nothing) tt;
      slotted = record {
        place = λ i. free;
        stands = λ i lt. (down i, empties T z z.setup.size i lt);
        lies = λ m l at. absurd (some-ne-none l (sym at));
        out = λ j i e. absurd (no_hand T z j i e);
        why = λ i lt up. absurd (up (down i));
      };
    };
    known = one_view T z;
    long = omega (arith, long);
  });
}
