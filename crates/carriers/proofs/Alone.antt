-- What one taker gets that alone may pop.
use Rattle.std.proofs.Common.{◌≡◌, ◌∙◌, sym, refl, ap, ℕ, Bool, true, false, cond, nat_eq, List, [], ◌∷◌, ◌++◌}
use Rattle.std.specs.List.{All}
use Rattle.std.proofs.lemmas.Bool.{eq-eqb}
use Rattle.std.proofs.lemmas.List.Elements.{All-head, All-tail}
use mathlib.Core.List.{IsPrefix}
use Rattle.history.specs.Seats.{Permit}
use Rattle.history.specs.Values.{OnlyPops}
use Rattle.carriers.specs.declared.items.ItemOf.{ItemOf}
use Rattle.carriers.specs.Deeds.{Deed, did_push, did_pop, did_shut, own_deeds}
use Rattle.carriers.specs.Knowledge.{KnownOf, IsPermittedDeed, IsSoundOf}
use Rattle.carriers.specs.Deliveries.{sent, value_of, taken_of, values_of}
use Rattle.carriers.proofs.Delivering.{sent-RunsTo}

module _ {A : Type 0} (giver : ℕ) where
  -- who pushes takes nothing
  pushes_take_nothing : (b : Bool) (n : ℕ) (x : A) (ds : List (Deed A)) → taken_of giver (cond b (did_push n x ∷ ds) ds) ≡ taken_of giver ds
  pushes_take_nothing true n x ds = refl
  pushes_take_nothing false n x ds = refl

  -- nor does who shuts
  shuts_take_nothing : (b : Bool) (n : ℕ) (ds : List (Deed A)) → taken_of giver (cond b (did_shut n ∷ ds) ds) ≡ taken_of giver ds
  shuts_take_nothing true n ds = refl
  shuts_take_nothing false n ds = refl

  -- what the one taker took is all that was taken
  taken-own : (permits : List Permit) (me : ℕ) → OnlyPops permits me → (ds : List (Deed A)) → All (IsPermittedDeed permits) ds → taken_of giver (own_deeds me ds) ≡ taken_of giver ds
  taken-own permits me only [] may = refl
  taken-own permits me only (did_push n x ∷ ds) may =
      pushes_take_nothing (nat_eq n me) n x (own_deeds me ds) ∙ taken-own permits me only ds (All-tail (IsPermittedDeed permits) (did_push n x) ds may)
  taken-own permits me only (did_shut n ∷ ds) may =
      shuts_take_nothing (nat_eq n me) n (own_deeds me ds) ∙ taken-own permits me only ds (All-tail (IsPermittedDeed permits) (did_shut n) ds may)
  taken-own permits me only (did_pop n t ∷ ds) may =
      let mine : nat_eq n me ≡ true = eq-eqb n me (only n (All-head (IsPermittedDeed permits) (did_pop n t) ds may)) in
      ap (λ b. taken_of giver (cond b (did_pop n t ∷ own_deeds me ds) (own_deeds me ds))) mine
      ∙ ap (λ l. value_of giver t ++ l) (taken-own permits me only ds (All-tail (IsPermittedDeed permits) (did_pop n t) ds may))

-- so it is a beginning of what the giver pushed
pub lone_beginning : {A : Type 0} (permits : List Permit) (k : KnownOf A) → IsSoundOf permits k → OnlyPops permits k.number → (giver : ℕ)
    → IsPrefix (taken_of giver k.mine) (sent (own_deeds giver k.seen))
lone_beginning permits k sound only giver =
    let left = sound.run.0 in
    let mine = ap (taken_of giver) (sym sound.own) ∙ taken-own giver permits k.number only k.seen sound.permitted in
    (values_of giver left, ap (λ l. l ++ values_of giver left) mine ∙ sym (sent-RunsTo k.seen sound.run.1 left sound.run.2 giver))
