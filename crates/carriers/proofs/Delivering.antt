-- What takers get of what givers push.
use Rattle.std.proofs.Common.{◌≡◌, ◌∙◌, sym, refl, ap, subst, ℕ, Bool, true, false, cond, nat_eq, List, [], ◌∷◌, ◌++◌, append-nil, append_assoc}
use Rattle.std.specs.List.{All}
use mathlib.Core.List.{Sublist, nil-sublist}
use mathlib.Core.List.Sublist.{refl as sublist_refl, append as sublist_append}
use Rattle.std.proofs.lemmas.Grind.{flat_map-append}
use Rattle.std.proofs.lemmas.List.Elements.{All-weaker}
use Rattle.carriers.specs.declared.items.ItemOf.{ItemOf}
use Rattle.carriers.specs.Deeds.{Deed, did_push, did_pop, did_shut, item, doer_of, own_deeds, Runs, RunsTo, IsRun}
use Rattle.carriers.specs.Knowledge.{KnownOf}
use Rattle.carriers.specs.Deliveries.{sent, value_of, value_taken, taken_of, values_of}
use Rattle.carriers.specs.Delivered.{DeliversOf}

module _ {A : Type 0} where
  -- what one sends who pushes, if it is this one
  sends : (b : Bool) (n : ℕ) (x : A) (ds : List (Deed A)) → sent (cond b (did_push n x ∷ ds) ds) ≡ cond b (x ∷ []) [] ++ sent ds
  sends true n x ds = refl
  sends false n x ds = refl

  -- who pops sends nothing
  pops_send_nothing : (b : Bool) (n : ℕ) (t : ItemOf A) (ds : List (Deed A)) → sent (cond b (did_pop n t ∷ ds) ds) ≡ sent ds
  pops_send_nothing true n t ds = refl
  pops_send_nothing false n t ds = refl

  -- nor does who shuts
  shuts_send_nothing : (b : Bool) (n : ℕ) (ds : List (Deed A)) → sent (cond b (did_shut n ∷ ds) ds) ≡ sent ds
  shuts_send_nothing true n ds = refl
  shuts_send_nothing false n ds = refl

  -- what was there of a giver and what it sends is what is taken of it and what is left of it
  taken-then_left : (giver : ℕ) (q : List (ItemOf A)) (s : Bool) (ds : List (Deed A)) (q' : List (ItemOf A)) (s' : Bool) → Runs q s ds q' s'
      → values_of giver q ++ sent (own_deeds giver ds) ≡ taken_of giver ds ++ values_of giver q'
  taken-then_left giver q s [] q' s' h = append-nil (values_of giver q) ∙ ap (values_of giver) h.0
  taken-then_left giver q s (did_push n x ∷ ds) q' s' h =
      ap (λ y. values_of giver q ++ y) (sends (nat_eq n giver) n x (own_deeds giver ds))
      ∙ sym (append_assoc (values_of giver q) (value_of giver (item n x)) (sent (own_deeds giver ds)))
      ∙ ap (λ y. (values_of giver q ++ y) ++ sent (own_deeds giver ds)) (sym (append-nil (value_of giver (item n x))))
      ∙ ap (λ y. y ++ sent (own_deeds giver ds)) (sym (flat_map-append (value_of giver) q (item n x ∷ [])))
      ∙ taken-then_left giver (q ++ item n x ∷ []) s ds q' s' h.1
  taken-then_left giver q s (did_pop n t ∷ ds) q' s' h =
      ap (λ y. values_of giver q ++ y) (pops_send_nothing (nat_eq n giver) n t (own_deeds giver ds))
      ∙ ap (λ y. values_of giver y ++ sent (own_deeds giver ds)) h.1
      ∙ append_assoc (value_of giver t) (values_of giver h.0) (sent (own_deeds giver ds))
      ∙ ap (λ y. value_of giver t ++ y) (taken-then_left giver h.0 s ds q' s' h.2)
      ∙ sym (append_assoc (value_of giver t) (taken_of giver ds) (values_of giver q'))
  taken-then_left giver q s (did_shut n ∷ ds) q' s' h =
      ap (λ y. values_of giver q ++ y) (shuts_send_nothing (nat_eq n giver) n (own_deeds giver ds))
      ∙ taken-then_left giver q true ds q' s' h.1

  -- what a giver sends is what is taken of it, and then what is left of it
  pub sent-RunsTo : (ds : List (Deed A)) (shut : Bool) (left : List (ItemOf A)) → RunsTo ds shut left → (giver : ℕ) → sent (own_deeds giver ds) ≡ taken_of giver ds ++ values_of giver left
  sent-RunsTo ds shut left h giver = taken-then_left giver [] false ds left shut h

  -- a deed that is one's own or not
  own_or_not : (giver : ℕ) (b : Bool) (d : Deed A) (own ds : List (Deed A)) → Sublist (taken_of giver own) (taken_of giver ds)
      → Sublist (taken_of giver (cond b (d ∷ own) own)) (taken_of giver (d ∷ ds))
  own_or_not giver true d own ds h = sublist_append (sublist_refl (value_taken giver d)) h
  own_or_not giver false d own ds h = sublist_append (nil-sublist (value_taken giver d)) h

  -- what one taker took is part of what all took
  pub own-taken : (giver taker : ℕ) (ds : List (Deed A)) → Sublist (taken_of giver (own_deeds taker ds)) (taken_of giver ds)
  own-taken giver taker [] = nil-sublist []
  own-taken giver taker (d ∷ ds) = own_or_not giver (nat_eq (doer_of d) taker) d (own_deeds taker ds) ds (own-taken giver taker ds)

  -- so what one taker took of a giver comes in order
  pub taken-in_order : (ds : List (Deed A)) → IsRun ds → (giver taker : ℕ) → Sublist (taken_of giver (own_deeds taker ds)) (sent (own_deeds giver ds))
  taken-in_order ds run giver taker =
      subst (λ ys. Sublist (taken_of giver (own_deeds taker ds)) ys) (sym (sent-RunsTo ds run.1 run.0 run.2 giver))
      (subst (λ xs. Sublist xs (taken_of giver ds ++ values_of giver run.0)) (append-nil (taken_of giver (own_deeds taker ds)))
      (sublist_append (own-taken giver taker ds) (nil-sublist (values_of giver run.0))))

  -- what a giver sent of whom the history has just its own deeds
  delivers : (seats : List (KnownOf A)) (ds : List (Deed A)) (shut : Bool) (left : List (ItemOf A)) → RunsTo ds shut left → All (λ k. own_deeds k.number ds ≡ k.mine) seats
      → (giver : KnownOf A) → own_deeds giver.number ds ≡ giver.mine → DeliversOf giver seats left
  delivers seats ds shut left runs own giver same =
      record {
        taken = taken_of giver.number ds;
        split = ap sent (sym same) ∙ sent-RunsTo ds shut left runs giver.number;
        each = All-weaker (λ (k : KnownOf A). own_deeds k.number ds ≡ k.mine) (λ k. Sublist (taken_of giver.number k.mine) (taken_of giver.number ds))
            (λ k own'. subst (λ es. Sublist (taken_of giver.number es) (taken_of giver.number ds)) own' (own-taken giver.number k.number ds)) seats own;
      }

  -- and so each of them
  pub all-deliver : (seats : List (KnownOf A)) (ds : List (Deed A)) (shut : Bool) (left : List (ItemOf A)) → RunsTo ds shut left → All (λ k. own_deeds k.number ds ≡ k.mine) seats
      → All (λ giver. DeliversOf giver seats left) seats
  all-deliver seats ds shut left runs own =
      All-weaker (λ (k : KnownOf A). own_deeds k.number ds ≡ k.mine) (λ giver. DeliversOf giver seats left) (delivers seats ds shut left runs own) seats own
