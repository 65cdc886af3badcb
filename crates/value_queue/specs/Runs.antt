-- The deeds that a seat has seen, as a queue of values tells them.
use Rattle.std.proofs.Common.{◌≡◌, Bool, true, false, List, [], ◌∷◌, ◌++◌, map, sym, refl, ap, subst, ◌∙◌}
use Rattle.std.specs.Coded.{×_prop}
use Rattle.std.proofs.Math.Bool.{Bool-set}
use Rattle.std.proofs.lemmas.List.{map-append}
use Rattle.history.specs.declared.operations.Entry.{Entry}
use Rattle.history.specs.declared.operations.Entry.TheVariants.{Push, Pop, Shut}
use Rattle.carriers.specs.declared.items.ItemOf.{ItemOf}
use Rattle.carriers.specs.Deeds.{did_push, did_pop, did_shut, item, Runs}
use Rattle.carriers.specs.DeedsOfNumbers.{Matches}
use Rattle.node_arena.specs.Deeds.{Item, pushed, popped, closed}
use Rattle.node_arena.specs.Deeds as slots
use Rattle.value_queue.specs.ValuesSeen.{told, left_by, shut_by}

module _ {T : Type 0} where
  -- some deeds, and then others
  pub told-append : (q : List (ItemOf T)) (ds es : List (slots.Deed T)) → told q (ds ++ es) ≡ told q ds ++ told (left_by q ds) es
  told-append q [] es = refl
  told-append q (pushed n x ∷ ds) es = ap (λ y. did_push n x ∷ y) (told-append (q ++ item n x ∷ []) ds es)
  told-append [] (popped n t ∷ ds) es = ap (λ y. did_pop n (item t.from t.value) ∷ y) (told-append [] ds es)
  told-append (front ∷ q) (popped n t ∷ ds) es = ap (λ y. did_pop n front ∷ y) (told-append q ds es)
  told-append q (closed n ∷ ds) es = ap (λ y. did_shut n ∷ y) (told-append q ds es)

  -- deeds can be made one after another: no pop finds the queue empty, and nothing is pushed after a shut; of the values this
  -- says nothing
  abbrev pub CanRun : List (ItemOf T) → Bool → List (slots.Deed T) → Type 0
  CanRun q shut [] = Unit {0}
  CanRun q shut (pushed n x ∷ ds) = (shut ≡ false) × CanRun (q ++ item n x ∷ []) shut ds
  CanRun [] shut (popped n t ∷ ds) = ⊥
  CanRun (front ∷ q) shut (popped n t ∷ ds) = CanRun q shut ds
  CanRun q shut (closed n ∷ ds) = (shut ≡ false) × CanRun q true ds

  -- that has at most one proof
  pub CanRun-prop : (q : List (ItemOf T)) (shut : Bool) (ds : List (slots.Deed T)) → IsProp (CanRun q shut ds)
  CanRun-prop q shut [] = λ a b. refl
  CanRun-prop q shut (pushed n x ∷ ds) = ×_prop (Bool-set shut false) (CanRun-prop (q ++ item n x ∷ []) shut ds)
  CanRun-prop [] shut (popped n t ∷ ds) = λ a b. absurd a
  CanRun-prop (front ∷ q) shut (popped n t ∷ ds) = CanRun-prop q shut ds
  CanRun-prop q shut (closed n ∷ ds) = ×_prop (Bool-set shut false) (CanRun-prop q true ds)

  -- such deeds are a run, as they are told
  pub Runs-told : (q : List (ItemOf T)) (shut : Bool) (ds : List (slots.Deed T)) → CanRun q shut ds → Runs q shut (told q ds) (left_by q ds) (shut_by shut ds)
  Runs-told q shut [] c = (refl, refl)
  Runs-told q shut (pushed n x ∷ ds) c = (c.0, Runs-told (q ++ item n x ∷ []) shut ds c.1)
  Runs-told [] shut (popped n t ∷ ds) c = absurd c
  Runs-told (front ∷ q) shut (popped n t ∷ ds) c = (q, refl, Runs-told q shut ds c)
  Runs-told q shut (closed n ∷ ds) c = (c.0, Runs-told q true ds c.1)

  -- a value of an arena
  abbrev pub as_item : Item T → ItemOf T
  as_item t = item t.from t.value

  more_items : (q : List (Item T)) (t : Item T) → map as_item (q ++ t ∷ []) ≡ map as_item q ++ as_item t ∷ []
  more_items q t = map-append as_item q (t ∷ [])

  -- deeds that run can be made
  pub CanRun-Runs : (q : List (Item T)) (shut : Bool) (ds : List (slots.Deed T)) (q' : List (Item T)) (shut' : Bool) → slots.Runs q shut ds q' shut' → CanRun (map as_item q) shut ds
  CanRun-Runs q shut [] q' shut' h = tt
  CanRun-Runs q shut (pushed n x ∷ ds) q' shut' h = (h.0, subst (λ y. CanRun y shut ds) (more_items q (slots.item n x)) (CanRun-Runs (q ++ slots.item n x ∷ []) shut ds q' shut' h.1))
  CanRun-Runs q shut (popped n t ∷ ds) q' shut' h = subst (λ y. CanRun (map as_item y) shut (popped n t ∷ ds)) (sym h.1) (CanRun-Runs h.0 shut ds q' shut' h.2)
  CanRun-Runs q shut (closed n ∷ ds) q' shut' h = (h.0, CanRun-Runs q true ds q' shut' h.1)

  -- and leave what they lead to
  pub left_by-Runs : (q : List (Item T)) (shut : Bool) (ds : List (slots.Deed T)) (q' : List (Item T)) (shut' : Bool) → slots.Runs q shut ds q' shut' → left_by (map as_item q) ds ≡ map as_item q'
  left_by-Runs q shut [] q' shut' h = ap (map as_item) h.0
  left_by-Runs q shut (pushed n x ∷ ds) q' shut' h = ap (λ y. left_by y ds) (sym (more_items q (slots.item n x))) ∙ left_by-Runs (q ++ slots.item n x ∷ []) shut ds q' shut' h.1
  left_by-Runs q shut (popped n t ∷ ds) q' shut' h = ap (λ y. left_by (map as_item y) (popped n t ∷ ds)) h.1 ∙ left_by-Runs h.0 shut ds q' shut' h.2
  left_by-Runs q shut (closed n ∷ ds) q' shut' h = left_by-Runs q true ds q' shut' h.1

  -- and go one by one with the entries with which they went
  pub Matches-told : (q : List (Item T)) (shut : Bool) (es : List Entry) (ds : List (slots.Deed T)) (q' : List (Item T)) (shut' : Bool)
      → slots.Runs q shut ds q' shut' → slots.Matches es ds → Matches es (told (map as_item q) ds)
  Matches-told q shut [] [] q' shut' h k = tt
  Matches-told q shut (Push n b ∷ es) (pushed m x ∷ ds) q' shut' h k = (
    k.0,
    subst (λ y. Matches es (told y ds)) (more_items q (slots.item m x))
        (Matches-told (q ++ slots.item m x ∷ []) shut es ds q' shut' h.1 k.1),
  )
  Matches-told q shut (Pop n t ∷ es) (popped m u ∷ ds) q' shut' h k = subst (λ y. Matches (Pop n t ∷ es) (told (map as_item y) (popped m u ∷ ds)))
      (sym h.1) (k.0, k.1, Matches-told h.0 shut es ds q' shut' h.2 k.2)
  Matches-told q shut (Shut n ∷ es) (closed m ∷ ds) q' shut' h k = (k.0, Matches-told q true es ds q' shut' h.1 k.1)
  Matches-told q shut es ds q' shut' h k = absurd k
