-- Runs of deeds: their beginnings, what they push and pop, and what stands behind a shut.
use Rattle.std.proofs.Common.{◌≡◌, ◌∙◌, sym, refl, ap, subst, ℕ, Bool, true, false, List, [], ◌∷◌, ◌++◌, append-nil, append_assoc}
use Rattle.std.specs.List.{count_by}
use mathlib.Core.Bool.{true≢false}
use Rattle.carriers.specs.declared.items.ItemOf.{ItemOf}
use Rattle.carriers.specs.Deeds.{Deed, did_push, did_pop, did_shut, item, is_pushing, is_shutting, Runs, RunsTo, IsRun}
use Rattle.carriers.specs.Values.{values_pushed, values_popped}

module _ {A : Type 0} where
  -- deeds and further ones lead somewhere by what the first of them lead to
  pub runs_split : (q : List (ItemOf A)) (s : Bool) (ds es : List (Deed A)) (q' : List (ItemOf A)) (s' : Bool) → Runs q s (ds ++ es) q' s'
      → (r : List (ItemOf A)) × (b : Bool) × Runs q s ds r b × Runs r b es q' s'
  runs_split q s [] es q' s' h = (q, s, (refl, refl), h)
  runs_split q s (did_push n x ∷ ds) es q' s' h = let r = runs_split (q ++ item n x ∷ []) s ds es q' s' h.1 in (r.0, r.1, (h.0, r.2), r.3)
  runs_split q s (did_pop n t ∷ ds) es q' s' h = let r = runs_split h.0 s ds es q' s' h.2 in (r.0, r.1, (h.0, h.1, r.2), r.3)
  runs_split q s (did_shut n ∷ ds) es q' s' h = let r = runs_split q true ds es q' s' h.1 in (r.0, r.1, (h.0, r.2), r.3)

  -- what deeds lead to, further ones lead on from
  pub runs_join : (q : List (ItemOf A)) (s : Bool) (ds es : List (Deed A)) (r : List (ItemOf A)) (b : Bool) (q' : List (ItemOf A)) (s' : Bool)
      → Runs q s ds r b → Runs r b es q' s' → Runs q s (ds ++ es) q' s'
  runs_join q s [] es r b q' s' h k = subst (λ (y : List (ItemOf A)). Runs y s es q' s') (sym h.0) (subst (λ (y : Bool). Runs r y es q' s') (sym h.1) k)
  runs_join q s (did_push n x ∷ ds) es r b q' s' h k = (h.0, runs_join (q ++ item n x ∷ []) s ds es r b q' s' h.1 k)
  runs_join q s (did_pop n t ∷ ds) es r b q' s' h k = (h.0, h.1, runs_join h.0 s ds es r b q' s' h.2 k)
  runs_join q s (did_shut n ∷ ds) es r b q' s' h k = (h.0, runs_join q true ds es r b q' s' h.1 k)

  -- what was there and what was pushed is what was popped and what is left
  popped-then_left : (q : List (ItemOf A)) (s : Bool) (ds : List (Deed A)) (q' : List (ItemOf A)) (s' : Bool) → Runs q s ds q' s' → q ++ values_pushed ds ≡ values_popped ds ++ q'
  popped-then_left q s [] q' s' h = append-nil q ∙ h.0
  popped-then_left q s (did_push n x ∷ ds) q' s' h = sym (append_assoc q (item n x ∷ []) (values_pushed ds)) ∙ popped-then_left (q ++ item n x ∷ []) s ds q' s' h.1
  popped-then_left q s (did_pop n t ∷ ds) q' s' h = ap (λ y. y ++ values_pushed ds) h.1 ∙ ap (λ y. t ∷ y) (popped-then_left h.0 s ds q' s' h.2)
  popped-then_left q s (did_shut n ∷ ds) q' s' h = popped-then_left q true ds q' s' h.1

  -- what was pushed is what was popped, and then what is left
  pub pushed-RunsTo : (ds : List (Deed A)) (shut : Bool) (left : List (ItemOf A)) → RunsTo ds shut left → values_pushed ds ≡ values_popped ds ++ left
  pushed-RunsTo ds shut left h = popped-then_left [] false ds left shut h

  -- a beginning of a run is one
  pub run-first : (before after : List (Deed A)) → IsRun (before ++ after) → IsRun before
  run-first before after run = let r = runs_split [] false before after run.0 run.1 run.2 in (r.0, r.1, r.2)

  -- what a pop takes was pushed just behind all that was popped before it
  pub run-front : (before after : List (Deed A)) (seat : ℕ) (front : ItemOf A) → IsRun (before ++ did_pop seat front ∷ after)
      → (rest : List (ItemOf A)) × (values_pushed before ≡ values_popped before ++ front ∷ rest)
  run-front before after seat front run =
      let r = runs_split [] false before (did_pop seat front ∷ after) run.0 run.1 run.2 in
      (r.3.0, pushed-RunsTo before r.1 r.0 r.2 ∙ ap (λ y. values_popped before ++ y) r.3.1)

  -- on what is shut nothing is pushed, and it isn't shut again
  ended : (q : List (ItemOf A)) (ds : List (Deed A)) (q' : List (ItemOf A)) (s' : Bool) → Runs q true ds q' s' → (count_by is_pushing ds ≡ 0) × (count_by is_shutting ds ≡ 0)
  ended q [] q' s' h = (refl, refl)
  ended q (did_push n x ∷ ds) q' s' h = absurd (true≢false h.0)
  ended q (did_pop n t ∷ ds) q' s' h = ended h.0 ds q' s' h.2
  ended q (did_shut n ∷ ds) q' s' h = absurd (true≢false h.0)

  -- so behind a shut stands neither a push nor a shut
  pub run-shut : (before after : List (Deed A)) (seat : ℕ) → IsRun (before ++ did_shut seat ∷ after) → (count_by is_pushing after ≡ 0) × (count_by is_shutting after ≡ 0)
  run-shut before after seat run =
      let r = runs_split [] false before (did_shut seat ∷ after) run.0 run.1 run.2 in
      ended r.0 after run.0 run.1 r.3.1
