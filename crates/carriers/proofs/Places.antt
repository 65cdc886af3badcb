-- Which push a pop takes.
use Rattle.std.proofs.Common.{◌≡◌, ◌∙◌, sym, refl, ap, subst, ℕ, ◌+◌, ◌<◌, ◌≤◌, Bool, cond, List, [], ◌∷◌, ◌++◌, length, append_assoc, Some, slice_get, arith}
use Rattle.std.specs.List.{count_by}
use Rattle.std.proofs.Math.Nat.{le-add_right}
use Rattle.std.proofs.lemmas.Grind.{flat_map-append}
use Rattle.std.proofs.lemmas.List.Recursion.{is_count_by}
use Rattle.std.proofs.lemmas.List.Sums.{sum_by-cons, sum_by-append}
use Rattle.carriers.specs.declared.items.ItemOf.{ItemOf}
use Rattle.carriers.specs.Deeds.{Deed, did_push, did_pop, did_shut, is_popping, IsRun}
use Rattle.carriers.specs.Values.{value_pushed, values_pushed, values_popped}
use Rattle.carriers.proofs.Running.{pushed-RunsTo, run-front}

-- what stands behind a list
behind_all : {X : Type 0} (xs : List X) (y : X) (ys : List X) → slice_get (xs ++ y ∷ ys) (length xs) ≡ Some y
behind_all [] y ys = refl
behind_all (x ∷ xs) y ys = behind_all xs y ys

module _ {A : Type 0} where
  -- one more value is popped by a pop, and none by another deed
  one_more : (d : Deed A) (ds : List (Deed A)) → length (values_popped (d ∷ ds)) ≡ cond (is_popping d) (1 + length (values_popped ds)) (length (values_popped ds))
  one_more (did_push n x) ds = refl
  one_more (did_pop n t) ds = omega arith
  one_more (did_shut n) ds = refl

  -- as many values were popped as there are pops
  many-popped : (ds : List (Deed A)) → length (values_popped ds) ≡ count_by is_popping ds
  many-popped ds = is_count_by (λ es. length (values_popped es)) is_popping refl one_more ds

  -- the pop with so many pops before it takes what the push with so many pushes before it put there
  pub popped-place : (before after : List (Deed A)) (seat : ℕ) (front : ItemOf A) → IsRun (before ++ did_pop seat front ∷ after)
      → slice_get (values_pushed (before ++ did_pop seat front ∷ after)) (count_by is_popping before) ≡ Some front
  popped-place before after seat front run =
      let at = run-front before after seat front run in
      let more = values_pushed (did_pop seat front ∷ after) in
      let all = flat_map-append value_pushed before (did_pop seat front ∷ after) ∙ ap (λ y. y ++ more) at.1 ∙ append_assoc (values_popped before) (front ∷ at.0) more in
      ap (λ n. slice_get (values_pushed (before ++ did_pop seat front ∷ after)) n) (sym (many-popped before))
      ∙ ap (λ y. slice_get y (length (values_popped before))) all
      ∙ behind_all (values_popped before) front (at.0 ++ more)

  -- a later pop has more before it
  pub pops-apart : (before between : List (Deed A)) (seat : ℕ) (front : ItemOf A) → count_by is_popping before < count_by is_popping (before ++ did_pop seat front ∷ between)
  pops-apart before between seat front =
      let f : Deed A → ℕ = λ d. cond (is_popping d) 1 0 in
      let b = count_by is_popping before in
      let c = count_by is_popping between in
      let all : count_by is_popping (before ++ did_pop seat front ∷ between) ≡ b + (1 + c) =
      sum_by-append f before (did_pop seat front ∷ between) ∙ ap (λ n. b + n) (sum_by-cons f (did_pop seat front) between) in
      omega (arith, all)

  -- of no kind of value more are popped than were pushed
  pub kinds-popped : (ds : List (Deed A)) → IsRun ds → (kind : ItemOf A → Bool) → count_by kind (values_popped ds) ≤ count_by kind (values_pushed ds)
  kinds-popped ds run kind =
      let all = ap (λ y. count_by kind y) (pushed-RunsTo ds run.1 run.0 run.2) ∙ sum_by-append (λ v. cond (kind v) 1 0) (values_popped ds) run.0 in
      subst (λ n. count_by kind (values_popped ds) ≤ n) (sym all) (le-add_right (count_by kind (values_popped ds)) (count_by kind run.0))
