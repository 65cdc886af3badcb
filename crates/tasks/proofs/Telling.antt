-- Of each task it is told once what became of it, where one seat offered them all and the others brought back what they ran.
use Rattle.std.proofs.Common.{◌≡◌, ◌∙◌, ◌<◌, ◌⊎◌, inl, inr, sym, refl, ap, subst, ℕ, Bool, List, ◌∷◌, ◌++◌, map, length, replicate, Option, Some, None, slice_get}
use Rattle.std.specs.List.{All, AllZip, Any, flat_map}
use Rattle.std.proofs.lemmas.List.{length-replicate}
use Rattle.carriers.specs.declared.items.ItemOf.{ItemOf}
use Rattle.carriers.specs.Deeds.{Deed, own_deeds, RunsTo}
use Rattle.carriers.specs.Knowledge.{KnownOf}
use Rattle.carriers.specs.Ends.{IsOfOneOf}
use Rattle.tasks.specs.declared.answers.Done.{Done}
use Rattle.tasks.specs.declared.answers.Outcome.{Outcome}
use Rattle.tasks.specs.declared.runs.Numbered.{Numbered}
use Rattle.tasks.specs.Tasks.{IsOf, IsDoneOf, AreTold}
use Rattle.tasks.specs.Gathers.{IsFilled, fills, told_done, told_left}
use Rattle.tasks.specs.Offers.{IsAnswerOf}
use Rattle.tasks.proofs.Lying.{Lies, lies-left, lies-right, lies-cases, lies-all, any-lies, lies-map, map-lies, lies-flat, flat-lies}
use Rattle.tasks.proofs.Gathering.{Filled, Fits, IsToldOf, fits-none, fits-fills, fits-told, length-fills, fills-filled, all_filled}
use Rattle.tasks.proofs.Histories.{Pushes, Pops, left_was_pushed, done_was_pushed, done_or_left}

module _ {T A : Type 0} (answers : T → A → Type 0) where
  -- a result is of what was popped
  abbrev pub OfItem : ItemOf (Numbered T) → Done A → Type 0
  OfItem x d = IsDoneOf answers x.value d

  module _ (tasks : List T) (g : KnownOf (Numbered T)) (ks : List (KnownOf (Numbered T))) (pushed : List (Numbered T)) (ran : List (Done A)) (dss : List (List (Done A)))
      (pushes : Pushes g pushed) (pops : AllZip (Pops OfItem) ks dss)
      (of : All (IsOf tasks) pushed) (answered : All (IsAnswerOf answers tasks) ran)
      (each : (n : ℕ) → n < length tasks → Any (λ (x : Numbered T). x.number ≡ n) pushed ⊎ Any (λ (d : Done A). d.number ≡ n) ran)
      (history : List (Deed (Numbered T))) (shut : Bool) (left : List (ItemOf (Numbered T))) (runs : RunsTo history shut left)
      (ours : All (λ (k : KnownOf (Numbered T)). own_deeds k.number history ≡ k.mine) (g ∷ ks)) (theirs : All (IsOfOneOf (g ∷ ks)) history) where
    -- what the workers' results tell, and what is left tells
    abbrev pub tell_done : List (ℕ × Outcome T A)
    tell_done = flat_map (λ (ds : List (Done A)). map told_done ds) dss

    abbrev pub tell_left : List (ℕ × Outcome T A)
    tell_left = map told_left left

    abbrev pub tell_all : List (ℕ × Outcome T A)
    tell_all = map told_done ran ++ (tell_done ++ tell_left)

    pub of_done : (ds : List (Done A)) (d : Done A) → Lies ds dss → Lies d ds → IsToldOf answers tasks (told_done d)
    of_done ds d seat lies =
        let r = done_was_pushed OfItem g ks pushed dss pushes pops history shut left runs ours theirs ds d seat lies in
        let x = r.0 in
        let at : slice_get tasks x.value.number ≡ Some x.value.task = lies-all (IsOf tasks) x.value pushed of r.1 in
        record { task = x.value.task; at = ap (slice_get tasks) r.2.number ∙ at; tells = r.2.answer }

    pub of_left : (x : ItemOf (Numbered T)) → Lies x left → IsToldOf answers tasks (told_left x)
    of_left x lies =
        let there = left_was_pushed OfItem g ks pushed dss pushes pops history shut left runs ours theirs x lies in
        record { task = x.value.task; at = lies-all (IsOf tasks) x.value pushed of there; tells = refl }

    of_ran : (d : Done A) → Lies d ran → IsToldOf answers tasks (told_done d)
    of_ran d lies = let a = lies-all (IsAnswerOf answers tasks) d ran answered lies in record { task = a.task; at = a.at; tells = a.answer }

    -- all that is told is told of its own task
    pub told_done_of : (p : ℕ × Outcome T A) → Lies p tell_done → IsToldOf answers tasks p
    told_done_of p lies =
        let r = flat-lies (λ (ds : List (Done A)). map told_done ds) p dss lies in
        let d = map-lies told_done p r.0 r.2 in
        subst (IsToldOf answers tasks) d.2 (of_done r.0 d.0 r.1 d.1)

    pub told_left_of : (p : ℕ × Outcome T A) → Lies p tell_left → IsToldOf answers tasks p
    told_left_of p lies = let x = map-lies told_left p left lies in subst (IsToldOf answers tasks) x.2 (of_left x.0 x.1)

    told_ran_of : (p : ℕ × Outcome T A) → Lies p (map told_done ran) → IsToldOf answers tasks p
    told_ran_of p lies = let d = map-lies told_done p ran lies in subst (IsToldOf answers tasks) d.2 (of_ran d.0 d.1)

    told_all_of : (p : ℕ × Outcome T A) → Lies p tell_all → IsToldOf answers tasks p
    told_all_of p lies =
        elim (lies-cases p (map told_done ran) (tell_done ++ tell_left) lies) [
          | inl h ↦ told_ran_of p h
          | inr h ↦ elim (lies-cases p tell_done tell_left h) [ inl k ↦ told_done_of p k | inr k ↦ told_left_of p k ]
        ]

    -- of each task something is told
    there : (n : ℕ) → n < length tasks → (p : ℕ × Outcome T A) × Lies p tell_all × (p.0 ≡ n)
    there n low =
        elim (each n low) [
          | inl a ↦ (
              let v = a.1 in
              elim (done_or_left OfItem g ks pushed dss pushes pops history shut left runs ours theirs v (any-lies pushed a.0 v a.2 a.3)) [
                | inl r ↦ (
                    let d = r.2 in
                    let lies = lies-flat (λ (ds : List (Done A)). map told_done ds) (told_done d) r.0 dss r.1 (lies-map told_done d r.0 r.3) in (
                      told_done d,
                      lies-right (told_done d) (map told_done ran) (tell_done ++ tell_left)
                          (lies-left (told_done d) tell_done tell_left lies),
                      r.6.number ∙ ap (λ (y : Numbered T). y.number) r.5 ∙ a.4,
                    ))
                | inr r ↦ (
                    let x = r.0 in (
                      told_left x,
                      lies-right (told_left x) (map told_done ran) (tell_done ++ tell_left)
                          (lies-right (told_left x) tell_done tell_left (lies-map told_left x left r.2)),
                      ap (λ (y : Numbered T). y.number) r.1 ∙ a.4,
                    ))
              ])
          | inr a ↦ (
              let d = a.1 in
              (told_done d, lies-left (told_done d) (map told_done ran) (tell_done ++ tell_left) (lies-map told_done d ran (any-lies ran a.0 d a.2 a.3)), a.4))
        ]

    abbrev pub filled : List (Option (Outcome T A))
    filled = fills (replicate (length tasks) None) tell_all

    long : length filled ≡ length tasks
    long = length-fills (replicate (length tasks) None) tell_all ∙ length-replicate (length tasks) None

    -- so each slot is filled
    pub each_filled : All IsFilled filled
    each_filled =
        all_filled filled (λ n low.
        let r = there n (subst (λ m. n < m) long low) in
        let p = r.0 in
        let few : p.0 < length (replicate (length tasks) None) = subst (λ m. p.0 < m) (sym (length-replicate (length tasks) None))
        (subst (λ m. m < length tasks) (sym r.2) (subst (λ m. n < m) long low)) in
        subst (Filled filled) r.2 (fills-filled (replicate (length tasks) None) tell_all p r.1 few))

    -- and tells of its own task
    pub each_told : (os : List (Outcome T A)) → map (λ o. Some o) os ≡ filled → AreTold answers tasks os
    each_told os same = fits-told answers tasks os (subst (Fits answers tasks) (sym same) (fits-fills answers tasks (replicate (length tasks) None) tell_all (fits-none answers tasks) told_all_of))
